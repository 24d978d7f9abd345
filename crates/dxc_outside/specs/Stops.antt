-- What a gate answers that stops its caller.
use Rattle.dxc_outside.specs.declared.stopped.Stopped.{Stopped}

-- the one stop that there is: what a call answers, in `Err`, that the gate stopped
abbrev pub the_stop : Stopped
the_stop = record {}

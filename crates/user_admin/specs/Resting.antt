-- Whether a place has the users' keeper out, by what its pass has seen.
use Rattle.std.specs.Prelude.{◌≡◌, ◌≢◌, ℕ, List, Some, None, Result, Ok, Err}
use base.Stored.{Gv}
use Rattle.turnstile.specs.Passing.{Token}
use Rattle.dxc_outside.specs.declared.stopped.Stopped.{Stopped}
use Rattle.user_admin.specs.declared.op.UserMark.{UserMark}
use Rattle.user_admin.specs.declared.shared.Planned.{Planned}
use Rattle.user_admin.specs.declared.shared.Planned.TheVariants.{Taken, Denied, Waits}
use Rattle.user_admin.specs.Marks.{holder}
use Rattle.user_admin.specs.Turns.{codes}

-- by what turns left, the place hasn't got it out
abbrev pub Rests : ℕ → List UserMark → Type 0
Rests own ms = holder None ms ≢ Some own

-- so it is by what was seen
abbrev pub SawRest : ℕ → List Gv → Type 0
SawRest own seen = (ms : List UserMark) → seen ≡ codes ms → Rests own ms

-- the place of this pass hasn't got it out
abbrev pub IsAtRest : Token → Type 0
IsAtRest p = SawRest p.number p.seen

-- nor after a turn in which a change was to begin, unless the place took it out there
abbrev pub RestsUnlessTaken : {D : Type 0} → Result (Planned D) Stopped → Token → Type 0
RestsUnlessTaken (Ok (Taken k c)) p = Unit {0}
RestsUnlessTaken (Ok (Denied q)) p = IsAtRest p
RestsUnlessTaken (Ok Waits) p = IsAtRest p
RestsUnlessTaken (Err e) p = IsAtRest p

-- Where callers come in, and what is left of a job.
use Rattle.dxc_leaving.specs.Values.{AnyValue}
use Rattle.dxc_outside.specs.declared.gate.Gate.{Ghosts as GateOf}
use Rattle.dxc_outside.specs.declared.link.Link.{Ghosts as LinkOf}
use Rattle.dxc_outside.specs.declared.listener.Listener.{Ghosts as ListenerOf}
use Rattle.dxc_outside.specs.Jobs.{AnyJob}
use Rattle.std.specs.Prelude.{List}
use Rattle.craft_session.specs.declared.timestamps.Timestamps.{Ghosts as ClockOf}

-- the ghost members of a listener, of its links, and of its sessions' clock and gate
pub record Entrance (L K C G : Type 0) : Type 1 where
  pub listener : ListenerOf L K
  pub link : LinkOf K
  pub clock : ClockOf C
  pub gate : GateOf G

abbrev pub entrance : {L K C G : Type 0} → ListenerOf L K → LinkOf K → ClockOf C → GateOf G → Entrance L K C G
entrance l k c g = record { listener = l; link = k; clock = c; gate = g }

-- what was let go, and which jobs the spawner was handed
pub record Ends : Type 1 where
  pub gone : AnyValue → Type 0
  pub handed : List AnyJob → Type 0

abbrev pub ends : (AnyValue → Type 0) → (List AnyJob → Type 0) → Ends
ends gone handed = record { gone = gone; handed = handed }

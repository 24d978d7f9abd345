-- How the program ends after a session.
use Rattle.craft_session.specs.declared.end.SessionEnd.{SessionEnd}
use Rattle.craft_session.specs.declared.end.SessionEnd.TheVariants as end
use Rattle.dxc_args.specs.declared.status.Status.{Status}
use Rattle.dxc_args.specs.declared.status.Status.TheVariants.{Done, Link, Stopped, Spent}

-- after a session over the terminal, which doesn't end since nobody is logged in, nothing comes, or others ended the user's sessions
abbrev pub status_of : SessionEnd → Status
status_of end.End = Done
status_of end.ReadFault = Link
status_of end.WriteFault = Link
status_of end.Stopped = Stopped
status_of end.Spent = Spent
status_of end.Unattended = Spent
status_of end.Idle = Spent
status_of end.Cancelled = Spent

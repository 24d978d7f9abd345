-- What is noted of the callers of a place.
use Rattle.std.specs.Prelude.{◌≡◌, List, [], ◌∷◌, ◌++◌}
use Rattle.dxc_notes.specs.declared.note.Ending.{Ending}
use Rattle.dxc_notes.specs.declared.note.Ending.TheVariants as ending
use Rattle.dxc_notes.specs.declared.note.Note.{Note}
use Rattle.dxc_notes.specs.declared.note.Note.TheVariants as note
use Rattle.dxc_notes.specs.declared.notes.Notes.{Ghosts as NotesOf}
use Rattle.dxc_outside.specs.declared.gate.Gate.{Ghosts as GateOf}
use Rattle.dxc_outside.specs.declared.link.Link.{Ghosts as LinkOf}
use Rattle.dxc_outside.specs.declared.listener.Listener.{Ghosts as ListenerOf}
use Rattle.dxc_model.specs.declared.user.SessionUser.TheVariants.{Nobody}
use Rattle.craft_session.specs.declared.attending.Attending.{Attending}
use Rattle.craft_session.specs.declared.end.SessionEnd.{SessionEnd}
use Rattle.craft_session.specs.declared.end.SessionEnd.TheVariants as end
use Rattle.craft_session.specs.declared.timestamps.Timestamps.{Ghosts as ClockOf}
use Rattle.craft_session.specs.Noted.{Notes, stood}
use Rattle.craft_session.specs.Seats.{PlaceAt}
use Rattle.craft_session.specs.Timely.{telling}
use Rattle.craft_session.specs.Walks.{begun_by}
use Rattle.craft_server.specs.declared.links.LinksEnd.{LinksEnd}
use Rattle.craft_server.specs.declared.links.LinksEnd.TheVariants as links
use Rattle.craft_server.specs.Callers.{InTurn, ServedAll, ServedCaller, Standing, none_yet, one_more, standing}

-- how a session's end is noted
abbrev pub ending_of : SessionEnd → Ending
ending_of end.End = ending.HungUp
ending_of end.ReadFault = ending.ReadFault
ending_of end.WriteFault = ending.WriteFault
ending_of end.Stopped = ending.Stopped
ending_of end.Spent = ending.Spent
ending_of end.Unattended = ending.Unattended
ending_of end.Idle = ending.Idle
ending_of end.Cancelled = ending.Cancelled

-- after these, where accepts went on failing, that nobody is let in any more
abbrev pub to_the_end : List Note → LinksEnd → List Note
to_the_end notes links.End = notes
to_the_end notes links.Failed = notes ++ note.Closed ∷ []

-- the ghost members of a listener and of its links
pub record Hall (L K : Type 0) : Type 1 where
  pub listener : ListenerOf L K
  pub link : LinkOf K

abbrev pub hall : {L K : Type 0} → ListenerOf L K → LinkOf K → Hall L K
hall l k = record { listener = l; link = k }

-- those of all that a place's callers are served with, and whether its disk tells what it holds
pub record Means (L K C G N : Type 0) : Type 1 where
  pub disk_told : Type 0
  pub hall : Hall L K
  pub clock : ClockOf C
  pub gate : GateOf G
  pub notes : NotesOf N

abbrev pub means : {L K C G N : Type 0} → (disk_told : Type 0) → Hall L K → ClockOf C → GateOf G → NotesOf N → Means L K C G N
means disk_told h c g n = record { disk_told = disk_told; hall = h; clock = c; gate = g; notes = n }

-- what the serving of a place's callers is lent
pub record LentTo (L C G N : Type 0) : Type 0 where
  pub place : PlaceAt
  pub listener : L
  pub clock : C
  pub gate : G
  pub notes : N

abbrev pub lent_to : {L C G N : Type 0} → PlaceAt → L → C → G → N → LentTo L C G N
lent_to place listener clock gate notes = record { place = place; listener = listener; clock = clock; gate = gate; notes = notes }

module _ {L K C G N : Type 0} (m : Means L K C G N) where
  abbrev pub standing_in : LentTo L C G N → Standing G
  standing_in s = standing s.place (m.clock.coming s.clock) s.gate

  -- one session over a link that came, and what it noted
  pub record NotedCaller (old new : Standing G) (came : K) : Type 0 where
    pub served : ServedCaller m.disk_told m.clock m.hall.link m.gate old new came
    pub attending : Attending
    pub notes : List Note
    pub are : Notes old.place.shelf (telling m.hall.link.told m.clock.told m.clock.stamped) (stood (m.hall.link.state came) old.moments old.place.seat old.place.users (begun_by Nobody)) notes (stood (m.hall.link.state served.left) new.moments new.place.seat new.place.users attending)

  -- callers were served in their order, and they are all that a listener gave that tells the links to come
  pub record ServedIn (old new : LentTo L C G N) : Type 0 where
    pub callers : List K
    pub came : m.hall.listener.told → (m.hall.listener.state old.listener).coming ≡ callers ++ (m.hall.listener.state new.listener).coming
    pub served : InTurn NotedCaller (standing_in old) callers (standing_in new)

  -- the same of callers alone
  abbrev pub ServedBetween : (old new : LentTo L C G N) → Type 0
  ServedBetween old new = ServedAll m.disk_told m.clock m.hall.link m.gate m.hall.listener.told (m.hall.listener.state old.listener).coming (m.hall.listener.state new.listener).coming (standing_in old) (standing_in new)

  -- of each of them what its session noted, and how it ended
  abbrev pub notes_in : (old : Standing G) (came : List K) (new : Standing G) → InTurn NotedCaller old came new → List Note
  notes_in _ _ _ (none_yet s) = []
  notes_in _ _ _ (one_more s t u ks k past step) = (notes_in s ks t past ++ step.notes) ++ note.Gone (ending_of step.served.end) ∷ []

  abbrev pub notes_of : (old new : LentTo L C G N) → ServedIn old new → List Note
  notes_of old new all = notes_in (standing_in old) all.callers (standing_in new) all.served

  -- callers were served, and that was noted of them
  pub record NotedSoFar (old new : LentTo L C G N) : Type 0 where
    pub all : ServedIn old new
    pub noted : m.notes.noted old.notes new.notes (notes_of old new all)

  -- so it was until the end
  pub record NotedAll (old new : LentTo L C G N) (end : LinksEnd) : Type 0 where
    pub all : ServedIn old new
    pub noted : m.notes.noted old.notes new.notes (to_the_end (notes_of old new all) end)

-- What a trial did: one session of the user of a new element, alone on new journals in memory.
use Rattle.std.specs.Prelude.{◌≡◌, ◌⊎◌, ℕ, List, [], Result, MatchResult}
use Rattle.std.specs.Arc.{arc_value}
use Rattle.dxc_disk.specs.Disks.{DiskState}
use Rattle.dxc_disk.specs.MemView.{mem_state}
use Rattle.dxc_model.specs.Equipment.{empty_table}
use Rattle.dxc_num.specs.Dimensions.{Dimensions}
use Rattle.dxc_outside.specs.declared.clock.Moment.{Moment}
use Rattle.dxc_outside.specs.Links.{LinkState}
use Rattle.fabric_words.specs.Seats.{FabricId}
use Rattle.shelf_file.specs.Contents.{Contents}
use Rattle.shelf_file.specs.Trials.{IsTrialShelf, trial_user}
use Rattle.shelf_file.specs.Users.{logged_in}
use Rattle.user_admin.specs.Histories.{Opening as UsersOpening}
use Rattle.user_admin.specs.Openings.{IsOpening as IsUsersOpening}
use Rattle.xc_core.specs.Openings.{IsOpening}
use Rattle.xc_core.specs.States.{Opening}
use Rattle.dxc_args.specs.declared.status.Status.{Status}
use Rattle.dxc_element.specs.declared.opening.Element.{Element}
use Rattle.dxc_element.specs.Loads.{IsNewDisk, IsNewElement, IsNewUsersDisk, NotLoaded}
use Rattle.craft_server.specs.Scripts.{RanSession}

-- the disks of a trial, whether they, its terminal and its clock tell what they hold, and where reads of the terminal began
pub record TrialTold : Type 1 where
  pub D : Type 0
  pub disk : Type 0
  pub state : D → DiskState
  pub terminal : Type 0
  pub clock : Type 0
  pub begun : LinkState → Type 0

abbrev pub trial_told : {D : Type 0} → (disk : Type 0) → (D → DiskState) → (terminal clock : Type 0) → (LinkState → Type 0) → TrialTold
trial_told {D} disk state terminal clock begun = record { D = D; disk = disk; state = state; terminal = terminal; clock = clock; begun = begun }

-- terminal and clock of a trial at a moment, and how often its gate has stopped
pub record TrialLent : Type 0 where
  pub terminal : LinkState
  pub clock : List Moment
  pub stops : ℕ

abbrev pub trial_lent : LinkState → List Moment → ℕ → TrialLent
trial_lent terminal clock stops = record { terminal = terminal; clock = clock; stops = stops }

-- a new element of that shape, on disks of any kind
pub record IsTrialElement (told : Type 0) {D : Type 0} (state : D → DiskState) (shape : Dimensions) (x : Element D D) : Type 0 where
  pub shelf : Contents
  pub is_shelf : IsTrialShelf shape shelf
  pub is_new : IsNewElement told told state state shelf x

-- of the shape that its shelf has
abbrev pub shape_in : {D : Type 0} → Element D D → Dimensions
shape_in x = (arc_value x.controller.shelf).shape

abbrev pub IsTried : {D : Type 0} (told : Type 0) (state : D → DiskState) → Element D D → Type 0
IsTried told state x = IsTrialElement told state (shape_in x) x

-- One session was served on a new element of the shape, from the empty table on. Its user is the element's one, of class S, who was logged in where it
-- began.
pub record RanTrial (told : TrialTold) (shape : Dimensions) (before after : TrialLent) (status : Status) : Type 0 where
  pub shelf : Contents
  pub is_shelf : IsTrialShelf shape shelf
  pub fabric : FabricId
  pub disk : told.D
  pub fresh : IsNewDisk (told.state disk)
  pub opening : Opening
  pub opened : IsOpening told.disk [] shelf fabric opening
  pub empty : told.disk → opening.first.fold.table ≡ empty_table shape shelf.equipped
  pub users_disk : told.D
  pub users_fresh : IsNewUsersDisk (told.state users_disk)
  pub users_opening : UsersOpening
  pub users_opened : IsUsersOpening told.disk [] shelf users_opening
  pub session : RanSession told.disk told.terminal told.clock told.begun (told.state disk) (told.state users_disk) (logged_in trial_user) shelf opening users_opening before.terminal after.terminal before.clock after.clock before.stops after.stops status

-- nothing was read or written, since memory was wanting or the gate stopped
pub record NoTrial (before after : TrialLent) (status : Status) : Type 0 where
  pub terminal : after.terminal ≡ before.terminal
  pub clock : after.clock ≡ before.clock
  pub why : NotLoaded before.stops after.stops status

-- such a session was served, or nothing was done
abbrev pub IsTrialOn : TrialTold → Dimensions → (before after : TrialLent) → Status → Type 0
IsTrialOn told shape before after status = NoTrial before after status ⊎ RanTrial told shape before after status

-- it ended with this status, and nothing was done
abbrev pub IsUntried : (before after : TrialLent) → (status cause : Status) → Type 0
IsUntried before after status cause = (after ≡ before) × (status ≡ cause)

-- by an element, or why there is none
abbrev pub TriesOn : (told : TrialTold) → Result (Element told.D told.D) Status → (before after : TrialLent) → Status → Type 0
TriesOn told opened before after status = MatchResult opened (λ x. IsTrialOn told (shape_in x) before after status) (IsUntried before after status)

-- on journals in memory
abbrev pub memory_told : (terminal clock : Type 0) → (LinkState → Type 0) → TrialTold
memory_told terminal clock begun = trial_told (Unit {0}) mem_state terminal clock begun

-- When the users that places share stand for what their turns left, and what is done with them within a turn.
use Rattle.std.specs.Prelude.{◌≡◌, ℕ, Option, Some, None, Result, Ok, Err, List, [], ◌∷◌, ◌++◌, Box}
use Rattle.std.specs.declared.alloc.Global.{Global}
use Rattle.std.specs.declared.snapshot.Snapshot.{Snapshot}
use Rattle.dxc_disk.specs.Disks.{DiskState}
use Rattle.dxc_disk.specs.declared.disk.Disk.{Ghosts as DiskOf}
use Rattle.dxc_outside.specs.declared.gate.GatePlace.{GatePlace}
use Rattle.dxc_outside.specs.declared.gate.GatePlace.TheVariants as place
use Rattle.dxc_outside.specs.declared.stopped.Stopped.{Stopped}
use Rattle.user_admin.specs.declared.op.UserChange.{UserChange}
use Rattle.user_admin.specs.declared.op.UserEntry.{UserEntry}
use Rattle.user_admin.specs.declared.op.UserMark.{UserMark}
use Rattle.user_admin.specs.declared.op.UserMark.TheVariants.{Entered, Took}
use Rattle.tl1_users.specs.declared.op.UserOp.{UserOp}
use Rattle.user_admin.specs.declared.op.UserOutcome.{UserOutcome}
use Rattle.user_admin.specs.declared.shared.Planned.{Planned}
use Rattle.user_admin.specs.declared.shared.Planned.TheVariants.{Taken, Denied, Waits}
use Rattle.user_admin.specs.declared.shared.SharedUsers.{SharedUsers}
use Rattle.user_admin.specs.declared.state.UserState.{UserState}
use Rattle.user_admin.specs.declared.turns.UserTook.{UserTook}
use Rattle.user_admin.specs.Verdicts.{Grants}
use Rattle.user_admin.specs.Histories.{IsLegal, Opening, users_after}
use Rattle.user_admin.specs.Openings.{asked_at_turn, asked_before}
use Rattle.user_admin.specs.States.{IsPaid, StandsFor, entry, opening_of, refused}
use Rattle.user_admin.specs.Occupants.{occupants_after}
use Rattle.user_admin.specs.Marks.{ArePassing, KeepsTurns, entered, entries_of, holder, holder_by}

-- the opening of the state as it was when nobody had taken a turn
abbrev pub opening_at : {D : Type 0} → (D → DiskState) → SharedUsers D → Opening
opening_at state s = opening_of state s.first.value

-- the keeper in a box, as a turn finds it or hands it out
abbrev pub Boxed : Type 0 → Type 0
Boxed D = Box (UserState D) Global

-- the keeper that was home before a turn in which a change was to begin
abbrev pub keeper_left : {D : Type 0} → Option (Boxed D) → Result (Planned D) Stopped → Option (Boxed D)
keeper_left home (Ok (Taken k c)) = Some k
keeper_left home (Ok (Denied q)) = home
keeper_left home (Ok Waits) = home
keeper_left home (Err e) = home

-- where a turn asked the gate in which a change was to begin
abbrev pub asked_by : {D : Type 0} → Result (Planned D) Stopped → List GatePlace
asked_by (Ok (Taken k c)) = place.Journal ∷ []
asked_by (Ok (Denied q)) = asked_before q
asked_by (Ok Waits) = []
asked_by (Err e) = place.Journal ∷ []

-- and where a change asked it, unless another place had the keeper
abbrev pub asked_in : Result (Option UserTook) Stopped → List GatePlace
asked_in (Ok (Some took)) = asked_at_turn (Ok took)
asked_in (Ok None) = []
asked_in (Err e) = asked_at_turn (Err e)

module _ {D : Type 0} (told : Type 0) (state : D → DiskState) where
  -- at home it stands for the history; or a place has it, and nothing is said of it
  abbrev pub KeeperIs : Opening → List UserMark → Option (Boxed D) → Type 0
  KeeperIs o ms (Some k) = (holder None ms ≡ None) × StandsFor told state o k.value (entries_of ms)
  KeeperIs o ms None = (n : ℕ) × (holder None ms ≡ Some n)

  pub record SharedFor (o : Opening) (s : SharedUsers D) (ms : List UserMark) : Type 0 where
    pub list : s.list ≡ users_after o (entries_of ms)
    pub sid : s.sid ≡ o.shelf.sid
    pub legal : IsLegal o (entries_of ms)
    pub paid : IsPaid o (entries_of ms)
    pub turns : KeepsTurns None ms
    pub keeper : KeeperIs o ms s.keeper
    pub occupants : s.occupants ≡ occupants_after (entries_of ms)

  -- from its own opening on
  abbrev pub SharedStands : SharedUsers D → List UserMark → Type 0
  SharedStands s ms = SharedFor (opening_at state s) s ms

  -- The place has the keeper out for an operation, which is granted this change. Nothing was called since it was home.
  pub record HasKeeper (o : Opening) (own : ℕ) (op : UserOp) (ms : List UserMark) (k : UserState D) (c : UserChange) : Type 0 where
    pub held : holder None ms ≡ Some own
    pub granted : Grants k.sid op k.lists.value.users c
    pub stands : StandsFor told state o k (entries_of ms)

  -- It has to come home by this outcome: whatever others entered meanwhile, it stands for that and for the place's entry.
  pub record HasKept (o : Opening) (own : ℕ) (op : UserOp) (ms : List UserMark) (k : UserState D) (out : UserOutcome) : Type 0 where
    pub held : holder None ms ≡ Some own
    pub homing : (who : Option ℕ) → holder_by who out ≡ None
    pub stands : (es : List UserEntry) → ArePassing es → IsLegal o (entries_of ms ++ es) → StandsFor told state o k ((entries_of ms ++ es) ++ entry own op out ∷ [])

  -- the state of a turn in which a change was to begin
  abbrev pub PlannedIs : Opening → ℕ → UserOp → List UserMark → SharedUsers D → Result (Planned D) Stopped → Type 0
  PlannedIs o own op ms s (Ok (Taken k c)) = SharedFor o s (ms ++ Took own ∷ []) × HasKeeper o own op (ms ++ Took own ∷ []) k.value c
  PlannedIs o own op ms s (Ok (Denied q)) = SharedFor o s (ms ++ entered own op (refused q) ∷ [])
  PlannedIs o own op ms s (Ok Waits) = SharedFor o s ms
  PlannedIs o own op ms s (Err e) = SharedFor o s ms

-- What is done within a turn, whatever history and whatever place that is.
abbrev pub PlansFor : {D : Type 0} → DiskOf D → UserOp → SharedUsers D → SharedUsers D → Result (Planned D) Stopped → Type 0
PlansFor g op s t planned = (o : Opening) (own : ℕ) (ms : List UserMark) → SharedFor g.told g.state o s ms → PlannedIs g.told g.state o own op ms t planned

abbrev pub MayBring : {D : Type 0} → DiskOf D → UserOutcome → SharedUsers D → UserState D → Type 0
MayBring g out s k = (o : Opening) × (own : ℕ) × (op : UserOp) × (ms : List UserMark) × SharedFor g.told g.state o s ms × HasKept g.told g.state o own op ms k out

abbrev pub BringsHome : {D : Type 0} → DiskOf D → UserOutcome → SharedUsers D → UserState D → SharedUsers D → Type 0
BringsHome g out s k t = (o : Opening) (own : ℕ) (op : Snapshot UserOp) (ms : List UserMark) → SharedFor g.told g.state o s ms → HasKept g.told g.state o own op.value ms k out → SharedFor g.told g.state o t (ms ++ Entered own op out ∷ [])

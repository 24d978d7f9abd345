-- What a pass has seen of a turnstile's history, and what holds after it.
use Rattle.std.specs.Prelude.{◌≡◌, ◌⊎◌, ℕ, List, [], ◌∷◌, ◌++◌, Option, Some, None, Result}
use Rattle.std.specs.List.{AllByRecursion}
use Rattle.turnstile.specs.Passing.{TurnstileView, Token}
use Rattle.turnstile.specs.Places.{AfterBy, HasSeenBy, UponBy, ViewOf, view_of}
use Rattle.dxc_num.specs.Dimensions.{Dimensions}
use Rattle.dxc_disk.specs.declared.disk.Disk.{Ghosts as DiskOf}
use Rattle.dxc_outside.specs.declared.stopped.Stopped.{Stopped}
use Rattle.dxc_model.specs.declared.cause.Cause.{Cause}
use Rattle.dxc_model.specs.declared.conn.Conn.{Conn}
use Rattle.dxc_model.specs.declared.entry.Entry.{Entry}
use Rattle.dxc_model.specs.declared.entry.Outcome.TheVariants.{Cut, Failed}
use Rattle.dxc_model.specs.declared.op.Change.{Change}
use Rattle.dxc_model.specs.declared.op.Op.{Op}
use Rattle.dxc_model.specs.declared.op.Op.TheVariants.{Restart}
use Rattle.dxc_model.specs.declared.op.Selection.{Selection}
use Rattle.dxc_model.specs.Operations.{IsApt, op_of}
use Rattle.dxc_model.specs.Tables.{Board, IsOfShape, rows}
use Rattle.roll_engine.specs.Rollings.{RollingAt}
use Rattle.xc_core.specs.declared.provisioner.Driver.{Driver}
use Rattle.xc_core.specs.declared.provisioner.Provisioner.{Provisioner}
use Rattle.xc_core.specs.declared.restarts.Held.{Held}
use Rattle.xc_core.specs.declared.resuming.Reread.{Reread}
use Rattle.xc_core.specs.declared.state.State.{State}
use Rattle.xc_core.specs.declared.turns.Inventory.{Inventory}
use Rattle.xc_core.specs.declared.turns.Looked.{Looked}
use Rattle.xc_core.specs.declared.turns.Took.{Took}
use Rattle.xc_core.specs.declared.turns.Took.TheVariants as took
use Rattle.xc_core.specs.Seeing.{HasFailed, HasHeld, HasPlan, HasRestart, HasStopped, HasTaken, Rests, Saw, TurnedBack, entry}
use Rattle.xc_core.specs.Begins.{Plan, plan_of}
use Rattle.xc_core.specs.States.{Opening, StandsFor, opening_of}
use Rattle.xc_core.specs.Turns.{CutIs, DoneIs, FailedIs, HeldIs, HoldIs, InventoryIs, LookIs, MarkIs, RereadIs, RestartCutIs, RestartedIs, RowsAre, TakenIs, TookIs}

-- where the history began, and whose pass it is
abbrev pub View : Type 0
View = ViewOf Opening

-- of this pass of the turnstile
abbrev pub view : {D : Type 0} → DiskOf D → TurnstileView (State D) → Token → View
view g = view_of (opening_of g.state) Saw

-- the shape of the turnstile's table
abbrev pub shape_in : {D : Type 0} → DiskOf D → TurnstileView (State D) → Dimensions
shape_in g t = (opening_of g.state t.first).first.fold.table.shape

-- what the pass has seen is a history
abbrev pub HasSeen : {D : Type 0} → DiskOf D → TurnstileView (State D) → Token → Type 0
HasSeen g = HasSeenBy (opening_of g.state) Saw

-- after a history that was seen this holds
abbrev pub Upon : {D : Type 0} → DiskOf D → TurnstileView (State D) → Token → (View → List Entry → Type 0) → Type 0
Upon g = UponBy (opening_of g.state) Saw

-- after each history that was seen this holds
abbrev pub After : {D : Type 0} → DiskOf D → TurnstileView (State D) → Token → (View → List Entry → Type 0) → Type 0
After g = AfterBy (opening_of g.state) Saw

-- the place hasn't got the Provisioner out
abbrev pub AtRest : View → List Entry → Type 0
AtRest v h = Rests v.own h

-- it has it out for a change, or for a restart
abbrev pub OutFor : {D : Type 0} → DiskOf D → Op → Driver D → View → List Entry → Type 0
OutFor g op d v h = HasTaken g.told g.state v.opening v.own op h d.p d.rolling

-- the change is planned, and not journalled yet; or a restart is to settle and read the journal
abbrev pub PlannedFor : {D : Type 0} → DiskOf D → Op → Driver D → List ℕ → View → List Entry → Type 0
PlannedFor g op d bytes v h = HasPlan g.told g.state v.opening v.own h d.p (plan_of op d.rolling bytes)

abbrev pub HeldFor : {D : Type 0} → DiskOf D → Op → Driver D → View → List Entry → Type 0
HeldFor g asked d v h = HasHeld g.told g.state v.opening v.own asked h d.p

abbrev pub OutToRestart : {D : Type 0} → DiskOf D → Op → Driver D → View → List Entry → Type 0
OutToRestart g asked d v h = HasRestart g.told g.state v.opening v.own asked h d.p d.rolling

-- it has to come home by this fault, and the entry is of this operation
pub record Failing (D : Type 0) : Type 0 where
  pub op : Op
  pub cause : Cause
  pub p : Provisioner D

abbrev pub failing : {D : Type 0} → Op → Cause → Driver D → Failing D
failing op cause d = record { op = op; cause = cause; p = d.p }

abbrev pub FailedFor : {D : Type 0} → DiskOf D → Failing D → View → List Entry → Type 0
FailedFor g f v h = (taken : Op) × HasFailed g.told g.state v.opening v.own taken f.op f.cause h f.p

-- or by a stop: of a change, before its record was in the journal or when its work was under way
abbrev pub CutFor : {D : Type 0} → DiskOf D → Op → Driver D → View → List Entry → Type 0
CutFor g op d v h = ((bytes : List ℕ) × HasPlan g.told g.state v.opening v.own h d.p (plan_of op d.rolling bytes)) ⊎ HasTaken g.told g.state v.opening v.own op h d.p d.rolling

-- of a restart, before the journal was read or when the rest of a work was under way
abbrev pub CutToRestart : {D : Type 0} → DiskOf D → Op → Driver D → View → List Entry → Type 0
CutToRestart g asked d v h = HasStopped g.told g.state v.opening v.own asked h d.p ⊎ HasRestart g.told g.state v.opening v.own asked h d.p d.rolling

-- what a turn comes to, by what the pass has seen then
abbrev pub Takes : {D : Type 0} → DiskOf D → Op → (next : Token) → Took D → View → List Entry → Type 0
Takes g op next took v h = TookIs g.told g.state v.opening v.own h op next.seen took

-- one in which the table alone was asked
abbrev pub Denies : {D : Type 0} → DiskOf D → Op → (next : Token) → Option Cause → View → List Entry → Type 0
Denies g op next (Some q) v h = Takes g op next (took.Denied q) v h
Denies g op next None v h = TurnedBack v.opening v.own h next.seen

abbrev pub Holds : {D : Type 0} → DiskOf D → Op → (next : Token) → Held D → View → List Entry → Type 0
Holds g asked next answer v h = HoldIs g.told g.state v.opening v.own h asked next.seen answer

abbrev pub Fails : {D : Type 0} → DiskOf D → Failing D → (next : Token) → View → List Entry → Type 0
Fails g f next v h = FailedIs g.told g.state v.opening v.own h f.op f.cause f.p next.seen

abbrev pub Brings : Op → (next : Token) → View → List Entry → Type 0
Brings op next v h = DoneIs v.opening v.own h op next.seen

abbrev pub Cuts : Op → (next : Token) → View → List Entry → Type 0
Cuts op next v h = CutIs v.opening v.own h op next.seen

abbrev pub EndsRestart : Op → (next : Token) → View → List Entry → Type 0
EndsRestart asked next v h = RestartedIs v.opening v.own h asked next.seen

abbrev pub CutsRestart : Op → (next : Token) → View → List Entry → Type 0
CutsRestart asked next v h = RestartCutIs v.opening v.own h asked next.seen

abbrev pub ShowsRows : Selection → (next : Token) → List Conn → View → List Entry → Type 0
ShowsRows which next given v h = RowsAre v.opening v.own h which next.seen given

abbrev pub Looks : ℕ → (next : Token) → Looked → List Change → View → List Entry → Type 0
Looks cursor next looked given v h = LookIs v.opening v.own h cursor next.seen looked given

abbrev pub Marks : (next : Token) → ℕ → View → List Entry → Type 0
Marks next n v h = MarkIs v.opening v.own h next.seen n

abbrev pub ShowsInventory : (next : Token) → Inventory → View → List Entry → Type 0
ShowsInventory next given v h = InventoryIs v.opening v.own h next.seen given

-- these are rows of a table of that shape
abbrev pub AreRowsOf : Dimensions → Selection → List Conn → Type 0
AreRowsOf d which given = (t : Board) × IsOfShape t × (t.shape ≡ d) × (given ≡ rows t which)

-- the operations of these changes are apt in that shape
abbrev pub AreApt : Dimensions → List Change → Type 0
AreApt d cs = AllByRecursion (λ c. IsApt d (op_of c)) cs

-- What is done with the state within a turn, or with the Provisioner between two of them, whatever history and whatever place that is.
-- A turn takes the Provisioner out for a change, or for a restart; or it leaves the state as it was.
abbrev pub TakesOut : {D : Type 0} → DiskOf D → Op → State D → State D → Took D → Type 0
TakesOut g op s t took = (o : Opening) (own : ℕ) (h : List Entry) → StandsFor g.told g.state o s h → TakenIs g.told g.state o own h op t took

-- or it asks the table alone, and leaves the state as it is
abbrev pub DeniesIn : {D : Type 0} → DiskOf D → Op → State D → Option Cause → Type 0
DeniesIn g op s (Some q) = (o : Opening) (own : ℕ) (h : List Entry) → StandsFor g.told g.state o s h → Rests own h → TakenIs g.told g.state o own h op s (took.Denied q)
DeniesIn g op s None = Unit {0}

abbrev pub HoldsOut : {D : Type 0} → DiskOf D → Op → State D → State D → Held D → Type 0
HoldsOut g asked s t held = (o : Opening) (own : ℕ) (h : List Entry) → StandsFor g.told g.state o s h → HeldIs g.told g.state o own h asked t held

-- one that a place has out for a restart is settled and reads its journal
abbrev pub IsHeld : {D : Type 0} → DiskOf D → Op → Provisioner D → Type 0
IsHeld g asked p = (o : Opening) × (own : ℕ) × (h : List Entry) × HasHeld g.told g.state o own asked h p

abbrev pub Rereads : {D : Type 0} → DiskOf D → Op → Provisioner D → Provisioner D → Result Reread Stopped → Type 0
Rereads g asked p q answer = (o : Opening) (own : ℕ) (h : List Entry) → HasHeld g.told g.state o own asked h p → RereadIs g.told g.state o own asked h q answer

-- it comes home by a fault of its journal
abbrev pub FailsHome : {D : Type 0} → DiskOf D → State D → Driver D → State D → Type 0
FailsHome g s d t = (o : Opening) (own : ℕ) (h : List Entry) (taken op : Op) (cause : Cause) → StandsFor g.told g.state o s h → HasFailed g.told g.state o own taken op cause h d.p
    → StandsFor g.told g.state o t (h ++ entry own op (Failed cause) ∷ [])

-- by a stop: of a change that isn't journalled, or whose work was under way
abbrev pub CutsPlanned : {D : Type 0} → DiskOf D → State D → Driver D → State D → Type 0
CutsPlanned g s d t = (o : Opening) (own : ℕ) (h : List Entry) (plan : Plan) → StandsFor g.told g.state o s h → HasPlan g.told g.state o own h d.p plan → StandsFor g.told g.state o t (h ++ entry own plan.op Cut ∷ [])

abbrev pub CutsWork : {D : Type 0} → DiskOf D → State D → Driver D → State D → Type 0
CutsWork g s d t = (o : Opening) (own : ℕ) (h : List Entry) (op : Op) (r : RollingAt) → StandsFor g.told g.state o s h → HasTaken g.told g.state o own op h d.p r → StandsFor g.told g.state o t (h ++ entry own op Cut ∷ [])

-- of a restart before its journal was read, or when the rest of a work was under way
abbrev pub CutsUnread : {D : Type 0} → DiskOf D → State D → Driver D → State D → Type 0
CutsUnread g s d t = (o : Opening) (own : ℕ) (h : List Entry) (asked : Op) → StandsFor g.told g.state o s h → HasStopped g.told g.state o own asked h d.p → StandsFor g.told g.state o t (h ++ entry own Restart Cut ∷ [])

abbrev pub CutsRest : {D : Type 0} → DiskOf D → State D → Driver D → State D → Type 0
CutsRest g s d t = (o : Opening) (own : ℕ) (h : List Entry) (asked : Op) (r : RollingAt) → StandsFor g.told g.state o s h → HasRestart g.told g.state o own asked h d.p r → StandsFor g.told g.state o t (h ++ entry own Restart Cut ∷ [])

-- A planned work that a rolling begins.
use Rattle.std.proofs.Common.{◌≡◌, ◌<◌, ℕ, Bool, true, false, List, ◌∷◌, [], Option, Some, None, MatchOption, sym, subst}
use Rattle.std.specs.Bool.{OnTrue, OnFalse}
use Rattle.dxc_num.specs.declared.port.Leg.{Leg}
use Rattle.dxc_num.specs.declared.port.Middle.{Middle}
use Rattle.dxc_model.specs.declared.op.Change.{Change}
use Rattle.dxc_model.specs.Tables.{Board}
use Rattle.dxc_model.specs.Verdicts.{MayTake}
use Rattle.roll_plan.specs.declared.op.LegOp.{LegOp}
use Rattle.roll_plan.specs.declared.op.Chain.TheVariants.{Direct}
use Rattle.roll_plan.specs.Works.{IsDirectJoin}
use Rattle.paull_matrix.specs.Colourings.{Colouring, IsFreeFor, IsProperColouring}
use Rattle.paull_matrix.specs.Middles.{IsLowest}
use Rattle.paull_chain.specs.Choices.{IsJoinable, Plans}
use Rattle.paull_chain.proofs.Planning.{joins_direct}
use Rattle.roll_engine.specs.Rollings.{RollingAt}
use Rattle.roll_engine.specs.UnderWay.{unmade}
use Rattle.xc_recovery.specs.declared.leg_task.LegTask.{LegTask}
use Rattle.xc_recovery.specs.LegTasks.{tasks}
use Rattle.xc_recovery.specs.ChangeWorks.{Begins, ChangesPlanned, DoesPlanned, IsChangeWork, choices_in}
use Rattle.xc_recovery.specs.Placings.{IsPlaced}
use Rattle.xc_recovery.proofs.Placing.{change_leaves}
use Rattle.xc_recovery.proofs.Shifting.{none_planned, one_planned}
use Rattle.xc_recovery.proofs.Spelled.{changes_made}

pub begun_unmade : (P : LegOp → Type 0) (r : RollingAt) (b : Bool) → OnTrue b (Begins P r) → OnTrue b (r ≡ unmade r.work)
begun_unmade P r true begun = begun.3
begun_unmade P r false begun = tt

-- the join at the lowest middle that is free for the leg is its planned one
pub plans_direct : (c : Colouring) (l : Leg) → IsProperColouring c → IsJoinable c l → (r : Option Middle) → MatchOption r ((k : ℕ) → k < c.shape.slots → IsFreeFor c l k → ⊥) (λ m. IsLowest (IsFreeFor c l) c.shape.slots m.0)
    → MatchOption r ((k : ℕ) → k < c.shape.slots → IsFreeFor c l k → ⊥) (λ m. (op : LegOp) → IsDirectJoin l m op → Plans c l op)
plans_direct c l proper joinable None low = low
plans_direct c l proper joinable (Some m) low = λ op is. (record { middle = m; chain = Direct }, low, joins_direct c l m op proper joinable.0 joinable.1 joinable.2 low.0 low.1 is)

-- a work of a change is valid
pub begun_valid : (t : Board) (c : Colouring) (change : Change) (os : List LegOp) (b : Bool) → IsPlaced t c → MayTake t change → OnTrue b (ChangesPlanned t c change os) → OnTrue b (IsChangeWork t c change os)
begun_valid t c change os true placed granted planned = change_leaves t c change (choices_in os) os placed granted (changes_made t c change os planned)
begun_valid t c change os false placed granted planned = tt

-- what begins for the only leg of a change begins its work
module _ (t : Board) (c : Colouring) (change : Change) (k : LegTask) (only : tasks t change ≡ k ∷ []) (out : Option Middle) (same : out ≡ t.out) where
  pub begun_planned : (r : RollingAt) (b : Bool) → OnTrue b (Begins (DoesPlanned out c k) r) → OnTrue b (ChangesPlanned t c change r.work.ops.items)
  begun_planned r true begun = subst (ChangesPlanned t c change) (sym begun.2) (one_planned t c change k begun.0 only (subst (λ (o : Option Middle). DoesPlanned o c k begun.0) same begun.1))
  begun_planned r false begun = tt

  pub begun_none : (b : Bool) → OnFalse b ((o : LegOp) → ¬ DoesPlanned out c k o) → OnFalse b ((ops : List LegOp) → ¬ ChangesPlanned t c change ops)
  begun_none true none = tt
  begun_none false none = none_planned t c change k only (subst (λ (x : Option Middle). (o : LegOp) → ¬ DoesPlanned x c k o) same none)

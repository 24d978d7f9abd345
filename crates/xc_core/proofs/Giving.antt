-- What legs and connections give that were read.
use Rattle.std.proofs.Common.{◌≡◌, ℕ, ◌+◌, List, Option, Some, None, sym, refl, ap, ◌∙◌, subst}
use Rattle.dxc_model.specs.declared.op.Op.{Op}
use Rattle.dxc_model.specs.declared.op.Change.{Change}
use Rattle.dxc_model.specs.Tables.{Board}
use Rattle.dxc_model.specs.Verdicts.{Grants, effect}
use Rattle.paull_matrix.specs.Colourings.{Colouring}
use Rattle.paull_chain.specs.Works.{after_ops}
use Rattle.roll_plan.specs.declared.op.LegOp.{LegOp}
use Rattle.roll_plan.specs.Works.{ops_writes, switches_in}
use Rattle.xc_recovery.proofs.Once.{change_plans_once}
use Rattle.xc_core.specs.declared.replayed.Given.{Given}
use Rattle.xc_core.specs.declared.replayed.Replayed.{Replayed}
use Rattle.xc_core.specs.Beside.{IsBeside, MoreIs}
use Rattle.xc_core.specs.Journals.{IsRecordOf}
use Rattle.xc_core.specs.Provisioners.{MayBeHeld}
use Rattle.xc_core.specs.Reckonings.{HasWork, IsPlannedFor, IsTable, Past, changed}
use Rattle.xc_core.specs.Recoveries.{GivenIs}
use Rattle.xc_core.specs.Restarts.{TakesUp}
use Rattle.xc_core.proofs.Granting.{granted_once}

same_op : {x y : Op} → Some x ≡ Some y → x ≡ y
same_op e = cc

module _ (b : Past) (doubt : Option Op) (op : Op) (c : Change) (t : Board) (m : Colouring) (asked : doubt ≡ Some op) (granted : Grants b.fold.table op c) (other : IsTable b t m → ⊥) where
  neither : ((ops : List LegOp) → IsPlannedFor b c ops → t ≡ effect b.fold.table c → m ≡ after_ops ops b.fold.colours → ⊥) → (l : Option Change) (g : Past) → TakesUp b doubt l g → IsTable g t m → ⊥
  neither none None g taken is = other (subst (λ (x : Past). IsTable x t m) taken is)
  neither none (Some d) g (x, ask, grant, met, same) is =
      let change : d ≡ c = granted_once b.fold.table op c d granted (subst (λ (y : Op). Grants b.fold.table y d) (same_op (sym ask ∙ asked)) grant) in
      none met.ops (subst (λ (y : Change). IsPlannedFor b y met.ops) change met.planned)
      (is.0 ∙ (ap (λ (f : Past). f.fold.table) same ∙ ap (effect b.fold.table) change)) (is.1 ∙ ap (λ (f : Past). f.fold.colours) same)

  pub given_more : (x : Option Given) → MayBeHeld b doubt → MoreIs b c t m x → GivenIs b doubt t m x
  given_more None held more = neither more
  given_more (Some x) held (lacking, (ops, planned, table, matrix, number)) =
      let record_is : IsRecordOf b op _ = (held op asked).1 in
      let change : record_is.change ≡ c = granted_once b.fold.table op c record_is.change granted record_is.granted in
      let met : HasWork b c None = subst (λ (y : Change). HasWork b y None) change record_is.within in
      let same : ops ≡ met.ops = change_plans_once b.fold.table b.fold.colours c ops met.ops planned met.planned in
      let g : Past = changed b c met.ops in (
        g,
        subst (λ (l : Option Change). TakesUp b doubt l g) (sym lacking) (op, asked, granted, met, refl),
        (table, matrix ∙ ap (λ (os : List LegOp). after_ops os b.fold.colours) same),
        number ∙ ap (λ (os : List LegOp). b.fold.switches + switches_in (ops_writes os)) same,
      )

-- the same beside an operation that is in doubt
pub beside_op : (b : Past) (replayed : Replayed) (m : Colouring) (t : Board) (doubt : Option Op) (spent : ℕ) (op : Op) → doubt ≡ Some op → IsBeside b replayed m t doubt spent → IsBeside b replayed m t (Some op) spent
beside_op b replayed m t doubt spent op asked h = subst (λ (d : Option Op). IsBeside b replayed m t d spent) asked h

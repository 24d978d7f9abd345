use Rattle.std.proofs.Common.{◌↔◌, IsTrue, subst, sym, Bool}
use Rattle.dxc_model.specs.declared.op.Change.TheVariants.{Enter}
use Rattle.dxc_model.specs.Verdicts.{MayTake}
use Rattle.xc_recovery.proofs.Once.{entry_granted}
use Rattle.xc_recovery.proofs.record.is_entry_granted.Goals as goal

pub returns : goal.returns
returns c =
    let t = c.args.table.now in
    subst (λ (b : Bool). IsTrue b ↔ MayTake t (Enter c.args.conn)) (sym c.is_ok.ensures.value) (entry_granted t c.args.conn c.verdict.result c.verdict.ensures.verdict)

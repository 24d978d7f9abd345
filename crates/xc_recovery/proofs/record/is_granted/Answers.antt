use Rattle.std.proofs.Common.{subst}
use Rattle.dxc_model.specs.declared.op.Op.{Op}
use Rattle.dxc_model.specs.Operations.{op_of as named_op}
use Rattle.dxc_model.specs.Verdicts.{Grants}
use Rattle.xc_recovery.proofs.Once.{granted_once}
use Rattle.xc_recovery.proofs.record.is_granted.Goals as goal

pub returns-in-Ok : goal.returns-in-Ok
returns-in-Ok c =
    let t = c.args.table.now in
    let change = c.args.change.now in
    let granted : Grants t (named_op change) c.in-Ok.granted = subst (λ (o : Op). Grants t o c.in-Ok.granted) c.op_of.ensures c.in-Ok.ensures.verdict in (
      (λ is. subst (Grants t (named_op change)) (c.is_same.ensures.0 is) granted),
      (λ own. c.is_same.ensures.1 (granted_once t (named_op change) c.in-Ok.granted change granted own)),
    )

use Rattle.xc_recovery.proofs.Readying.{does_valid}
use Rattle.xc_recovery.proofs.straight.by_op.Goals as goal

pub apply-requires : goal.apply-requires
apply-requires c = does_valid c.args.out c.args.matrix.now c.args.task c.args.choice c.in-Some.op c.requires c.in-Some.ensures

use Rattle.std.proofs.Common.{subst}
use Rattle.paull_chain.proofs.ops.apply.Goals as goal
use Rattle.paull_chain.specs.Works.{IsValidOp}

pub remove-requires : goal.remove-requires
remove-requires c = let v = subst (IsValidOp c.args.matrix.now) c.in-Part.is c.requires in (c.in-Part.middle.0, v)

use Rattle.std.proofs.Common.{rules}
use Rattle.dxc_model.specs.Verdicts.{Grants}
use Rattle.dxc_model.proofs.Verdicts.{own_verdict}
use Rattle.xc_core.proofs.granted.granted.Goals as goal

pub returns-clause-own : goal.returns-clause-own
returns-clause-own c = let made : Grants c.args.table.now c.args.op.now c.change_of.result = search rules in own_verdict c.args.table.now c.args.op.now c.change_of.result made

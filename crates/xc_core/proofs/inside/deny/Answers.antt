use Rattle.std.proofs.Common.{sym, ◌∙◌}
use Rattle.xc_core.proofs.Within.{was_refused}
use Rattle.xc_core.proofs.inside.deny.Goals as goal

pub returns-in-Err : goal.returns-in-Err
returns-in-Err g c = record {
  denied = λ o own h st rests. was_refused g.D.Disk.told g.D.Disk.state g.met.D.Disk.counts_on o c.args.state.now h st own c.args.op.now c.in-Err.cause (sym c.may_be_stopped.ensures ∙ c.if-may_be_stopped.false) c.in-Err.ensures.verdict rests;
}

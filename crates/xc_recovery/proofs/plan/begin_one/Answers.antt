use Rattle.std.proofs.Common.{sym, subst, Option}
use Rattle.dxc_num.specs.declared.port.Middle.{Middle}
use Rattle.xc_recovery.specs.ChangeWorks.{AreReady, DoesPlanned, IsReady}
use Rattle.xc_recovery.proofs.Beginning.{begun_none, begun_planned, begun_unmade, begun_valid}
use Rattle.xc_recovery.proofs.Placing.{may_do}
use Rattle.xc_recovery.proofs.plan.begin_one.Goals as goal

pub begin_task-requires : goal.begin_task-requires
begin_task-requires c =
    let t = c.args.table.now in
    let m = c.args.matrix.now in
    let ready = subst (AreReady t.out m) c.requires.only (may_do t m c.requires.placed c.args.change.now c.requires.granted).ready in
    subst (λ (o : Option Middle). IsReady o m c.args.task) (sym c.out.ensures) ready.0

pub returns-clause-planned : goal.returns-clause-planned
returns-clause-planned c = begun_planned c.args.table.now c.args.matrix.now c.args.change.now c.args.task c.requires.only c.out.result c.out.ensures c.begin_task.new.rolling c.begin_task.result c.begin_task.ensures.planned

pub returns-clause-unmade : goal.returns-clause-unmade
returns-clause-unmade c = begun_unmade (DoesPlanned c.out.result c.args.matrix.now c.args.task) c.begin_task.new.rolling c.begin_task.result c.begin_task.ensures.planned

pub returns-clause-valid : goal.returns-clause-valid
returns-clause-valid c = begun_valid c.args.table.now c.args.matrix.now c.args.change.now c.begin_task.new.rolling.work.ops.items c.begin_task.result c.requires.placed c.requires.granted
    (begun_planned c.args.table.now c.args.matrix.now c.args.change.now c.args.task c.requires.only c.out.result c.out.ensures c.begin_task.new.rolling c.begin_task.result c.begin_task.ensures.planned)

pub returns-clause-none : goal.returns-clause-none
returns-clause-none c = begun_none c.args.table.now c.args.matrix.now c.args.change.now c.args.task c.requires.only c.out.result c.out.ensures c.begin_task.result c.begin_task.ensures.none

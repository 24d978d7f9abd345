use Rattle.std.proofs.Common.{Option, refl, sym, subst}
use Rattle.dxc_num.specs.declared.port.Middle.{Middle}
use Rattle.xc_recovery.specs.ChangeWorks.{AreReady, IsReady}
use Rattle.xc_recovery.proofs.Placing.{may_do}
use Rattle.xc_recovery.proofs.Shifting.{not_one, one_tried}
use Rattle.xc_recovery.proofs.straight.make_one.Goals as goal

pub do_task-requires : goal.do_task-requires
do_task-requires c =
    let t = c.args.table.now in
    let m = c.args.matrix.now in
    let ready = subst (AreReady t.out m) c.requires.only (may_do t m c.requires.placed c.args.change.now c.requires.granted).ready in
    subst (λ (o : Option Middle). IsReady o m c.args.task) (sym c.out.ensures) ready.0

pub returns : goal.returns
returns c = one_tried c.args.table.now c.args.matrix.now c.args.change.now c.args.task c.requires.only c.args.choices.now c.if-choices-ne1.false _ c.out.result c.out.ensures c.do_task.result c.do_task.new.matrix c.do_task.ensures

pub returns-then-choices-ne1 : goal.returns-then-choices-ne1
returns-then-choices-ne1 c = (not_one c.args.table.now c.args.matrix.now c.args.change.now c.args.task c.requires.only c.args.choices.now c.if-choices-ne1.true, refl)

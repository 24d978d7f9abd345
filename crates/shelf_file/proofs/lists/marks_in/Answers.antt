use Rattle.std.proofs.Common.{sym, ◌∙◌}
use Rattle.shelf_file.proofs.Marking.{spoiled, marked_again, modules_so_far, marks_so_far}
use Rattle.shelf_file.proofs.lists.marks_in.Goals as goal

pub returns-in_err-module : goal.returns-in_err-module
returns-in_err-module c = rw c.from_residual.ensures (spoiled c.args.modules c.deref-value-items.result.now c.args.list.now.items c.loop-value.value-index c.value-item.result c.deref-value-items.ensures.value c.loop-value-test.true c.value-item.is c.in_err-module.ensures)

pub returns-then-has : goal.returns-then-has
returns-then-has c = marked_again c.args.modules c.loop-value.bits c.deref-value-items.result.now c.args.list.now.items c.loop-value.value-index c.value-item.result c.in_ok-module.module c.deref-value-items.ensures.value c.loop-value-test.true c.value-item.is
    c.in_ok-module.ensures.1 c.in_ok-module.ensures.2 c.loop-value.invariant.marks (sym c.has.ensures ∙ c.if-has.true)

pub loop-value-preserved : goal.loop-value-preserved
loop-value-preserved c = record {
  modules = modules_so_far c.args.modules c.loop-value.bits c.deref-value-items.result.now c.loop-value.value-index c.value-item.result c.in_ok-module.module c.loop-value-test.true c.value-item.is c.loop-value.invariant.modules
      c.in_ok-module.ensures.0 c.in_ok-module.ensures.1 c.in_ok-module.ensures.2 c.loop-value.invariant.marks (sym c.has.ensures ∙ c.if-has.false);
  below = c.with-bits.ensures.below c.args.modules c.loop-value.invariant.below c.in_ok-module.ensures.2;
  marks = marks_so_far c.args.modules c.loop-value.bits c.with-bits.result c.deref-value-items.result.now c.loop-value.value-index c.value-item.result c.in_ok-module.module c.loop-value-test.true c.value-item.is
      c.in_ok-module.ensures.1 c.loop-value.invariant.marks c.with-bits.ensures.there c.with-bits.ensures.others;
}

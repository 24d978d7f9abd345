use Rattle.std.proofs.Common.{rules, sym, ◌∙◌}
use Rattle.dxc_model.proofs.Labels.{empty_label, kept_front}
use Rattle.dxc_model.proofs.label.Label.of.Goals as goal

pub returns-then-is_empty : goal.returns-then-is_empty
returns-then-is_empty c = empty_label c.args.text.now c.default.result (sym c.is_empty.ensures ∙ c.if-is_empty.true) c.default.ensures

pub invariant_of-result : goal.invariant_of-result
invariant_of-result c = kept_front c.args.text.now c.copy_from_slice.new.self (search rules) (search rules)

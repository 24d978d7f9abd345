use Rattle.std.proofs.Common.{◌<◌, ◌≤◌, ◌∙◌, arith}
use Rattle.dxc_model.specs.Equipment.{has_bit}
use Rattle.tl1_answer.specs.Texts.{module_text}
use Rattle.craft_session.proofs.FillSteps.{filled_is}
use Rattle.craft_session.proofs.Showing.{cut_number, fills_number, filled_numbers}
use Rattle.craft_session.proofs.shown.add_modules.Goals as goal

pub returns-in-Cut-clause-filled : goal.returns-in-Cut-clause-filled
returns-in-Cut-clause-filled g c =
    let within : c.loop-number.number < c.args.shape.modules = omega (arith, c.loop-number-test.true, c.modules-number-end.ensures.value) in
    cut_number (has_bit c.args.equipped) module_text c.args.shape.modules c.loop-number.number within _ _ _ _ _ _ _ _ c.loop-number.invariant.filled c.add_module.ensures.filled c.in-Cut.is

pub loop-number-preserved : goal.loop-number-preserved
loop-number-preserved g c =
    let within : c.loop-number.number < c.args.shape.modules = omega (arith, c.loop-number-test.true, c.modules-number-end.ensures.value) in
    record {
      filled = filled_is _ _ _ _ _ _ _ c.in-Whole.is (fills_number (has_bit c.args.equipped) module_text c.args.shape.modules c.loop-number.number within _ _ _ _ _ _ _ _ c.loop-number.invariant.filled c.add_module.ensures.filled);
      hung_up = c.add_module.ensures.hung_up ∙ c.loop-number.invariant.hung_up;
    }

pub returns-clause-filled : goal.returns-clause-filled
returns-clause-filled g c =
    let past : c.args.shape.modules ≤ c.loop-number.number = omega (arith, c.loop-number-test.false, c.modules-number-end.ensures.value) in
    filled_numbers (has_bit c.args.equipped) module_text c.args.shape.modules c.loop-number.number _ _ _ _ _ past c.loop-number.invariant.filled

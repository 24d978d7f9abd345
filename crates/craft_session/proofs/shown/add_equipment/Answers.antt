use Rattle.std.proofs.Common.{◌≡◌, ℕ, List, ◌++◌, map, sym, ap, subst}
use Rattle.std.specs.Prelude.{filter, option_to_list}
use Rattle.std.specs.List.{range_with_len}
use Rattle.dxc_model.specs.Equipment.{has_bit, modules_in}
use Rattle.tl1_answer.specs.Texts.{middle_text, module_text}
use Rattle.xc_core.specs.Turns.{equipped_in}
use Rattle.craft_session.specs.Responses.{Fills, equipment_lines}
use Rattle.craft_session.proofs.FillSteps.{filled_is, fills_more}
use Rattle.craft_session.proofs.shown.add_equipment.Goals as goal

pub returns-in-Whole-clause-filled : goal.returns-in-Whole-clause-filled
returns-in-Whole-clause-filled g c =
    let i = c.args.inventory in
    let modules = map module_text (modules_in c.args.shape i.equipped) in
    let middle = map middle_text (option_to_list i.out) in
    let lines : modules ++ middle ≡ equipment_lines (equipped_in i) i.out = ap (λ (n : ℕ). map module_text (filter (has_bit i.equipped) (range_with_len 0 n)) ++ middle) (sym c.requires.of_shape.0) in
    subst (λ (ls : List (List ℕ)). Fills g.K.Link.told (g.K.Link.state c.args.link.now) (g.K.Link.state c.add_middle.new.link) c.add_middle.result c.args.answer.now c.add_middle.new.answer ls) lines
    (fills_more g.K.Link.told (g.K.Link.state c.args.link.now) (g.K.Link.state c.add_modules.new.link) (g.K.Link.state c.add_middle.new.link) c.args.answer.now c.add_modules.new.answer c.add_middle.new.answer modules middle (filled_is _ _ _ _ _ _ _ c.in-Whole.is c.add_modules.ensures.filled) c.add_middle.result c.add_middle.ensures.filled)

use Rattle.std.proofs.Common.{◌≡◌, map, take}
use Rattle.std.specs.Prelude.{filter}
use Rattle.std.specs.List.{range_with_len}
use Rattle.dxc_model.specs.Equipment.{has_bit}
use Rattle.tl1_answer.specs.Texts.{module_text}
use Rattle.craft_session.specs.Responses.{Filled}
use Rattle.craft_session.proofs.shown.add_modules.Given as goal

abbrev pub invariant-loop-number : goal.invariant-loop-number
invariant-loop-number g l = record {
  filled : Filled g.K.Link.told (g.K.Link.state l.fn.link) (g.K.Link.state l.link) l.fn.answer l.answer (map module_text (filter (has_bit l.equipped) (take l.number (range_with_len 0 l.shape.modules))));
  hung_up : g.K.Link.hung_up l.link ≡ g.K.Link.hung_up l.fn.link;
}

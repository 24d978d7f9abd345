use Rattle.std.proofs.Common.{ℕ, List, [], ◌∷◌, Option, map, sym, ◌∙◌, ap, subst}
use Rattle.std.specs.Prelude.{option_to_list}
use Rattle.dxc_outside.specs.declared.clock.Moment.{Moment}
use Rattle.tl1_answer.specs.Texts.{start_text}
use Rattle.craft_session.specs.Responses.{Fills}
use Rattle.craft_session.proofs.program.add_start.Goals as goal

pub returns-in-Some-clause-filled : goal.returns-in-Some-clause-filled
returns-in-Some-clause-filled g c =
    subst (λ (ls : List (List ℕ)). Fills g.K.Link.told (g.K.Link.state c.args.link.now) (g.K.Link.state c.add_line.new.link) c.add_line.result c.args.answer.now c.add_line.new.answer ls)
    (ap (λ (t : List ℕ). t ∷ []) (c.as_slice.ensures.value ∙ c.start_text.ensures) ∙ ap (λ (o : Option Moment). map start_text (option_to_list o)) (sym c.in-Some.is))
    c.add_line.ensures.filled

use Rattle.std.proofs.Common.{List, map, subst}
use Rattle.dxc_notes.specs.declared.standing.SessionAt.{SessionAt}
use Rattle.craft_session.specs.Responses.{Fills, logged_in_text, state_lines}
use Rattle.craft_session.proofs.FillSteps.{filled_is, fills_more}
use Rattle.craft_session.proofs.program.add_program.Goals as goal

pub returns-in-Whole-clause-filled : goal.returns-in-Whole-clause-filled
returns-in-Whole-clause-filled g c =
    let x = c.args.standing.now in
    fills_more g.K.Link.told (g.K.Link.state c.args.link.now) (g.K.Link.state c.add_states.new.link) (g.K.Link.state c.add_sessions.new.link) c.args.answer.now c.add_states.new.answer c.add_sessions.new.answer (state_lines x) (map logged_in_text x.sessions.items) (filled_is _ _ _ _ _ _ _ c.in-Whole.is c.add_states.ensures.filled) c.add_sessions.result
    (subst (λ (ss : List SessionAt). Fills g.K.Link.told (g.K.Link.state c.add_states.new.link) (g.K.Link.state c.add_sessions.new.link) c.add_sessions.result c.add_states.new.answer c.add_sessions.new.answer (map logged_in_text ss)) c.as_slice.ensures.value c.add_sessions.ensures.filled)

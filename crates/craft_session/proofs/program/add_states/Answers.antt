use Rattle.std.proofs.Common.{map}
use Rattle.std.specs.Prelude.{option_to_list}
use Rattle.craft_session.specs.Responses.{standby_text, start_lines}
use Rattle.craft_session.proofs.FillSteps.{filled_is, fills_more}
use Rattle.craft_session.proofs.program.add_states.Goals as goal

pub returns-in-Whole-clause-filled : goal.returns-in-Whole-clause-filled
returns-in-Whole-clause-filled g c =
    let x = c.args.standing.now in
    fills_more g.K.Link.told (g.K.Link.state c.args.link.now) (g.K.Link.state c.add_starts.new.link) (g.K.Link.state c.add_standby.new.link) c.args.answer.now c.add_starts.new.answer c.add_standby.new.answer (start_lines x) (map standby_text (option_to_list x.standby)) (filled_is _ _ _ _ _ _ _ c.in-Whole.is c.add_starts.ensures.filled) c.add_standby.result c.add_standby.ensures.filled

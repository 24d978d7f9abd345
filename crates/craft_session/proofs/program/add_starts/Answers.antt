use Rattle.std.proofs.Common.{map}
use Rattle.std.specs.Prelude.{option_to_list}
use Rattle.tl1_answer.specs.Texts.{start_text}
use Rattle.craft_session.specs.Responses.{version_text}
use Rattle.craft_session.proofs.FillSteps.{filled_is, fills_more}
use Rattle.craft_session.proofs.program.add_starts.Goals as goal

pub returns-in-Whole-clause-filled : goal.returns-in-Whole-clause-filled
returns-in-Whole-clause-filled g c =
    let x = c.args.standing.now in
    fills_more g.K.Link.told (g.K.Link.state c.args.link.now) (g.K.Link.state c.add_version.new.link) (g.K.Link.state c.add_start.new.link) c.args.answer.now c.add_version.new.answer c.add_start.new.answer (map version_text (option_to_list x.version)) (map start_text (option_to_list x.since)) (filled_is _ _ _ _ _ _ _ c.in-Whole.is c.add_version.ensures.filled) c.add_start.result c.add_start.ensures.filled

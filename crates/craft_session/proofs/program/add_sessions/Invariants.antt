use Rattle.std.proofs.Common.{◌≡◌, map, take}
use Rattle.craft_session.specs.Responses.{Filled, logged_in_text}
use Rattle.craft_session.proofs.program.add_sessions.Given as goal

abbrev pub invariant-loop-at : goal.invariant-loop-at
invariant-loop-at g l = record {
  filled : Filled g.K.Link.told (g.K.Link.state l.fn.link) (g.K.Link.state l.link) l.fn.answer l.answer (map logged_in_text (take l.at l.sessions));
  hung_up : g.K.Link.hung_up l.link ≡ g.K.Link.hung_up l.fn.link;
}

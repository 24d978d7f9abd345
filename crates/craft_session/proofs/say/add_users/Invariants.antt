use Rattle.std.proofs.Common.{◌≡◌, map, take}
use Rattle.craft_session.specs.Responses.{Filled, user_text}
use Rattle.craft_session.proofs.say.add_users.Given as goal

abbrev pub invariant-loop-at : goal.invariant-loop-at
invariant-loop-at g l = record {
  filled : Filled g.K.Link.told (g.K.Link.state l.fn.link) (g.K.Link.state l.link) l.fn.answer l.answer (map user_text (take l.at l.users));
  hung_up : g.K.Link.hung_up l.link ≡ g.K.Link.hung_up l.fn.link;
}

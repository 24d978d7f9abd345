use Rattle.std.proofs.Common.{refl}
use Rattle.craft_session.proofs.serving.serve_caller.Goals as goal

pub returns-clause-heeds : goal.returns-clause-heeds
returns-clause-heeds g c = c.serve_at.ensures.heeds refl

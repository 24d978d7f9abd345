use Rattle.std.proofs.Common.{sym}
use Rattle.craft_session.proofs.Waiting.{both_no}
use Rattle.craft_session.proofs.serving.serve_session_of.Goals as goal

pub serve_at-requires : goal.serve_at-requires
serve_at-requires g c = record { vacant = λ limits. both_no (sym limits) }

use Rattle.std.proofs.Common.{arith}
use Rattle.tl1_text.proofs.Looks.{run_again}
use Rattle.tl1_text.proofs.look.run_to_end.Goals as goal

pub returns-clause-run : goal.returns-clause-run
returns-clause-run c = run_again c.args.text.now c.args.at _ _ (omega (arith, c.requires.left.0, c.requires.left.1)) c.requires.run c.run_at.ensures.run

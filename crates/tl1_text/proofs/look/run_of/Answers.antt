use Rattle.std.proofs.Common.{arith}
use Rattle.tl1_text.proofs.Looks.{run_further}
use Rattle.tl1_text.proofs.look.run_of.Goals as goal

pub returns-then-run-lt-LANES-clause-run : goal.returns-then-run-lt-LANES-clause-run
returns-then-run-lt-LANES-clause-run c = run_further _ _ _ c.loop-at.invariant.run c.run_at-run.ensures.run

pub loop-at-preserved : goal.loop-at-preserved
loop-at-preserved c = record {
  within = omega (arith, c.run_at-run.ensures.within, c.loop-at-test.true, c.loop-at.invariant.within);
  run = run_further _ _ _ c.loop-at.invariant.run c.run_at-run.ensures.run;
}

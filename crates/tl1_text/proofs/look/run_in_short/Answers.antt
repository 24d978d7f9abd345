use Rattle.tl1_text.proofs.Looks.{run_more}
use Rattle.tl1_text.proofs.look.run_in_short.Goals as goal

pub loop-at-preserved : goal.loop-at-preserved
loop-at-preserved c = run_more _ _ c.loop-at-test.true c.loop-at.invariant c.if-text-at-eq59.false c.if-text-at-eq34.false

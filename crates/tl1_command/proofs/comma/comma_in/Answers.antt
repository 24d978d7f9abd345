use Rattle.std.proofs.Common.{arith}
use Rattle.tl1_command.proofs.Commas.{further}
use Rattle.tl1_command.proofs.comma.comma_in.Goals as goal

pub loop-at-init : goal.loop-at-init
loop-at-init c = record {
  low = omega arith;
  high = omega (arith, c.min.ensures, c.requires.part.0);
  front = λ k low lt. c.front_of.ensures.front k low (omega (arith, lt, c.min.ensures));
}

pub loop-at-preserved : goal.loop-at-preserved
loop-at-preserved c = record {
  low = omega (arith, c.loop-at.invariant.low);
  high = omega (arith, c.loop-at-test.true);
  front = further _ _ _ c.loop-at.invariant.front c.if-text-at-eq44.false;
}

use Rattle.std.proofs.Common.{take, arith}
use Rattle.dxc_load.proofs.Coding.{none_further, none_whole, parted_where}
use Rattle.dxc_load.proofs.codes.behind_blank.Goals as goal

pub loop-at-preserved : goal.loop-at-preserved
loop-at-preserved c = none_further 32 c.args.text.now c.loop-at.at c.loop-at-test.true c.loop-at.invariant c.if-text-at-eq32.false

pub returns-then-text-at-eq32 : goal.returns-then-text-at-eq32
returns-then-text-at-eq32 c =
    let at = c.loop-at.at in
    (take at c.args.text.now, c.loop-at.invariant, parted_where 32 at c.args.text.now c.loop-at-test.true c.if-text-at-eq32.true)

pub returns : goal.returns
returns c = none_whole 32 c.args.text.now c.loop-at.at (omega (arith, c.loop-at-test.false)) c.loop-at.invariant

use Rattle.std.proofs.Common.{◌≡◌, length, ap, ◌∙◌, arith}
use Rattle.fabric_words.specs.Seats.{MoverAt}
use Rattle.xc_core.proofs.Staged.{switches_at, switches_past}
use Rattle.xc_core.proofs.adopting.switches_after.Goals as goal

pub returns-then-all-gt-MOST_SWITCHES-clause-switches : goal.returns-then-all-gt-MOST_SWITCHES-clause-switches
returns-then-all-gt-MOST_SWITCHES-clause-switches c =
    let now : c.switches-now.result ≡ length c.args.mover.now.mover.log = c.switches-now.ensures ∙ ap (λ (v : MoverAt). length v.mover.log) c.stage_on.ensures.mover in
    let left = c.switches_left.ensures.count in
    let past = c.if-all-gt-MOST_SWITCHES.true in
    switches_past c.args.fabric.now.size c.args.mover.now.mover c.args.last.now c.args.matrix.now c.in-At.made c.in-At.ensures.stage (omega (arith, now, left, past))

pub returns-else-all-gt-MOST_SWITCHES-clause-switches : goal.returns-else-all-gt-MOST_SWITCHES-clause-switches
returns-else-all-gt-MOST_SWITCHES-clause-switches c =
    let now : c.switches-now.result ≡ length c.args.mover.now.mover.log = c.switches-now.ensures ∙ ap (λ (v : MoverAt). length v.mover.log) c.stage_on.ensures.mover in
    let left = c.switches_left.ensures.count in
    let few = c.if-all-gt-MOST_SWITCHES.false in
    switches_at c.args.fabric.now.size c.args.mover.now.mover c.args.last.now c.args.matrix.now c.in-At.made _ c.requires.made c.in-At.ensures.stage (omega (arith, now, left)) (omega (arith, few))

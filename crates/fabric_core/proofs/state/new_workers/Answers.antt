use Rattle.std.proofs.Common.{◌≡◌, ◌+◌, ◌++◌, ◌∷◌, [], ◌∙◌, ap, arith}
use Rattle.fabric_core.specs.State.{new_worker}
use Rattle.fabric_core.proofs.Acting.{workers_more}
use Rattle.fabric_core.proofs.state.new_workers.Goals as goal

pub loop-number-preserved : goal.loop-number-preserved
loop-number-preserved c = let old = c.loop-number.invariant in let pushed = c.push_reserved.ensures in
    let number : c.loop-number.number ≡ 0 + c.loop-number.number = omega arith in record {
      items = pushed.items ∙ ((λ i. old.items i ++ (c.new.ensures ∙ ap new_worker number) i ∷ []) ∙ workers_more 0 c.loop-number.number);
      len = omega arith;
      room = omega arith;
    }

use Rattle.std.proofs.Common.{sym, subst, ◌∙◌}
use Rattle.fabric_core.specs.Allowed.{MayMove}
use Rattle.fabric_core.proofs.Choosing.{old_may_go, all_have_gone}
use Rattle.fabric_words.proofs.mover.MoverSeat.may.Goals as goal

pub returns-in-ClearMid-Old-clause-allowed : goal.returns-in-ClearMid-Old-clause-allowed
returns-in-ClearMid-Old-clause-allowed c =
    let z = c.args.self.now.fabric.size in let m = c.args.self.now.mover in let old = c.in-ClearMid-Old in let is = sym c.phase.ensures.value ∙ old.is-1 in (
      (λ e. subst (MayMove z m) (sym old.is-0) (old_may_go z m _ _ is (c.all_passed.ensures.0 e))),
      (λ may. c.all_passed.ensures.1 (all_have_gone z m _ _ is (subst (MayMove z m) old.is-0 may))),
    )

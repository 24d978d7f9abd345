use Rattle.std.proofs.Common.{sym, subst}
use Rattle.fabric_core.specs.Allowed.{MayMove}
use Rattle.fabric_core.proofs.Choosing.{old_may_go, all_have_gone}
use Rattle.fabric_core.proofs.mover.Mover.may.Goals as goal

pub returns-in-ClearMid-Old : goal.returns-in-ClearMid-Old
returns-in-ClearMid-Old c =
    let m = c.args.self.now in let old = c.in-ClearMid-Old in (
      (λ e. subst (MayMove c.args.size m) (sym old.is-0) (old_may_go c.args.size m _ _ old.is-1 (c.all_passed.ensures.0 e))),
      (λ may. c.all_passed.ensures.1 (all_have_gone c.args.size m _ _ old.is-1 (subst (MayMove c.args.size m) old.is-0 may))),
    )

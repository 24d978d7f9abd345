-- Whether the path that was left may be cleared.
use Rattle.std.proofs.Common.{◌≡◌, inl, inr}
use Rattle.dxc_num.specs.declared.port.Leg.{Leg}
use Rattle.dxc_num.specs.declared.port.Middle.{Middle}
use Rattle.fabric_core.specs.declared.size.Size.{Size}
use Rattle.fabric_core.specs.declared.phase.Phase.TheVariants.{Old}
use Rattle.fabric_core.specs.declared.mover.Mover.{Mover}
use Rattle.fabric_core.specs.Moving.{AllPassed, CanClearMid}

pub old_may_go : (z : Size) (m : Mover) (l : Leg) (k : Middle) → m.phase ≡ Old l k → AllPassed z m → (a : Leg) × (b : Middle) × CanClearMid z m a b
old_may_go z m l k is all = (l, k, inr (is, all))

pub all_have_gone : (z : Size) (m : Mover) (l : Leg) (k : Middle) → m.phase ≡ Old l k → (a : Leg) × (b : Middle) × CanClearMid z m a b → AllPassed z m
all_have_gone z m l k is (a, b, inl half) = absurd (cc)
all_have_gone z m l k is (a, b, inr old) = old.1

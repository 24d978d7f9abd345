use Rattle.std.proofs.Common.{◌≡◌, ◌⊎◌, inl, inr, subst, ⊎_elim}
use Rattle.dxc_num.specs.declared.port.Leg.{Leg}
use Rattle.dxc_num.specs.declared.port.Middle.{Middle}
use Rattle.dxc_num.specs.declared.register.WriteKind.{WriteKind}
use Rattle.fabric_core.specs.declared.size.Size.{Size}
use Rattle.fabric_core.specs.declared.mover.Mover.{Mover}
use Rattle.fabric_core.specs.declared.phase.Phase.TheVariants.{InSet, MidSet, Old, Freed}
use Rattle.fabric_core.specs.Moving.{AllPassed, CanClearIn, CanClearMid}
use Rattle.roll_engine.specs.Allowed.{CanBeMade}
use Rattle.roll_engine.specs.Courses.{IsOld}
use Rattle.roll_engine.proofs.make.make.Goals as goal

can_clear_mid : (z : Size) (m : Mover) (l : Leg) (k : Middle) → (m.phase ≡ Old l k) ⊎ (m.phase ≡ MidSet l k) → (IsOld m.phase → AllPassed z m) → CanClearMid z m l k
can_clear_mid z m l k h passed = ⊎_elim (λ (e : m.phase ≡ Old l k). inr (e, passed (l, k, e))) (λ (e : m.phase ≡ MidSet l k). inl e) h

can_clear_in : (m : Mover) (l : Leg) (k : Middle) → (m.phase ≡ Freed l k) ⊎ (m.phase ≡ InSet l k) → CanClearIn m l k
can_clear_in m l k h = ⊎_elim (λ (e : m.phase ≡ Freed l k). inr e) (λ (e : m.phase ≡ InSet l k). inl e) h

pub clear_mid-requires-clause-allowed : goal.clear_mid-requires-clause-allowed
clear_mid-requires-clause-allowed c = (
  c.args.write.leg,
  c.args.write.middle,
  can_clear_mid c.args.mover.now.fabric.size c.args.mover.now.mover c.args.write.leg c.args.write.middle
      (subst (λ (t : WriteKind). CanBeMade t c.args.mover.now.fabric.size.shape c.args.write.leg c.args.write.middle c.args.mover.now.mover) c.in-ClearMid.is c.requires.can) (c.requires.passed c.in-ClearMid.is),
)

pub clear_in-requires-clause-allowed : goal.clear_in-requires-clause-allowed
clear_in-requires-clause-allowed c = (
  c.args.write.leg,
  c.args.write.middle,
  can_clear_in c.args.mover.now.mover c.args.write.leg c.args.write.middle
      (subst (λ (t : WriteKind). CanBeMade t c.args.mover.now.fabric.size.shape c.args.write.leg c.args.write.middle c.args.mover.now.mover) c.in-ClearIn.is c.requires.can),
)

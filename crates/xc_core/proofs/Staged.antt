-- What the rest of a last work is, by the stage that was found.
use Rattle.std.proofs.Common.{◌≡◌, ℕ, ◌+◌, ◌<◌, ◌≤◌, ◌^◌, length, drop, sym, ap, subst, arith}
use Rattle.fabric_core.specs.declared.size.Size.{Size}
use Rattle.fabric_core.specs.declared.mover.Mover.{Mover}
use Rattle.fabric_core.specs.declared.phase.Phase.{Phase}
use Rattle.paull_matrix.specs.Colourings.{Colouring}
use Rattle.roll_plan.specs.declared.work.Work.{Work}
use Rattle.roll_plan.specs.Works.{switches_in, writes_of}
use Rattle.roll_engine.specs.Rollings.{RollingAt, rest_of}
use Rattle.roll_engine.specs.Stages.{IsMidway}
use Rattle.roll_engine.specs.Cold.{IsColdFrom}
use Rattle.xc_recovery.specs.declared.stage.Stage.TheVariants.{At}
use Rattle.xc_recovery.specs.Stages.{IsLastWork, IsStage}
use Rattle.xc_core.specs.declared.recovery.Recovered.{Recovered}
use Rattle.xc_core.specs.declared.recovery.Recovered.TheVariants as recovered
use Rattle.xc_core.specs.Adoptions.{IsOffLast, IsOnLast}
use Rattle.xc_core.specs.Recoveries.{RestIs, ResumedIs}
use Rattle.xc_core.proofs.Staging.{last_stage}

-- at this stage of the writes made from each colouring that the work may have been made on
pub resumed_at : (z : Size) (m : Mover) (w : Work) (d : Colouring) (made : ℕ) (phase : Phase) (now switches : ℕ) (x : Recovered) → (b : Colouring) × IsLastWork b w.ops.items d → ((b : Colouring) → IsLastWork b w.ops.items d → IsStage z b (writes_of w) m (At made)) → now ≡ length m.log → phase ≡ m.phase
    → RestIs w made phase now switches x → ResumedIs z m w.ops.items d switches x
resumed_at z m w d made phase now switches (recovered.Warm r) some stage log at rest = record {
  work = ap (λ (q : RollingAt). q.work.ops.items) rest.0;
  alone = ap (λ (q : RollingAt). q.behind) rest.0;
  low = subst (λ (n : ℕ). n ≤ length (writes_of w)) (sym (ap (λ (q : RollingAt). q.step) rest.0)) (stage some.0 some.1).0;
  midway = λ b is. subst (λ (n : ℕ). IsMidway z b (writes_of w) n m) (sym (ap (λ (q : RollingAt). q.step) rest.0)) (stage b is).1;
  switched =
      let e = ap (λ (q : RollingAt). switches_in (rest_of q)) rest.0 in
      let s = rest.1 in
      omega (arith, e, s, log);
}
resumed_at z m w d made phase now switches (recovered.Cold r) some stage log at rest = (
  λ b s is low midway same.
      let here = last_stage z m b d w.ops.items is made s (stage b is).0 low (stage b is).1 midway in
      let e = ap (λ (n : ℕ). switches_in (drop n (writes_of w))) here in
      rest.0 (omega (arith, e, same, log)),
  subst (λ (q : Phase). IsColdFrom q r) at rest.1,
)
resumed_at z m w d made phase now switches (recovered.Astray i) some stage log at rest = absurd rest
resumed_at z m w d made phase now switches recovered.Fault some stage log at rest = absurd rest

-- how many switches will have been made, where the registers are at this stage
pub switches_at : (z : Size) (m : Mover) (w : Work) (d : Colouring) (made all : ℕ) → (b : Colouring) × IsLastWork b w.ops.items d → ((b : Colouring) → IsLastWork b w.ops.items d → IsStage z b (writes_of w) m (At made)) → all ≡ length m.log + switches_in (drop made (writes_of w)) → all ≤ 2 ^ 48
    → IsOnLast z m w.ops.items d all
switches_at z m w d made all some stage is few = record { step = made; low = (stage some.0 some.1).0; midway = λ b last. (stage b last).1; number = is; few = few }

-- there are no numbers for so many
pub switches_past : (z : Size) (m : Mover) (w : Work) (d : Colouring) (made : ℕ) → ((b : Colouring) → IsLastWork b w.ops.items d → IsStage z b (writes_of w) m (At made)) → 2 ^ 48 < length m.log + switches_in (drop made (writes_of w)) → IsOffLast z m w.ops.items d
switches_past z m w d made stage past = λ b s is low midway.
    let here = last_stage z m b d w.ops.items is made s (stage b is).0 low (stage b is).1 midway in
    let e = ap (λ (n : ℕ). switches_in (drop n (writes_of w))) here in
    omega (arith, e, past)

-- What a seat knows after a step that told it.
use Rattle.std.proofs.Common.{◌≡◌, ◌≢◌, ℕ, ◌%◌, ◌<◌, [], sym, ap, ◌∙◌, subst, eq-eqb, ne_eqb}
use mathlib.Core.Option.{none}
use native.Mathlib.Decide.{ℕ_discrete}
use Rattle.atomic_table.specs.Table.{Me, step}
use Rattle.dxc_num.specs.Dimensions.{IsPort}
use Rattle.dxc_num.specs.declared.port.Port.{Port}
use Rattle.fabric_core.specs.declared.size.Size.{Size}
use Rattle.fabric_core.specs.declared.mover.Mover.{Mover}
use Rattle.fabric_core.specs.declared.worker.Hold.TheVariants.{Empty, Output}
use Rattle.fabric_core.specs.declared.worker.Worker.{Worker}
use Rattle.fabric_core.specs.Registers.{middle_in, number_in}
use Rattle.fabric_core.specs.Working.{hold_of, out_loaded}
use Rattle.fabric_core.specs.Moving.{IsMiddle}
use Rattle.fabric_words.specs.declared.table.Aim.{Aim}
use Rattle.fabric_words.specs.declared.table.View.{View}
use Rattle.fabric_words.specs.declared.table.View.TheVariants.{AsMover, AsWorker}
use Rattle.fabric_words.specs.Places.{out_place}
use Rattle.fabric_words.specs.Plays.{loaded_out}
use Rattle.fabric_words.specs.Seats.{IsMoverToken, IsWorkerToken, mover_in, dealt_in, worker_in, IsHoldInside, IsReader}

abbrev Sat : Type 0
Sat = Me Aim View

pub after_worker : (z : Size) (me m' : Sat) (v : Worker) → IsWorkerToken z me → m' ≡ (AsWorker z v, me.1) → IsWorkerToken z m' × (worker_in m'.0 ≡ v)
after_worker z me m' v is e = let now : m' ≡ (AsWorker z v, []) = e ∙ (λ i. (AsWorker z v, (is i).1)) in let same : worker_in m'.0 ≡ v = ap (λ (m : Sat). worker_in m.0) now in
    (now ∙ (λ i. (AsWorker z (sym same i), [])), same)

pub after_mover : (z : Size) (me m' : Sat) (m : Mover) → IsMoverToken z me → m' ≡ (AsMover z (dealt_in me.0) m, me.1) → IsMoverToken z m' × (mover_in m'.0 ≡ m)
after_mover z me m' m is e = let now : m' ≡ (AsMover z (dealt_in me.0) m, []) = e ∙ (λ i. (AsMover z (dealt_in me.0) m, (is i).1)) in
    let same : mover_in m'.0 ≡ m = ap (λ (x : Sat). mover_in x.0) now in let number : dealt_in m'.0 ≡ dealt_in me.0 = ap (λ (x : Sat). dealt_in x.0) now in
    (now ∙ (λ i. (AsMover z (sym number i) (sym same i), [])), same)

hold_inside : (z : Size) (y : Port) (n : ℕ) → IsPort z.shape y → (n ≢ 0 → IsMiddle z.shape (middle_in n) × (0 < n % 256)) → IsHoldInside z.shape (hold_of y n)
hold_inside z y n low told = go (ℕ_discrete n 0)
  where
    go : Dec (n ≡ 0) → IsHoldInside z.shape (hold_of y n)
    go (yes e) = let is : Empty ≡ hold_of y n = rw (eq-eqb n 0 e) in subst (IsHoldInside z.shape) is tt
    go (no e) = let is : Output y (number_in n) (middle_in n) ≡ hold_of y n = rw (ne_eqb n 0 e) in subst (IsHoldInside z.shape) is (low, (told e).0)

pub reads_out : (slots : ℕ) (z : Size) (me m' : Sat) (i n : ℕ) (y : Port) → IsReader z me → IsPort z.shape y → i ≡ out_place z.shape y → loaded_out (step slots i 0 0 none) me n m'
    → IsReader z m' × ((worker_in me.0).number ≡ (worker_in m'.0).number)
reads_out slots z me m' i n y r low at told =
    let t = told z (worker_in me.0) (ap (λ (m : Sat). m.0) r.role) in
    let after = after_worker z me m' t.0 r.role t.1 in
    let is : worker_in m'.0 ≡ out_loaded y n (worker_in me.0) = after.1 ∙ t.2.1 y at in
    let number : (worker_in me.0).number ≡ (worker_in m'.0).number = sym (ap (λ (v : Worker). v.number) is) in (
      record {
        role = after.0;
        sized = r.sized;
        low = subst (λ (w : ℕ). w < z.workers) number r.low;
        inside = subst (λ (v : Worker). IsHoldInside z.shape v.hold) (sym is) (hold_inside z y n low t.2.0);
      },
      number,
    )

-- Jobs of frame workers, one after the other.
use Rattle.std.proofs.Common.{◌≡◌, ◌+◌, ℕ, arith, false, if◌then◌else◌, List, [], ◌∷◌, ◌++◌, length, Result, Ok, Err, is_ok, is_err, subst}
use Rattle.std.specs.Prelude.{slice_index_or, ◌<◌}
use Rattle.fabric_core.specs.State.{new_worker}
use Rattle.fabric_words.specs.declared.worker.WorkerSeat.{WorkerSeat}
use Rattle.fabric_words.specs.New.{AreNew}
use Rattle.fabric_words.specs.Seats.{FabricId}
use Rattle.dxc_jobs.specs.declared.frames.FrameJob.{FrameJob}
use Rattle.dxc_jobs.specs.Handed.{AreJobsOf, IsJobOf}

-- it was put after the others
pub pushed : {A B X : Type 0} (r : Result A B) (xs new : List X) (x : X) → is_err r ≡ false → new ≡ (if is_ok r then xs ++ x ∷ [] else xs) → new ≡ xs ++ x ∷ []
pushed (Ok v) xs new x went is = is
pushed (Err e) xs new x went is = cc

-- one job more
pub jobs_more : {N G : Type 0} (lines_for : N → List ℕ → ℕ → Type 0) (f : FabricId) (name : List ℕ) (n m : ℕ) (jobs : List (FrameJob N G)) (job : FrameJob N G) → m ≡ n + length jobs → AreJobsOf lines_for f name n jobs → IsJobOf lines_for f name m job → AreJobsOf lines_for f name n (jobs ++ job ∷ [])
jobs_more lines_for f name n m [] job is are one = (subst (λ (k : ℕ). IsJobOf lines_for f name k job) (let e : m ≡ n = omega (arith, is) in e) one, tt)
jobs_more lines_for f name n m (j ∷ js) job is are one = (are.0, jobs_more lines_for f name (n + 1) m js job (let e : m ≡ n + 1 + length js = omega (arith, is) in e) are.1 one)

-- the first of a fabric's new seats
pub first_new : (f : FabricId) (n : ℕ) (seats : List WorkerSeat) (d : WorkerSeat) → AreNew f n seats → 0 < length seats → (slice_index_or seats 0 d).reader ≡ record { fabric = f; worker = new_worker n }
first_new f n [] d all some = absurd (omega (arith, some))
first_new f n (x ∷ xs) d all some = all.0

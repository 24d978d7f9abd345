-- Jobs of frame workers, over lines that were handed out for them.
use Rattle.std.specs.Prelude.{◌≡◌, ℕ, ◌+◌, List, [], ◌∷◌}
use Rattle.crossbeam_utils.specs.Padded.{padded_value}
use Rattle.fabric_core.specs.State.{new_worker}
use Rattle.fabric_words.specs.Seats.{FabricId}
use Rattle.dxc_jobs.specs.declared.frames.FrameJob.{FrameJob}

-- the job of the worker of that number: its new seat, and lines that were handed out for it by that name
pub record IsJobOf {N G : Type 0} (lines_for : N → List ℕ → ℕ → Type 0) (f : FabricId) (name : List ℕ) (worker : ℕ) (job : FrameJob N G) : Type 0 where
  pub seat : (padded_value job.seat).reader ≡ record { fabric = f; worker = new_worker worker }
  pub lines : lines_for job.lines name worker

-- jobs of the workers from n on
abbrev pub AreJobsOf : {N G : Type 0} → (lines_for : N → List ℕ → ℕ → Type 0) → FabricId → List ℕ → ℕ → List (FrameJob N G) → Type 0
AreJobsOf lines_for f name n [] = Unit {0}
AreJobsOf lines_for f name n (job ∷ jobs) = IsJobOf lines_for f name n job × AreJobsOf lines_for f name (n + 1) jobs

-- Jobs of any types in one list, for what a spawner is handed.
use Rattle.std.specs.Prelude.{List, [], ◌∷◌}

-- a job, with its type
pub record AnyJob : Type 1 where
  pub kind : Type 0
  pub job : kind

abbrev pub any_job : {J : Type 0} → J → AnyJob
any_job {J} job = record { kind = J; job = job }

-- jobs of one type, in their order
abbrev pub any_jobs : {J : Type 0} → List J → List AnyJob
any_jobs [] = []
any_jobs (job ∷ jobs) = any_job job ∷ any_jobs jobs

-- Starts, one after another.
use Rattle.std.proofs.Common.{◌≡◌, ◌+◌, ◌<◌, ◌∙◌, ℕ, List, [], ◌∷◌, ◌++◌, ap, arith, refl, subst}
use Rattle.dxc_causes.specs.Causes.{Counted}
use Rattle.dxc_outside.specs.Jobs.{AnyJob, any_job, any_jobs}
use Rattle.dxc_outside.specs.declared.spawner.Started.{Started}
use Rattle.dxc_outside.specs.declared.spawner.Started.TheVariants.{Running, Failed}
use Rattle.dxc_outside.specs.Threads.{SpawnerState, IsStart, IsWait}
use Rattle.dxc_jobs.specs.Starts.{AreStarts}
use Rattle.dxc_jobs.proofs.Counting.{rose_more}

-- none was started yet
pub none_yet : (first : SpawnerState) → AreStarts 0 first first Running
none_yet first = record {
  running = λ _. (omega arith, refl);
  no_more = omega arith;
  later = omega arith;
  failed = λ bad. cc;
}

-- one more job was started
pub one_more : (n : ℕ) (first old new : SpawnerState) (s : Started) → s ≡ Running → AreStarts n first old Running → IsStart old new s → AreStarts (n + 1) first new Running
one_more n first old new s is so_far start =
    let now = so_far.running refl in
    let counted = (start.running is).0 in
    let same : new.faults ≡ first.faults = (start.no_fault is).0 ∙ now.1 in
    record {
      running = λ _. (rose_more n first.starts old.starts new.starts now.0 counted.reached, same);
      no_more = let high = so_far.no_more in let few = counted.no_more in omega (arith, high, few);
      later = omega (arith, same);
      failed = λ bad. cc;
    }

-- the next job's start failed
pub next_failed : (n jobs : ℕ) (first old new : SpawnerState) (s : Started) → s ≡ Failed → n < jobs → AreStarts n first old Running → IsStart old new s → AreStarts jobs first new Failed
next_failed n jobs first old new s is more so_far start =
    let same = (so_far.running refl).1 in
    let kept = (start.not_running is).0 in
    let high = so_far.no_more in
    let fault = start.one_fault is in
    record {
      running = λ bad. cc;
      no_more = omega (arith, kept, high, more);
      later = let up = start.cause.later in omega (arith, same, up);
      failed = λ _. record { fewer = omega (arith, kept, high, more); one = subst (λ (k : ℕ). Counted k new.faults 1) same fault.0; last = fault.1 };
    }

-- jobs after those that were started
pub more_starts : (n m : ℕ) (first old new : SpawnerState) (s : Started) → AreStarts n first old Running → AreStarts m old new s → AreStarts (n + m) first new s
more_starts n m first old new s front behind =
    let now = front.running refl in
    let high = front.no_more in
    record {
      running = λ is. let next = behind.running is in (let rose = next.0 in let before = now.0 in omega (arith, rose, before), next.1 ∙ now.1);
      no_more = let more = behind.no_more in omega (arith, high, more);
      later = let up = behind.later in let same = now.1 in omega (arith, up, same);
      failed = λ is. let f = behind.failed is in record { fewer = let few = f.fewer in omega (arith, few, high); one = subst (λ (k : ℕ). Counted k new.faults 1) now.1 f.one; last = f.last };
    }

-- and none after one whose start failed
pub no_further : (n m : ℕ) (first new : SpawnerState) → AreStarts n first new Failed → AreStarts (n + m) first new Failed
no_further n m first new front = record {
  running = λ bad. cc;
  no_more = let high = front.no_more in omega (arith, high);
  later = front.later;
  failed = λ _. let f = front.failed refl in record { fewer = let few = f.fewer in omega (arith, few); one = f.one; last = f.last };
}

-- those that run were waited for
pub waited_for : (n : ℕ) (first old new : SpawnerState) (s : Started) → AreStarts n first old s → IsWait old new → AreStarts n first new s
waited_for n first old new s starts wait =
    let count = wait.starts in
    let faults = wait.faults in
    record {
      running = λ is. let now = starts.running is in (let rose = now.0 in omega (arith, rose, count), faults ∙ now.1);
      no_more = let high = starts.no_more in omega (arith, high, count);
      later = let up = starts.later in omega (arith, up, faults);
      failed = λ is. let f = starts.failed is in record {
        fewer = let few = f.fewer in omega (arith, few, count);
        one = record { reached = let r = f.one.reached in omega (arith, r, faults); no_more = let m = f.one.no_more in omega (arith, m, faults) };
        last = wait.last_failed ∙ f.last;
      };
    }

-- one job after others
pub any_more : {J : Type 0} (jobs : List J) (job : J) → any_jobs (jobs ++ job ∷ []) ≡ any_jobs jobs ++ any_job job ∷ []
any_more [] job = refl
any_more (j ∷ js) job = ap (λ (l : List AnyJob). any_job j ∷ l) (any_more js job)

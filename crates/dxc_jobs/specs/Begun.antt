-- Jobs that were started, and what is left of them.
use Rattle.std.specs.Prelude.{◌≡◌, List, [], ◌∷◌, ◌++◌, Option, Some, None}
use Rattle.std.specs.declared.thread.PromisedHandle.{PromisedHandle}
use Rattle.dxc_outside.specs.declared.spawner.Started.{Started}
use Rattle.dxc_outside.specs.declared.spawner.Started.TheVariants.{Running, Failed}
use Rattle.dxc_jobs.specs.declared.begun.Begun.{Begun}
use Rattle.dxc_jobs.specs.declared.begun.Begun.TheVariants as begun
use Rattle.dxc_jobs.specs.declared.begun.RanOf.{RanOf}

-- the one where it was started, the other where it wasn't
abbrev pub IfStarted : Started → Type 0 → Type 0 → Type 0
IfStarted Running is not = is
IfStarted Failed is not = not

-- a start that gave something was one
abbrev pub started_of : {B : Type 0} → Option B → Started
started_of None = Failed
started_of (Some b) = Running

module _ {J L T : Type 0} (ran : J → L → Type 0) where
  -- what was begun is this job: it left what its run made of it, or its thread promises that
  abbrev pub IsBegun : J → Begun L T (PromisedHandle L (RanOf J)) → Type 0
  IsBegun job (begun.Ended left) = ran job left
  IsBegun job (begun.Running threads handle) = handle.promise.0.value ≡ job

  -- these jobs were begun, in their order
  abbrev pub AreBegun : List J → List (Begun L T (PromisedHandle L (RanOf J))) → Type 0
  AreBegun [] [] = Unit {0}
  AreBegun [] (b ∷ bs) = ⊥
  AreBegun (job ∷ jobs) [] = ⊥
  AreBegun (job ∷ jobs) (b ∷ bs) = IsBegun job b × AreBegun jobs bs

  -- it was put after those that were begun
  pub record NextBegun (job : J) (old new : List (Begun L T (PromisedHandle L (RanOf J)))) : Type 0 where
    pub one : Begun L T (PromisedHandle L (RanOf J))
    pub is : new ≡ old ++ one ∷ []
    pub begun : IsBegun job one

  -- these jobs up to the first whose start failed
  pub record BegunOf (jobs : List J) (started : Started) (bs : List (Begun L T (PromisedHandle L (RanOf J)))) : Type 0 where
    pub front : List J
    pub back : List J
    pub split : jobs ≡ front ++ back
    pub are : AreBegun front bs
    pub all : started ≡ Running → back ≡ []

module _ {J L : Type 0} (ran : J → L → Type 0) where
  -- each of these jobs has run, and left this
  abbrev pub AreRan : List J → List L → Type 0
  AreRan [] [] = Unit {0}
  AreRan [] (left ∷ lefts) = ⊥
  AreRan (job ∷ jobs) [] = ⊥
  AreRan (job ∷ jobs) (left ∷ lefts) = ran job left × AreRan jobs lefts

  -- So has each up to the first whose start failed.
  pub record RanTo (jobs : List J) (started : Started) (lefts : List L) : Type 0 where
    pub front : List J
    pub back : List J
    pub split : jobs ≡ front ++ back
    pub ran_front : AreRan front lefts
    pub all : started ≡ Running → back ≡ []

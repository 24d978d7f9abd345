-- What is made of things that are opened, or the status why it isn't.
use Rattle.std.proofs.Common.{◌≡◌, ◌≤◌, ◌∙◌, ℕ, arith, Result, Ok, Err, ap, sym, subst}
use Rattle.dxc_causes.specs.Causes.{HasCause}
use Rattle.dxc_args.specs.declared.status.Status.{Status}
use Rattle.dxc_args.specs.declared.status.Status.TheVariants.{CannotOpen, NoMemory}
use Rattle.dxc_jobs.specs.Missing.{IsMade, IsOfNoOpening}
use Rattle.dxc_jobs.proofs.Counting.{rose_behind}

-- one status was answered
err_same : {X : Type 0} (a b : Status) → ◌≡◌ {A = Result X Status} (Err a) (Err b) → a ≡ b
err_same a b is = cc

module _ {X : Type 0} (faults later : ℕ) (more : faults ≤ later) where
  pub is_made : (x : X) → IsMade faults later (Ok x)
  is_made x = record { counted = more; cause = λ is. cc; only = λ s is. cc }

  -- memory was wanting
  pub no_memory : IsMade {X = X} faults later (Err NoMemory)
  no_memory = record { counted = more; cause = λ is. cc; only = λ s is not. sym (err_same NoMemory s is) }

-- what was to be opened couldn't be
pub not_opened : {X A : Type 0} (faults later : ℕ) → HasCause faults later A → A → IsMade {X = X} faults later (Err CannotOpen)
not_opened faults later h failed = record { counted = h.later; cause = λ is. h.cause failed; only = λ s is not. absurd (not (sym (err_same CannotOpen s is))) }

-- what changed no count came after
pub kept : {X : Type 0} (faults now later : ℕ) (made : Result X Status) → later ≡ now → IsMade faults now made → IsMade faults later made
kept faults now later made same is = subst (λ (n : ℕ). IsMade faults n made) (sym same) is

-- one of several isn't there, after others
pub behind : {X Y : Type 0} (faults mid later : ℕ) (made : Result X Status) (s : Status) → faults ≤ mid → IsMade mid later made → made ≡ Err s → IsMade {X = Y} faults later (Err s)
behind faults mid later made s more is was = record {
  counted = let up = is.counted in omega (arith, more, up);
  cause = λ bad. rose_behind faults mid later more (is.cause (was ∙ ap (λ (t : Status). Err t) (err_same s CannotOpen bad)));
  only = λ t bad. is.only t (was ∙ ap (λ (u : Status). Err u) (err_same s t bad));
}

-- it ends with a status of an opening
pub made_ends : {X : Type 0} (faults later : ℕ) (made : Result X Status) → IsMade faults later made → (s : Status) → made ≡ Err s → IsOfNoOpening s → ⊥
made_ends faults later made m s is ends = subst IsOfNoOpening (m.only s is (λ cannot. subst IsOfNoOpening cannot ends)) ends

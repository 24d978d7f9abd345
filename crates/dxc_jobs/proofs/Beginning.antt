-- Jobs that were begun, one after the other, and what they left.
use Rattle.std.specs.Prelude.{◌≡◌, ◌+◌, ◌≤◌, List, [], ◌∷◌, ◌++◌, length}
use Rattle.std.proofs.Common.{◌∙◌, ap, arith, length-append, refl, subst, sym}
use Rattle.std.specs.declared.thread.PromisedHandle.{PromisedHandle}
use Rattle.dxc_outside.specs.declared.spawner.Started.{Started}
use Rattle.dxc_outside.specs.declared.spawner.Started.TheVariants.{Failed}
use Rattle.dxc_jobs.specs.Begun.{AreBegun, AreRan, BegunOf, IsBegun, RanTo}
use Rattle.dxc_jobs.specs.declared.begun.Begun.{Begun}
use Rattle.dxc_jobs.specs.declared.begun.RanOf.{RanOf}

module _ {J L T : Type 0} (ran : J → L → Type 0) where
  -- one more was begun
  pub begun_more : (jobs : List J) (job : J) (bs : List (Begun L T (PromisedHandle L (RanOf J)))) (b : Begun L T (PromisedHandle L (RanOf J))) → AreBegun ran jobs bs → IsBegun ran job b → AreBegun ran (jobs ++ job ∷ []) (bs ++ b ∷ [])
  begun_more [] job [] b are one = (one, tt)
  begun_more [] job (c ∷ bs) b are one = absurd are
  begun_more (j ∷ js) job [] b are one = absurd are
  begun_more (j ∷ js) job (c ∷ bs) b are one = (are.0, begun_more js job bs b are.1 one)

  -- the last of those that were begun
  pub record Last (jobs : List J) (bs : List (Begun L T (PromisedHandle L (RanOf J)))) (b : Begun L T (PromisedHandle L (RanOf J))) : Type 0 where
    pub front : List J
    pub job : J
    pub split : jobs ≡ front ++ job ∷ []
    pub are : AreBegun ran front bs
    pub one : IsBegun ran job b

  pub begun_split : (jobs : List J) (bs : List (Begun L T (PromisedHandle L (RanOf J)))) (b : Begun L T (PromisedHandle L (RanOf J))) → AreBegun ran jobs (bs ++ b ∷ []) → Last jobs bs b
  begun_split [] [] b are = absurd are
  begun_split [] (c ∷ bs) b are = absurd are
  begun_split (j ∷ []) [] b are = record { front = []; job = j; split = refl; are = tt; one = are.0 }
  begun_split (j ∷ (k ∷ js)) [] b are = absurd are.1
  begun_split (j ∷ js) (c ∷ bs) b are = let l = begun_split js bs b are.1 in record { front = j ∷ l.front; job = l.job; split = ap (λ (x : List J). j ∷ x) l.split; are = (are.0, l.are); one = l.one }

  -- as many as there are jobs
  pub begun_length : (jobs : List J) (bs : List (Begun L T (PromisedHandle L (RanOf J)))) → AreBegun ran jobs bs → length bs ≡ length jobs
  begun_length [] [] are = refl
  begun_length [] (c ∷ bs) are = absurd are
  begun_length (j ∷ js) [] are = absurd are
  begun_length (j ∷ js) (c ∷ bs) are = let e = begun_length js bs are.1 in omega (arith, e)

-- one more has run
pub ran_more : {J L : Type 0} (ran : J → L → Type 0) (jobs : List J) (job : J) (lefts : List L) (left : L) → AreRan ran jobs lefts → ran job left → AreRan ran (jobs ++ job ∷ []) (lefts ++ left ∷ [])
ran_more ran [] job [] left are one = (one, tt)
ran_more ran [] job (c ∷ ls) left are one = absurd are
ran_more ran (j ∷ js) job [] left are one = absurd are
ran_more ran (j ∷ js) job (c ∷ ls) left are one = (are.0, ran_more ran js job ls left are.1 one)

-- of no jobs nothing is left
pub ran_none : {J L : Type 0} (T : Type 0) (ran : J → L → Type 0) (jobs : List J) (ls : List L) → ls ≡ [] → AreBegun {T = T} ran jobs [] → AreRan ran jobs ls
ran_none T ran [] ls none are = subst (λ (l : List _). AreRan ran [] l) (sym none) tt
ran_none T ran (j ∷ js) ls none are = absurd are

-- what was begun has run
pub ran_to : {J L : Type 0} (T : Type 0) (ran : J → L → Type 0) (jobs : List J) (started : Started) (bs : List (Begun L T (PromisedHandle L (RanOf J)))) (ls : List L) → BegunOf ran jobs started bs → ((js : List J) → AreBegun ran js bs → AreRan ran js ls) → RanTo ran jobs started ls
ran_to T ran jobs started bs ls begun waited = record { front = begun.front; back = begun.back; split = begun.split; ran_front = waited begun.front begun.are; all = begun.all }

-- no more was begun than there are jobs
pub begun_few : {J L T : Type 0} (ran : J → L → Type 0) (jobs : List J) (started : Started) (bs : List (Begun L T (PromisedHandle L (RanOf J)))) → BegunOf ran jobs started bs → length bs ≤ length jobs
begun_few ran jobs started bs begun =
    let e = begun_length ran begun.front bs begun.are in
    let whole : length jobs ≡ length begun.front + length begun.back = ap length begun.split ∙ length-append begun.front begun.back in
    omega (arith, e, whole)

-- none was begun
pub begun_none : {J L T : Type 0} (ran : J → L → Type 0) (jobs : List J) (bs : List (Begun L T (PromisedHandle L (RanOf J)))) → bs ≡ [] → BegunOf ran jobs Failed bs
begun_none {T} ran jobs bs none = record { front = []; back = jobs; split = refl; are = subst (λ (x : List (Begun _ T (PromisedHandle _ (RanOf _)))). AreBegun ran [] x) (sym none) tt; all = λ is. cc }

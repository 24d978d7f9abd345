-- When operations ended, and what a file stands for that a crash since then leaves, with one operation more.
use Rattle.std.proofs.Common.{◌≡◌, inl, ⊎_elim, ℕ, zero, suc, ◌≤◌, ◌<◌, List, [], ◌∷◌, ◌++◌, length, take, drop, Option, Some, None, refl, sym, ◌∙◌, subst, arith}
use Rattle.std.specs.Prelude.{slice_get}
use Rattle.std.specs.List.{AllByRecursion}
use Rattle.std.proofs.lemmas.Bool.{cases_lt}
use Rattle.std.proofs.lemmas.List.{take-append-drop, take-append-le, take_all}
use Rattle.std.proofs.lemmas.Option.{slice_get_past}
use Rattle.dxc_disk.specs.Alls.{all_append, all_behind}
use Rattle.user_admin.specs.Histories.{Opening}
use Rattle.user_admin.specs.Operations.{EndInOrder, IsFileAfter, MayBe, Operation, StandsAt, StandsForFirst, ended_at, entries_in}

-- behind the start alone
pub none_ended : (begun n : ℕ) → ended_at begun [] n ≡ begun
none_ended begun zero = refl
none_ended begun (suc n) = refl

-- the moments of those before are as they were
pub ended_front : (begun : ℕ) (ps : List Operation) (p : Operation) (n : ℕ) → n ≤ length ps → ended_at begun (ps ++ p ∷ []) n ≡ ended_at begun ps n
ended_front begun ps p zero few = refl
ended_front begun [] p (suc n) few = absurd (omega (arith, few))
ended_front begun (q ∷ ps) p (suc n) few =
    let within : suc n ≤ suc (length ps) = few in
    ended_front q.ended ps p n (omega (arith, within))

-- and behind all of them is its own
pub ended_behind : (begun : ℕ) (ps : List Operation) (p : Operation) (n : ℕ) → length ps < n → ended_at begun (ps ++ p ∷ []) n ≡ p.ended
ended_behind begun ps p zero more = absurd (omega (arith, more))
ended_behind begun [] p (suc zero) more = refl
ended_behind begun [] p (suc (suc n)) more = refl
ended_behind begun (q ∷ ps) p (suc n) more =
    let within : suc (length ps) < suc n = more in
    ended_behind q.ended ps p n (omega (arith, within))

pub order_more : (begun : ℕ) (ps : List Operation) (p : Operation) (before now : ℕ) → EndInOrder begun ps before → before ≤ p.ended → p.ended ≤ now → EndInOrder begun (ps ++ p ∷ []) now
order_more begun [] p before now order le later =
    let first : begun ≤ before = order in
    (omega (arith, first, le), later)
order_more begun (q ∷ ps) p before now order le later = (order.0, order_more q.ended ps p before now order.1 le later)

pub ended_before : (begun : ℕ) (ps : List Operation) (now n : ℕ) → EndInOrder begun ps now → ended_at begun ps n ≤ now
ended_before begun [] now zero order = order
ended_before begun [] now (suc n) order = order
ended_before begun (q ∷ ps) now zero order =
    let first : begun ≤ q.ended = order.0 in
    let rest : q.ended ≤ now = ended_before q.ended ps now zero order.1 in
    omega (arith, first, rest)
ended_before begun (q ∷ ps) now (suc n) order = ended_before q.ended ps now n order.1

-- what holds of all behind the first k elements
all_dropped : {X : Type 0} (P : X → Type 0) (k : ℕ) (xs : List X) → AllByRecursion P xs → AllByRecursion P (drop k xs)
all_dropped P k xs all = all_behind P (take k xs) (drop k xs) (subst (AllByRecursion P) (sym (take-append-drop k xs)) all)

pub dropped_more : {X : Type 0} (P : X → Type 0) (k : ℕ) (xs ys : List X) → AllByRecursion P (drop k xs) → AllByRecursion P ys → AllByRecursion P (drop k (xs ++ ys))
dropped_more P zero xs ys all more = all_append P xs ys all more
dropped_more P (suc k) [] ys all more = all_dropped P (suc k) ys more
dropped_more P (suc k) (x ∷ xs) ys all more = dropped_more P k xs ys all more

get_front : {A : Type 0} (xs ys : List A) (k : ℕ) → k < length xs → slice_get (xs ++ ys) k ≡ slice_get xs k
get_front [] ys k lt = absurd (omega (arith, lt))
get_front (x ∷ xs) ys zero lt = refl
get_front (x ∷ xs) ys (suc k) lt =
    let within : suc k < suc (length xs) = lt in
    get_front xs ys k (omega (arith, within))

get_last : {A : Type 0} (xs : List A) (x : A) → slice_get (xs ++ x ∷ []) (length xs) ≡ Some x
get_last [] x = refl
get_last (y ∷ xs) x = get_last xs x

module _ (o : Opening) (ps : List Operation) (file : List ℕ) where
  at_place : (n : ℕ) (qs : List Operation) (q : Option Operation) → take n ps ≡ qs → slice_get ps n ≡ q → StandsAt o (entries_in (take n ps)) (slice_get ps n) file → StandsAt o (entries_in qs) q file
  at_place n qs q some at stands = subst (λ (w : List Operation × Option Operation). StandsAt o (entries_in w.0) w.1 file) (λ i. (some i, at i)) stands

  -- a file stands for the entries of all of them
  pub holds_all : (Ended : ℕ → Type 0) → IsFileAfter o (entries_in ps) file → StandsForFirst o ps Ended file
  holds_all Ended stands = record {
    number = length ps;
    holds = λ n few ended. few;
    stands = subst (λ (w : List Operation × Option Operation). StandsAt o (entries_in w.0) w.1 file)
        (λ i. (sym (take_all (length ps) ps (omega arith)) i, sym (slice_get_past ps (length ps) (omega arith)) i)) stands;
  }

  module _ (p : Operation) (Ended : ℕ → Type 0) where
    -- or it may be the file of an operation behind them, which hadn't ended
    pub holds_front : ((n : ℕ) → Ended n → n ≤ length ps) → MayBe o (entries_in ps) p.entry.op file → StandsForFirst o (ps ++ p ∷ []) Ended file
    holds_front early may = record {
      number = length ps;
      holds = λ n few ended. early n ended;
      stands = subst (λ (w : List Operation × Option Operation). StandsAt o (entries_in w.0) w.1 file)
          (λ i. ((sym (take_all (length ps) ps (omega arith)) ∙ sym (take-append-le (length ps) ps (p ∷ []) (omega arith))) i, sym (get_last ps p) i)) may;
    }

    -- what it stood for before that operation
    pub holds_still : (HadEnded : ℕ → Type 0) → ((n : ℕ) → Ended n → (n ≤ length ps) × HadEnded n) → StandsForFirst o ps HadEnded file → StandsForFirst o (ps ++ p ∷ []) Ended file
    holds_still HadEnded early x = ⊎_elim
        (λ front. record {
          number = x.number;
          holds = λ n few ended. x.holds n (early n ended).0 (early n ended).1;
          stands = at_place x.number (take x.number (ps ++ p ∷ [])) (slice_get (ps ++ p ∷ []) x.number) (sym (take-append-le x.number ps (p ∷ []) (omega (arith, front)))) (sym (get_front ps (p ∷ []) x.number front)) x.stands;
        })
        (λ past. holds_front (λ n ended. (early n ended).0) (inl (at_place x.number ps None (take_all x.number ps past) (slice_get_past ps x.number past) x.stands)))
        (cases_lt x.number (length ps))

-- Stamps: that dates rise, and whose they are.
use Rattle.std.proofs.Common.{◌≡◌, ◌≢◌, ℕ, suc, ◌<◌, List, [], ◌∷◌, ◌++◌, map, length, sym, refl, ap, ap₂, ◌∙◌, subst, arith, Option, Some, None, append-nil, append_assoc}
use Rattle.std.proofs.lemmas.List.{map-append, length-map}
use Rattle.turnstile.specs.Dating.{AreAll, AreOthers, AreRising, Stamp, newest, stamp}
use Rattle.turnstile.specs.Turning.{Each, entries, stamps_of}

abbrev hd : {A : Type 0} → A → List A → A
hd d [] = d
hd d (x ∷ xs) = x

abbrev tl : {A : Type 0} → List A → List A
tl [] = []
tl (x ∷ xs) = xs

pub all_append : (P : Stamp → Type 0) (ss ts : List Stamp) → AreAll P ss → AreAll P ts → AreAll P (ss ++ ts)
all_append P [] ts a b = b
all_append P (s ∷ ss) ts a b = (a.0, all_append P ss ts a.1 b)

pub all_after : (P : Stamp → Type 0) (ss ts : List Stamp) → AreAll P (ss ++ ts) → AreAll P ts
all_after P [] ts a = a
all_after P (s ∷ ss) ts a = all_after P ss ts a.1

pub all_weak : (P Q : Stamp → Type 0) → ((s : Stamp) → P s → Q s) → (ss : List Stamp) → AreAll P ss → AreAll Q ss
all_weak P Q f [] a = tt
all_weak P Q f (s ∷ ss) a = (f s a.0, all_weak P Q f ss a.1)

pub above_newest : (ss : List Stamp) (d : ℕ) → newest ss < d → AreAll (λ s. s.date < d) ss
above_newest [] d l = tt
above_newest (s ∷ ss) d l = (omega arith, above_newest ss d (omega arith))

rising_end : (ss : List Stamp) (d n : ℕ) → AreRising ss → newest ss < d → AreRising (ss ++ stamp d n ∷ [])
rising_end [] d n r l = (tt, tt)
rising_end (s ∷ ss) d n r l = (all_append (λ t. s.date < t.date) ss (stamp d n ∷ []) r.0 (omega arith, tt), rising_end ss d n r.1 (omega arith))

module _ {E : Type 0} (number : E → ℕ) where
  pub rising_more : (ss : List Stamp) (d n : ℕ) (o : Option E) → AreRising ss → newest ss < d → AreRising (ss ++ stamps_of d n o)
  rising_more ss d n None r l = subst AreRising (sym (append-nil ss)) r
  rising_more ss d n (Some e) r l = rising_end ss d n r l

  pub stamped_more : (ss : List Stamp) (es : List E) (d n : ℕ) (o : Option E) → map (λ (t : Stamp). t.number) ss ≡ map number es → Each (λ e. number e ≡ n) (entries o)
      → map (λ (t : Stamp). t.number) (ss ++ stamps_of d n o) ≡ map number (es ++ entries o)
  stamped_more ss es d n None same mine = ap (map (λ (t : Stamp). t.number)) (append-nil ss) ∙ (same ∙ ap (map number) (sym (append-nil es)))
  stamped_more ss es d n (Some e) same mine = map-append (λ (t : Stamp). t.number) ss (stamp d n ∷ []) ∙ (ap₂ (λ (xs : List ℕ) (x : ℕ). xs ++ x ∷ []) same (sym mine.0) ∙ sym (map-append number es (e ∷ [])))

  pub as_many_more : (d n : ℕ) (o : Option E) → length (stamps_of d n o) ≡ length (entries o)
  as_many_more d n None = refl
  as_many_more d n (Some e) = refl

  pub others_more : (d n k : ℕ) (o : Option E) → n ≢ k → AreAll (λ s. s.number ≢ k) (stamps_of d n o)
  others_more d n k None ne = tt
  others_more d n k (Some e) ne = (ne, tt)

  pub as_many_stamped : (ss : List Stamp) (es : List E) → map (λ (t : Stamp). t.number) ss ≡ map number es → length ss ≡ length es
  as_many_stamped ss es same = sym (length-map ss (λ (t : Stamp). t.number)) ∙ (ap length same ∙ length-map es number)

  pub all_stamped : (P : ℕ → Type 0) (ss : List Stamp) (es : List E) → map (λ (t : Stamp). t.number) ss ≡ map number es → Each (λ e. P (number e)) es → AreAll (λ s. P s.number) ss
  all_stamped P [] es same a = tt
  all_stamped P (s ∷ ss) [] same a = absurd (let h : suc (length (map (λ (t : Stamp). t.number) ss)) ≡ 0 = ap length same in omega arith)
  all_stamped P (s ∷ ss) (e ∷ es) same a = (subst P (sym (ap (hd s.number) same)) a.0, all_stamped P ss es (ap tl same) a.1)

-- nothing is behind all that was seen
pub others_none : (own : ℕ) (ss : List Stamp) → AreOthers own ss ss
others_none own ss = record { more = []; whole = sym (append-nil ss); others = tt }

-- behind what others added stands more of others
pub others_on : (own : ℕ) (old all more : List Stamp) → AreOthers own old all → AreAll (λ s. s.number ≢ own) more → AreOthers own old (all ++ more)
others_on own old all more a others = record {
  more = a.more ++ more;
  whole = ap (λ (l : List Stamp). l ++ more) a.whole ∙ append_assoc old a.more more;
  others = all_append (λ s. s.number ≢ own) a.more more a.others others;
}

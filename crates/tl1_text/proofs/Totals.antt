-- Every list of bytes has units and a rest.
use Rattle.std.proofs.Common.{◌≡◌, ℕ, ◌≤◌, ◌<◌, Bool, true, false, List, [], ◌∷◌, ◌++◌, ◌⊎◌, inl, inr, length, nat_lt, ◌==◌, refl, sym, ap, subst, append_assoc, append-nil, length-append, arith}
use Rattle.std.proofs.lemmas.Bool.Decides.{nat_tests}
use Rattle.tl1_text.specs.Units.{Input, whole, too_long, is_gap, is_quoted, ends_behind, IsUnit, Units, none, more, HasUnits}
use Rattle.tl1_text.specs.Reading.{Holds}
use Rattle.tl1_text.proofs.Steps.{holds_none, rest_of, ends_whole, ends_long, holds_gap, holds_kept, holds_past, stays_quoted}

-- what a byte more makes of the bytes of a unit: the unit, or more bytes of it
Next : List ℕ → Type 0
Next bs = ((u : Input) × IsUnit bs u) ⊎ ((kept : List ℕ) × Holds bs kept)

past : (text : List ℕ) → 2048 ≤ length text → ends_behind text ≡ true
past text le = let long : nat_lt (length text) 2048 ≡ false = grind (arith, nat_tests, le) in rw long (refl)

free : (text : List ℕ) → length text < 2048 → is_quoted text ≡ false → ends_behind text ≡ true
free text lt is = let short : nat_lt (length text) 2048 ≡ true = grind (arith, nat_tests, lt) in rw (short, is) (refl)

semicolon : (bs : List ℕ) (b : ℕ) (P : List ℕ → Type 0) → b ≡ 59 → P (bs ++ 59 ∷ []) → P (bs ++ b ∷ [])
semicolon bs b P is p = subst (λ (n : ℕ). P (bs ++ n ∷ [])) (sym is) p

is_semicolon : (b : ℕ) → (b == 59) ≡ true → b ≡ 59
is_semicolon b is = let test : (b == 59) ≡ true = is in grind (arith, nat_tests, test)

no_semicolon : (b : ℕ) → (b == 59) ≡ false → b ≡ 59 → ⊥
no_semicolon b is same = let test : (b == 59) ≡ false = is in absurd (grind (arith, nat_tests, test, same))

module _ (bs kept : List ℕ) (h : Holds bs kept) (b : ℕ) where
  kept_on : (k : List ℕ) (gap : Bool) → kept ≡ k → is_gap b ≡ gap → length kept < 2048 → (b ≡ 59 → ends_behind kept ≡ false) → (kept2 : List ℕ) × Holds (bs ++ b ∷ []) kept2
  kept_on [] true k_is gap_is lt unended = ([], holds_gap bs kept h b k_is gap_is)
  kept_on [] false k_is gap_is lt unended = (kept ++ b ∷ [], holds_kept bs kept h b lt (λ _. gap_is) unended)
  kept_on (x ∷ k) gap k_is gap_is lt unended = (kept ++ b ∷ [], holds_kept bs kept h b lt (λ empty. absurd (omega (arith, ap length k_is, ap length empty))) unended)

  next : (room semi quoted : Bool) → nat_lt (length kept) 2048 ≡ room → (b == 59) ≡ semi → is_quoted kept ≡ quoted → Next (bs ++ b ∷ [])
  unfolding Next
  next false true quoted room_is semi_is quoted_is =
      let le : 2048 ≤ length kept = (let test : nat_lt (length kept) 2048 ≡ false = room_is in grind (arith, nat_tests, test)) in
      let long : 2048 ≤ length (kept ++ h.more) = omega (arith, le, length-append kept h.more) in
      inl (too_long, semicolon bs b (λ l. IsUnit l too_long) (is_semicolon b semi_is) (ends_long bs kept h le (past (kept ++ h.more) long)))
  next false false quoted room_is semi_is quoted_is =
      let le : 2048 ≤ length kept = (let test : nat_lt (length kept) 2048 ≡ false = room_is in grind (arith, nat_tests, test)) in
      inr (kept, holds_past bs kept h b le (λ same. absurd (no_semicolon b semi_is same)))
  next true true false room_is semi_is quoted_is =
      let lt : length kept < 2048 = (let test : nat_lt (length kept) 2048 ≡ true = room_is in grind (arith, nat_tests, test)) in
      inl (whole kept, semicolon bs b (λ l. IsUnit l (whole kept)) (is_semicolon b semi_is) (ends_whole bs kept h lt (free kept lt quoted_is)))
  next true true true room_is semi_is quoted_is =
      let lt : length kept < 2048 = (let test : nat_lt (length kept) 2048 ≡ true = room_is in grind (arith, nat_tests, test)) in
      inr (kept_on kept (is_gap b) refl refl lt (λ _. stays_quoted kept lt quoted_is))
  next true false quoted room_is semi_is quoted_is =
      let lt : length kept < 2048 = (let test : nat_lt (length kept) 2048 ≡ true = room_is in grind (arith, nat_tests, test)) in
      inr (kept_on kept (is_gap b) refl refl lt (λ same. absurd (no_semicolon b semi_is same)))

-- on from a unit that ended, or from more bytes of one
by_next : (todo front : List ℕ) (us : List Input) (bs : List ℕ) → Units front us → Next bs
    → ((f : List ℕ) (vs : List Input) (cs kept : List ℕ) → Units f vs → Holds cs kept → HasUnits (f ++ (cs ++ todo))) → HasUnits (front ++ (bs ++ todo))
unfolding Next
by_next todo front us bs units (inl ended) on = subst HasUnits (append_assoc front bs todo) (on (front ++ bs) (us ++ ended.0 ∷ []) [] [] (more front bs us ended.0 units ended.1) holds_none)
by_next todo front us bs units (inr held) on = on front us bs held.0 units held.1

-- units so far, the bytes of the one in hand, and the bytes still to come
go : (todo front : List ℕ) (us : List Input) (bs kept : List ℕ) → Units front us → Holds bs kept → HasUnits (front ++ (bs ++ todo))
go [] front us bs kept units h = record {
  units = us;
  rest = bs;
  stream = record { front = front; split = ap (λ (l : List ℕ). front ++ l) (append-nil bs); units = units; no_unit = rest_of h };
}
go (b ∷ todo) front us bs kept units h =
    let same : front ++ (bs ++ b ∷ todo) ≡ front ++ ((bs ++ b ∷ []) ++ todo) = ap (λ (l : List ℕ). front ++ l) (sym (append_assoc bs (b ∷ []) todo)) in
    subst HasUnits (sym same) (by_next todo front us (bs ++ b ∷ []) units (next bs kept h b (nat_lt (length kept) 2048) (b == 59) (is_quoted kept) refl refl refl) (λ f vs cs k. go todo f vs cs k))

pub units_there : (bs : List ℕ) → HasUnits bs
units_there bs = go bs [] [] [] [] none holds_none

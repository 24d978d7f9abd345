-- The front of a text in which no colon stands, and no quote.
use Rattle.std.proofs.Common.{◌≡◌, ◌≢◌, ℕ, zero, suc, ◌+◌, ◌≤◌, Bool, true, false, not, cond, List, [], ◌∷◌, ◌++◌, length, take, drop, refl, sym, ap, subst, arith, Option}
use Rattle.std.specs.List.{prefix_len}
use Rattle.std.proofs.lemmas.Bool.{ne_eqb}
use Rattle.tl1_text.specs.Tags.{IsUnparted, before_colon, behind_colon}
use Rattle.tl1_text.proofs.Looks.{not_stopped}

-- the bytes in front of the first at which a test stops
module _ (stops : ℕ → Bool) (semicolon : stops 59 ≡ true) (colon : stops 58 ≡ true) (quote : stops 34 ≡ true) where
  prefix_by : (x : ℕ) (v : List ℕ) (b : Bool) → stops x ≡ b → IsUnparted (take (prefix_len (λ y. not (stops y)) v) v) → IsUnparted (take (cond (not b) (1 + prefix_len (λ y. not (stops y)) v) 0) (x ∷ v))
  prefix_by x v true is rest = tt
  prefix_by x v false is rest =
      let more : IsUnparted (take (suc (prefix_len (λ y. not (stops y)) v)) (x ∷ v)) = (not_stopped stops semicolon quote x 58 colon is, not_stopped stops semicolon quote x 34 quote is, rest) in
      let same : suc (prefix_len (λ y. not (stops y)) v) ≡ 1 + prefix_len (λ y. not (stops y)) v = omega arith in
      subst (λ (k : ℕ). IsUnparted (take k (x ∷ v))) same more

  pub prefix_front : (v : List ℕ) → IsUnparted (take (prefix_len (λ x. not (stops x)) v) v)
  prefix_front [] = tt
  prefix_front (x ∷ v) = prefix_by x v (stops x) refl (prefix_front v)

pub behind_front : (text : List ℕ) (n : ℕ) → IsUnparted (take n text) → behind_colon false text ≡ behind_colon false (drop n text)
behind_front text zero is = refl
behind_front [] (suc n) is = refl
behind_front (b ∷ text) (suc n) is = rw (ne_eqb b 58 is.0, ne_eqb b 34 is.1) (behind_front text n is.2)

pub before_front : (text : List ℕ) (n : ℕ) → IsUnparted (take n text) → before_colon false text ≡ take n text ++ before_colon false (drop n text)
before_front text zero is = refl
before_front [] (suc n) is = refl
before_front (b ∷ text) (suc n) is = rw (ne_eqb b 58 is.0, ne_eqb b 34 is.1) (ap (λ (l : List ℕ). b ∷ l) (before_front text n is.2))

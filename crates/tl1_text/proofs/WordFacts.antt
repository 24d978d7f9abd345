-- Words joined by -, as they are read and as the grammar has them.
use Rattle.std.proofs.Common.{◌≡◌, ℕ, suc, ◌-◌, ◌≤◌, Bool, true, false, List, [], ◌∷◌, ◌++◌, ◌⊎◌, inl, inr, ◌<◌, length, nat_lt, ◌&&◌, ◌==◌, if◌then◌else◌, refl, sym, ◌∙◌, ap, subst, append_assoc, append-nil, length-append, arith}
use Rattle.std.specs.List.{list_all}
use Rattle.std.specs.Char.{is_ascii_alphanumeric}
use Rattle.std.proofs.lemmas.Bool.Decides.{nat_tests}
use Rattle.tl1_text.specs.Grammar.{IsWord, AreWords, last_word, more_words}
use Rattle.tl1_text.specs.Walk.{are_words}
use Rattle.tl1_text.proofs.Walks.{both}
use Rattle.tl1_text.proofs.Finds.{all_more}

pub no_dash : (b : ℕ) → is_ascii_alphanumeric b ≡ true → (b == 45) ≡ false
no_dash b is = grind (arith, nat_tests, is)

over_word : (k : ℕ) (w t : List ℕ) → list_all is_ascii_alphanumeric w ≡ true → are_words k true (w ++ t) ≡ are_words k true t
over_word k [] t all = refl
over_word k (b ∷ w) t all =
    let parts = both (is_ascii_alphanumeric b) (list_all is_ascii_alphanumeric w) all in
    rw (parts.0, no_dash b parts.0) (over_word k w t parts.1)

word_read : (k : ℕ) (w t : List ℕ) → IsWord w → are_words k false (w ++ t) ≡ are_words k true t
word_read k [] t is = absurd (omega (arith, is.some))
word_read k (b ∷ w) t is =
    let parts = both (is_ascii_alphanumeric b) (list_all is_ascii_alphanumeric w) is.alphanumeric in
    rw (parts.0, no_dash b parts.0) (over_word k w t parts.1)

some_words : (w : List ℕ) (n : ℕ) → AreWords w n → 1 ≤ n
some_words _ _ (last_word w is) = omega arith
some_words _ _ (more_words w rest n is later) = omega arith

pub words_are : (w : List ℕ) (n k : ℕ) → AreWords w n → n ≤ k → are_words k false w ≡ true
words_are _ _ k (last_word w is) le = ap (λ (l : List ℕ). are_words k false l) (sym (append-nil w)) ∙ word_read k w [] is
words_are _ _ k (more_words w rest n is later) le =
    let least : 1 ≤ n = some_words rest n later in
    let more : nat_lt 1 k ≡ true = grind (arith, nat_tests, least, le) in
    word_read k w (45 ∷ rest) is ∙ (rw more (words_are rest n (k - 1) later (omega (arith, le))))

pub record Words (k : ℕ) (w : List ℕ) : Type 0 where
  pub count : ℕ
  pub words : AreWords w count
  pub most : count ≤ k

-- a word has begun where it has a byte
begun_some : (w : List ℕ) → nat_lt 0 (length w) ≡ true → 1 ≤ length w
begun_some w some = grind (arith, nat_tests, some)

begun_more : (w : List ℕ) (b : ℕ) → nat_lt 0 (length (w ++ b ∷ [])) ≡ true
begun_more w b = grind (arith, nat_tests, length-append w (b ∷ []))

dash_or : (d c e : Bool) → (if d then c else e) ≡ true → ((d ≡ true) × (c ≡ true)) ⊎ (e ≡ true)
dash_or true c e is = inl (refl, is)
dash_or false c e is = inr is

pub words_found : (t : List ℕ) (k : ℕ) (w : List ℕ) → 1 ≤ k → list_all is_ascii_alphanumeric w ≡ true → are_words k (nat_lt 0 (length w)) t ≡ true → Words k (w ++ t)
words_found [] k w least all is = record { count = 1; words = rw (append-nil w) (last_word w (record { some = begun_some w is; alphanumeric = all })); most = omega (arith, least) }
words_found (b ∷ t) k w least all is =
    elim (dash_or (b == 45) (nat_lt 0 (length w) && nat_lt 1 k && are_words (k - 1) false t) (is_ascii_alphanumeric b && are_words k true t) is) [
      | inl dash ↦
          let outer = both (nat_lt 0 (length w) && nat_lt 1 k) (are_words (k - 1) false t) dash.1 in
          let inner = both (nat_lt 0 (length w)) (nat_lt 1 k) outer.0 in
          let more : 1 < k = (let test : nat_lt 1 k ≡ true = inner.1 in grind (arith, nat_tests, test)) in
          let same : b ≡ 45 = (let test : (b == 45) ≡ true = dash.0 in grind (arith, nat_tests, test)) in
          let rest = words_found t (k - 1) [] (omega (arith, more)) refl outer.1 in
          record {
            count = suc rest.count;
            words = subst (λ (n : ℕ). AreWords (w ++ n ∷ t) (suc rest.count)) (sym same) (more_words w t rest.count (record { some = begun_some w inner.0; alphanumeric = all }) rest.words);
            most = omega (arith, rest.most, more);
          }
      | inr letter ↦
          let parts = both (is_ascii_alphanumeric b) (are_words k true t) letter in
          let rest = words_found t k (w ++ b ∷ []) least (all_more is_ascii_alphanumeric w b all parts.0) (rw (begun_more w b) parts.1) in
          record { count = rest.count; words = rw append_assoc at rest.words; most = rest.most }
    ]

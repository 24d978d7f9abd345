-- Cells with their sets of free middles: new ones, and one cell changed.
use Rattle.std.proofs.Common.{◌≡◌, ◌≢◌, ◌↔◌, ℕ, ◌+◌, ◌*◌, ◌/◌, ◌%◌, ◌<◌, ◌≤◌, List, get_or, set, sym, ap, ◌∙◌, subst, arith, refl, length, Option, None, Some, IsBitSet, replicate, get_or-set_same, get_or-set_other, length-set}
use mathlib.Core.Logic.{dite}
use native.Mathlib.Decide.{ℕ_discrete}
use Rattle.std.proofs.lemmas.List.{get_or-replicate, length-replicate}
use Rattle.std.proofs.lemmas.Nat.{same_from_place, mul-add-lt}
use Rattle.std.proofs.lemmas.Grind.{get_or_default_zero}
use Rattle.dxc_num.specs.declared.port.Leg.{Leg}
use Rattle.dxc_num.specs.Dimensions.{Dimensions, IsInLimits}
use Rattle.paull_matrix.specs.Indexes.{cell_count, cell_of, HasFreeSets, word_of}

pub cell_lt : (d : Dimensions) (m k : ℕ) → m < d.modules → k ≤ d.slots → cell_of d m k < cell_count d
cell_lt d m k h le = let b : m * (d.slots + 1) + k < (d.slots + 1) * d.modules = mul-add-lt m (d.slots + 1) k d.modules h (omega arith) in omega arith

pub same_cell : (d : Dimensions) (m k n q : ℕ) → k ≤ d.slots → q ≤ d.slots → cell_of d m k ≡ cell_of d n q → (m ≡ n) × (k ≡ q)
same_cell d m k n q a b e = same_from_place m k n q (d.slots + 1) (omega arith) (omega arith) e

pub word_lt : (d : Dimensions) (m k : ℕ) → IsInLimits d → m < d.modules → k ≤ d.slots → word_of m k < d.modules * 2
word_lt d m k limits h le = let most = limits.most_slots in let low : k / 64 < 2 = omega arith in let b : m * 2 + k / 64 < 2 * d.modules = mul-add-lt m 2 (k / 64) d.modules h low in omega arith

-- a word and a bit tell the middle
pub same_bit : (m k n q : ℕ) → k < 128 → q < 128 → word_of m k ≡ word_of n q → k % 64 ≡ q % 64 → (m ≡ n) × (k ≡ q)
same_bit m k n q a b e bit =
    let p = same_from_place m (k / 64) n (q / 64) 2 (omega arith) (omega arith) e in
    let w = p.1 in (p.0, omega arith)

-- what a cell and its bit are after a change of this cell and this bit
pub free_sets_kept : (d : Dimensions) (legs : List (Option Leg)) (free : List ℕ) (m k bits : ℕ) (x : Option Leg) → HasFreeSets d legs free → m < d.modules → k ≤ d.slots
    → (IsBitSet bits (k % 64) ↔ (x ≡ None)) → ((j : ℕ) → j < 64 → j ≢ k % 64 → (IsBitSet bits j ↔ IsBitSet (get_or free (word_of m k) 0) j))
    → HasFreeSets d (set legs (cell_of d m k) x) (set free (word_of m k) bits)
free_sets_kept d legs free m k bits x g lm lk here else = record {
  limits = g.limits;
  size = length-set legs _ _ ∙ g.size;
  sets = length-set free _ _ ∙ g.sets;
  bits = λ n q ln lq. dite (ℕ_discrete (word_of n q) (word_of m k))
      (λ same. let e : get_or (set free (word_of m k) bits) (word_of n q) 0 ≡ bits = ap (λ (i : ℕ). get_or (set free (word_of m k) bits) i 0) same ∙ get_or-set_same free (word_of m k) bits 0 low in
      dite (ℕ_discrete (q % 64) (k % 64))
      (λ is. let p = same_bit n q m k (omega arith) (omega arith) same is in
      let c : get_or (set legs (cell_of d m k) x) (cell_of d n q) None ≡ x = (λ i. get_or (set legs (cell_of d m k) x) (cell_of d (p.0 i) (p.1 i)) None) ∙ get_or-set_same legs (cell_of d m k) x None (let s = g.size in let b = cell_lt d m k lm lk in omega arith) in (
        (λ h. c ∙ here.0 (subst (λ (w : ℕ × ℕ). IsBitSet w.0 w.1) (λ i. (e i, is i)) h)),
        (λ h. subst (λ (w : ℕ × ℕ). IsBitSet w.0 w.1) (λ i. (sym e i, sym is i)) (here.1 (sym c ∙ h))),
      ))
      (λ differ. let c = away n q lq (λ a. differ (ap (λ (i : ℕ). i % 64) a.1)) in
      let o = else (q % 64) (omega arith) differ in let b = g.bits n q ln lq in (
        (λ h. c ∙ b.0 (subst (λ (i : ℕ). IsBitSet (get_or free i 0) (q % 64)) (sym same) (o.0 (subst (λ (i : ℕ). IsBitSet i (q % 64)) e h)))),
        (λ h. subst (λ (i : ℕ). IsBitSet i (q % 64)) (sym e) (o.1 (subst (λ (i : ℕ). IsBitSet (get_or free i 0) (q % 64)) same (b.1 (sym c ∙ h))))),
      )))
      (λ other. let e : get_or (set free (word_of m k) bits) (word_of n q) 0 ≡ get_or free (word_of n q) 0 = get_or-set_other free (word_of m k) (word_of n q) bits 0 other in
      let c = away n q lq (λ a. other (λ i. word_of (a.0 i) (a.1 i))) in
      let b = g.bits n q ln lq in
      ((λ h. c ∙ b.0 (subst (λ (i : ℕ). IsBitSet i (q % 64)) e h)), (λ h. subst (λ (i : ℕ). IsBitSet i (q % 64)) (sym e) (b.1 (sym c ∙ h)))));
}
  where
    most : d.slots ≤ 96
    most = g.limits.most_slots

    low : word_of m k < length free
    low = let s = g.sets in let b = word_lt d m k g.limits lm lk in omega arith

    away : (n q : ℕ) → q ≤ d.slots → ((n ≡ m) × (q ≡ k) → ⊥) → get_or (set legs (cell_of d m k) x) (cell_of d n q) None ≡ get_or legs (cell_of d n q) None
    away n q lq apart = get_or-set_other legs (cell_of d m k) (cell_of d n q) x None (λ w. apart (same_cell d n q m k lq lk w))

pub all_free : (d : Dimensions) (all : ℕ) → IsInLimits d → ((j : ℕ) → j < 64 → IsBitSet all j) → HasFreeSets d (replicate (cell_count d) None) (replicate (d.modules * 2) all)
all_free d all limits full = record {
  limits = limits;
  size = length-replicate _ _;
  sets = length-replicate _ _;
  bits = λ m k lm lk.
      let low = cell_lt d m k lm lk in
      let e : get_or (replicate (d.modules * 2) all) (word_of m k) 0 ≡ all = get_or-replicate (d.modules * 2) (word_of m k) all 0 (word_lt d m k limits lm lk) in (
        (λ h. get_or-replicate (cell_count d) (cell_of d m k) None None low),
        (λ h. subst (λ (n : ℕ). IsBitSet n (k % 64)) (sym e) (full (k % 64) (omega arith))),
      );
}

some_none : {l : Leg} → Some l ≡ None → ⊥
some_none e = cc

-- the word that was read is the module's own
read_word : (d : Dimensions) (legs : List (Option Leg)) (free : List ℕ) (m k at word : ℕ) → HasFreeSets d legs free → m < d.modules → k ≤ d.slots
    → at ≡ word_of m k → word ≡ get_or free at word → word ≡ get_or free (word_of m k) 0
read_word d legs free m k at word g lm lk a w =
    let low : at < length free = let s = g.sets in let b = word_lt d m k g.limits lm lk in omega arith in
    w ∙ (get_or_default_zero free at word low ∙ ap (λ (i : ℕ). get_or free i 0) a)

-- a leg is put on a middle, and its bit is cleared in the word that was read
pub taken_kept : (d : Dimensions) (legs : List (Option Leg)) (free : List ℕ) (m k place at word bits : ℕ) (l : Leg) → HasFreeSets d legs free → m < d.modules → k ≤ d.slots
    → place ≡ cell_of d m k → at ≡ word_of m k → word ≡ get_or free at word
    → ¬ IsBitSet bits (k % 64) → ((j : ℕ) → j < 64 → j ≢ k % 64 → (IsBitSet bits j ↔ IsBitSet word j)) → HasFreeSets d (set legs place (Some l)) (set free at bits)
taken_kept d legs free m k place at word bits l g lm lk p a w gone else =
    subst (λ (i : ℕ × ℕ). HasFreeSets d (set legs i.0 (Some l)) (set free i.1 bits)) (λ i. (sym p i, sym a i))
    (free_sets_kept d legs free m k bits (Some l) g lm lk ((λ h. absurd (gone h)), λ h. absurd (some_none h))
    (λ j lj no. subst (λ (n : ℕ). IsBitSet bits j ↔ IsBitSet n j) (read_word d legs free m k at word g lm lk a w) (else j lj no)))

-- a middle is left, and its bit is set in the word that was read
pub freed_kept : (d : Dimensions) (legs : List (Option Leg)) (free : List ℕ) (m k place at word bits : ℕ) → HasFreeSets d legs free → m < d.modules → k ≤ d.slots
    → place ≡ cell_of d m k → at ≡ word_of m k → word ≡ get_or free at word
    → IsBitSet bits (k % 64) → ((j : ℕ) → j < 64 → j ≢ k % 64 → (IsBitSet bits j ↔ IsBitSet word j)) → HasFreeSets d (set legs place None) (set free at bits)
freed_kept d legs free m k place at word bits g lm lk p a w there else =
    subst (λ (i : ℕ × ℕ). HasFreeSets d (set legs i.0 None) (set free i.1 bits)) (λ i. (sym p i, sym a i))
    (free_sets_kept d legs free m k bits None g lm lk ((λ h. refl), λ h. there)
    (λ j lj no. subst (λ (n : ℕ). IsBitSet bits j ↔ IsBitSet n j) (read_word d legs free m k at word g lm lk a w) (else j lj no)))

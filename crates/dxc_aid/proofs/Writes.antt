-- Names of ports with numbers of one and of two digits.
use Rattle.std.proofs.Common.{◌≡◌, ℕ, zero, suc, ◌+◌, ◌-◌, ◌*◌, ◌/◌, ◌%◌, ◌<◌, Bool, true, ◌&&◌, T, eqb, eqb→eq, eq-zero-or-pos, inl, inr, List, ◌++◌, get_or, codes, decimal, ◌∙◌, ap, append_assoc, arith}
use lib.Ieee.Fits.{and_l, and_r}
use Rattle.dxc_num.specs.declared.port.Port.{Port}
use Rattle.dxc_num.specs.Dimensions.{Dimensions, module_of, slot_of}
use Rattle.dxc_aid.specs.Names.{port_name}
use Rattle.dxc_aid.specs.declared.write.TheConstants.{PAIRS}

-- the table has the digits of each number below n
abbrev are_pairs : ℕ → Bool
are_pairs zero = true
are_pairs (suc p) = (eqb (get_or PAIRS (p * 2) 0) (48 + p / 10) && eqb (get_or PAIRS (p * 2 + 1) 0) (48 + p % 10)) && are_pairs p

pairs_below : (n p : ℕ) → T (are_pairs n) → p < n → (get_or PAIRS (p * 2) 0 ≡ 48 + p / 10) × (get_or PAIRS (p * 2 + 1) 0 ≡ 48 + p % 10)
pairs_below zero p t h = absurd (omega arith)
pairs_below (suc n) p t h =
    elim (eq-zero-or-pos (n - p)) [
      | inl z ↦ let e : p ≡ n = omega arith in let a = and_l _ (are_pairs n) t in rw e (eqb→eq _ _ (and_l _ _ a), eqb→eq _ _ (and_r _ _ a))
      | inr g ↦ pairs_below n p (and_r _ (are_pairs n) t) (omega arith)
    ]

pub pair_at : (p : ℕ) → p < 100 → (get_or PAIRS (p * 2) 0 ≡ 48 + p / 10) × (get_or PAIRS (p * 2 + 1) 0 ≡ 48 + p % 10)
pair_at p h = pairs_below 100 p tt h

pub name_is : (d : Dimensions) (p : Port) (front : List ℕ)
    → (((front ++ codes "DS0-") ++ decimal (module_of d p + 1)) ++ codes "-") ++ decimal (slot_of d p + 1) ≡ front ++ port_name d p
name_is d p front =
    let number : List ℕ = decimal (module_of d p + 1) in
    let slot : List ℕ = decimal (slot_of d p + 1) in
    let name : List ℕ = codes "DS0-" ++ number in
    ap (λ (l : List ℕ). (l ++ codes "-") ++ slot) (append_assoc front (codes "DS0-") number)
    ∙ ap (λ (l : List ℕ). l ++ slot) (append_assoc front name (codes "-"))
    ∙ append_assoc front (name ++ codes "-") slot

-- Which ports are a module's, by bounds.
use Rattle.std.proofs.Common.{◌≡◌, ℕ, ◌+◌, ◌-◌, ◌*◌, ◌/◌, ◌%◌, ◌<◌, ◌≤◌, arith, Bool, true, false, ◌==◌, nat_lt, inl, inr, sym, ◌∙◌, subst}
use Rattle.std.proofs.lemmas.Bool.{cases_lt, eqb-true, eq-eqb}
use Rattle.std.proofs.lemmas.Nat.{div-mul-add, div-add-mod'}
use Rattle.dxc_model.proofs.Bools.{lt_of, of_lt}
use Rattle.dxc_model.proofs.Places.{false_of}

within : (m s p : ℕ) → m * s ≤ p → p < m * s + s → (p / s == m) ≡ true
within m s p low high =
    let k : p - m * s < s = omega arith in
    let e : m * s + (p - m * s) ≡ p = omega arith in
    eq-eqb _ _ (subst (λ (n : ℕ). n / s ≡ m) e (div-mul-add m s (p - m * s) k))

parted : (m s p : ℕ) → (p / s == m) ≡ true → m * s + p % s ≡ p
parted m s p e = subst (λ (k : ℕ). k * s + p % s ≡ p) (eqb-true (p / s) m e) (div-add-mod' p s)

above : (m s p : ℕ) → 0 < s → m * s + s ≤ p → (p / s == m) ≡ false
above m s p some l = false_of (p / s == m) (λ e. let f = parted m s p e in let g : p % s < s = omega arith in absurd (omega arith))

-- a port that isn't below a module's first is the module's where it is below the next one's
pub bounded : (m s p : ℕ) → 0 < s → m * s ≤ p → nat_lt p (m * s + s) ≡ (p / s == m)
bounded m s p some low = elim (cases_lt p (m * s + s)) [
  | inl a ↦ of_lt p (m * s + s) a ∙ sym (within m s p low a)
  | inr b ↦ false_of (nat_lt p (m * s + s)) (λ e. let f = lt_of p (m * s + s) e in absurd (omega arith)) ∙ sym (above m s p some b)
]

-- The two chains share no module, so the shorter is short.
use Rattle.std.proofs.Common.{◌≡◌, ℕ, zero, suc, ◌+◌, ◌*◌, ◌<◌, ◌≤◌, List, [], ◌∷◌, length, get_or, sym, refl, ap, ◌∙◌, inl, inr, arith}
use Rattle.dxc_num.specs.declared.port.Leg.{Leg}
use Rattle.paull_matrix.specs.declared.side.Side.{Side}
use Rattle.paull_matrix.specs.declared.side.Side.TheVariants.{Row, Column}
use Rattle.paull_matrix.proofs.Legs.{module_low}
use Rattle.paull_chain.proofs.Paths.{Runs, both_fit, never}
use Rattle.dxc_num.specs.Dimensions.{Dimensions}
use Rattle.paull_chain.specs.Chains.{ComesTo, Walk, leave, other}
use Rattle.paull_matrix.specs.Colourings.{Colouring, Holds, IsFree, IsProperColouring, module_on}

-- one number for each row and each column
abbrev pub code : Side → ℕ → ℕ
code Row m = 2 * m
code Column m = 2 * m + 1

-- where a chain comes to, leg by leg
abbrev pub stops : Dimensions → Side → List Leg → List ℕ
stops z s [] = []
stops z s (l ∷ ls) = code (other s) (module_on z (other s) l) ∷ stops z (other s) ls

pub length_stops : (z : Dimensions) (s : Side) (ls : List Leg) → length (stops z s ls) ≡ length ls
length_stops z s [] = refl
length_stops z s (l ∷ ls) = ap suc (length_stops z (other s) ls)

module _ (c : Colouring) (a b : ℕ) where
  -- a chain goes from u to v
  abbrev pub Next : ℕ → ℕ → Type 0
  Next u v = (s : Side) × (l : Leg) × Holds c l (leave a b s) × (u ≡ code s (module_on c.shape s l)) × (v ≡ code (other s) (module_on c.shape (other s) l))

  pub back : IsProperColouring c → (u v w : ℕ) → Next u w → Next v w → u ≡ v
  back p u v w (Row, l, h, e, f) (Row, o, g, d, k) = let same : module_on c.shape Column l ≡ module_on c.shape Column o = omega arith in e ∙ (ap (λ (x : Leg). code Row (module_on c.shape Row x)) (p.apart Column b l o h g same) ∙ sym d)
  back p u v w (Column, l, h, e, f) (Column, o, g, d, k) = let same : module_on c.shape Row l ≡ module_on c.shape Row o = omega arith in e ∙ (ap (λ (x : Leg). code Column (module_on c.shape Column x)) (p.apart Row a l o h g same) ∙ sym d)
  back p u v w (Row, l, h, e, f) (Column, o, g, d, k) = absurd (let z : ⊥ = omega arith in z)
  back p u v w (Column, l, h, e, f) (Row, o, g, d, k) = absurd (let z : ⊥ = omega arith in z)

  pub runs : (p : IsProperColouring c) → (s : Side) (m : ℕ) (ls : List Leg) → Walk c a b s m ls → Runs Next (back p) (code s m) (stops c.shape s ls)
  runs p s m [] h = tt
  runs p s m (l ∷ ls) h = ((s, l, h.0, ap (code s) (sym h.1), refl), runs p (other s) (module_on c.shape (other s) l) ls h.2)

  code_low : (s : Side) (m : ℕ) → m < c.shape.modules → code s m < 2 * c.shape.modules
  code_low Row m h = omega arith
  code_low Column m h = omega arith

  pub stop_low : IsProperColouring c → (s : Side) (m : ℕ) (ls : List Leg) → Walk c a b s m ls → m < c.shape.modules → (t : ℕ) → t ≤ length ls → get_or (code s m ∷ stops c.shape s ls) t 0 < 2 * c.shape.modules
  stop_low p s m ls h low zero le = code_low s m low
  stop_low p s m [] h low (suc t) le = absurd (let z : ⊥ = omega arith in z)
  stop_low p s m (l ∷ ls) h low (suc t) le = stop_low p (other s) (module_on c.shape (other s) l) ls h.2 (module_low c.shape (other s) l (p.inside l (leave a b s) h.0).0) t (omega arith)

  pub begins_row : (i : ℕ) → IsFree c Row i a → (u : ℕ) → Next u (code Row i) → ⊥
  begins_row i free u (Row, l, h, e, f) = let z : ⊥ = omega arith in z
  begins_row i free u (Column, l, h, e, f) = free l h (let z : module_on c.shape Row l ≡ i = omega arith in z)

  pub begins_column : (j : ℕ) → IsFree c Column j b → (u : ℕ) → Next u (code Column j) → ⊥
  begins_column j free u (Column, l, h, e, f) = let z : ⊥ = omega arith in z
  begins_column j free u (Row, l, h, e, f) = free l h (let z : module_on c.shape Column l ≡ j = omega arith in z)

  -- a is free in row i, and b in column j: what the two chains have gone so far
  pub short : IsProperColouring c → (i j : ℕ) (ks ls : List Leg) → IsFree c Row i a → IsFree c Column j b → i < c.shape.modules → j < c.shape.modules
      → Walk c a b Row i ks → Walk c a b Column j ls → length ks + length ls + 2 ≤ 2 * c.shape.modules
  short p i j ks ls free clear li lj h g =
      let el = length_stops c.shape Row ks in
      let er = length_stops c.shape Column ls in
      let fit = both_fit Next (back p) (code Row i) (code Column j) (2 * c.shape.modules) (stops c.shape Row ks) (stops c.shape Column ls)
      (runs p Row i ks h) (runs p Column j ls g) (begins_row i free) (begins_column j clear) (λ e. let z : ⊥ = omega arith in z)
      (λ t le. stop_low p Row i ks h li t (omega arith)) (λ t le. stop_low p Column j ls g lj t (omega arith)) in
      omega arith

  comes_at : (s t : Side) (m n : ℕ) (ls : List Leg) → ComesTo c.shape s m ls t n → (q : ℕ) × (q ≤ length ls) × (get_or (code s m ∷ stops c.shape s ls) q 0 ≡ code t n)
  comes_at s t m n [] h = (0, omega arith, λ i. code (h.0 i) (h.1 i))
  comes_at s t m n (l ∷ ls) (inl h) = (0, omega arith, λ i. code (h.0 i) (h.1 i))
  comes_at s t m n (l ∷ ls) (inr h) = let r = comes_at (other s) t (module_on c.shape (other s) l) n ls h in (suc r.0, (let le = r.1 in omega arith), r.2)

  pub share_none : IsProperColouring c → (i j : ℕ) (ks ls : List Leg) → IsFree c Row i a → IsFree c Column j b → Walk c a b Row i ks → Walk c a b Column j ls
      → (t : Side) (n : ℕ) → ComesTo c.shape Row i ks t n → ComesTo c.shape Column j ls t n → ⊥
  share_none p i j ks ls free clear h g t n u v =
      let x = comes_at Row t i n ks u in
      let y = comes_at Column t j n ls v in
      let el = length_stops c.shape Row ks in
      let er = length_stops c.shape Column ls in
      never Next (back p) (code Row i) (code Column j) (stops c.shape Row ks) (stops c.shape Column ls) x.0 y.0 (runs p Row i ks h) (runs p Column j ls g) (begins_row i free) (begins_column j clear) (λ e. let z : ⊥ = omega arith in z)
      (let le = x.1 in omega arith) (let le = y.1 in omega arith) (x.2 ∙ sym y.2)

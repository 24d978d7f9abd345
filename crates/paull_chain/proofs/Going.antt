-- A walk that goes on, and ends.
use Rattle.std.proofs.Common.{◌≡◌, ℕ, suc, ◌+◌, ◌<◌, ◌≤◌, List, [], ◌∷◌, ◌++◌, drop, length, get_or, sym, ap, ◌∙◌, subst, arith, Bool, true, false, not, true≢false, append_assoc, length-append}
use Rattle.std.proofs.Math.Seq.{drop-cons}
use Rattle.dxc_num.specs.declared.port.Leg.{Leg}
use Rattle.roll_plan.specs.declared.op.Move.{Move}
use Rattle.paull_matrix.specs.declared.side.Side.{Side}
use Rattle.paull_chain.proofs.Exchanging.{join_length}
use Rattle.paull_chain.specs.Chains.{Chain, Walk, leave, other}
use Rattle.paull_chain.specs.Exchanges.{each_second, shifts}
use Rattle.paull_matrix.specs.Colourings.{Colouring, Holds, IsFree, IsProperColouring, module_on}

-- a chain's first legs lead from the row or column m of the side s to n of the side t
abbrev pub LeadsTo : Colouring → ℕ → ℕ → Side → ℕ → List Leg → Side → ℕ → Type 0
LeadsTo c a b s m [] t n = (s ≡ t) × (m ≡ n)
LeadsTo c a b s m (l ∷ ls) t n = Holds c l (leave a b s) × (module_on c.shape s l ≡ m) × LeadsTo c a b (other s) (module_on c.shape (other s) l) ls t n

module _ (c : Colouring) (a b : ℕ) where
  pub goes_more : (s t : Side) (m n : ℕ) (ls : List Leg) (l : Leg) → LeadsTo c a b s m ls t n → Holds c l (leave a b t) → module_on c.shape t l ≡ n → LeadsTo c a b s m (ls ++ l ∷ []) (other t) (module_on c.shape (other t) l)
  goes_more s t m n [] l h g e = (subst (λ (u : Side). Holds c l (leave a b u)) (sym h.0) g, (subst (λ (u : Side). module_on c.shape u l ≡ n) (sym h.0) e ∙ sym h.1), (ap other h.0, ap (λ (u : Side). module_on c.shape (other u) l) h.0))
  goes_more s t m n (x ∷ ls) l h g e = (h.0, h.1, goes_more (other s) t (module_on c.shape (other s) x) n ls l h.2 g e)

  pub goes_chain : (s t : Side) (m n : ℕ) (ls : List Leg) → LeadsTo c a b s m ls t n → IsFree c t n (leave a b t) → Chain c a b s m ls
  goes_chain s t m n [] h free = subst (λ (w : Side × ℕ). IsFree c w.0 w.1 (leave a b w.0)) (λ i. (sym h.0 i, sym h.1 i)) free
  goes_chain s t m n (x ∷ ls) h free = (h.0, h.1, goes_chain (other s) t (module_on c.shape (other s) x) n ls h.2 free)

  pub goes_walk : (s t : Side) (m n : ℕ) (ls : List Leg) → LeadsTo c a b s m ls t n → Walk c a b s m ls
  goes_walk s t m n [] h = tt
  goes_walk s t m n (x ∷ ls) h = (h.0, h.1, goes_walk (other s) t (module_on c.shape (other s) x) n ls h.2)

  -- a chain is no shorter than a walk from its beginning
  pub walk_within : IsProperColouring c → (s : Side) (m : ℕ) (ks ls : List Leg) → Walk c a b s m ks → Chain c a b s m ls → length ks ≤ length ls
  walk_within p s m [] ls h g = omega arith
  walk_within p s m (k ∷ ks) [] h g = absurd (g k h.0 h.1)
  walk_within p s m (k ∷ ks) (l ∷ ls) h g =
      let e : k ≡ l = p.apart s (leave a b s) k l h.0 g.0 (h.1 ∙ sym g.1) in
      let r = walk_within p (other s) (module_on c.shape (other s) k) ks ls h.2 (subst (λ (x : Leg). Chain c a b (other s) (module_on c.shape (other s) x) ls) (sym e) g.2) in omega arith

abbrev move_of : Leg → ℕ → ℕ → Move
move_of l k q = record { leg = l; from = record { 0 = k }; to = record { 0 = q } }

dropped : (xs : List Leg) (i : ℕ) (d : Leg) → i < length xs → drop i xs ≡ get_or xs i d ∷ drop (i + 1) xs
dropped xs i d h = drop-cons xs i d h ∙ ap (λ (j : ℕ). get_or xs i d ∷ drop j xs) (let e : suc i ≡ i + 1 = omega arith in e)

pub taken_on : (taken : Bool) (ms ns whole : List Move) (xs : List Leg) (i : ℕ) (d : Leg) (k q : ℕ) → i < length xs → taken ≡ true → ns ≡ ms ++ move_of (get_or xs i d) k q ∷ []
    → ms ++ shifts (each_second taken (drop i xs)) k q ≡ whole → ns ++ shifts (each_second (not taken) (drop (i + 1) xs)) k q ≡ whole
taken_on false ms ns whole xs i d k q h t e inv = absurd (true≢false (sym t))
taken_on true ms ns whole xs i d k q h t e inv =
    ap (λ (os : List Move). os ++ shifts (each_second false (drop (i + 1) xs)) k q) e
    ∙ (append_assoc ms (move_of (get_or xs i d) k q ∷ []) (shifts (each_second false (drop (i + 1) xs)) k q)
    ∙ (ap (λ (ys : List Leg). ms ++ shifts (each_second true ys) k q) (sym (dropped xs i d h)) ∙ inv))

pub left_on : (taken : Bool) (ms ns whole : List Move) (xs : List Leg) (i : ℕ) (d : Leg) (k q : ℕ) → i < length xs → taken ≡ false → ns ≡ ms
    → ms ++ shifts (each_second taken (drop i xs)) k q ≡ whole → ns ++ shifts (each_second (not taken) (drop (i + 1) xs)) k q ≡ whole
left_on true ms ns whole xs i d k q h t e inv = absurd (true≢false t)
left_on false ms ns whole xs i d k q h t e inv =
    ap (λ (os : List Move). os ++ shifts (each_second true (drop (i + 1) xs)) k q) e
    ∙ (ap (λ (ys : List Leg). ms ++ shifts (each_second false ys) k q) (sym (dropped xs i d h)) ∙ inv)

pub room_for : (taken first : Bool) (ms olds : List Move) (xs : List Leg) (i : ℕ) (d : Leg) (k q : ℕ) → i < length xs → taken ≡ true
    → ms ++ shifts (each_second taken (drop i xs)) k q ≡ olds ++ shifts (each_second first xs) k q → length olds + length (each_second first xs) ≤ 94 → length ms < 94
room_for false first ms olds xs i d k q h t inv le = absurd (true≢false (sym t))
room_for true first ms olds xs i d k q h t inv le =
    let a = join_length ms (each_second true (drop i xs)) k q in
    let b = join_length olds (each_second first xs) k q in
    let e = ap (λ (os : List Move). length os) inv in
    let f : length (each_second true (drop i xs)) ≡ suc (length (each_second false (drop (i + 1) xs))) = ap (λ (ys : List Leg). length (each_second true ys)) (dropped xs i d h) in omega arith

-- one leg more
pub further : (c : Colouring) (a b m n q : ℕ) (s t : Side) (ls ks : List Leg) → LeadsTo c a b s m ls t n
    → (l : Leg) × Holds c l (leave a b t) × (module_on c.shape t l ≡ n) × (ks ≡ ls ++ l ∷ []) × (q ≡ module_on c.shape (other t) l) → LeadsTo c a b s m ks (other t) q × (length ks ≡ length ls + 1)
further c a b m n q s t ls ks h e = (
  subst (λ (w : List Leg × ℕ). LeadsTo c a b s m w.0 (other t) w.1) (λ i. (sym e.3 i, sym e.4 i)) (goes_more c a b s t m n ls e.0 h e.1 e.2),
  ap (λ (x : List Leg). length x) e.3 ∙ length-append ls (e.0 ∷ []),
)

-- A chain's exchange over the spare.
use Rattle.std.proofs.Common.{◌≡◌, ◌≢◌, ◌⊎◌, ℕ, suc, ◌+◌, ◌/◌, ◌≤◌, List, [], ◌∷◌, ◌++◌, length, sym, refl, ap, ◌∙◌, inl, inr, subst, ⊎_elim, arith, true, false, length-append}
use Rattle.dxc_num.specs.declared.port.Leg.{Leg}
use Rattle.paull_matrix.specs.declared.side.Side.{Side}
use Rattle.roll_plan.specs.declared.op.Move.{Move}
use Rattle.paull_matrix.proofs.Legs.{same_leg}
use Rattle.paull_chain.proofs.Shifting.{Shifted, shift}
use Rattle.paull_chain.proofs.Seconds.{length_seconds, second_different, chain_walk, second_held, first_leg, near, came}
use Rattle.paull_chain.specs.Chains.{Chain, Walk, leave, other}
use Rattle.paull_chain.specs.Exchanges.{evens, exchange, odds, shifts}
use Rattle.paull_chain.specs.Paull.{Among, AreDifferent}
use Rattle.paull_chain.specs.Works.{AreValidMoves, after}
use Rattle.paull_matrix.specs.Colourings.{Colouring, Holds, IsEmpty, IsFree, IsProperColouring, IsUnused, module_on, with_leg}

pub valid_join : (ms ns : List Move) (c : Colouring) → AreValidMoves ms c → AreValidMoves ns (after ms c) → AreValidMoves (ms ++ ns) c
valid_join [] ns c h g = g
valid_join (m ∷ ms) ns c h g = (h.0, h.1, h.2, valid_join ms ns (with_leg m.leg m.to.0 c) h.3 g)

pub after_join : (ms ns : List Move) (c : Colouring) → after (ms ++ ns) c ≡ after ns (after ms c)
after_join [] ns c = refl
after_join (m ∷ ms) ns c = after_join ms ns (with_leg m.leg m.to.0 c)

-- what the exchange gives: legs of odd module_on on the other middle, legs of even module_on on the first
pub record Exchanged (c d : Colouring) (ls : List Leg) (k q : ℕ) : Type 0 where
  pub proper : IsProperColouring d
  pub shape : d.shape ≡ c.shape
  pub origin : (x : Leg) (r : ℕ) → Holds d x r → (Among x (evens ls) × (r ≡ k)) ⊎ (Among x (odds ls) × (r ≡ q)) ⊎ ((Among x (evens ls) → ⊥) × (Among x (odds ls) → ⊥) × Holds c x r)

module _ (c : Colouring) (a b : ℕ) (p : IsProperColouring c) where
  pub exchanges : (s : Side) (m t : ℕ) (ls : List Leg) → Chain c a b s m ls → AreDifferent ls → IsFree c s m (leave a b (other s)) → IsEmpty c t
      → t ≤ c.shape.slots → leave a b s ≤ c.shape.slots → leave a b (other s) ≤ c.shape.slots → leave a b s ≢ leave a b (other s) → leave a b s ≢ t → leave a b (other s) ≢ t
      → AreValidMoves (exchange ls (leave a b s) (leave a b (other s)) t) c × Exchanged c (after (exchange ls (leave a b s) (leave a b (other s)) t) c) ls (leave a b s) (leave a b (other s))
  exchanges s m t ls h different free empty lt lk lq apart kt qt =
      let k : ℕ = leave a b s in
      let q : ℕ = leave a b (other s) in
      let w = chain_walk c a b s m ls h in
      let odd = second_held c a b true s m ls w in
      let even = second_held c a b false s m ls w in
      let never : (x : Leg) → Among x (odds ls) → Among x (evens ls) → ⊥ = λ x u v. apart (same_leg c x x k q (odd x u) (even x v) refl).1 in
      let one = shift c (evens ls) q t p (second_different false ls different) lt even (λ x am u y g e. empty y g) in
      let c1 : Colouring = after (shifts (evens ls) q t) c in
      let r1 : Shifted c c1 (evens ls) t = one.1 in
      let z1 : c1.shape ≡ c.shape = r1.shape in
      let two = shift c1 (odds ls) k q r1.proper (second_different true ls different) (subst (λ (z : _). q ≤ z.slots) (sym z1) lq)
      (λ x am. r1.kept x k (odd x am) (never x am))
      (λ x am u y g e. ⊎_elim
      (λ (v : Among y (evens ls) × (q ≡ t)). qt v.1)
      (λ (v : (Among y (evens ls) → ⊥) × Holds c y q). ⊎_elim
      (λ (i : Among y (evens ls)). v.0 i)
      (λ (i : module_on c.shape s y ≡ m). free y v.1 i)
      (near c a b p true s m ls h x y u am v.1 (subst (λ (z : _). module_on z u y ≡ module_on z u x) z1 e)))
      (r1.origin y q g)) in
      let c2 : Colouring = after (shifts (odds ls) k q) c1 in
      let r2 : Shifted c1 c2 (odds ls) q = two.1 in
      let z2 : c2.shape ≡ c.shape = r2.shape ∙ z1 in
      let three = shift c2 (evens ls) t k r2.proper (second_different false ls different) (subst (λ (z : _). k ≤ z.slots) (sym z2) lk)
      (λ x am. r2.kept x t (r1.there x am) (λ i. never x i am))
      (λ x am u y g e. ⊎_elim
      (λ (v : Among y (odds ls) × (k ≡ q)). apart v.1)
      (λ (v : (Among y (odds ls) → ⊥) × Holds c1 y k). ⊎_elim
      (λ (i : Among y (evens ls) × (k ≡ t)). kt i.1)
      (λ (i : (Among y (evens ls) → ⊥) × Holds c y k). ⊎_elim
      (λ (o : Among y (odds ls)). v.0 o)
      (λ (o : ⊥). o)
      (near c a b p false s m ls h x y u am i.1 (subst (λ (z : _). module_on z u y ≡ module_on z u x) z2 e)))
      (r1.origin y k v.1))
      (r2.origin y k g)) in
      let c3 : Colouring = after (shifts (evens ls) t k) c2 in
      let r3 : Shifted c2 c3 (evens ls) k = three.1 in
      let ms : List Move = shifts (evens ls) q t in
      let ns : List Move = shifts (odds ls) k q in
      let os : List Move = shifts (evens ls) t k in
      let is : after (ms ++ (ns ++ os)) c ≡ c3 = after_join ms (ns ++ os) c ∙ after_join ns os c1 in
      let all : Exchanged c c3 ls k q = record {
        proper = r3.proper;
        shape = r3.shape ∙ z2;
        origin = λ x r g. ⊎_elim
            (λ (u : Among x (evens ls) × (r ≡ k)). inl u)
            (λ (u : (Among x (evens ls) → ⊥) × Holds c2 x r). ⊎_elim
            (λ (v : Among x (odds ls) × (r ≡ q)). inr (inl v))
            (λ (v : (Among x (odds ls) → ⊥) × Holds c1 x r). ⊎_elim
            (λ (i : Among x (evens ls) × (r ≡ t)). absurd (u.0 i.0))
            (λ (i : (Among x (evens ls) → ⊥) × Holds c x r). inr (inr (u.0, v.0, i.1)))
            (r1.origin x r v.1))
            (r2.origin x r u.1))
            (r3.origin x r g);
      } in
      (valid_join ms (ns ++ os) c one.0 (valid_join ns os c1 two.0 three.0), subst (λ (d : Colouring). Exchanged c d ls k q) (sym is) all)

  -- after it the first middle is free where the chain began, and wherever it was free on the other side
  pub frees : (s : Side) (m n t : ℕ) (ls : List Leg) (d : Colouring) → Chain c a b s m ls → IsFree c s m (leave a b (other s)) → IsFree c (other s) n (leave a b s) → IsEmpty c t
      → leave a b s ≢ leave a b (other s) → leave a b s ≢ t → leave a b (other s) ≢ t → Exchanged c d ls (leave a b s) (leave a b (other s))
      → IsFree d s m (leave a b s) × IsFree d (other s) n (leave a b s) × IsEmpty d t
  frees s m n t ls d h free clear empty apart kt qt r =
      let k : ℕ = leave a b s in
      let q : ℕ = leave a b (other s) in
      let w = chain_walk c a b s m ls h in (
        (λ y g e. ⊎_elim
            (λ (u : Among y (evens ls) × (k ≡ k)). free y (second_held c a b false s m ls w y u.0) (subst (λ (z : _). module_on z s y ≡ m) r.shape e))
            (⊎_elim
            (λ (u : Among y (odds ls) × (k ≡ q)). apart u.1)
            (λ (u : (Among y (evens ls) → ⊥) × (Among y (odds ls) → ⊥) × Holds c y k). u.1 (first_leg c a b p s m ls h y u.2 (subst (λ (z : _). module_on z s y ≡ m) r.shape e))))
            (r.origin y k g)),
        (λ y g e. ⊎_elim
            (λ (u : Among y (evens ls) × (k ≡ k)). let v = came c a b p false s m ls w y u.0 in clear v.0 v.1 (v.2 ∙ subst (λ (z : _). module_on z (other s) y ≡ n) r.shape e))
            (⊎_elim
            (λ (u : Among y (odds ls) × (k ≡ q)). apart u.1)
            (λ (u : (Among y (evens ls) → ⊥) × (Among y (odds ls) → ⊥) × Holds c y k). clear y u.2 (subst (λ (z : _). module_on z (other s) y ≡ n) r.shape e)))
            (r.origin y k g)),
        (λ y g. ⊎_elim
            (λ (u : Among y (evens ls) × (t ≡ k)). kt (sym u.1))
            (⊎_elim
            (λ (u : Among y (odds ls) × (t ≡ q)). qt (sym u.1))
            (λ (u : (Among y (evens ls) → ⊥) × (Among y (odds ls) → ⊥) × Holds c y t). empty y u.2))
            (r.origin y t g)),
      )

  pub still_unused : (s : Side) (m : ℕ) (ls : List Leg) (d : Colouring) (l : Leg) (k q : ℕ) → Walk c a b s m ls → Exchanged c d ls k q → IsUnused c l → IsUnused d l
  still_unused s m ls d l k q w r free = record {
    output = λ x j g. let h = back x j g in free.output x h.0 h.1;
    input = λ x j g. let h = back x j g in free.input x h.0 h.1;
  }
    where
      back : (x : Leg) (j : ℕ) → Holds d x j → (i : ℕ) × Holds c x i
      back x j g = ⊎_elim
          (λ (u : Among x (evens ls) × (j ≡ k)). (leave a b (other s), second_held c a b false s m ls w x u.0))
          (⊎_elim
          (λ (u : Among x (odds ls) × (j ≡ q)). (leave a b s, second_held c a b true s m ls w x u.0))
          (λ (u : (Among x (evens ls) → ⊥) × (Among x (odds ls) → ⊥) × Holds c x j). (j, u.2)))
          (r.origin x j g)

seconds : (ls : List Leg) (k q : ℕ) → length (shifts ls k q) ≡ length ls
seconds [] k q = refl
seconds (l ∷ ls) k q = ap suc (seconds ls k q)

pub length_exchange : (ls : List Leg) (k q t : ℕ) → length (exchange ls k q t) ≡ length ls + length ls / 2
length_exchange ls k q t =
    let n = length_seconds ls in
    let o = n.0 in
    let e = n.1 in
    let first : length (shifts (evens ls) q t) ≡ length (evens ls) = seconds (evens ls) _ _ in
    let second : length (shifts (odds ls) k q) ≡ length (odds ls) = seconds (odds ls) _ _ in
    let third : length (shifts (evens ls) t k) ≡ length (evens ls) = seconds (evens ls) _ _ in
    let join = length-append (shifts (evens ls) q t) (shifts (odds ls) k q ++ shifts (evens ls) t k) in
    let more = length-append (shifts (odds ls) k q) (shifts (evens ls) t k) in
    omega arith

pub join_length : (ms : List Move) (ls : List Leg) (k q : ℕ) → length (ms ++ shifts ls k q) ≡ length ms + length ls
join_length ms ls k q = let a = length-append ms (shifts ls k q) in let b = seconds ls k q in omega arith

-- The legs of odd and of even module_on of a chain.
use Rattle.std.proofs.Common.{◌≡◌, ◌≢◌, ◌⊎◌, ℕ, zero, suc, ◌+◌, ◌/◌, ◌<◌, List, [], ◌∷◌, length, get_or, sym, refl, ap, ◌∙◌, inl, inr, subst, ⊎_elim, arith, Bool, true, false, not}
use mathlib.Core.Option.{some, some-injective, some-ne-none}
use lib.ListN.{get_elem?}
use Rattle.dxc_num.specs.declared.port.Leg.{Leg}
use Rattle.paull_matrix.specs.declared.side.Side.{Side}
use Rattle.paull_matrix.specs.declared.side.Side.TheVariants.{Row, Column}
use Rattle.paull_chain.proofs.Bound.{code, stops, length_stops, Next, back, runs}
use Rattle.paull_chain.proofs.Paths.{once}
use Rattle.paull_matrix.proofs.Legs.{same_leg}
use Rattle.paull_chain.specs.Chains.{Chain, Walk, leave, other}
use Rattle.paull_chain.specs.Exchanges.{each_second}
use Rattle.paull_chain.specs.Paull.{Among, AreDifferent}
use Rattle.paull_matrix.specs.Colourings.{Colouring, Holds, IsProperColouring, module_on}

pub twice : (s : Side) → other (other s) ≡ s
twice Row = refl
twice Column = refl

abbrev pub turn : Bool → Side → Side
turn true s = s
turn false s = other s

pub which : (s t : Side) → (t ≡ s) ⊎ (t ≡ other s)
which Row Row = inl refl
which Row Column = inr refl
which Column Row = inr refl
which Column Column = inl refl

pub length_seconds : (ls : List Leg) → (length (each_second true ls) ≡ (length ls + 1) / 2) × (length (each_second false ls) ≡ length ls / 2)
length_seconds [] = (refl, refl)
length_seconds (l ∷ ls) = let h = length_seconds ls in let a = h.0 in let b = h.1 in (omega arith, omega arith)

pub in_second : (f : Bool) (ls : List Leg) (x : Leg) → Among x (each_second f ls) → Among x ls
in_second f [] x h = absurd h
in_second true (l ∷ ls) x (inl h) = inl h
in_second true (l ∷ ls) x (inr h) = inr (in_second false ls x h)
in_second false (l ∷ ls) x h = inr (in_second true ls x h)

pub second_different : (f : Bool) (ls : List Leg) → AreDifferent ls → AreDifferent (each_second f ls)
second_different f [] d = tt
second_different true (l ∷ ls) d = ((λ x h. d.0 x (in_second false ls x h)), second_different false ls d.1)
second_different false (l ∷ ls) d = second_different true ls d.1

among_at : (ls : List Leg) (x : Leg) → Among x ls → (q : ℕ) × (get_elem? ls q ≡ some x)
among_at [] x h = absurd h
among_at (l ∷ ls) x (inl h) = (0, ap some h)
among_at (l ∷ ls) x (inr h) = let r = among_at ls x h in (suc r.0, r.1)

different_from : (ls : List Leg) → ((p q : ℕ) (x y : Leg) → get_elem? ls p ≡ some x → get_elem? ls q ≡ some y → x.output.0 ≡ y.output.0 → p ≡ q) → AreDifferent ls
different_from [] h = tt
different_from (l ∷ ls) h = (
  (λ x am e. let r = among_at ls x am in let z : suc r.0 ≡ 0 = h (suc r.0) 0 x l r.1 refl e in absurd (let n : ⊥ = omega arith in n)),
  different_from ls (λ p q x y u v e. let z : suc p ≡ suc q = h (suc p) (suc q) x y u v e in omega arith),
)

at_low : (ls : List Leg) (q : ℕ) (x : Leg) → get_elem? ls q ≡ some x → q < length ls
at_low [] q x e = absurd (some-ne-none x (sym e))
at_low (l ∷ ls) zero x e = omega arith
at_low (l ∷ ls) (suc q) x e = let h = at_low ls q x e in omega arith

module _ (c : Colouring) (a b : ℕ) where
  pub chain_walk : (s : Side) (m : ℕ) (ls : List Leg) → Chain c a b s m ls → Walk c a b s m ls
  chain_walk s m [] h = tt
  chain_walk s m (l ∷ ls) h = (h.0, h.1, chain_walk (other s) (module_on c.shape (other s) l) ls h.2)

  pub second_held : (f : Bool) (s : Side) (m : ℕ) (ls : List Leg) → Walk c a b s m ls → (x : Leg) → Among x (each_second f ls) → Holds c x (leave a b (turn f s))
  second_held f s m [] h x am = absurd am
  second_held true s m (l ∷ ls) h x (inl e) = subst (λ (o : Leg). Holds c o (leave a b s)) e h.0
  second_held true s m (l ∷ ls) h x (inr am) = subst (λ (t : Side). Holds c x (leave a b t)) (twice s) (second_held false (other s) (module_on c.shape (other s) l) ls h.2 x am)
  second_held false s m (l ∷ ls) h x am = second_held true (other s) (module_on c.shape (other s) l) ls h.2 x am

module _ (c : Colouring) (a b : ℕ) (p : IsProperColouring c) where
  -- a leg of the chain, with the side that it leaves
  stop_of : (s : Side) (m : ℕ) (ls : List Leg) (q : ℕ) (x : Leg) → Walk c a b s m ls → get_elem? ls q ≡ some x
      → (t : Side) × Holds c x (leave a b t) × (get_or (stops c.shape s ls) q 0 ≡ code (other t) (module_on c.shape (other t) x))
  stop_of s m [] q x h e = absurd (some-ne-none x (sym e))
  stop_of s m (l ∷ ls) zero x h e = subst (λ (o : Leg). (t : Side) × Holds c o (leave a b t) × (get_or (stops c.shape s (l ∷ ls)) 0 0 ≡ code (other t) (module_on c.shape (other t) o))) (some-injective l x e) (s, h.0, refl)
  stop_of s m (l ∷ ls) (suc q) x h e = stop_of (other s) (module_on c.shape (other s) l) ls q x h.2 e

  same_side : (s t : Side) → a ≢ b → leave a b s ≡ leave a b t → s ≡ t
  same_side Row Row d e = refl
  same_side Row Column d e = absurd (d (sym e))
  same_side Column Row d e = absurd (d e)
  same_side Column Column d e = refl

  pub walk_different : (s : Side) (m : ℕ) (ls : List Leg) → a ≢ b → ((u : ℕ) → Next c a b u (code s m) → ⊥) → Walk c a b s m ls → AreDifferent ls
  walk_different s m ls d first h = different_from ls (λ i j x y u v e.
      let f = stop_of s m ls i x h u in
      let g = stop_of s m ls j y h v in
      let same = same_leg c x y (leave a b f.0) (leave a b g.0) f.1 g.1 e in
      let side : f.0 ≡ g.0 = same_side f.0 g.0 d same.1 in
      let n = length_stops c.shape s ls in
      let lx = at_low ls i x u in
      let ly = at_low ls j y v in
      let both : get_or (stops c.shape s ls) i 0 ≡ get_or (stops c.shape s ls) j 0 = f.2 ∙ ((λ t. code (other (side t)) (module_on c.shape (other (side t)) (same.0 t))) ∙ sym g.2) in
      let z : suc i ≡ suc j = once (Next c a b) (back c a b p) (code s m) (stops c.shape s ls) (suc i) (suc j) (runs c a b p s m ls h) first (omega arith) (omega arith) both in
      omega arith)

  -- the leg with which a chain begins, if there is one
  pub first_leg : (s : Side) (m : ℕ) (ls : List Leg) → Chain c a b s m ls → (y : Leg) → Holds c y (leave a b s) → module_on c.shape s y ≡ m → Among y (each_second true ls)
  first_leg s m [] h y g e = absurd (h y g e)
  first_leg s m (l ∷ ls) h y g e = inl (p.apart s (leave a b s) l y h.0 g (h.1 ∙ sym e))

  abbrev pub Entry : Bool → Side → ℕ → Leg → Type 0
  Entry true s m y = module_on c.shape s y ≡ m
  Entry false s m y = ⊥

  -- a leg on the other middle that meets a leg of the chain is a leg of the chain, unless it stands where the chain begins
  pub near : (f : Bool) (s : Side) (m : ℕ) (ls : List Leg) → Chain c a b s m ls → (x y : Leg) (t : Side) → Among x (each_second f ls) → Holds c y (leave a b (turn (not f) s)) → module_on c.shape t y ≡ module_on c.shape t x
      → Among y (each_second (not f) ls) ⊎ Entry f s m y
  near f s m [] h x y t am g e = absurd am
  near true s m (l ∷ ls) h x y t (inl is) g e = ⊎_elim
      (λ (d : t ≡ s). inr (subst (λ (u : Side). module_on c.shape u y ≡ module_on c.shape u l) d (e ∙ ap (module_on c.shape t) (sym is)) ∙ h.1))
      (λ (d : t ≡ other s). inl (first_leg (other s) (module_on c.shape (other s) l) ls h.2 y g (subst (λ (u : Side). module_on c.shape u y ≡ module_on c.shape u l) d (e ∙ ap (module_on c.shape t) (sym is)))))
      (which s t)
  near true s m (l ∷ ls) h x y t (inr am) g e = ⊎_elim (λ (r : Among y (each_second true ls)). inl r) (λ (r : ⊥). absurd r) (near false (other s) (module_on c.shape (other s) l) ls h.2 x y t am g e)
  near false s m (l ∷ ls) h x y t am g e = ⊎_elim
      (λ (r : Among y (each_second false ls)). inl (inr r))
      (λ (r : module_on c.shape (other s) y ≡ module_on c.shape (other s) l). inl (inl (p.apart (other s) (leave a b s) l y h.0 g (sym r))))
      (near true (other s) (module_on c.shape (other s) l) ls h.2 x y t am (subst (λ (u : Side). Holds c y (leave a b u)) (sym (twice s)) g) e)

  abbrev pub Came : Bool → Side → ℕ → Leg → Type 0
  Came true s m x = (module_on c.shape s x ≡ m) ⊎ ((y : Leg) × Holds c y (leave a b (other s)) × (module_on c.shape s y ≡ module_on c.shape s x))
  Came false s m x = (y : Leg) × Holds c y (leave a b s) × (module_on c.shape (other s) y ≡ module_on c.shape (other s) x)

  -- the leg before
  pub came : (f : Bool) (s : Side) (m : ℕ) (ls : List Leg) → Walk c a b s m ls → (x : Leg) → Among x (each_second f ls) → Came f s m x
  came f s m [] h x am = absurd am
  came true s m (l ∷ ls) h x (inl e) = inl (ap (module_on c.shape s) (sym e) ∙ h.1)
  came true s m (l ∷ ls) h x (inr am) = let r = came false (other s) (module_on c.shape (other s) l) ls h.2 x am in inr (r.0, r.1, subst (λ (u : Side). module_on c.shape u r.0 ≡ module_on c.shape u x) (twice s) r.2)
  came false s m (l ∷ ls) h x am = ⊎_elim
      (λ (e : module_on c.shape (other s) x ≡ module_on c.shape (other s) l). (l, h.0, sym e))
      (λ (r : (y : Leg) × Holds c y (leave a b (other (other s))) × (module_on c.shape (other s) y ≡ module_on c.shape (other s) x)). (r.0, subst (λ (u : Side). Holds c r.0 (leave a b u)) (twice s) r.1, r.2))
      (came true (other s) (module_on c.shape (other s) l) ls h.2 x am)

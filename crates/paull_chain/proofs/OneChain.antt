-- A chain whose exchange lets its leg be joined is the only one from there, whatever else the colouring is.
use Rattle.std.proofs.Common.{◌≡◌, ◌≢◌, ◌⊎◌, ℕ, ◌<◌, List, [], ◌∷◌, ◌++◌, length, sym, refl, ap, ◌∙◌, inl, inr, subst, ⊎_elim, arith, true, false, None}
use Rattle.std.proofs.lemmas.List.{get_or_past}
use mathlib.Core.Logic.{dite}
use native.Mathlib.Decide.{ℕ_discrete}
use Rattle.std.proofs.Math.Decide.{dec_lt}
use Rattle.dxc_num.specs.declared.port.Leg.{Leg}
use Rattle.dxc_num.specs.Dimensions.{Dimensions}
use Rattle.paull_matrix.specs.declared.side.Side.{Side}
use Rattle.paull_matrix.specs.Colourings.{Colouring, Holds, IsProperColouring, IsUnused, module_on, with_leg}
use Rattle.paull_matrix.proofs.Legs.{held_else, held_here, none_some, same_leg}
use Rattle.paull_chain.specs.Chains.{Chain, leave, other}
use Rattle.paull_chain.specs.Exchanges.{evens, exchange, odds, shifts}
use Rattle.paull_chain.specs.Paull.{Among, CanJoin}
use Rattle.paull_chain.specs.Works.{AreValidMoves, after}
use Rattle.paull_chain.proofs.Seconds.{chain_walk, second_held, twice}
use Rattle.paull_chain.proofs.Exchanging.{after_join}
use Rattle.paull_chain.proofs.Planned.{after_shape}
use Rattle.paull_chain.proofs.Undoing.{valid_before}

in_routes : (c : Colouring) (x : Leg) (k : ℕ) → Holds c x k → x.output.0 < length c.routes
in_routes c x k h = dite (dec_lt x.output.0 (length c.routes)) (λ lt. lt) (λ no. absurd (none_some (sym (get_or_past c.routes x.output.0 None (omega arith)) ∙ h)))

put_on : (c : Colouring) (y x : Leg) (k t : ℕ) → Holds c y k → Holds c x t → Holds (with_leg y t c) x t
put_on c y x k t g h = dite (ℕ_discrete x.output.0 y.output.0)
    (λ e. subst (λ (z : Leg). Holds (with_leg y t c) z t) (sym (same_leg c x y t k h g e).0) (held_here c y t (in_routes c y k g)))
    (λ no. held_else c y x t t no h)

-- of legs that are shifted from k to t: one that is on t stays
stays : (c : Colouring) (ls : List Leg) (k t : ℕ) (x : Leg) → AreValidMoves (shifts ls k t) c → Holds c x t → Holds (after (shifts ls k t) c) x t
stays c [] k t x v h = h
stays c (y ∷ ys) k t x v h = stays (with_leg y t c) ys k t x v.3 (put_on c y x k t v.0 h)

-- each of them comes to t
comes : (c : Colouring) (ls : List Leg) (k t : ℕ) (x : Leg) → AreValidMoves (shifts ls k t) c → Among x ls → Holds (after (shifts ls k t) c) x t
comes c [] k t x v i = absurd i
comes c (y ∷ ys) k t x v (inl e) = stays (with_leg y t c) ys k t x v.3 (subst (λ (z : Leg). Holds (with_leg y t c) z t) e (held_here c y t (in_routes c y k v.0)))
comes c (y ∷ ys) k t x v (inr i) = comes (with_leg y t c) ys k t x v.3 i

-- any other leg stays where it is
or_stays : (c : Colouring) (ls : List Leg) (k t : ℕ) (x : Leg) (j : ℕ) → AreValidMoves (shifts ls k t) c → Holds c x j → Among x ls ⊎ Holds (after (shifts ls k t) c) x j
or_stays c [] k t x j v h = inr h
or_stays c (y ∷ ys) k t x j v h = dite (ℕ_discrete x.output.0 y.output.0)
    (λ e. inl (inl (sym (same_leg c x y j k h v.0 e).0)))
    (λ no. ⊎_elim (λ (i : Among x ys). inl (inr i)) (λ (g : Holds (after (shifts ys k t) (with_leg y t c)) x j). inr g) (or_stays (with_leg y t c) ys k t x j v.3 (held_else c y x t j no h)))

-- from c to d the legs of `here` go from k to q, those of `there` from q to k, and no other leg leaves k or q
record Swaps (c d : Colouring) (here there : List Leg) (k q : ℕ) : Type 0 where
  pub from_here : (x : Leg) → Among x here → Holds d x q
  pub from_there : (x : Leg) → Among x there → Holds d x k
  pub on_k : (x : Leg) → Holds c x k → Among x here ⊎ Holds d x k
  pub on_q : (x : Leg) → Holds c x q → Among x there ⊎ Holds d x q
  pub apart : (s : Side) (j : ℕ) (x y : Leg) → Holds d x j → Holds d y j → module_on c.shape s x ≡ module_on c.shape s y → x ≡ y
  pub differ : k ≢ q

swaps_back : {c d : Colouring} {here there : List Leg} {k q : ℕ} → Swaps c d here there k q → Swaps c d there here q k
swaps_back w = record { from_here = w.from_there; from_there = w.from_here; on_k = w.on_q; on_q = w.on_k; apart = w.apart; differ = λ e. w.differ (sym e) }

-- whatever may follow on the chain is the leg that was exchanged there
one_chain : (c d : Colouring) (a b : ℕ) (s : Side) (m : ℕ) (here there ks ls : List Leg) → Swaps c d here there (leave a b s) (leave a b (other s))
    → ((x : Leg) → Holds c x (leave a b s) → module_on c.shape s x ≡ m → Among x here)
    → ((x : Leg) → Among x (odds ks) → Among x here) → ((x : Leg) → Among x (evens ks) → Among x there)
    → Chain c a b s m ks → Chain c a b s m ls → ks ≡ ls
one_chain c d a b s m here there [] [] w taken odd even h g = refl
one_chain c d a b s m here there [] (x ∷ ls) w taken odd even h g = absurd (h x g.0 g.1)
one_chain c d a b s m here there (y ∷ ks) [] w taken odd even h g = absurd (g y h.0 h.1)
one_chain c d a b s m here there (y ∷ ks) (x ∷ ls) w taken odd even h g =
    let gone = w.from_here y (odd y (inl refl)) in
    let same : y ≡ x = w.apart s (leave a b (other s)) y x gone (w.from_here x (taken x g.0 g.1)) (h.1 ∙ sym g.1) in
    let rest = one_chain c d a b (other s) (module_on c.shape (other s) y) there here ks ls
    (subst (λ (u : Side). Swaps c d there here (leave a b (other s)) (leave a b u)) (sym (twice s)) (swaps_back w))
    (λ z on at. ⊎_elim (λ (i : Among z there). i) (λ (still : Holds d z (leave a b (other s))). absurd (w.differ (sym (same_leg c z y (leave a b (other s)) (leave a b s) on h.0 (ap (λ (o : Leg). o.output.0) (w.apart (other s) (leave a b (other s)) z y still gone at))).1))) (w.on_q z on))
    even
    (λ z i. odd z (inr i))
    h.2
    (subst (λ (z : Leg). Chain c a b (other s) (module_on c.shape (other s) z) ls) (sym same) g.2) in
    λ i. same i ∷ rest i

-- what an exchange does, after which the leg l can be joined on k
module _ (c : Colouring) (l : Leg) (ls : List Leg) (k q : ℕ) (can : CanJoin c l (exchange ls k q c.shape.slots) k) where
  abbrev t : ℕ
  t = c.shape.slots

  abbrev one : Colouring
  one = after (shifts (evens ls) q t) c

  abbrev two : Colouring
  two = after (shifts (odds ls) k q) one

  abbrev three : Colouring
  three = after (shifts (evens ls) t k) two

  is_three : after (exchange ls k q t) c ≡ three
  is_three = after_join (shifts (evens ls) q t) (shifts (odds ls) k q ++ shifts (evens ls) t k) c ∙ after_join (shifts (odds ls) k q) (shifts (evens ls) t k) one

  three_shape : three.shape ≡ c.shape
  three_shape = after_shape (shifts (evens ls) t k) two ∙ after_shape (shifts (odds ls) k q) one ∙ after_shape (shifts (evens ls) q t) c

  first : AreValidMoves (shifts (evens ls) q t) c × AreValidMoves (shifts (odds ls) k q ++ shifts (evens ls) t k) one
  first = valid_before (shifts (evens ls) q t) (shifts (odds ls) k q ++ shifts (evens ls) t k) c can.valid

  second : AreValidMoves (shifts (odds ls) k q) one × AreValidMoves (shifts (evens ls) t k) two
  second = valid_before (shifts (odds ls) k q) (shifts (evens ls) t k) one first.1

  proper : IsProperColouring (with_leg l k three)
  proper = subst (λ (d : Colouring). IsProperColouring (with_leg l k d)) is_three can.proper

  unused : IsUnused three l
  unused = subst (λ (d : Colouring). IsUnused d l) is_three can.unused

  on_three : (s : Side) (x : Leg) → module_on three.shape s x ≡ module_on c.shape s x
  on_three s x = ap (λ (z : Dimensions). module_on z s x) three_shape

  apart_in : (s : Side) (j : ℕ) (x y : Leg) → Holds three x j → Holds three y j → module_on c.shape s x ≡ module_on c.shape s y → x ≡ y
  apart_in s j x y h g e = proper.apart s j x y (held_else three l x k j (unused.output x j h) h) (held_else three l y k j (unused.output y j g) g) (on_three s x ∙ e ∙ sym (on_three s y))

  odd_goes : ((x : Leg) → Among x (odds ls) → Holds c x k) → ((x : Leg) → Among x (evens ls) → Holds c x q) → k ≢ q → (x : Leg) → Among x (odds ls) → Holds three x q
  odd_goes odd even differ x i = ⊎_elim
      (λ (e : Among x (evens ls)). absurd (differ (same_leg c x x k q (odd x i) (even x e) refl).1))
      (λ (h : Holds three x q). h)
      (or_stays two (evens ls) t k x q second.1 (comes one (odds ls) k q x second.0 i))

  even_goes : (x : Leg) → Among x (evens ls) → Holds three x k
  even_goes x i = comes two (evens ls) t k x second.1 i

  k_stays : (x : Leg) → Holds c x k → Among x (odds ls) ⊎ Holds three x k
  k_stays x h = ⊎_elim
      (λ (e : Among x (evens ls)). inr (even_goes x e))
      (λ (f : Holds one x k). ⊎_elim
      (λ (i : Among x (odds ls)). inl i)
      (λ (g : Holds two x k). inr (stays two (evens ls) t k x second.1 g))
      (or_stays one (odds ls) k q x k second.0 f))
      (or_stays c (evens ls) q t x k first.0 h)

  q_stays : (x : Leg) → Holds c x q → Among x (evens ls) ⊎ Holds three x q
  q_stays x h = ⊎_elim
      (λ (e : Among x (evens ls)). inl e)
      (λ (f : Holds one x q). or_stays two (evens ls) t k x q second.1 (stays one (odds ls) k q x second.0 f))
      (or_stays c (evens ls) q t x q first.0 h)

  swaps : ((x : Leg) → Among x (odds ls) → Holds c x k) → ((x : Leg) → Among x (evens ls) → Holds c x q) → k ≢ q → Swaps c three (odds ls) (evens ls) k q
  swaps odd even differ = record { from_here = odd_goes odd even differ; from_there = even_goes; on_k = k_stays; on_q = q_stays; apart = apart_in; differ = differ }

  -- only a leg of odd place is on k where l is to be joined
  taken : (s : Side) (x : Leg) → Holds c x k → module_on c.shape s x ≡ module_on c.shape s l → Among x (odds ls)
  taken s x on at = ⊎_elim
      (λ (i : Among x (odds ls)). i)
      (λ (still : Holds three x k). absurd (can.free s x (subst (λ (d : Colouring). Holds d x k) (sym is_three) still) (module_in x ∙ at ∙ sym (module_in l))))
      (k_stays x on)
    where
      module_in : (y : Leg) → module_on (after (exchange ls k q t) c).shape s y ≡ module_on c.shape s y
      module_in y = ap (λ (z : Dimensions). module_on z s y) (after_shape (exchange ls k q t) c)

-- the chain that is exchanged before a join is the only one from the leg's row or column
pub only_chain : (c : Colouring) (l : Leg) (a b : ℕ) (s : Side) (ks ls : List Leg) → leave a b s ≢ leave a b (other s) → CanJoin c l (exchange ks (leave a b s) (leave a b (other s)) c.shape.slots) (leave a b s)
    → Chain c a b s (module_on c.shape s l) ks → Chain c a b s (module_on c.shape s l) ls → ks ≡ ls
only_chain c l a b s ks ls differ can h g =
    let k : ℕ = leave a b s in
    let q : ℕ = leave a b (other s) in
    let m : ℕ = module_on c.shape s l in
    let walk = chain_walk c a b s m ks h in
    one_chain c (three c l ks k q can) a b s m (odds ks) (evens ks) ks ls
    (swaps c l ks k q can (second_held c a b true s m ks walk) (second_held c a b false s m ks walk) differ)
    (taken c l ks k q can s)
    (λ x i. i)
    (λ x i. i)
    h
    g

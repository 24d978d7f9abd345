-- A new leg can always be joined.
use Rattle.std.proofs.Common.{◌≡◌, ◌≢◌, ◌⊎◌, ℕ, zero, suc, ◌+◌, ◌*◌, ◌<◌, ◌≤◌, List, [], ◌∷◌, length, sym, refl, ap, ◌∙◌, inl, inr, subst, ⊎_elim, arith, Option, Some, None}
use mathlib.Core.Logic.{dite}
use native.Mathlib.Decide.{ℕ_discrete}
use Rattle.std.proofs.Math.Decide.{dec_lt}
use Rattle.dxc_num.specs.declared.port.Leg.{Leg}
use Rattle.dxc_num.specs.declared.port.Route.{Route}
use Rattle.paull_matrix.specs.declared.side.Side.{Side}
use Rattle.paull_matrix.specs.declared.side.Side.TheVariants.{Row, Column}
use Rattle.roll_plan.specs.declared.op.Move.{Move}
use Rattle.paull_chain.proofs.Bound.{code, Next, begins_row, begins_column, short}
use Rattle.paull_matrix.proofs.Legs.{same_leg, with_leg_proper, module_low}
use Rattle.paull_chain.proofs.Seconds.{which, chain_walk, walk_different}
use Rattle.paull_chain.proofs.Exchanging.{Exchanged, exchanges, frees, still_unused, length_exchange}
use Rattle.dxc_num.specs.Dimensions.{Dimensions, IsInside, leg, ports, route}
use Rattle.paull_chain.specs.Chains.{Chain, Walk, leave, other}
use Rattle.paull_chain.specs.Exchanges.{exchange}
use Rattle.paull_chain.specs.Paull.{Among, AreDifferent, CanJoin, HasFewer, IsRearrangeable}
use Rattle.paull_chain.specs.Works.{after}
use Rattle.paull_matrix.specs.Colourings.{Colouring, Holds, IsEmpty, IsFree, IsFreeFor, IsProperColouring, IsUnused, module_on, route_at}

none_some : {w : Route} → None ≡ Some w → ⊥
none_some e = cc

routes_same : {v w : Route} → Some v ≡ Some w → v ≡ w
routes_same e = cc

module _ (c : Colouring) where
  abbrev IsThere : Side → ℕ → ℕ → Type 0
  IsThere s m k = (l : Leg) × Holds c l k × (module_on c.shape s l ≡ m)

  look : (s : Side) (m k n : ℕ) → ((l : Leg) → l.output.0 < n → Holds c l k → module_on c.shape s l ≢ m) → (o : Option Route) → route_at c n ≡ o → IsThere s m k ⊎ ((l : Leg) → l.output.0 < suc n → Holds c l k → module_on c.shape s l ≢ m)
  look s m k n none None e = inr (λ l h g d. dite (ℕ_discrete l.output.0 n) (λ is. none_some (sym e ∙ (ap (route_at c) (sym is) ∙ g))) (λ no. none l (omega arith) g d))
  look s m k n none (Some w) e = dite (ℕ_discrete w.middle.0 k)
      (λ same. dite (ℕ_discrete (module_on c.shape s (leg w.input.0 n)) m)
      (λ there. inl (leg w.input.0 n, e ∙ ap (λ (j : ℕ). Some (route w.input.0 j)) same, there))
      (λ away. inr (λ l h g d. dite (ℕ_discrete l.output.0 n) (λ is. away (ap (module_on c.shape s) (sym (same_leg c l (leg w.input.0 n) k w.middle.0 g e is).0) ∙ d)) (λ no. none l (omega arith) g d))))
      (λ differs. inr (λ l h g d. dite (ℕ_discrete l.output.0 n) (λ is. differs (sym (same_leg c l (leg w.input.0 n) k w.middle.0 g e is).1)) (λ no. none l (omega arith) g d)))

  seek_below : (s : Side) (m k n : ℕ) → IsThere s m k ⊎ ((l : Leg) → l.output.0 < n → Holds c l k → module_on c.shape s l ≢ m)
  seek_below s m k zero = inr (λ l h g d. let z : ⊥ = omega arith in z)
  seek_below s m k (suc n) = ⊎_elim (λ (f : IsThere s m k). inl f) (λ (none : (l : Leg) → l.output.0 < n → Holds c l k → module_on c.shape s l ≢ m). look s m k n none (route_at c n) refl) (seek_below s m k n)

  -- the middle is used in this row or column, or free
  pub seek : IsProperColouring c → (s : Side) (m k : ℕ) → ((l : Leg) × Holds c l k × (module_on c.shape s l ≡ m)) ⊎ IsFree c s m k
  seek p s m k = ⊎_elim (λ (f : IsThere s m k). inl f) (λ (none : (l : Leg) → l.output.0 < ports c.shape → Holds c l k → module_on c.shape s l ≢ m). inr (λ l g. none l ((p.inside l k g).0.output) g)) (seek_below s m k (ports c.shape))

  abbrev Full : Side → ℕ → ℕ → Type 0
  Full s m n = (ls : List Leg) × (length ls ≡ n) × AreDifferent ls × ((x : Leg) → Among x ls → (k : ℕ) × (k < n) × Holds c x k × (module_on c.shape s x ≡ m))

  collect : IsProperColouring c → (s : Side) (m n : ℕ) → ((k : ℕ) × (k < n) × IsFree c s m k) ⊎ Full s m n
  collect p s m zero = inr ([], refl, tt, λ x h. absurd h)
  collect p s m (suc n) = ⊎_elim
      (λ (f : (k : ℕ) × (k < n) × IsFree c s m k). inl (f.0, (let h = f.1 in omega arith), f.2))
      (λ (f : Full s m n). ⊎_elim
      (λ (t : (l : Leg) × Holds c l n × (module_on c.shape s l ≡ m)). inr (
        t.0 ∷ f.0,
        ap suc f.1,
        ((λ x h e. let g = f.3 x h in let z = (same_leg c x t.0 g.0 n g.2 t.1 e).1 in let low = g.1 in let no : ⊥ = omega arith in no), f.2),
        (λ x h. ⊎_elim (λ (e : t.0 ≡ x). (n, omega arith, subst (λ (o : Leg). Holds c o n) e t.1, ap (module_on c.shape s) (sym e) ∙ t.2)) (λ (i : Among x f.0). let g = f.3 x i in (g.0, (let low = g.1 in omega arith), g.2, g.3)) h),
      ))
      (λ (free : IsFree c s m n). inl (n, omega arith, free))
      (seek p s m n))
      (collect p s m n)

  -- where fewer than n legs stand, one of n middles is free
  pub some_free : IsProperColouring c → (s : Side) (m n : ℕ) → HasFewer c s m n → (k : ℕ) × (k < n) × IsFree c s m k
  some_free p s m n few = ⊎_elim (λ (f : (k : ℕ) × (k < n) × IsFree c s m k). f)
      (λ (f : Full s m n). let h = few f.0 f.2 (λ x i. let g = f.3 x i in (g.0, g.2, g.3)) in let e = f.1 in let z : ⊥ = omega arith in absurd z) (collect p s m n)

  module _ (a b : ℕ) (p : IsProperColouring c) where
    -- a chain, or n legs of it
    grow : (n : ℕ) (s : Side) (m : ℕ) → ((ls : List Leg) × Chain c a b s m ls) ⊎ ((ls : List Leg) × Walk c a b s m ls × (length ls ≡ n))
    grow zero s m = inr ([], tt, refl)
    grow (suc n) s m = ⊎_elim
        (λ (t : (l : Leg) × Holds c l (leave a b s) × (module_on c.shape s l ≡ m)). ⊎_elim
        (λ (r : (ls : List Leg) × Chain c a b (other s) (module_on c.shape (other s) t.0) ls). inl (t.0 ∷ r.0, (t.1, t.2, r.1)))
        (λ (r : (ls : List Leg) × Walk c a b (other s) (module_on c.shape (other s) t.0) ls × (length ls ≡ n)). inr (t.0 ∷ r.0, (t.1, t.2, r.1), ap suc r.2))
        (grow n (other s) (module_on c.shape (other s) t.0)))
        (λ (free : IsFree c s m (leave a b s)). inl ([], free))
        (seek p s m (leave a b s))

    pub row_chain : (i j : ℕ) → IsFree c Row i a → IsFree c Column j b → i < c.shape.modules → j < c.shape.modules → (ls : List Leg) × Chain c a b Row i ls
    row_chain i j free clear li lj = ⊎_elim (λ (r : (ls : List Leg) × Chain c a b Row i ls). r)
        (λ (r : (ls : List Leg) × Walk c a b Row i ls × (length ls ≡ 2 * c.shape.modules)). let h = short c a b p i j r.0 [] free clear li lj r.1 tt in let e = r.2 in let z : ⊥ = omega arith in absurd z) (grow (2 * c.shape.modules) Row i)

    pub column_chain : (i j : ℕ) → IsFree c Row i a → IsFree c Column j b → i < c.shape.modules → j < c.shape.modules → (ls : List Leg) × Chain c a b Column j ls
    column_chain i j free clear li lj = ⊎_elim (λ (r : (ls : List Leg) × Chain c a b Column j ls). r)
        (λ (r : (ls : List Leg) × Walk c a b Column j ls × (length ls ≡ 2 * c.shape.modules)). let h = short c a b p i j [] r.0 free clear li lj tt r.1 in let e = r.2 in let z : ⊥ = omega arith in absurd z) (grow (2 * c.shape.modules) Column j)

    -- a chain of at most r - 1 legs is exchanged, and the leg joined
    pub by_chain : (s : Side) (l : Leg) (ls : List Leg) → IsInside c.shape l → IsUnused c l → IsEmpty c c.shape.slots → a < c.shape.slots → b < c.shape.slots → a ≢ b
        → IsFree c Row (module_on c.shape Row l) a → IsFree c Column (module_on c.shape Column l) b → Chain c a b s (module_on c.shape s l) ls → length ls + 1 ≤ c.shape.modules
        → CanJoin c l (exchange ls (leave a b s) (leave a b (other s)) c.shape.slots) (leave a b s)
    by_chain s l ls inside unused empty la lb ab free clear h few =
        let t : ℕ = c.shape.slots in
        let k : ℕ = leave a b s in
        let q : ℕ = leave a b (other s) in
        let sides = facts s in
        let different = walk_different c a b p s (module_on c.shape s l) ls ab (begins s) (chain_walk c a b s (module_on c.shape s l) ls h) in
        let e = exchanges c a b p s (module_on c.shape s l) t ls h different sides.0 empty (omega arith) (let z = sides.2 in omega arith) (let z = sides.3 in omega arith) sides.4 (λ d. let z = sides.2 in let n : ⊥ = omega arith in n) (λ d. let z = sides.3 in let n : ⊥ = omega arith in n) in
        let d : Colouring = after (exchange ls k q t) c in
        let r : Exchanged c d ls k q = e.1 in
        let f = frees c a b p s (module_on c.shape s l) (module_on c.shape (other s) l) t ls d h sides.0 sides.1 empty sides.4 (λ x. let z = sides.2 in let n : ⊥ = omega arith in n) (λ x. let z = sides.3 in let n : ⊥ = omega arith in n) r in
        let u : IsUnused d l = still_unused c a b p s (module_on c.shape s l) ls d l k q (chain_walk c a b s (module_on c.shape s l) ls h) r unused in
        let all : IsFreeFor d l k = λ v. ⊎_elim
        (λ (is : v ≡ s). subst (λ (w : Dimensions × Side). IsFree d w.1 (module_on w.0 w.1 l) k) (λ i. (sym r.shape i, sym is i)) f.0)
        (λ (is : v ≡ other s). subst (λ (w : Dimensions × Side). IsFree d w.1 (module_on w.0 w.1 l) k) (λ i. (sym r.shape i, sym is i)) f.1)
        (which s v) in record {
          valid = e.0;
          few = let n = length_exchange ls k q t in omega arith;
          works = sides.2;
          free = all;
          unused = u;
          spare = f.2;
          proper = with_leg_proper d l k r.proper (subst (λ (z : Dimensions). IsInside z l) (sym r.shape) inside) (subst (λ (z : Dimensions). k ≤ z.slots) (sym r.shape) (let z = sides.2 in omega arith)) all (λ x j g w. absurd (u.input x j g w));
        }
      where
        begins : (s : Side) → (u : ℕ) → Next c a b u (code s (module_on c.shape s l)) → ⊥
        begins Row = begins_row c a b (module_on c.shape Row l) free
        begins Column = begins_column c a b (module_on c.shape Column l) clear

        facts : (s : Side) → IsFree c s (module_on c.shape s l) (leave a b (other s)) × IsFree c (other s) (module_on c.shape (other s) l) (leave a b s) × (leave a b s < c.shape.slots) × (leave a b (other s) < c.shape.slots) × (leave a b s ≢ leave a b (other s))
        facts Row = (free, clear, lb, la, (λ e. ab (sym e)))
        facts Column = (clear, free, la, lb, ab)

  pub direct : IsProperColouring c → (l : Leg) (k : ℕ) → IsInside c.shape l → IsUnused c l → IsEmpty c c.shape.slots → k < c.shape.slots → IsFreeFor c l k → CanJoin c l [] k
  direct p l k inside unused empty low free = record {
    valid = tt;
    few = omega arith;
    works = low;
    free = free;
    unused = unused;
    spare = empty;
    proper = with_leg_proper c l k p inside (omega arith) free (λ x j g w. absurd (unused.input x j g w));
  }

pub rearrangeable : IsRearrangeable
rearrangeable c l p empty inside unused few less =
    let i : ℕ = module_on c.shape Row l in
    let j : ℕ = module_on c.shape Column l in
    let fa = some_free c p Row i c.shape.slots few in
    let fb = some_free c p Column j c.shape.slots less in
    let a : ℕ = fa.0 in
    let b : ℕ = fb.0 in
    ⊎_elim
    (λ (u : (x : Leg) × Holds c x a × (module_on c.shape Column x ≡ j)). ⊎_elim
    (λ (v : (x : Leg) × Holds c x b × (module_on c.shape Row x ≡ i)). turn fa.1 fb.1 (λ e. fa.2 v.0 (subst (Holds c v.0) (sym e) v.1) v.2) fa.2 fb.2)
    (λ (v : IsFree c Row i b). ([], b, direct c p l b inside unused empty fb.1 (both b v fb.2)))
    (seek c p Row i b))
    (λ (u : IsFree c Column j a). ([], a, direct c p l a inside unused empty fa.1 (both a fa.2 u)))
    (seek c p Column j a)
  where
    both : (k : ℕ) → IsFree c Row (module_on c.shape Row l) k → IsFree c Column (module_on c.shape Column l) k → IsFreeFor c l k
    both k f g Row = f
    both k f g Column = g

    turn : {a b : ℕ} → a < c.shape.slots → b < c.shape.slots → a ≢ b → IsFree c Row (module_on c.shape Row l) a → IsFree c Column (module_on c.shape Column l) b → (ms : List Move) × (k : ℕ) × CanJoin c l ms k
    turn {a} {b} la lb ab free clear =
        let li = module_low c.shape Row l inside in
        let lj = module_low c.shape Column l inside in
        let row = row_chain c a b p (module_on c.shape Row l) (module_on c.shape Column l) free clear li lj in
        let column = column_chain c a b p (module_on c.shape Row l) (module_on c.shape Column l) free clear li lj in
        let sum = short c a b p (module_on c.shape Row l) (module_on c.shape Column l) row.0 column.0 free clear li lj (chain_walk c a b Row (module_on c.shape Row l) row.0 row.1) (chain_walk c a b Column (module_on c.shape Column l) column.0 column.1) in
        dite (dec_lt (length column.0) (length row.0))
        (λ less. (exchange column.0 a b c.shape.slots, a, by_chain c a b p Column l column.0 inside unused empty la lb ab free clear column.1 (omega arith)))
        (λ more. (exchange row.0 b a c.shape.slots, b, by_chain c a b p Row l row.0 inside unused empty la lb ab free clear row.1 (omega arith)))

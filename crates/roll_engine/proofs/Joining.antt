-- The joins of all legs of a colouring lead from no legs to the colouring.
use Rattle.std.proofs.Common.{◌≡◌, ◌≢◌, ℕ, zero, suc, ◌+◌, ◌<◌, ◌≤◌, List, [], ◌∷◌, ◌++◌, length, get_or, set, drop, replicate, sym, refl, ap, ◌∙◌, subst, arith, Option, Some, None, append_assoc, length-append}
use Rattle.dxc_num.specs.declared.port.Leg.{Leg}
use Rattle.dxc_num.specs.declared.port.Port.{Port}
use Rattle.dxc_num.specs.declared.port.Route.{Route}
use Rattle.dxc_num.specs.declared.register.RegWrite.{RegWrite}
use Rattle.dxc_num.specs.declared.register.WriteKind.TheVariants.{ClearMid, ClearOut}
use Rattle.dxc_num.specs.Dimensions.{Dimensions, leg_between}
use Rattle.roll_plan.specs.Works.{join_writes, switches_in}
use Rattle.paull_matrix.specs.Colourings.{CanPlace, Colouring, colouring_of, Holds, IsProperColouring, no_legs}
use Rattle.roll_engine.specs.Cold.{joins_from, joins_of}
use Rattle.roll_engine.specs.Staying.{AreKept}
use Rattle.roll_engine.proofs.Colouring.{Leads, leads_on, leads_none, join_leads}

some_route : {a b : Route} → Some a ≡ Some b → a ≡ b
some_route e = cc

-- so many outputs without a leg
abbrev pub no_routes : ℕ → List (Option Route)
no_routes n = replicate n None

none_there : (n i : ℕ) → get_or (no_routes n) i None ≡ None
none_there zero i = refl
none_there (suc n) zero = refl
none_there (suc n) (suc i) = none_there n i

-- a route among the first ones, with none after them, is there whatever comes after
first_route : (xs rs : List (Option Route)) (n i : ℕ) (w : Route) → get_or (xs ++ no_routes n) i None ≡ Some w → (i < length xs) × (get_or (xs ++ rs) i None ≡ Some w)
first_route [] rs n i w at = absurd (let h : None ≡ Some w = sym (none_there n i) ∙ at in cc)
first_route (x ∷ xs) rs n zero w at = (omega arith, at)
first_route (x ∷ xs) rs n (suc i) w at = let h = first_route xs rs n i w at in (let low = h.0 in omega arith, h.1)

at_end : (xs ys : List (Option Route)) (o : Option Route) → get_or (xs ++ o ∷ ys) (length xs) None ≡ o
at_end [] ys o = refl
at_end (x ∷ xs) ys o = at_end xs ys o

set_end : (xs ys : List (Option Route)) (o p : Option Route) → set (xs ++ o ∷ ys) (length xs) p ≡ xs ++ p ∷ ys
set_end [] ys o p = refl
set_end (x ∷ xs) ys o p = ap (λ (zs : List (Option Route)). x ∷ zs) (set_end xs ys o p)

-- the leg of the next output may be joined after those of the first ones
can_join : (d : Dimensions) (xs rs : List (Option Route)) (n : ℕ) (w : Route) → IsProperColouring (colouring_of d (xs ++ Some w ∷ rs)) → CanPlace (colouring_of d (xs ++ None ∷ no_routes n)) (leg_between w.input (record { 0 = length xs })) w.middle.0
can_join d xs rs n w p =
    let c : Colouring = colouring_of d (xs ++ Some w ∷ rs) in
    let l : Leg = leg_between w.input (record { 0 = length xs }) in
    let held : Holds c l w.middle.0 = at_end xs rs (Some w) in record {
      inside = (p.inside l w.middle.0 held).0;
      low = (p.inside l w.middle.0 held).1;
      unused = record { output = λ v q h e. let low = (earlier v q h).0 in absurd (omega arith); input = λ v q h e. other v q h (p.inputs v l q w.middle.0 (earlier v q h).1 held e) };
      free = λ s v h e. other v w.middle.0 h (p.apart s w.middle.0 v l (earlier v w.middle.0 h).1 held e);
    }
  where
    earlier : (v : Leg) (q : ℕ) → Holds (colouring_of d (xs ++ None ∷ no_routes n)) v q → (v.output.0 < length xs) × Holds (colouring_of d (xs ++ Some w ∷ rs)) v q
    earlier v q h = first_route xs (Some w ∷ rs) (suc n) v.output.0 (record { input = record { 0 = v.input.0 }; middle = record { 0 = q } }) h

    other : (v : Leg) (q : ℕ) → Holds (colouring_of d (xs ++ None ∷ no_routes n)) v q → v ≡ leg_between w.input (record { 0 = length xs }) → ⊥
    other v q h e = let low = (first_route xs (Some w ∷ rs) (suc n) v.output.0 (record { input = record { 0 = v.input.0 }; middle = record { 0 = q } }) h).0 in let same : v.output.0 ≡ length xs = ap (λ (x : Leg). x.output.0) e in omega arith

-- one item more at the end of a list
pub one_more : (xs ys : List (Option Route)) (o : Option Route) → (xs ++ o ∷ []) ++ ys ≡ xs ++ o ∷ ys
one_more xs ys o = append_assoc xs (o ∷ []) ys

one_longer : (xs : List (Option Route)) (o : Option Route) → length (xs ++ o ∷ []) ≡ length xs + 1
one_longer xs o = let e = length-append xs (o ∷ []) in omega arith

joins_lead : (d : Dimensions) (xs rs : List (Option Route)) → IsProperColouring (colouring_of d (xs ++ rs)) → Leads d (joins_from (length xs) rs) (xs ++ no_routes (length rs)) (xs ++ rs)
joins_lead d xs [] p = leads_none d (xs ++ [])
joins_lead d xs (None ∷ rs) p =
    let more : Leads d (joins_from (length (xs ++ None ∷ [])) rs) ((xs ++ None ∷ []) ++ no_routes (length rs)) ((xs ++ None ∷ []) ++ rs)
    = joins_lead d (xs ++ None ∷ []) rs (subst (λ (ls : List (Option Route)). IsProperColouring (colouring_of d ls)) (sym (one_more xs rs None)) p) in
    subst (λ (t : ℕ × List (Option Route) × List (Option Route)). Leads d (joins_from t.0 rs) t.1 t.2) (λ i. (one_longer xs None i, one_more xs (no_routes (length rs)) None i, one_more xs rs None i)) more
joins_lead d xs (Some w ∷ rs) p =
    let l : Leg = leg_between w.input (record { 0 = length xs }) in
    let b : Colouring = colouring_of d (xs ++ None ∷ no_routes (length rs)) in
    let one : Leads d (join_writes l w.middle) b.routes (xs ++ Some w ∷ no_routes (length rs))
    = subst (Leads d (join_writes l w.middle) b.routes) (set_end xs (no_routes (length rs)) None (Some w)) (join_leads b l w.middle (can_join d xs rs (length rs) w p)) in
    let more : Leads d (joins_from (length (xs ++ Some w ∷ [])) rs) ((xs ++ Some w ∷ []) ++ no_routes (length rs)) ((xs ++ Some w ∷ []) ++ rs)
    = joins_lead d (xs ++ Some w ∷ []) rs (subst (λ (ls : List (Option Route)). IsProperColouring (colouring_of d ls)) (sym (one_more xs rs (Some w))) p) in
    leads_on d (join_writes l w.middle) (joins_from (length xs + 1) rs) b.routes (xs ++ Some w ∷ no_routes (length rs)) (xs ++ Some w ∷ rs) one
    (subst (λ (t : ℕ × List (Option Route) × List (Option Route)). Leads d (joins_from t.0 rs) t.1 t.2) (λ i. (one_longer xs (Some w) i, one_more xs (no_routes (length rs)) (Some w) i, one_more xs rs (Some w) i)) more)

-- from no legs to the colouring
pub all_join : (c : Colouring) → IsProperColouring c → Leads c.shape (joins_of c) (no_legs c.shape).routes c.routes
all_join c p = subst (λ (n : ℕ). Leads c.shape (joins_of c) (no_routes n) c.routes) p.size (joins_lead c.shape [] c.routes p)

-- one switch a leg
pub few_switches : (y : ℕ) (rs : List (Option Route)) → switches_in (joins_from y rs) ≤ length rs
few_switches y [] = omega arith
few_switches y (None ∷ rs) = let e = few_switches (y + 1) rs in omega arith
few_switches y (Some w ∷ rs) = let e = few_switches (y + 1) rs in omega arith

-- joins clear nothing
abbrev pub ClearNothing : List RegWrite → Type 0
ClearNothing [] = Unit {0}
ClearNothing (w ∷ ws) = (w.kind ≢ ClearMid) × (w.kind ≢ ClearOut) × ClearNothing ws

pub joins_clear : (y : ℕ) (rs : List (Option Route)) → ClearNothing (joins_from y rs)
joins_clear y [] = tt
joins_clear y (None ∷ rs) = joins_clear (y + 1) rs
joins_clear y (Some w ∷ rs) = ((λ e. absurd (cc)), (λ e. absurd (cc)), ((λ e. absurd (cc)), (λ e. absurd (cc)), ((λ e. absurd (cc)), (λ e. absurd (cc)), joins_clear (y + 1) rs)))

pub clear_left : (ws : List RegWrite) (t : ℕ) → ClearNothing ws → ClearNothing (drop t ws)
clear_left [] zero h = h
clear_left [] (suc t) h = h
clear_left (w ∷ ws) zero h = h
clear_left (w ∷ ws) (suc t) h = clear_left ws t h.2

pub clear_kept : (ws : List RegWrite) (y : Port) → ClearNothing ws → AreKept ws y
clear_kept [] y h = tt
clear_kept (w ∷ ws) y h = ((λ e. absurd (h.1 e)), clear_kept ws y h.2)

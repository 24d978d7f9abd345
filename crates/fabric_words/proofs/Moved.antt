-- What the mover's seat knows and keeps after each of its steps.
use Rattle.std.proofs.Common.{◌≡◌, ◌≤◌, ℕ, ◌+◌, ◌<◌, List, [], ◌∷◌, ◌++◌, length, get_or, set, replicate, sym, refl, ap, ◌∙◌, subst, inl, inr, ⊎_elim, arith, Option, Some, None, if◌then◌else◌, ◌==◌, eq-eqb, ne_eqb, get_or-set_same, get_or-set_other, length-append}
use mathlib.Core.Option.{none, some}
use mathlib.Core.Logic.{dite}
use native.Mathlib.Decide.{ℕ_discrete}
use lib.ListN.{get_or-map, get_or-replicate}
use Rattle.atomic_table.specs.Table.{Me, step}
use Rattle.dxc_num.specs.Dimensions.{Dimensions, module_of}
use Rattle.dxc_num.specs.declared.port.Leg.{Leg}
use Rattle.dxc_num.specs.declared.port.Middle.{Middle}
use Rattle.dxc_num.specs.declared.port.Route.{Route}
use Rattle.fabric_core.specs.declared.size.Size.{Size}
use Rattle.fabric_core.specs.declared.seen.Seen.{Seen}
use Rattle.fabric_core.specs.declared.event.CoreEvent.{CoreEvent}
use Rattle.fabric_core.specs.declared.event.CoreEvent.TheVariants.{SetIn, SetMid, SwitchOut, ClearOut, ClearMid, ClearIn}
use Rattle.fabric_core.specs.declared.phase.Phase.{Phase}
use Rattle.fabric_core.specs.declared.phase.Phase.TheVariants.{Rest, InSet, MidSet, Old, Freed}
use Rattle.fabric_core.specs.declared.mover.Mover.{Mover}
use Rattle.fabric_core.specs.Registers.{middle_in}
use Rattle.fabric_core.specs.Passing.{seen_of, seen_after}
use Rattle.fabric_core.specs.State.{leg_at, looks_of}
use Rattle.fabric_core.specs.Moving.{CanSetIn, HasSwitch, CanClearOut, CanClearMid, CanClearIn, in_set, mid_set, switched, after_switch, looks_after, no_looks, out_cleared, looked, mid_cleared, in_cleared}
use Rattle.fabric_core.specs.Steps.{Moves}
use Rattle.fabric_core.specs.Laid.{IsHalfLaid, IsPhaseLaid}
use Rattle.fabric_core.specs.Owned.{HasIn, IsMoverRuled}
use Rattle.fabric_core.proofs.Passing as passing
use Rattle.fabric_core.proofs.Kept.{mover_moves, mover_looks}
use Rattle.fabric_words.specs.declared.table.Aim.{Aim}
use Rattle.fabric_words.specs.declared.table.View.{View}
use Rattle.fabric_words.specs.Places.{out_place, frame_place}
use Rattle.fabric_words.specs.Plays.{set_in, set_mid, Shows, switched_out, cleared_out, looked_at, cleared_mid, cleared_in}
use Rattle.fabric_words.specs.Seats.{IsMoverToken, mover_in, dealt_in, AreModules, AreSeen, IsMoverSeat}
use Rattle.fabric_words.proofs.Told.{after_mover}

abbrev Sat : Type 0
Sat = Me Aim View

-- what the seat keeps of its looks
pub seen_same : (z : Size) (ss : List Seen) (m m' : Mover) → m'.looks ≡ m.looks → AreSeen z ss m → AreSeen z ss m'
seen_same z ss m m' e h w low = h w low ∙ ap (λ (ls : List (List ℕ)). seen_of (get_or ls w [])) (sym e)

pub seen_none : (z : Size) (m m' : Mover) → z.workers ≤ 8 → m'.looks ≡ no_looks m.looks → AreSeen z (replicate 8 (seen_of [])) m'
seen_none z m m' few is w low = let none_there : get_or m'.looks w [] ≡ [] = ap (λ (ls : List (List ℕ)). get_or ls w []) is ∙ get_or-map (λ (_ : List ℕ). []) m.looks w [] in
    get_or-replicate 8 w (seen_of []) (seen_of []) (omega arith) ∙ ap seen_of (sym none_there)

pub seen_more : (z : Size) (ss : List Seen) (m m' : Mover) (w n : ℕ) → length ss ≡ 8 → z.workers ≤ 8 → length m.looks ≡ z.workers → w < z.workers → m'.looks ≡ set m.looks w (looks_of m w ++ n ∷ []) → AreSeen z ss m
    → AreSeen z (set ss w (seen_after (get_or ss w (seen_of [])) n)) m'
seen_more z ss m m' w n eight few all low is h u below = dite (ℕ_discrete u w)
    (λ e. subst (λ (i : ℕ). get_or (set ss w (seen_after (get_or ss w (seen_of [])) n)) i (seen_of []) ≡ seen_of (get_or m'.looks i [])) (sym e)
    (get_or-set_same ss w (seen_after (get_or ss w (seen_of [])) n) (seen_of []) (omega arith)
    ∙ (ap (λ (s : Seen). seen_after s n) (h w low) ∙ (sym (passing.seen_more (looks_of m w) n)
    ∙ ap seen_of (sym (ap (λ (ls : List (List ℕ)). get_or ls w []) is ∙ get_or-set_same m.looks w (looks_of m w ++ n ∷ []) [] (omega arith)))))))
    (λ other. get_or-set_other ss w u (seen_after (get_or ss w (seen_of [])) n) (seen_of []) other ∙ (h u below
    ∙ ap seen_of (sym (ap (λ (ls : List (List ℕ)). get_or ls u []) is ∙ get_or-set_other m.looks w u (looks_of m w ++ n ∷ []) [] other))))

pub seen_switched : (z : Size) (ss : List Seen) (m m' : Mover) (e : Option Route) (n : ℕ) → z.workers ≤ 8 → Shows e n → m'.looks ≡ looks_after e m.looks → AreSeen z ss m → AreSeen z (if n == 0 then ss else replicate 8 (seen_of [])) m'
seen_switched z ss m m' None n few shows is h = rw (eq-eqb n 0 shows) (seen_same z ss m m' is h)
seen_switched z ss m m' (Some w) n few shows is h = rw (ne_eqb n 0 shows.0) (seen_none z m m' few is)

pub phase_switched : (l : Leg) (e : Option Route) (n : ℕ) → Shows e n → (if n == 0 then Rest else Old l (middle_in n)) ≡ after_switch l e
phase_switched l None n h = rw (eq-eqb n 0 h)
phase_switched l (Some w) n h = rw (ne_eqb n 0 h.0) (λ i. Old l (h.1 i))

-- the modules of the leg that a phase names
pub modules_of : (d : Dimensions) (phase : Phase) (l : Leg) (row column : ℕ) → ((a : Leg) (b : Middle) → HasIn phase a b → l ≡ a) → (row ≡ module_of d l.input) × (column ≡ module_of d l.output) → AreModules d phase row column
modules_of d phase l row column names are a b has = let e = names a b has in (are.0 ∙ ap (λ (x : Leg). module_of d x.input) e, are.1 ∙ ap (λ (x : Leg). module_of d x.output) e)

-- after a switch the phase names the same leg, or none
pub named_switched : (l : Leg) (n : ℕ) (a : Leg) (b : Middle) → HasIn (if n == 0 then Rest else Old l (middle_in n)) a b → l ≡ a
named_switched l n a b has = dite (ℕ_discrete n 0)
    (λ e. let is : (if n == 0 then Rest else Old l (middle_in n)) ≡ Rest = rw (eq-eqb n 0 e) in absurd (subst (λ (p : Phase). HasIn p a b) is has))
    (λ e. let is : (if n == 0 then Rest else Old l (middle_in n)) ≡ Old l (middle_in n) = rw (ne_eqb n 0 e) in (subst (λ (p : Phase). HasIn p a b) is has).0)

-- the path that a phase names, where a path may be cleared
pub clear_mid_named : (z : Size) (m : Mover) (phase : Phase) (l a : Leg) (k b : Middle) → phase ≡ m.phase → CanClearMid z m l k → HasIn phase a b → CanClearMid z m a b
clear_mid_named z m phase l a k b is (inl p) n = let e = subst (λ (q : Phase). HasIn q a b) (is ∙ p) n in inl (p ∙ (λ i. MidSet (e.0 i) (e.1 i)))
clear_mid_named z m phase l a k b is (inr p) n = let e = subst (λ (q : Phase). HasIn q a b) (is ∙ p.0) n in inr (p.0 ∙ (λ i. Old (e.0 i) (e.1 i)), p.1)

pub clear_in_named : (m : Mover) (phase : Phase) (l a : Leg) (k b : Middle) → phase ≡ m.phase → CanClearIn m l k → HasIn phase a b → CanClearIn m a b
clear_in_named m phase l a k b is (inl p) n = let e = subst (λ (q : Phase). HasIn q a b) (is ∙ p) n in inl (p ∙ (λ i. InSet (e.0 i) (e.1 i)))
clear_in_named m phase l a k b is (inr p) n = let e = subst (λ (q : Phase). HasIn q a b) (is ∙ p) n in inr (p ∙ (λ i. Freed (e.0 i) (e.1 i)))

pub mid_names : (z : Size) (m : Mover) (phase : Phase) → phase ≡ m.phase → (l : Leg) × (k : Middle) × CanClearMid z m l k → (l : Leg) × (k : Middle) × HasIn phase l k
mid_names z m phase is (l, k, inl p) = (l, k, subst (λ (q : Phase). HasIn q l k) (sym (is ∙ p)) (refl, refl))
mid_names z m phase is (l, k, inr p) = (l, k, subst (λ (q : Phase). HasIn q l k) (sym (is ∙ p.0)) (refl, refl))

pub in_names : (m : Mover) (phase : Phase) → phase ≡ m.phase → (l : Leg) × (k : Middle) × CanClearIn m l k → (l : Leg) × (k : Middle) × HasIn phase l k
in_names m phase is (l, k, inl p) = (l, k, subst (λ (q : Phase). HasIn q l k) (sym (is ∙ p)) (refl, refl))
in_names m phase is (l, k, inr p) = (l, k, subst (λ (q : Phase). HasIn q l k) (sym (is ∙ p)) (refl, refl))

-- what is kept of a path is what the phase names
pub names_it : (phase : Phase) (a : Leg) (b : Middle) → (l : Leg) × (k : Middle) × HasIn phase l k → ((l : Leg) (k : Middle) → HasIn phase l k → (a ≡ l) × (b ≡ k)) → HasIn phase a b
names_it phase a b (l, k, has) kept = let e = kept l k has in subst (λ (t : Leg × Middle). HasIn phase t.0 t.1) (λ i. (sym e.0 i, sym e.1 i)) has

pub named_in_set : (m : Mover) (phase : Phase) (a : Leg) (b : Middle) → phase ≡ m.phase → (l : Leg) × (k : Middle) × (m.phase ≡ InSet l k) → ((l : Leg) (k : Middle) → HasIn phase l k → (a ≡ l) × (b ≡ k)) → HasIn phase a b × (phase ≡ InSet a b)
named_in_set m phase a b is (l, k, at) kept =
    let has : HasIn phase l k = subst (λ (q : Phase). HasIn q l k) (sym (is ∙ at)) (refl, refl) in
    let e = kept l k has in (names_it phase a b (l, k, has) kept, is ∙ (at ∙ (λ i. InSet (sym e.0 i) (sym e.1 i))))

pub named_mid_set : (z : Size) (m : Mover) (phase : Phase) (a : Leg) (b : Middle) → phase ≡ m.phase → (l : Leg) × (k : Middle) × (m.phase ≡ MidSet l k) × HasSwitch m → ((l : Leg) (k : Middle) → HasIn phase l k → (a ≡ l) × (b ≡ k)) → HasIn phase a b × (phase ≡ MidSet a b)
named_mid_set z m phase a b is (l, k, at, room) kept =
    let has : HasIn phase l k = subst (λ (q : Phase). HasIn q l k) (sym (is ∙ at)) (refl, refl) in
    let e = kept l k has in (names_it phase a b (l, k, has) kept, is ∙ (at ∙ (λ i. MidSet (sym e.0 i) (sym e.1 i))))

-- the words on the path that a phase names are of the shape
pub phase_inside : (z : Size) (m : Mover) (p : Phase) (l : Leg) (k : Middle) → HasIn p l k → IsPhaseLaid z.shape m p → (q : ℕ) × IsHalfLaid z.shape m l k q
phase_inside z m Rest l k has laid = absurd has
phase_inside z m (InSet a b) l k has laid = (0, subst (λ (t : Leg × Middle). IsHalfLaid z.shape m t.0 t.1 0) (λ i. (has.0 i, has.1 i)) laid)
phase_inside z m (MidSet a b) l k has laid = (module_of z.shape l.input + 1, subst (λ (t : Leg × Middle). IsHalfLaid z.shape m t.0 t.1 (module_of z.shape t.0.input + 1)) (λ i. (has.0 i, has.1 i)) laid)
phase_inside z m (Old a b) l k has laid = (module_of z.shape l.input + 1, subst (λ (t : Leg × Middle). IsHalfLaid z.shape m t.0 t.1 (module_of z.shape t.0.input + 1)) (λ i. (has.0 i, has.1 i)) laid)
phase_inside z m (Freed a b) l k has laid = (0, subst (λ (t : Leg × Middle). IsHalfLaid z.shape m t.0 t.1 0) (λ i. (has.0 i, has.1 i)) laid)

module _ (slots : ℕ) (z : Size) (me m' : Sat) (i : ℕ) (phase : Phase) (switches : ℕ) (ss : List Seen) (r : IsMoverSeat z me phase switches ss) where
  abbrev old : Mover
  old = mover_in me.0

  abbrev new : Mover
  new = mover_in m'.0

  pub path_inside : (l : Leg) (k : Middle) → HasIn phase l k → (q : ℕ) × IsHalfLaid z.shape old l k q
  path_inside l k has = phase_inside z old (mover_in me.0).phase l k (subst (λ (p : Phase). HasIn p l k) r.phase_is has) r.ruled.laid.phase_is

  -- the seat after a step
  seat_after : (e : CoreEvent) (p : Phase) (n : ℕ) (seen : List Seen) → IsMoverToken z m' → Moves z old e new → p ≡ new.phase → n ≡ length new.log → AreSeen z seen new → IsMoverSeat z m' p n seen
  seat_after e p n seen role does same number are = record { role = role; sized = r.sized; ruled = mover_moves z old e new r.sized r.ruled does; phase_is = same; switches_are = number; seen_are = are }

  pub set_in_told : (a : Aim) (x n : ℕ) → CanSetIn z.shape old a.leg a.middle → set_in (step slots i 0 x (some a)) me n m' → IsMoverSeat z m' (InSet a.leg a.middle) switches ss × Moves z old (SetIn a.leg a.middle) new
  set_in_told a x n can told =
      let t = told z (dealt_in me.0) old (ap (λ (m : Sat). m.0) r.role) in
      let after = after_mover z me m' t.0 r.role t.1 in
      let is : new ≡ in_set z.shape a.leg a.middle old = after.1 ∙ t.2 a refl in
      let does : Moves z old (SetIn a.leg a.middle) new = (can, is) in
      (seat_after (SetIn a.leg a.middle) (InSet a.leg a.middle) switches ss after.0 does (sym (ap (λ (m : Mover). m.phase) is)) (r.switches_are ∙ sym (ap (λ (m : Mover). length m.log) is)) (seen_same z ss old new (ap (λ (m : Mover). m.looks) is) r.seen_are), does)

  pub set_mid_told : (l : Leg) (k : Middle) (x : ℕ) → phase ≡ InSet l k → set_mid (step slots i x 0 none) me x m' → IsMoverSeat z m' (MidSet l k) switches ss × Moves z old SetMid new
  set_mid_told l k x at told =
      let t = told z (dealt_in me.0) old (ap (λ (m : Sat). m.0) r.role) in
      let after = after_mover z me m' t.0 r.role t.1 in
      let here : old.phase ≡ InSet l k = sym r.phase_is ∙ at in
      let is : new ≡ mid_set z.shape l k old = after.1 ∙ t.2 l k here in
      let does : Moves z old SetMid new = (l, k, here, is) in
      (seat_after SetMid (MidSet l k) switches ss after.0 does (sym (ap (λ (m : Mover). m.phase) is)) (r.switches_are ∙ sym (ap (λ (m : Mover). length m.log) is)) (seen_same z ss old new (ap (λ (m : Mover). m.looks) is) r.seen_are), does)

  pub switch_told : (l : Leg) (k : Middle) (x n : ℕ) → phase ≡ MidSet l k → HasSwitch old → switched_out (step slots i x 0 none) me n m'
      → IsMoverSeat z m' (if n == 0 then Rest else Old l (middle_in n)) (switches + 1) (if n == 0 then ss else replicate 8 (seen_of [])) × Moves z old SwitchOut new
  switch_told l k x n at room told =
      let t = told z (dealt_in me.0) old (ap (λ (m : Sat). m.0) r.role) in
      let after = after_mover z me m' t.0 r.role t.1 in
      let here : old.phase ≡ MidSet l k = sym r.phase_is ∙ at in
      let did = t.2 l k here in
      let is : new ≡ switched l k old = after.1 ∙ did.0 in
      let does : Moves z old SwitchOut new = (l, k, here, room, is) in
      let workers = r.sized.workers in (
        seat_after SwitchOut (if n == 0 then Rest else Old l (middle_in n)) (switches + 1) (if n == 0 then ss else replicate 8 (seen_of [])) after.0 does
            (phase_switched l (leg_at old l.output) n did.1 ∙ sym (ap (λ (m : Mover). m.phase) is))
            (ap (λ (c : ℕ). c + 1) r.switches_are ∙ (sym (length-append old.log (l ∷ [])) ∙ sym (ap (λ (m : Mover). length m.log) is)))
            (seen_switched z ss old new (leg_at old l.output) n workers.1 did.1 (ap (λ (m : Mover). m.looks) is) r.seen_are),
        does,
      )

  pub clear_out_told : (l : Leg) (w : Route) (n : ℕ) → i ≡ out_place z.shape l.output → CanClearOut old l w → cleared_out (step slots i 0 0 none) me n m'
      → IsMoverSeat z m' (Old l (middle_in n)) switches (replicate 8 (seen_of [])) × Moves z old (ClearOut l) new
  clear_out_told l w n at can told =
      let t = told z (dealt_in me.0) old (ap (λ (m : Sat). m.0) r.role) in
      let after = after_mover z me m' t.0 r.role t.1 in
      let did = t.2 l w at can.1 in
      let is : new ≡ out_cleared l w.middle old = after.1 ∙ did.0 in
      let does : Moves z old (ClearOut l) new = (w, can, is) in
      let workers = r.sized.workers in (
        seat_after (ClearOut l) (Old l (middle_in n)) switches (replicate 8 (seen_of [])) after.0 does (ap (Old l) did.1 ∙ sym (ap (λ (m : Mover). m.phase) is)) (r.switches_are ∙ sym (ap (λ (m : Mover). length m.log) is))
            (seen_none z old new workers.1 (ap (λ (m : Mover). m.looks) is)),
        does,
      )

  pub look_told : (w n : ℕ) → length ss ≡ 8 → w < z.workers → i ≡ frame_place z.shape w → looked_at (step slots i 0 0 none) me n m' → IsMoverSeat z m' phase switches (set ss w (seen_after (get_or ss w (seen_of [])) n)) × (new ≡ looked w n old)
  look_told w n eight low at told =
      let t = told z (dealt_in me.0) old (ap (λ (m : Sat). m.0) r.role) in
      let after = after_mover z me m' t.0 r.role t.1 in
      let is : new ≡ looked w n old = after.1 ∙ t.2 w at in
      let workers = r.sized.workers in (
        record {
          role = after.0;
          sized = r.sized;
          ruled = subst (IsMoverRuled z) (sym is) (mover_looks z old w n r.sized r.ruled);
          phase_is = r.phase_is ∙ sym (ap (λ (m : Mover). m.phase) is);
          switches_are = r.switches_are ∙ sym (ap (λ (m : Mover). length m.log) is);
          seen_are = seen_more z ss old new w n eight workers.1 r.ruled.laid.looks low (ap (λ (m : Mover). m.looks) is) r.seen_are;
        },
        is,
      )

  pub clear_mid_told : (l : Leg) (k : Middle) → CanClearMid z old l k → cleared_mid (step slots i 0 0 none) me 0 m' → IsMoverSeat z m' (Freed l k) switches ss × Moves z old ClearMid new
  clear_mid_told l k can told =
      let t = told z (dealt_in me.0) old (ap (λ (m : Sat). m.0) r.role) in
      let after = after_mover z me m' t.0 r.role t.1 in
      let is : new ≡ mid_cleared z.shape l k old = after.1 ∙ t.2 l k (⊎_elim (λ p. inl p) (λ p. inr p.0) can) in
      let does : Moves z old ClearMid new = (l, k, can, is) in
      (seat_after ClearMid (Freed l k) switches ss after.0 does (sym (ap (λ (m : Mover). m.phase) is)) (r.switches_are ∙ sym (ap (λ (m : Mover). length m.log) is)) (seen_same z ss old new (ap (λ (m : Mover). m.looks) is) r.seen_are), does)

  pub clear_in_told : (l : Leg) (k : Middle) → CanClearIn old l k → cleared_in (step slots i 0 0 none) me 0 m' → IsMoverSeat z m' Rest switches ss × Moves z old ClearIn new
  clear_in_told l k can told =
      let t = told z (dealt_in me.0) old (ap (λ (m : Sat). m.0) r.role) in
      let after = after_mover z me m' t.0 r.role t.1 in
      let is : new ≡ in_cleared z.shape l k old = after.1 ∙ t.2 l k can in
      let does : Moves z old ClearIn new = (l, k, can, is) in
      (seat_after ClearIn Rest switches ss after.0 does (sym (ap (λ (m : Mover). m.phase) is)) (r.switches_are ∙ sym (ap (λ (m : Mover). length m.log) is)) (seen_same z ss old new (ap (λ (m : Mover). m.looks) is) r.seen_are), does)

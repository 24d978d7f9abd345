-- The mover's steps keep what the rule says of a worker.
use Rattle.std.proofs.Common.{◌≡◌, ◌≢◌, ◌⊎◌, ℕ, suc, ◌%◌, ◌<◌, List, [], ◌∷◌, ◌++◌, length, get_or, set, sym, refl, ap, ◌∙◌, inl, inr, subst, ⊎_elim, arith, Option, Some, None, get_or-set_same, get_or-set_other, eq-eqb, ne_eqb}
use mathlib.Core.Option.{none, some, some-ne-none}
use native.Mathlib.Decide.{ℕ_discrete}
use lib.ListN.{get_elem?, get_or-map}
use Rattle.dxc_num.specs.Dimensions.{Dimensions, leg_between}
use Rattle.dxc_num.specs.declared.port.Port.{Port}
use Rattle.dxc_num.specs.declared.port.Leg.{Leg}
use Rattle.dxc_num.specs.declared.port.Middle.{Middle}
use Rattle.dxc_num.specs.declared.port.Route.{Route}
use Rattle.fabric_core.specs.declared.size.Size.{Size}
use Rattle.fabric_core.specs.declared.phase.Phase.TheVariants.{Rest, InSet, MidSet, Old, Freed}
use Rattle.fabric_core.specs.declared.worker.Hold.{Hold}
use Rattle.fabric_core.specs.declared.worker.Hold.TheVariants.{Empty, Output, Path}
use Rattle.fabric_core.specs.declared.mover.Mover.{Mover}
use Rattle.fabric_core.specs.declared.worker.Worker.{Worker}
use Rattle.fabric_core.specs.Passing.{Passed, next_first, first_from}
use Rattle.fabric_core.specs.State.{leg_at, looks_of}
use Rattle.fabric_core.specs.Working.{Runs}
use Rattle.fabric_core.specs.Moving.{over, CanClearOut, CanClearMid, in_set, mid_set, switched, after_switch, looks_after, no_looks, out_cleared, looked, mid_cleared, in_cleared}
use Rattle.fabric_core.specs.Notes.{Numbered, Latest, AreLogged}
use Rattle.fabric_core.specs.Rule.{AllAre, IsHeld, IsHoldRuled, IsWorkerRuled}
use Rattle.fabric_core.proofs.Cells.{port_discrete}
use Rattle.fabric_core.proofs.Noting.{at_end, numbered_more, latest_more, logged_later}
use Rattle.fabric_core.proofs.Moving.{some_same, else_port}

-- the fact on a hold is kept, for each hold
abbrev Keeps : Mover → Mover → Worker → Type 0
Keeps m m' v = (y : Port) (n : ℕ) (k : Middle) (x : Port) → Runs v → IsHeld m v y n k x → IsHeld m' v y n k x

-- a hold that fits the mover m fits m' where each fact on it is kept
pub holds_on : (d : Dimensions) (m m' : Mover) (v : Worker) → Keeps m m' v → (h : Hold) → IsHoldRuled d m v h → IsHoldRuled d m' v h
holds_on d m m' v f Empty h = h
holds_on d m m' v f (Output y n k) h = (h.0, h.1, (h.2.0, f y n k h.2.0 h.0 h.2.1), h.3)
holds_on d m m' v f (Path y n k i) h = (h.0, h.1, (h.2.0, f y n k h.2.0 h.0 h.2.1, h.2.2), h.3)

-- the mover's steps that leave the log
still : (d : Dimensions) (m m' : Mover) (v : Worker) → Keeps m m' v → m.log ≡ m'.log → IsWorkerRuled d m v → IsWorkerRuled d m' v
still d m m' v f same r = record {
  hold_is = holds_on d m m' v f v.hold r.hold_is;
  may_end = r.may_end;
  logged = subst (λ (l : List Leg). AreLogged l v.notes) same r.logged;
  of_last_word = r.of_last_word;
  found = r.found;
}

-- those that leave the legs too, outside the phase Old
settled : (d : Dimensions) (m m' : Mover) (v : Worker) → ((l : Leg) (k : Middle) → m.phase ≢ Old l k) → m.log ≡ m'.log → m.legs ≡ m'.legs → IsWorkerRuled d m v → IsWorkerRuled d m' v
settled d m m' v phase log legs r = still d m m' v (λ y n k x _ h. go y n k x h) log r
  where
    go : (y : Port) (n : ℕ) (k : Middle) (x : Port) → IsHeld m v y n k x → IsHeld m' v y n k x
    go y n k x (number, inl a) = (subst (λ (l : List Leg). Numbered l n (leg_between x y)) log number, inl (subst (λ (l : List Leg). Latest l y n) log a.0, subst (λ (ls : List (Option Route)). get_or ls y.0 None ≡ Some (record { input = x; middle = k })) legs a.1))
    go y n k x (number, inr b) = absurd (phase (leg_between x y) k b.0)

pub in_set_holds : (d : Dimensions) (m : Mover) (l : Leg) (k : Middle) (v : Worker) → m.phase ≡ Rest → IsWorkerRuled d m v → IsWorkerRuled d (in_set d l k m) v
in_set_holds d m l k v is r = settled d m (in_set d l k m) v (λ a b e. absurd (cc)) refl refl r

pub mid_set_holds : (d : Dimensions) (m : Mover) (l : Leg) (k : Middle) (v : Worker) → m.phase ≡ InSet l k → IsWorkerRuled d m v → IsWorkerRuled d (mid_set d l k m) v
mid_set_holds d m l k v is r = settled d m (mid_set d l k m) v (λ a b e. absurd (cc)) refl refl r

pub in_cleared_holds : (d : Dimensions) (m : Mover) (l : Leg) (k : Middle) (v : Worker) → (m.phase ≡ InSet l k) ⊎ (m.phase ≡ Freed l k) → IsWorkerRuled d m v → IsWorkerRuled d (in_cleared d l k m) v
in_cleared_holds d m l k v (inl is) r = settled d m (in_cleared d l k m) v (λ a b e. absurd (cc)) refl refl r
in_cleared_holds d m l k v (inr is) r = settled d m (in_cleared d l k m) v (λ a b e. absurd (cc)) refl refl r

-- a worker with a hold of a leg that is being taken out was not seen in another frame
first_is : (f g : ℕ) (fs : List ℕ) → f % 2 ≡ 1 → AllAre f fs → (g ≡ f) ⊎ (g ≡ 0) → (first_from g fs ≡ f) ⊎ ((g ≡ 0) × (fs ≡ []))
first_is f g [] odd all (inl e) = inl e
first_is f g [] odd all (inr e) = inr (e, refl)
first_is f g (h ∷ fs) odd all begin = inl (settle (first_is f (next_first g h) fs odd (λ i u at. all (suc i) u at) (inl next)))
  where
    same : h ≡ f
    same = all 0 h refl

    next : next_first g h ≡ f
    next = ⊎_elim (λ (e : g ≡ f). rw (ne_eqb g 0 (λ z. omega arith)) e) (λ (e : g ≡ 0). rw (eq-eqb g 0 e, eq-eqb (h % 2) 1 (ap (λ (n : ℕ). n % 2) same ∙ odd)) same) begin

    settle : (first_from (next_first g h) fs ≡ f) ⊎ ((next_first g h ≡ 0) × (fs ≡ [])) → first_from (next_first g h) fs ≡ f
    settle (inl e) = e
    settle (inr e) = let z : f ≡ 0 = sym next ∙ e.0 in absurd (omega arith)

not_passed : (f : ℕ) (fs : List ℕ) → f % 2 ≡ 1 → AllAre f fs → Passed fs → ⊥
not_passed f fs odd all (i, g, at, inl even) = let e = all i g at in absurd (omega arith)
not_passed f fs odd all (i, g, at, inr other) = ⊎_elim (λ (e : first_from 0 fs ≡ f). other (all i g at ∙ sym e))
    (λ (e : (0 ≡ 0) × (fs ≡ [])). let none_there : get_elem? fs i ≡ none = ap (λ (l : List ℕ). get_elem? l i) e.1 in absurd (some-ne-none g (sym at ∙ none_there))) (first_is f 0 fs odd all (inr refl))

pub mid_cleared_holds : (z : Size) (m : Mover) (l : Leg) (k : Middle) (v : Worker) → v.number < z.workers → CanClearMid z m l k → IsWorkerRuled z.shape m v → IsWorkerRuled z.shape (mid_cleared z.shape l k m) v
mid_cleared_holds z m l k v below (inl is) r = settled z.shape m (mid_cleared z.shape l k m) v (λ a b e. absurd (cc)) refl refl r
mid_cleared_holds z m l k v below (inr can) r = still z.shape m (mid_cleared z.shape l k m) v go refl r
  where
    go : (y : Port) (n : ℕ) (j : Middle) (x : Port) → Runs v → IsHeld m v y n j x → IsHeld (mid_cleared z.shape l k m) v y n j x
    go y n j x runs (number, inl a) = (number, inl a)
    go y n j x runs (number, inr b) = absurd (not_passed v.frame (looks_of m v.number) runs b.1 (can.1 v.number below))

-- a look finds the frame word
pub looked_holds : (d : Dimensions) (m : Mover) (w f : ℕ) (v : Worker) → (v.number ≡ w → f ≡ v.frame) → w < length m.looks → IsWorkerRuled d m v → IsWorkerRuled d (looked w f m) v
looked_holds d m w f v frame room r = still d m (looked w f m) v (λ y n k x _ h. go y n k x h) refl r
  where
    more : Dec (v.number ≡ w) → AllAre v.frame (looks_of m v.number) → AllAre v.frame (looks_of (looked w f m) v.number)
    more (yes e) all = subst (λ (j : ℕ). AllAre v.frame (get_or (set m.looks w (looks_of m w ++ f ∷ [])) j [])) (sym e)
        (subst (AllAre v.frame) (sym (get_or-set_same m.looks w (looks_of m w ++ f ∷ []) [] room))
        (λ i g at. ⊎_elim (λ (p : get_elem? (looks_of m w) i ≡ some g). all i g (subst (λ (j : ℕ). get_elem? (looks_of m j) i ≡ some g) (sym e) p)) (λ (p : (i ≡ length (looks_of m w)) × (f ≡ g)). sym p.1 ∙ frame e) (at_end (looks_of m w) f g i at)))
    more (no e) all = subst (AllAre v.frame) (sym (get_or-set_other m.looks w v.number (looks_of m w ++ f ∷ []) [] e)) all

    go : (y : Port) (n : ℕ) (k : Middle) (x : Port) → IsHeld m v y n k x → IsHeld (looked w f m) v y n k x
    go y n k x (number, inl a) = (number, inl a)
    go y n k x (number, inr b) = (number, inr (b.0, more (ℕ_discrete v.number w) b.1))

-- after a step into Old nothing was looked at
none_seen : (f w : ℕ) (ls : List (List ℕ)) → AllAre f (get_or (no_looks ls) w [])
none_seen f w ls i g at = absurd (some-ne-none g (sym at ∙ ap (λ (fs : List ℕ). get_elem? fs i) (get_or-map (λ (_ : List ℕ). []) ls w [])))

same_leg : (l : Leg) (x y : Port) → l.input ≡ x → l.output ≡ y → l ≡ leg_between x y
same_leg l x y a b = λ i. leg_between (a i) (b i)

pub out_cleared_holds : (d : Dimensions) (m : Mover) (l : Leg) (w : Route) (v : Worker) → CanClearOut m l w → IsWorkerRuled d m v → IsWorkerRuled d (out_cleared l w.middle m) v
out_cleared_holds d m l w v can k = still d m (out_cleared l w.middle m) v (λ y n j x _ h. go y n j x h) refl k
  where
    here : (y : Port) (n : ℕ) (j : Middle) (x : Port) → Numbered m.log n (leg_between x y) → Latest m.log y n → leg_at m y ≡ Some (record { input = x; middle = j }) → Dec (y ≡ l.output) → IsHeld (out_cleared l w.middle m) v y n j x
    here y n j x number last at (no e) = (number, inl (last, else_port m.legs l.output y None None e ∙ at))
    here y n j x number last at (yes e) =
        let at' : leg_at m l.output ≡ Some (record { input = x; middle = j }) = ap (leg_at m) (sym e) ∙ at in
        let same : w ≡ record { input = x; middle = j } = some_same (sym can.1.here ∙ at') in
        let is : l ≡ leg_between x y = same_leg l x y (sym can.1.same ∙ ap (λ (a : Route). a.input) same) (sym e) in
        (number, inr ((λ i. Old (is i) (ap (λ (a : Route). a.middle) same i)), none_seen v.frame v.number m.looks))

    go : (y : Port) (n : ℕ) (j : Middle) (x : Port) → IsHeld m v y n j x → IsHeld (out_cleared l w.middle m) v y n j x
    go y n j x (number, inr b) = let is = can.0 in let was = b.0 in absurd (cc)
    go y n j x (number, inl a) = here y n j x number a.0 a.1 (port_discrete y l.output)

pub switched_holds : (d : Dimensions) (m : Mover) (l : Leg) (k : Middle) (v : Worker) → m.phase ≡ MidSet l k → ((w : Route) → leg_at m l.output ≡ Some w → w.input ≡ l.input) → IsWorkerRuled d m v → IsWorkerRuled d (switched l k m) v
switched_holds d m l k v phase same r = record {
  hold_is = holds_on d m (switched l k m) v (λ y n j x _ h. go y n j x h) v.hold r.hold_is;
  may_end = r.may_end;
  logged = logged_later m.log l v.notes r.logged;
  of_last_word = r.of_last_word;
  found = r.found;
}
  where
    here : (y : Port) (n : ℕ) (j : Middle) (x : Port) → Numbered m.log n (leg_between x y) → Latest m.log y n → leg_at m y ≡ Some (record { input = x; middle = j }) → Dec (y ≡ l.output) → IsHeld (switched l k m) v y n j x
    here y n j x number last at (no e) = (numbered_more m.log n (leg_between x y) l number, inl (latest_more m.log y n l (λ f. e (sym f)) last, else_port m.legs l.output y (Some (over l k)) None e ∙ at))
    here y n j x number last at (yes e) =
        let at' : leg_at m l.output ≡ Some (record { input = x; middle = j }) = ap (leg_at m) (sym e) ∙ at in
        let is : l ≡ leg_between x y = same_leg l x y (sym (same (record { input = x; middle = j }) at')) (sym e) in (
          numbered_more m.log n (leg_between x y) l number,
          inr (
            ap (after_switch l) at' ∙ ap (λ (a : Leg). Old a j) is,
            subst (λ (o : Option Route). AllAre v.frame (get_or (looks_after o m.looks) v.number [])) (sym at') (none_seen v.frame v.number m.looks),
          ),
        )

    go : (y : Port) (n : ℕ) (j : Middle) (x : Port) → IsHeld m v y n j x → IsHeld (switched l k m) v y n j x
    go y n j x (number, inr b) = let was = b.0 in absurd (cc)
    go y n j x (number, inl a) = here y n j x number a.0 a.1 (port_discrete y l.output)

-- The end of a phase, and the parts of all legs that stand, lead to no legs.
use Rattle.std.proofs.Common.{◌≡◌, ℕ, ◌+◌, List, [], ◌∷◌, ◌++◌, length, drop, sym, refl, ap, ap₂, ◌∙◌, inl, inr, subst, arith, slice_set, Option, Some, None, append-nil, append_assoc}
use Rattle.std.proofs.lemmas.List.{drop-set-lt, get_or_at, length-replicate, replicate_more, set_at}
use Rattle.dxc_num.specs.declared.port.Leg.{Leg}
use Rattle.dxc_num.specs.declared.port.Port.{Port}
use Rattle.dxc_num.specs.declared.port.Route.{Route}
use Rattle.dxc_num.specs.declared.register.RegWrite.{RegWrite}
use Rattle.dxc_num.specs.Dimensions.{Dimensions, leg_between}
use Rattle.roll_plan.specs.Works.{part_writes, switches_in}
use Rattle.paull_matrix.specs.Colourings.{Colouring, colouring_of, Holds, without_leg}
use Rattle.fabric_core.specs.declared.mover.Mover.{Mover}
use Rattle.fabric_core.specs.declared.phase.Phase.{Phase}
use Rattle.fabric_core.specs.declared.phase.Phase.TheVariants.{Rest, InSet, MidSet, Old, Freed}
use Rattle.roll_engine.specs.declared.rolling.Behind.{Behind}
use Rattle.roll_engine.specs.declared.rolling.Behind.TheVariants.{PartsFrom}
use Rattle.roll_engine.specs.Rollings.{RollingAt, rest_of}
use Rattle.roll_engine.specs.Courses.{Course, Goes, course_of, course_after, at_rest}
use Rattle.roll_engine.specs.Cold.{end_writes, parts_from, parts_behind, joins_of, left_behind, legs_then, left_of, IsColdFrom, IsNextHeld}
use Rattle.roll_engine.proofs.Colouring.{Leads, leads_on, leads_none, part_leads}
use Rattle.roll_engine.proofs.Joining.{no_routes, one_more}

-- the path that the phase names is cleared, and then the registers are at rest on the same legs
pub end_goes : (d : Dimensions) (p : Phase) (legs : List (Option Route)) (us : List RegWrite) → Goes d us (at_rest legs) → Goes d (end_writes p ++ us) (record { legs = legs; phase = p })
end_goes d Rest legs us h = h
end_goes d (InSet l k) legs us h = (inr refl, h)
end_goes d (MidSet l k) legs us h = (inr refl, (inl refl, h))
end_goes d (Old l k) legs us h = (inl refl, (inl refl, h))
end_goes d (Freed l k) legs us h = (inl refl, h)

pub end_after : (p : Phase) (legs : List (Option Route)) → course_after (end_writes p) (record { legs = legs; phase = p }) ≡ at_rest legs
end_after Rest legs = refl
end_after (InSet l k) legs = refl
end_after (MidSet l k) legs = refl
end_after (Old l k) legs = refl
end_after (Freed l k) legs = refl

pub end_unswitched : (p : Phase) → switches_in (end_writes p) ≡ 0
end_unswitched Rest = refl
end_unswitched (InSet l k) = refl
end_unswitched (MidSet l k) = refl
end_unswitched (Old l k) = refl
end_unswitched (Freed l k) = refl

-- one output more without a leg
one_none : (n : ℕ) (rs : List (Option Route)) → no_routes n ++ None ∷ rs ≡ no_routes (n + 1) ++ rs
one_none n rs = sym (one_more (no_routes n) rs None) ∙ ap (λ (xs : List (Option Route)). xs ++ rs) (replicate_more n None)

parts_lead : (d : Dimensions) (n : ℕ) (rs : List (Option Route)) → Leads d (parts_from n rs) (no_routes n ++ rs) (no_routes (n + length rs))
parts_lead d n [] =
    let none : n ≡ n + 0 = omega arith in
    subst (Leads d [] (no_routes n ++ [])) (append-nil (no_routes n) ∙ ap no_routes none) (leads_none d (no_routes n ++ []))
parts_lead d n (None ∷ rs) =
    let whole : (n + 1) + length rs ≡ n + length (None ∷ rs) = omega arith in
    subst (λ (t : List (Option Route) × ℕ). Leads d (parts_from (n + 1) rs) t.0 (no_routes t.1)) (λ i. (sym (one_none n rs) i, whole i)) (parts_lead d (n + 1) rs)
parts_lead d n (Some w ∷ rs) =
    let l : Leg = leg_between w.input (record { 0 = n }) in
    let c : Colouring = colouring_of d (no_routes n ++ Some w ∷ rs) in
    let held : Holds c l w.middle.0 = get_or_at (no_routes n) (Some w) rs None n (length-replicate n None) in
    let gone : (without_leg l c).routes ≡ no_routes (n + 1) ++ rs = set_at (no_routes n) (Some w) rs None n (length-replicate n None) ∙ one_none n rs in
    let whole : (n + 1) + length rs ≡ n + length (Some w ∷ rs) = omega arith in
    leads_on d (part_writes l w.middle) (parts_from (n + 1) rs) c.routes (no_routes (n + 1) ++ rs) (no_routes (n + length (Some w ∷ rs)))
    (subst (Leads d (part_writes l w.middle) c.routes) gone (part_leads c l w.middle held))
    (subst (λ (t : ℕ). Leads d (parts_from (n + 1) rs) (no_routes (n + 1) ++ rs) (no_routes t)) whole (parts_lead d (n + 1) rs))

drop_nothing : (legs : List (Option Route)) → drop 0 legs ≡ legs
drop_nothing [] = refl
drop_nothing (o ∷ legs) = refl

-- from any legs to none
pub all_part : (d : Dimensions) (legs : List (Option Route)) → Leads d (parts_behind legs 0) legs (no_routes (length legs))
all_part d legs =
    let whole : 0 + length legs ≡ length legs = omega arith in
    subst (λ (t : List (Option Route) × ℕ). Leads d (parts_from 0 t.0) legs (no_routes t.1)) (λ i. (sym (drop_nothing legs) i, whole i)) (parts_lead d 0 legs)

pub parts_unswitched : (y : ℕ) (rs : List (Option Route)) → switches_in (parts_from y rs) ≡ 0
parts_unswitched y [] = refl
parts_unswitched y (None ∷ rs) = parts_unswitched (y + 1) rs
parts_unswitched y (Some w ∷ rs) = let e = parts_unswitched (y + 1) rs in omega arith

-- what is left, where the work in hand is made
pub left_when_made : (c : Colouring) (m : Mover) (r : RollingAt) → rest_of r ≡ [] → left_of c m r ≡ left_behind c m.legs r.behind
left_when_made c m r none = ap₂ (λ (ws : List RegWrite) (legs : List (Option Route)). ws ++ left_behind c legs r.behind) none (ap (λ (ws : List RegWrite). (course_after ws (course_of m)).legs) none)

-- the part of the next leg that stands is taken in hand
pub took_part : (d : Dimensions) (c : Colouring) (m : Mover) (r : RollingAt) (y : Port) (next : Port × Route) → rest_of r ≡ part_writes (leg_between next.1.input next.0) next.1.middle → r.behind ≡ PartsFrom (record { 0 = next.0.0 + 1 })
    → IsNextHeld d m.legs y next → left_of c m r ≡ parts_behind m.legs y.0 ++ joins_of c
took_part d c m r y next rest behind h =
    let part : List RegWrite = part_writes (leg_between next.1.input next.0) next.1.middle in
    let later = parts_behind m.legs (next.0.0 + 1) in
    let legs : legs_then m r ≡ slice_set m.legs next.0.0 None = ap (λ (ws : List RegWrite). (course_after ws (course_of m)).legs) rest in
    let others : parts_behind (slice_set m.legs next.0.0 None) (next.0.0 + 1) ≡ later = ap (parts_from (next.0.0 + 1)) (drop-set-lt (next.0.0 + 1) m.legs next.0.0 None (omega arith)) in
    ap₂ (λ (ws : List RegWrite) (t : List (Option Route) × Behind). ws ++ left_behind c t.0 t.1) rest (λ i. (legs i, behind i))
    ∙ (ap (λ (ws : List RegWrite). part ++ (ws ++ joins_of c)) others ∙ (sym (append_assoc part later (joins_of c)) ∙ ap (λ (ws : List RegWrite). ws ++ joins_of c) (sym h.parts)))

-- what a cold rolling begins with
pub left_first : (c : Colouring) (m : Mover) (r : RollingAt) → IsColdFrom m.phase r → left_of c m r ≡ end_writes m.phase ++ (parts_behind m.legs 0 ++ joins_of c)
left_first c m r h =
    let legs : legs_then m r ≡ m.legs = ap (λ (x : Course). x.legs) (ap (λ (ws : List RegWrite). course_after ws (course_of m)) h.ends ∙ end_after m.phase m.legs) in
    ap₂ (λ (ws : List RegWrite) (t : List (Option Route) × Behind). ws ++ left_behind c t.0 t.1) h.ends (λ i. (legs i, h.behind i))

-- Moves made and taken back.
use Rattle.std.proofs.Common.{◌≡◌, ◌≢◌, ℕ, zero, suc, ◌+◌, ◌<◌, ◌≤◌, List, [], ◌∷◌, ◌++◌, take, length, get_or, set, sym, refl, ap, ◌∙◌, subst, ⊎_elim, arith, Option, Some, None}
use Rattle.std.proofs.lemmas.List.{set-set, set-get_or}
use Rattle.dxc_num.specs.declared.port.Leg.{Leg}
use Rattle.dxc_num.specs.declared.port.Route.{Route}
use Rattle.paull_matrix.proofs.Legs.{held_here, held_before, held_rest, out_low, with_leg_proper}
use Rattle.paull_matrix.proofs.Indexed.{with_leg_again, unused_after}
use Rattle.dxc_num.specs.declared.port.Middle.{Middle}
use Rattle.roll_plan.specs.declared.op.Move.{Move}
use Rattle.roll_plan.specs.declared.op.Choice.{Choice}
use Rattle.roll_plan.specs.declared.op.LegOp.TheVariants.{Join, Part}
use Rattle.dxc_num.specs.Dimensions.{leg, route}
use Rattle.paull_chain.specs.Works.{AreValidMoves, MovesMade, OpMade, after, moved}
use Rattle.paull_matrix.specs.Colourings.{CanPlace, Colouring, Holds, IsFreeFor, IsProperColouring, IsUnused, colouring_of, route_at, with_leg, without_leg}

pub moved_proper : (c : Colouring) (m : Move) → IsProperColouring c → Holds c m.leg m.from.0 → m.to.0 ≤ c.shape.slots → IsFreeFor c m.leg m.to.0 → IsProperColouring (moved m c)
moved_proper c m p held le free = with_leg_proper c m.leg m.to.0 p (p.inside m.leg m.from.0 held).0 le free (λ x q h e. ap (λ (o : Leg). o.output.0) (p.inputs x m.leg q m.from.0 h held e))

pub after_proper : (ms : List Move) (c : Colouring) → IsProperColouring c → AreValidMoves ms c → IsProperColouring (after ms c)
after_proper [] c p v = p
after_proper (m ∷ ms) c p v = after_proper ms (moved m c) (moved_proper c m p v.0 v.1 v.2) v.3

-- the parts of a list of valid moves
pub valid_before : (ms ns : List Move) (c : Colouring) → AreValidMoves (ms ++ ns) c → AreValidMoves ms c × AreValidMoves ns (after ms c)
valid_before [] ns c v = (tt, v)
valid_before (m ∷ ms) ns c v = let r = valid_before ms ns (moved m c) v.3 in ((v.0, v.1, v.2, r.0), r.1)

-- a leg that is put where it is stays
pub put_same : (c : Colouring) (l : Leg) (k : ℕ) → Holds c l k → with_leg l k c ≡ c
put_same c l k h = ap (colouring_of c.shape) (ap (set c.routes l.output.0) (sym h) ∙ set-get_or c.routes l.output.0 None)

pub move_back : (c : Colouring) (m : Move) → Holds c m.leg m.from.0 → with_leg m.leg m.from.0 (moved m c) ≡ c
move_back c m h = ap (colouring_of c.shape) (set-set c.routes m.leg.output.0 (Some (route m.leg.input.0 m.to.0)) (Some (route m.leg.input.0 m.from.0))) ∙ put_same c m.leg m.from.0 h

-- the move back is valid
pub free_back : (c : Colouring) (m : Move) → IsProperColouring c → Holds c m.leg m.from.0 → IsFreeFor c m.leg m.to.0 → IsFreeFor (moved m c) m.leg m.from.0
free_back c m p held free s y g e = ⊎_elim
    (λ (u : (y ≡ m.leg) × (m.from.0 ≡ m.to.0)). free s m.leg (subst (Holds c m.leg) u.1 held) refl)
    (λ (u : (y.output.0 ≢ m.leg.output.0) × Holds c y m.from.0). u.0 (ap (λ (o : Leg). o.output.0) (p.apart s m.from.0 y m.leg u.1 held e)))
    (held_before c m.leg y m.to.0 m.from.0 (out_low c m.leg p (p.inside m.leg m.from.0 held).0) g)

no_route : (c : Colouring) (l : Leg) → IsUnused c l → (o : Option Route) → route_at c l.output.0 ≡ o → o ≡ None
no_route c l u None e = refl
no_route c l u (Some w) e = absurd (u.output (leg w.input.0 l.output.0) w.middle.0 e refl)

pub remove_back : (c : Colouring) (l : Leg) (k : ℕ) → IsUnused c l → without_leg l (with_leg l k c) ≡ c
remove_back c l k u = ap (colouring_of c.shape) (set-set c.routes l.output.0 (Some (route l.input.0 k)) None ∙ (ap (set c.routes l.output.0) (sym (no_route c l u (route_at c l.output.0) refl)) ∙ set-get_or c.routes l.output.0 None))

pub place_back : (c : Colouring) (l : Leg) (k : ℕ) → Holds c l k → with_leg l k (without_leg l c) ≡ c
place_back c l k h = with_leg_again c l k ∙ put_same c l k h

-- the last of the first n + 1 moves
pub record LastMove (ms : List Move) (n : ℕ) (m : Move) (c : Colouring) : Type 0 where
  pub proper : IsProperColouring (after (take n ms) c)
  pub held : Holds (after (take n ms) c) m.leg m.from.0
  pub low : m.to.0 ≤ (after (take n ms) c).shape.slots
  pub free : IsFreeFor (after (take n ms) c) m.leg m.to.0
  pub is : after (take (n + 1) ms) c ≡ moved m (after (take n ms) c)

pub last_move : (ms : List Move) (n : ℕ) (d : Move) (c : Colouring) → n < length ms → IsProperColouring c → AreValidMoves ms c → LastMove ms n (get_or ms n d) c
last_move [] n d c h p v = let z : ⊥ = omega arith in absurd z
last_move (m ∷ ms) zero d c h p v = record { proper = p; held = v.0; low = v.1; free = v.2; is = refl }
last_move (m ∷ ms) (suc n) d c h p v = let r = last_move ms n d (moved m c) (omega arith) (moved_proper c m p v.0 v.1 v.2) v.3 in
    record { proper = r.proper; held = r.held; low = r.low; free = r.free; is = ap (λ (j : ℕ). after (take j (m ∷ ms)) c) (let e : suc n + 1 ≡ suc (n + 1) = omega arith in e) ∙ r.is }

-- the matrix d before its last move is taken back
pub record BackStep (ms : List Move) (n : ℕ) (m : Move) (c d : Colouring) : Type 0 where
  pub held : Holds d m.leg m.to.0
  pub low : m.from.0 ≤ d.shape.slots
  pub free : IsFreeFor d m.leg m.from.0
  pub is : with_leg m.leg m.from.0 d ≡ after (take n ms) c

pub back_step : (ms : List Move) (n : ℕ) (e : Move) (c d : Colouring) → n < length ms → IsProperColouring c → AreValidMoves ms c → d ≡ after (take (n + 1) ms) c → BackStep ms n (get_or ms n e) c d
back_step ms n e c d h p v is =
    let m : Move = get_or ms n e in
    let b : Colouring = after (take n ms) c in
    let r = last_move ms n e c h p v in
    let i = r.proper.inside m.leg m.from.0 r.held in
    subst (λ (x : Colouring). BackStep ms n m c x) (sym (is ∙ r.is)) record {
      held = held_here b m.leg m.to.0 (out_low b m.leg r.proper i.0);
      low = i.1;
      free = free_back b m r.proper r.held r.free;
      is = move_back b m r.held;
    }

pub join_back : (c d : Colouring) (l : Leg) (h : Choice) (ms : _) → OpMade (Join l h ms) c d → Holds d l h.middle.0 × MovesMade ms.items c (without_leg l d)
join_back c d l h ms made =
    let b : Colouring = after ms.items c in
    let p = after_proper ms.items c made.0 made.1.0 in
    let can = made.1.1 in (
      subst (λ (x : Colouring). Holds x l h.middle.0) (sym made.2) (held_here b l h.middle.0 (out_low b l p can.inside)),
      (made.0, made.1.0, ap (without_leg l) made.2 ∙ remove_back b l h.middle.0 can.unused),
    )

pub part_back : (c d : Colouring) (l : Leg) (k : Middle) → OpMade (Part l k) c d → CanPlace d l k.0 × (with_leg l k.0 d ≡ c)
part_back c d l k made =
    let held = made.1 in
    let i = made.0.inside l k.0 held in
    let low = out_low c l made.0 i.0 in (
      subst (λ (x : Colouring). CanPlace x l k.0) (sym made.2) record {
        inside = i.0;
        low = i.1;
        unused = unused_after c l k.0 made.0 held;
        free = λ s y g e. let r = held_rest c l y k.0 low g in r.0 (ap (λ (o : Leg). o.output.0) (made.0.apart s k.0 y l r.1 held e));
      },
      ap (with_leg l k.0) made.2 ∙ place_back c l k.0 held,
    )

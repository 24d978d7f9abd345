-- A plan is a valid work.
use Rattle.std.specs.Prelude.{IfSome, MatchOption}
use Rattle.std.proofs.Common.{◌≡◌, ◌≢◌, ℕ, ◌<◌, ◌≤◌, length, List, [], ◌∷◌, sym, refl, subst, ⊎_elim, arith, length-set, Option, Some, None}
use Rattle.dxc_num.specs.declared.port.Leg.{Leg}
use Rattle.dxc_num.specs.Dimensions.{Dimensions, IsInside, route}
use Rattle.roll_plan.specs.declared.op.Move.{Move}
use Rattle.roll_plan.specs.declared.op.Choice.{Choice}
use Rattle.roll_plan.specs.declared.op.LegOp.{LegOp}
use Rattle.roll_plan.specs.declared.op.LegOp.TheVariants.{Join, Part, Shift}
use Rattle.paull_matrix.specs.Colourings.{CanPlace, Colouring, Holds, IsEmpty, with_leg}
use Rattle.paull_matrix.proofs.Legs.{held_before}
use Rattle.paull_chain.specs.Works.{moved, after, IsValidWork}
use Rattle.paull_chain.specs.Paull.{CanJoin}
use Rattle.paull_chain.specs.Choices.{Expands, IsJoinable, IsValidChoice, JoinsBy, Plans}

pub after_shape : (ms : List Move) (c : Colouring) → (after ms c).shape ≡ c.shape
after_shape [] c = refl
after_shape (m ∷ ms) c = after_shape ms (moved m c)

can_place : (c : Colouring) (l : Leg) (ms : List Move) (k : ℕ) → IsInside c.shape l → CanJoin c l ms k → CanPlace (after ms c) l k
can_place c l ms k i can = let works = can.works in record {
  inside = subst (λ (d : Dimensions). IsInside d l) (sym (after_shape ms c)) i;
  low = subst (λ (d : Dimensions). k ≤ d.slots) (sym (after_shape ms c)) (omega arith);
  unused = can.unused;
  free = can.free;
}

spare_left : (c : Colouring) (l : Leg) (ms : List Move) (k : ℕ) → IsInside c.shape l → CanJoin c l ms k → IsEmpty (with_leg l k (after ms c)) c.shape.slots
spare_left c l ms k i can x h = ⊎_elim
    (λ (u : (x ≡ l) × (c.shape.slots ≡ k)). let d = u.1 in let works = can.works in let n : ⊥ = omega arith in n)
    (λ (u : (x.output.0 ≢ l.output.0) × Holds (after ms c) x c.shape.slots). can.spare x u.1)
    (held_before (after ms c) l x k c.shape.slots low h)
  where
    inside : IsInside (after ms c).shape l
    inside = subst (λ (d : Dimensions). IsInside d l) (sym (after_shape ms c)) i

    low : l.output.0 < length (after ms c).routes
    low = let n = can.proper.size in let m = length-set (after ms c).routes l.output.0 (Some (route l.input.0 k)) in let b = inside.output in omega arith

pub joins_valid : (c : Colouring) (l : Leg) (h : Choice) (op : LegOp) → IsInside c.shape l → IsEmpty c c.shape.slots → JoinsBy c l h op → IsValidWork c (op ∷ [])
joins_valid c l h (Join x g ms) i e j = subst (λ (w : Leg × Choice). IsValidWork c (Join w.0 w.1 ms ∷ [])) (λ t. (sym j.0 t, sym j.1 t)) record {
  steps = ((j.3.valid, can_place c l ms.items h.middle.0 i j.3), tt);
  spare_before = e;
  spare_after = spare_left c l ms.items h.middle.0 i j.3;
}
joins_valid c l h (Part x k) i e j = absurd j
joins_valid c l h (Shift ms) i e j = absurd j

pub plan_valid : (c : Colouring) (l : Leg) (op : LegOp) → IsInside c.shape l → IsEmpty c c.shape.slots → Plans c l op → IsValidWork c (op ∷ [])
plan_valid c l op i e p = joins_valid c l p.0 op i e p.2

-- a choice that is expanded makes a valid work
pub expanded_valid : (c : Colouring) (l : Leg) (h : Choice) (r : Option LegOp) → IsJoinable c l → MatchOption r (¬ IsValidChoice c l h.middle.0 h.chain) (Expands c l h) → IfSome r (λ op. IsValidWork c (op ∷ []))
expanded_valid c l h None joinable is = tt
expanded_valid c l h (Some op) joinable is = joins_valid c l h op joinable.0 joinable.2 is.1

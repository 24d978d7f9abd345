-- Ops made one after the other.
use Rattle.std.proofs.Common.{◌≡◌, ℕ, zero, suc, ◌+◌, ◌<◌, List, [], ◌∷◌, ◌++◌, take, length, get_or, sym, refl, ap, ◌∙◌, subst, arith}
use Rattle.dxc_num.specs.Dimensions.{Dimensions}
use Rattle.roll_plan.specs.declared.op.LegOp.{LegOp}
use Rattle.roll_plan.specs.declared.op.LegOp.TheVariants.{Join, Part, Shift}
use Rattle.paull_matrix.specs.Colourings.{Colouring, IsEmpty, IsProperColouring}
use Rattle.paull_matrix.proofs.Legs.{out_low, with_leg_proper, without_leg_proper}
use Rattle.paull_chain.specs.Works.{after, after_op, after_ops, IsValidOp, AreValidOps, OpMade}
use Rattle.paull_chain.specs.Laws.{AreWorksComposed, IsPropernessKept}
use Rattle.paull_chain.proofs.Planned.{after_shape}
use Rattle.paull_chain.proofs.Undoing.{after_proper}

pub op_proper : (op : LegOp) (c : Colouring) → IsProperColouring c → IsValidOp c op → IsProperColouring (after_op op c)
op_proper (Join l h ms) c p v = with_leg_proper (after ms.items c) l h.middle.0 (after_proper ms.items c p v.0) v.1.inside v.1.low v.1.free (λ x q g e. absurd (v.1.unused.input x q g e))
op_proper (Part l k) c p v = without_leg_proper c l p (out_low c l p (p.inside l k.0 v).0)
op_proper (Shift ms) c p v = after_proper ms.items c p v

pub ops_proper : (ops : List LegOp) (c : Colouring) → IsProperColouring c → AreValidOps c ops → IsProperColouring (after_ops ops c)
ops_proper [] c p v = p
ops_proper (op ∷ ops) c p v = ops_proper ops (after_op op c) (op_proper op c p v.0) v.1

pub op_shape : (op : LegOp) (c : Colouring) → (after_op op c).shape ≡ c.shape
op_shape (Join l h ms) c = after_shape ms.items c
op_shape (Part l k) c = refl
op_shape (Shift ms) c = after_shape ms.items c

pub ops_shape : (ops : List LegOp) (c : Colouring) → (after_ops ops c).shape ≡ c.shape
ops_shape [] c = refl
ops_shape (op ∷ ops) c = ops_shape ops (after_op op c) ∙ op_shape op c

pub after_ops-append : (xs ys : List LegOp) (c : Colouring) → after_ops (xs ++ ys) c ≡ after_ops ys (after_ops xs c)
after_ops-append [] ys c = refl
after_ops-append (x ∷ xs) ys c = after_ops-append xs ys (after_op x c)

pub valid_append : (xs ys : List LegOp) (c : Colouring) → AreValidOps c xs → AreValidOps (after_ops xs c) ys → AreValidOps c (xs ++ ys)
valid_append [] ys c v w = w
valid_append (x ∷ xs) ys c v w = (v.0, valid_append xs ys (after_op x c) v.1 w)

pub works_composed : AreWorksComposed
works_composed c xs ys v w =
    let e = after_ops-append xs ys c in (
      record {
        steps = valid_append xs ys c v.steps w.steps;
        spare_before = v.spare_before;
        spare_after = subst (λ (d : Colouring). IsEmpty d c.shape.slots) (sym e) (subst (λ (z : Dimensions). IsEmpty (after_ops ys (after_ops xs c)) z.slots) (ops_shape xs c) w.spare_after);
      },
      e,
    )

pub properness_kept : IsPropernessKept
properness_kept c ops p v = ops_proper ops c p v.steps

-- the last of the first n + 1 ops was made on what the first n left
pub last_op : (ops : List LegOp) (n : ℕ) (op : LegOp) (c d : Colouring) → n < length ops → op ≡ get_or ops n op → IsProperColouring c → AreValidOps c ops → d ≡ after_ops (take (n + 1) ops) c → OpMade op (after_ops (take n ops) c) d
last_op [] n op c d h is p v e = let z : ⊥ = omega arith in absurd z
last_op (x ∷ xs) zero op c d h is p v e = (p, subst (IsValidOp c) (sym is) v.0, e ∙ ap (λ (o : LegOp). after_op o c) (sym is))
last_op (x ∷ xs) (suc n) op c d h is p v e = last_op xs n op (after_op x c) d (omega arith) is (op_proper x c p v.0) v.1 (e ∙ ap (λ (j : ℕ). after_ops (take j (x ∷ xs)) c) (let f : suc n + 1 ≡ suc (n + 1) = omega arith in f))

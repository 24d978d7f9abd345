-- A pair of middles with a chain of at most r - 1 legs.
use Rattle.std.proofs.Common.{◌≡◌, ◌≢◌, ◌<◌, List, length, sym, subst, Bool, true, false, true≢false, not, refl}
use Rattle.dxc_num.specs.declared.port.Leg.{Leg}
use Rattle.dxc_num.specs.declared.port.Middle.{Middle}
use Rattle.dxc_num.specs.Dimensions.{IsInside}
use Rattle.roll_plan.specs.declared.op.LegOp.{LegOp}
use Rattle.paull_matrix.specs.declared.side.Side.{Side}
use Rattle.paull_matrix.specs.declared.side.Side.TheVariants.{Row, Column}
use Rattle.paull_matrix.specs.Colourings.{Colouring, IsEmpty, IsFree, IsProperColouring, IsUnused, module_on}
use Rattle.paull_matrix.proofs.Legs.{both_sides}
use Rattle.paull_chain.specs.Chains.{Chain}
use Rattle.paull_chain.specs.Choices.{choice_on, Expands, IsPair, IsValidChoice, JoinsAfter}
use Rattle.paull_chain.proofs.Planning.{joins_after}

module _ (c : Colouring) (l : Leg) (a b : Middle) where
  valid_by : (s : Side) (ls : List Leg) → IsPair c l a.0 b.0 → Chain c a.0 b.0 s (module_on c.shape s l) ls → length ls < c.shape.modules → IsValidChoice c l (choice_on s a b).middle.0 (choice_on s a b).chain
  valid_by Row ls n h short = (n, (ls, h, short))
  valid_by Column ls n h short = (n, (ls, h, short))

  -- a valid choice of a chain has a pair, and a chain of at most r - 1 legs
  pub pair_of : (s : Side) → IsValidChoice c l (choice_on s a b).middle.0 (choice_on s a b).chain → IsPair c l a.0 b.0 × ((ls : List Leg) × Chain c a.0 b.0 s (module_on c.shape s l) ls × (length ls < c.shape.modules))
  pair_of Row v = v
  pair_of Column v = v

  differ : IsPair c l a.0 b.0 → a.0 ≢ b.0
  differ n d = n.used.0 (both_sides c l a.0 n.in_row (subst (IsFree c Column (module_on c.shape Column l)) (sym d) n.in_column))

  pub expands : (s : Side) (ls : List Leg) (op : LegOp) → IsProperColouring c → IsInside c.shape l → IsUnused c l → IsEmpty c c.shape.slots → IsPair c l a.0 b.0
      → Chain c a.0 b.0 s (module_on c.shape s l) ls → length ls < c.shape.modules → JoinsAfter l (choice_on s a b) ls c.shape.slots op → Expands c l (choice_on s a b) op
  expands s ls op p i u e n h short is = (valid_by s ls n h short, joins_after c l a b p i u e n.low.0 n.low.1 (differ n) n.in_row n.in_column s ls op h short is)

pub not_true : (b : Bool) → not b ≡ true → b ≡ true → ⊥
not_true true h e = true≢false (sym h)
not_true false h e = true≢false (sym e)

pub true_not : (b : Bool) → (b ≡ true → ⊥) → not b ≡ true
true_not true h = absurd (h refl)
true_not false h = refl

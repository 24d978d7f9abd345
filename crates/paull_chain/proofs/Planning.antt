-- The choice by lowest numbers and its join.
use Rattle.std.proofs.Common.{◌≡◌, ◌≢◌, ℕ, ◌+◌, ◌/◌, ◌<◌, ◌≤◌, List, [], length, sym, refl, ap, ◌∙◌, subst, arith, IsBitSet, ◌↔◌, MatchOption, Option, Some, None}
use Rattle.dxc_num.specs.declared.port.Leg.{Leg}
use Rattle.dxc_num.specs.declared.port.Middle.{Middle}
use Rattle.dxc_num.specs.Dimensions.{Dimensions, IsInside}
use Rattle.roll_plan.specs.declared.op.Move.{Move}
use Rattle.roll_plan.specs.declared.op.Choice.{Choice}
use Rattle.roll_plan.specs.declared.op.Chain.TheVariants.{Direct}
use Rattle.roll_plan.specs.declared.op.LegOp.{LegOp}
use Rattle.roll_plan.specs.declared.op.LegOp.TheVariants.{Join, Part, Shift}
use Rattle.roll_plan.specs.Works.{IsDirectJoin}
use Rattle.paull_matrix.specs.declared.side.Side.{Side}
use Rattle.paull_matrix.specs.declared.side.Side.TheVariants.{Row, Column}
use Rattle.paull_matrix.specs.Colourings.{Colouring, IsEmpty, IsFree, IsFreeFor, IsProperColouring, IsUnused, module_on}
use Rattle.paull_matrix.proofs.Legs.{both_sides, module_low}
use Rattle.paull_chain.specs.Choices.{choice_on, other_middle, IsChosen, IsChainOf, JoinsAfter, JoinsBy, NeedsChain, Plans}
use Rattle.paull_matrix.specs.Middles.{IsLowest}
use Rattle.paull_chain.specs.Chains.{Chain, leave, pair_of}
use Rattle.paull_chain.specs.Exchanges.{exchange}
use Rattle.paull_chain.specs.Paull.{CanJoin}
use Rattle.paull_chain.specs.Walks.{IsShorter, row_and_column}
use Rattle.paull_chain.proofs.Bound.{short}
use Rattle.paull_chain.proofs.Seconds.{chain_walk}
use Rattle.paull_chain.proofs.Exchanging.{length_exchange}
use Rattle.paull_chain.proofs.Going.{walk_within}
use Rattle.paull_chain.proofs.Joining.{row_chain, column_chain, by_chain, direct}

pub exchange_count : (ls : List Leg) (ms : List Move) (k q t : ℕ) → ms ≡ exchange ls k q t → length ms ≡ length ls + length ls / 2
exchange_count ls ms k q t e = ap (λ (os : List Move). length os) e ∙ length_exchange ls k q t

pub some_modules : (d : Dimensions) (l : Leg) → IsInside d l → 0 < d.modules
some_modules d l i = let h = module_low d Row l i in omega arith

-- what the lowest bit says of what the bits say
pub lowest_of : (P : ℕ → Type 0) (bits n : ℕ) → ((k : ℕ) → k ≤ n → (IsBitSet bits k ↔ P k)) → (r : Option Middle)
    → MatchOption r ((k : ℕ) → k < n → ¬ IsBitSet bits k) (λ m. (m.0 < n) × IsBitSet bits m.0 × ((k : ℕ) → k < m.0 → ¬ IsBitSet bits k))
    → MatchOption r ((k : ℕ) → k < n → P k → ⊥) (λ m. IsLowest P n m.0)
lowest_of P bits n is None h = λ k lt f. h k lt ((is k (omega arith)).1 f)
lowest_of P bits n is (Some m) h = let low = h.0 in (low, (is m.0 (omega arith)).0 h.1, (λ j lt f. h.2 j lt ((is j (omega arith)).1 f)))

-- the two middles of a chain that is needed differ
pub needs_apart : (c : Colouring) (l : Leg) (a b : ℕ) → NeedsChain c l a b → a ≢ b
needs_apart c l a b n e = n.none a n.in_row.0 (both_sides c l a n.in_row.1 (subst (IsFree c Column (module_on c.shape Column l)) (sym e) n.in_column.1))

module _ (c : Colouring) (l : Leg) (a b : ℕ) (p : IsProperColouring c) (i : IsInside c.shape l) (n : NeedsChain c l a b) where
  row_low : module_on c.shape Row l < c.shape.modules
  row_low = module_low c.shape Row l i

  column_low : module_on c.shape Column l < c.shape.modules
  column_low = module_low c.shape Column l i

  pub shorter_low : (s : Side) (ls : List Leg) → IsShorter c (pair_of a b) (row_and_column (module_on c.shape Row l) (module_on c.shape Column l)) s ls → length ls + 1 ≤ c.shape.modules
  shorter_low Row ls h =
      let f = short c a b p (module_on c.shape Row l) (module_on c.shape Column l) ls h.1.0 n.in_row.1 n.in_column.1 row_low column_low (chain_walk c a b Row (module_on c.shape Row l) ls h.0) h.1.1 in let e = h.1.2 in omega arith
  shorter_low Column ls h =
      let f = short c a b p (module_on c.shape Row l) (module_on c.shape Column l) h.1.0 ls n.in_row.1 n.in_column.1 row_low column_low h.1.1 (chain_walk c a b Column (module_on c.shape Column l) ls h.0) in let e = h.1.2 in omega arith

  -- the shorter chain is the one that is chosen
  pub chosen : (s : Side) (ls : List Leg) → IsShorter c (pair_of a b) (row_and_column (module_on c.shape Row l) (module_on c.shape Column l)) s ls → IsChosen c l (leave a b s) (choice_on s (record { 0 = a }) (record { 0 = b })).chain
  chosen Row ls h =
      let whole = column_chain c a b p (module_on c.shape Row l) (module_on c.shape Column l) n.in_row.1 n.in_column.1 row_low column_low in
      let le = walk_within c a b p Column (module_on c.shape Column l) h.1.0 whole.0 h.1.1 whole.1 in
      let size = h.1.2 in (n, (ls, whole.0, record { row = h.0; column = whole.1 }, omega arith))
  chosen Column ls h =
      let whole = row_chain c a b p (module_on c.shape Row l) (module_on c.shape Column l) n.in_row.1 n.in_column.1 row_low column_low in
      let le = walk_within c a b p Row (module_on c.shape Row l) h.1.0 whole.0 h.1.1 whole.1 in
      let size = h.1.2 in (n, (whole.0, ls, record { row = whole.1; column = h.0 }, omega arith))

  pub whole : (s : Side) (ls : List Leg) → IsShorter c (pair_of a b) (row_and_column (module_on c.shape Row l) (module_on c.shape Column l)) s ls → Chain c a b s (module_on c.shape s l) ls
  whole Row ls h = h.0
  whole Column ls h = h.0

-- the join after the exchange of a chain of at most r - 1 legs
joined : (c : Colouring) (l : Leg) (h : Choice) (ls : List Leg) (op : LegOp) → IsChainOf c l h.middle.0 h.chain ls → length ls < c.shape.modules
    → CanJoin c l (exchange ls h.middle.0 (other_middle h.middle.0 h.chain) c.shape.slots) h.middle.0 → JoinsAfter l h ls c.shape.slots op → JoinsBy c l h op
joined c l h ls (Join x g ms) chain short can is = (
  is.0,
  is.1,
  (ls, record { chain = chain; short = short; moves = is.2; count = exchange_count ls ms.items _ _ c.shape.slots is.2 }),
  subst (λ (os : List Move). CanJoin c l os h.middle.0) (sym is.2) can,
)
joined c l h ls (Part x k) chain short can is = absurd is
joined c l h ls (Shift ms) chain short can is = absurd is

module _ (c : Colouring) (l : Leg) (a b : Middle) (p : IsProperColouring c) (i : IsInside c.shape l) (u : IsUnused c l) (e : IsEmpty c c.shape.slots)
    (la : a.0 < c.shape.slots) (lb : b.0 < c.shape.slots) (ab : a.0 ≢ b.0) (free : IsFree c Row (module_on c.shape Row l) a.0) (clear : IsFree c Column (module_on c.shape Column l) b.0) where
  pub joins_after : (s : Side) (ls : List Leg) (op : LegOp) → Chain c a.0 b.0 s (module_on c.shape s l) ls → length ls < c.shape.modules → JoinsAfter l (choice_on s a b) ls c.shape.slots op → JoinsBy c l (choice_on s a b) op
  joins_after Row ls op h short is = joined c l (choice_on Row a b) ls op h short (by_chain c a.0 b.0 p Row l ls i u e la lb ab free clear h (omega arith)) is
  joins_after Column ls op h short is = joined c l (choice_on Column a b) ls op h short (by_chain c a.0 b.0 p Column l ls i u e la lb ab free clear h (omega arith)) is

  -- the shorter chain gives the plan
  pub plans : NeedsChain c l a.0 b.0 → (s : Side) (ls : List Leg) (op : LegOp) → IsShorter c (pair_of a.0 b.0) (row_and_column (module_on c.shape Row l) (module_on c.shape Column l)) s ls → JoinsAfter l (choice_on s a b) ls c.shape.slots op → Plans c l op
  plans n Row ls op h is = let short = shorter_low c l a.0 b.0 p i n Row ls h in (choice_on Row a b, chosen c l a.0 b.0 p i n Row ls h, joins_after Row ls op (whole c l a.0 b.0 p i n Row ls h) (omega arith) is)
  plans n Column ls op h is = let short = shorter_low c l a.0 b.0 p i n Column ls h in (choice_on Column a b, chosen c l a.0 b.0 p i n Column ls h, joins_after Column ls op (whole c l a.0 b.0 p i n Column ls h) (omega arith) is)

-- a free middle is taken without moves
pub joins_direct : (c : Colouring) (l : Leg) (k : Middle) (op : LegOp) → IsProperColouring c → IsInside c.shape l → IsUnused c l → IsEmpty c c.shape.slots → k.0 < c.shape.slots → IsFreeFor c l k.0 → IsDirectJoin l k op
    → JoinsBy c l (record { middle = k; chain = Direct }) op
joins_direct c l k (Join x h ms) p i u e low free is = (
  is.0,
  is.1,
  ([], record { chain = refl; short = some_modules c.shape l i; moves = is.2; count = ap (λ (os : List Move). length os) is.2 }),
  subst (λ (os : List Move). CanJoin c l os k.0) (sym is.2) (direct c p l k.0 i u e low free),
)
joins_direct c l k (Part x q) p i u e low free is = absurd is
joins_direct c l k (Shift ms) p i u e low free is = absurd is

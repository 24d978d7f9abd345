-- The choice of a new leg's middle, and the join that it makes.
use Rattle.std.specs.Prelude.{◌≡◌, ◌<◌, ◌≤◌, ◌+◌, ◌/◌, ℕ, List, [], length}
use Rattle.dxc_num.specs.declared.port.Leg.{Leg}
use Rattle.dxc_num.specs.declared.port.Middle.{Middle}
use Rattle.dxc_num.specs.Dimensions.{IsInside}
use Rattle.roll_plan.specs.declared.op.Move.{Move}
use Rattle.roll_plan.specs.declared.op.Choice.{Choice}
use Rattle.roll_plan.specs.declared.op.Chain.{Chain as ChainChoice}
use Rattle.roll_plan.specs.declared.op.Chain.TheVariants.{Direct, Row as ByRow, Column as ByColumn}
use Rattle.roll_plan.specs.declared.op.LegOp.{LegOp}
use Rattle.roll_plan.specs.declared.op.LegOp.TheVariants.{Join, Part, Shift}
use Rattle.paull_matrix.specs.declared.side.Side.{Side}
use Rattle.paull_matrix.specs.declared.side.Side.TheVariants.{Row, Column}
use Rattle.paull_matrix.specs.Colourings.{Colouring, IsEmpty, IsFree, IsFreeFor, IsUnused, module_on}
use Rattle.paull_matrix.specs.Middles.{IsLowest}
use Rattle.paull_chain.specs.Chains.{RowChain, ColumnChain}
use Rattle.paull_chain.specs.Exchanges.{exchange}
use Rattle.paull_chain.specs.Paull.{CanJoin}

-- a leg of the network with both sides unused, while the spare is empty
abbrev pub IsJoinable : Colouring → Leg → Type 0
IsJoinable c l = IsInside c.shape l × IsUnused c l × IsEmpty c c.shape.slots

-- no working middle is free for the leg; a is the lowest that is free in its row, b in its column
pub record NeedsChain (c : Colouring) (l : Leg) (a b : ℕ) : Type 0 where
  pub none : (k : ℕ) → k < c.shape.slots → IsFreeFor c l k → ⊥
  pub in_row : IsLowest (IsFree c Row (module_on c.shape Row l)) c.shape.slots a
  pub in_column : IsLowest (IsFree c Column (module_on c.shape Column l)) c.shape.slots b

-- the row chain and the column chain of the leg
pub record BothChains (c : Colouring) (l : Leg) (a b : ℕ) (ks ls : List Leg) : Type 0 where
  pub row : RowChain c a b (module_on c.shape Row l) ks
  pub column : ColumnChain c a b (module_on c.shape Column l) ls

-- the choice by lowest numbers: a middle that is free for the leg, else the shorter chain, and the row chain where they are equal
abbrev pub IsChosen : Colouring → Leg → ℕ → ChainChoice → Type 0
IsChosen c l k Direct = IsLowest (IsFreeFor c l) c.shape.slots k
IsChosen c l b (ByRow a) = NeedsChain c l a.0 b × ((ks : List Leg) × (ls : List Leg) × BothChains c l a.0 b ks ls × (length ks ≤ length ls))
IsChosen c l a (ByColumn b) = NeedsChain c l a b.0 × ((ks : List Leg) × (ls : List Leg) × BothChains c l a b.0 ks ls × (length ls < length ks))

-- two working middles, a free in the leg's row and b in its column, and neither free for the leg
pub record IsPair (c : Colouring) (l : Leg) (a b : ℕ) : Type 0 where
  pub low : (a < c.shape.slots) × (b < c.shape.slots)
  pub in_row : IsFree c Row (module_on c.shape Row l) a
  pub in_column : IsFree c Column (module_on c.shape Column l) b
  pub used : (IsFreeFor c l a → ⊥) × (IsFreeFor c l b → ⊥)

-- a valid choice: a free working middle, or a pair with a chain of at most r - 1 legs
abbrev pub IsValidChoice : Colouring → Leg → ℕ → ChainChoice → Type 0
IsValidChoice c l k Direct = (k < c.shape.slots) × IsFreeFor c l k
IsValidChoice c l b (ByRow a) = IsPair c l a.0 b × ((ls : List Leg) × RowChain c a.0 b (module_on c.shape Row l) ls × (length ls < c.shape.modules))
IsValidChoice c l a (ByColumn b) = IsPair c l a b.0 × ((ls : List Leg) × ColumnChain c a b.0 (module_on c.shape Column l) ls × (length ls < c.shape.modules))

-- the chain of a choice; a direct one has no legs
abbrev pub IsChainOf : Colouring → Leg → ℕ → ChainChoice → List Leg → Type 0
IsChainOf c l k Direct ls = ls ≡ []
IsChainOf c l b (ByRow a) ls = RowChain c a.0 b (module_on c.shape Row l) ls
IsChainOf c l a (ByColumn b) ls = ColumnChain c a b.0 (module_on c.shape Column l) ls

-- the other middle of a choice's chain
abbrev pub other_middle : ℕ → ChainChoice → ℕ
other_middle k Direct = k
other_middle k (ByRow a) = a.0
other_middle k (ByColumn b) = b.0

-- the choice of a chain from the leg's row or column: it takes the middle on which that chain begins
abbrev pub choice_on : Side → Middle → Middle → Choice
choice_on Row a b = record { middle = b; chain = ByRow a }
choice_on Column a b = record { middle = a; chain = ByColumn b }

-- the op joins the leg by the choice, after the exchange of these legs
abbrev pub JoinsAfter : Leg → Choice → List Leg → ℕ → LegOp → Type 0
JoinsAfter l h ls spare (Join x g ms) = (x ≡ l) × (g ≡ h) × (ms.items ≡ exchange ls h.middle.0 (other_middle h.middle.0 h.chain) spare)
JoinsAfter l h ls spare (Part x k) = ⊥
JoinsAfter l h ls spare (Shift ms) = ⊥

-- the moves exchange the choice's chain: it has k legs, at most r - 1, and they are k + k / 2
pub record Exchanges (c : Colouring) (l : Leg) (h : Choice) (ms : List Move) (ls : List Leg) : Type 0 where
  pub chain : IsChainOf c l h.middle.0 h.chain ls
  pub short : length ls < c.shape.modules
  pub moves : ms ≡ exchange ls h.middle.0 (other_middle h.middle.0 h.chain) c.shape.slots
  pub count : length ms ≡ length ls + length ls / 2

-- the op joins the leg by the choice, after the exchange of the choice's chain, which makes its middle free
abbrev pub JoinsBy : Colouring → Leg → Choice → LegOp → Type 0
JoinsBy c l h (Join x g ms) = (x ≡ l) × (g ≡ h) × ((ls : List Leg) × Exchanges c l h ms.items ls) × CanJoin c l ms.items h.middle.0
JoinsBy c l h (Part x k) = ⊥
JoinsBy c l h (Shift ms) = ⊥

-- the op joins the leg by the choice by lowest numbers
abbrev pub Plans : Colouring → Leg → LegOp → Type 0
Plans c l op = (h : Choice) × IsChosen c l h.middle.0 h.chain × JoinsBy c l h op

-- the op joins the leg by this choice, which is valid
abbrev pub Expands : Colouring → Leg → Choice → LegOp → Type 0
Expands c l h op = IsValidChoice c l h.middle.0 h.chain × JoinsBy c l h op

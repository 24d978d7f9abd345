-- What holds of the chains, the choice and the works of every colouring.
use Rattle.std.specs.Prelude.{◌≡◌, ◌≤◌, ◌<◌, ◌+◌, ◌*◌, ◌++◌, ℕ, List, length}
use Rattle.dxc_num.specs.declared.port.Leg.{Leg}
use Rattle.dxc_num.specs.Dimensions.{IsInside}
use Rattle.roll_plan.specs.declared.op.Choice.{Choice}
use Rattle.roll_plan.specs.declared.op.Chain.{Chain as ChainChoice}
use Rattle.roll_plan.specs.declared.op.LegOp.{LegOp}
use Rattle.roll_plan.specs.Works.{op_writes}
use Rattle.paull_matrix.specs.declared.side.Side.{Side}
use Rattle.paull_matrix.specs.declared.side.Side.TheVariants.{Row, Column}
use Rattle.paull_matrix.specs.Colourings.{Colouring, IsFree, IsProperColouring, IsUnused}
use Rattle.paull_chain.specs.Chains.{Chain, RowChain, ColumnChain, ComesTo}
use Rattle.paull_chain.specs.Works.{after_op, after_ops, IsValidWork}
use Rattle.paull_chain.specs.Choices.{IsChosen, IsValidChoice, JoinsBy, Plans}

-- in a proper colouring a is free in row i and b in column j
pub record HasEnds (c : Colouring) (a b i j : ℕ) : Type 0 where
  pub proper : IsProperColouring c
  pub low : (i < c.shape.modules) × (j < c.shape.modules)
  pub in_row : IsFree c Row i a
  pub in_column : IsFree c Column j b

-- both chains end
abbrev pub DoChainsEnd : Type 0
DoChainsEnd = (c : Colouring) (a b i j : ℕ) → HasEnds c a b i j → (ks : List Leg) × (ls : List Leg) × RowChain c a b i ks × ColumnChain c a b j ls

-- no row and no column is of both chains, and so they are short together
abbrev pub AreChainsApart : Type 0
AreChainsApart = (c : Colouring) (a b i j : ℕ) (ks ls : List Leg) → HasEnds c a b i j → RowChain c a b i ks → ColumnChain c a b j ls
    → ((t : Side) (n : ℕ) → ComesTo c.shape Row i ks t n → ComesTo c.shape Column j ls t n → ⊥) × (length ks + length ls + 2 ≤ 2 * c.shape.modules)

-- there is one chain from a row or column
abbrev pub AreChainsDetermined : Type 0
AreChainsDetermined = (c : Colouring) (a b m : ℕ) (s : Side) (ks ls : List Leg) → IsProperColouring c → Chain c a b s m ks → Chain c a b s m ls → ks ≡ ls

-- each new leg has a choice, and that is valid
abbrev pub IsAlwaysChosen : Type 0
IsAlwaysChosen = (c : Colouring) (l : Leg) → IsProperColouring c → IsInside c.shape l → IsUnused c l → (k : ℕ) × (h : ChainChoice) × IsChosen c l k h × IsValidChoice c l k h

-- it has one
abbrev pub IsChosenOnce : Type 0
IsChosenOnce = (c : Colouring) (l : Leg) (k q : ℕ) (h g : ChainChoice) → IsProperColouring c → IsChosen c l k h → IsChosen c l q g → (k ≡ q) × (h ≡ g)

-- a choice makes one join: the same register writes, and the same of the colouring
abbrev pub AreJoinsDetermined : Type 0
AreJoinsDetermined = (c : Colouring) (l : Leg) (h : Choice) (op op' : LegOp) → IsProperColouring c → JoinsBy c l h op → JoinsBy c l h op' → (op_writes op ≡ op_writes op') × (after_op op c ≡ after_op op' c)

-- a leg has one plan
abbrev pub ArePlansDetermined : Type 0
ArePlansDetermined = (c : Colouring) (l : Leg) (op op' : LegOp) → Plans c l op → Plans c l op' → op ≡ op'

-- valid works, one after the other, are one valid work
abbrev pub AreWorksComposed : Type 0
AreWorksComposed = (c : Colouring) (xs ys : List LegOp) → IsValidWork c xs → IsValidWork (after_ops xs c) ys → IsValidWork c (xs ++ ys) × (after_ops (xs ++ ys) c ≡ after_ops ys (after_ops xs c))

-- a valid work leads from a proper colouring to a proper one
abbrev pub IsPropernessKept : Type 0
IsPropernessKept = (c : Colouring) (ops : List LegOp) → IsProperColouring c → IsValidWork c ops → IsProperColouring (after_ops ops c)

-- Chains, leg by leg.
use Rattle.std.specs.Prelude.{◌≡◌, ◌+◌, ◌<◌, ◌++◌, ℕ, List, [], ◌∷◌, length}
use Rattle.dxc_num.specs.declared.port.Leg.{Leg}
use Rattle.paull_matrix.specs.declared.side.Side.{Side}
use Rattle.paull_matrix.specs.declared.side.Side.TheVariants.{Row, Column}
use Rattle.paull_matrix.specs.Colourings.{Colouring, Holds, module_on}
use Rattle.paull_chain.specs.Chains.{MiddlePair, leave, other, Walk, Chain, RowChain, ColumnChain}

-- a row or a column
pub record Lane : Type 0 where
  pub side : Side
  pub number : ℕ

abbrev pub lane_on : Side → ℕ → Lane
lane_on s m = record { side = s; number = m }

-- one leg more: it leaves this row or column, and leads to n of the other side
abbrev pub GoesOn : Colouring → MiddlePair → Lane → List Leg → List Leg → ℕ → Type 0
GoesOn c p from legs more n = (l : Leg) × Holds c l (leave p.a p.b from.side) × (module_on c.shape from.side l ≡ from.number) × (more ≡ legs ++ l ∷ []) × (n ≡ module_on c.shape (other from.side) l)

-- a whole chain of at most r - 1 legs
abbrev pub IsShortChain : Colouring → MiddlePair → Side → ℕ → List Leg → Type 0
IsShortChain c p s m ls = Chain c p.a p.b s m ls × (length ls < c.shape.modules)

-- of the legs of a row chain and of a column chain, those of the chain from this side
abbrev pub legs_on : Side → List Leg → List Leg → List Leg
legs_on Row rows columns = rows
legs_on Column rows columns = columns

-- the row and the column that two chains begin at
pub record Crossing : Type 0 where
  pub row : ℕ
  pub column : ℕ

abbrev pub row_and_column : ℕ → ℕ → Crossing
row_and_column i j = record { row = i; column = j }

-- the chain is whole, and the other one is no shorter; it is longer where this is the column chain
abbrev pub IsShorter : Colouring → MiddlePair → Crossing → Side → List Leg → Type 0
IsShorter c p x Row ls = RowChain c p.a p.b x.row ls × ((ks : List Leg) × Walk c p.a p.b Column x.column ks × (length ks ≡ length ls))
IsShorter c p x Column ls = ColumnChain c p.a p.b x.column ls × ((ks : List Leg) × Walk c p.a p.b Row x.row ks × (length ks ≡ length ls + 1))

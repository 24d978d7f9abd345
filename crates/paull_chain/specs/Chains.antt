-- Paull's chains: legs that stand on two middles in turn, each in the row or column of the one before.
use Rattle.std.specs.Prelude.{◌≡◌, ◌⊎◌, ℕ, List, [], ◌∷◌}
use Rattle.dxc_num.specs.declared.port.Leg.{Leg}
use Rattle.dxc_num.specs.Dimensions.{Dimensions}
use Rattle.paull_matrix.specs.declared.side.Side.{Side}
use Rattle.paull_matrix.specs.declared.side.Side.TheVariants.{Row, Column}
use Rattle.paull_matrix.specs.Colourings.{Colouring, Holds, IsFree, module_on}

abbrev pub other : Side → Side
other Row = Column
other Column = Row

-- two middles, on which the legs of a chain stand in turn
pub record MiddlePair : Type 0 where
  pub a : ℕ
  pub b : ℕ

abbrev pub pair_of : ℕ → ℕ → MiddlePair
pair_of a b = record { a = a; b = b }

-- a chain leaves a row on b, and a column on a
abbrev pub leave : ℕ → ℕ → Side → ℕ
leave a b Row = b
leave a b Column = a

-- legs of a chain from the row or column m of the side s, maybe not all
abbrev pub Walk : Colouring → ℕ → ℕ → Side → ℕ → List Leg → Type 0
Walk c a b s m [] = Unit {0}
Walk c a b s m (l ∷ ls) = Holds c l (leave a b s) × (module_on c.shape s l ≡ m) × Walk c a b (other s) (module_on c.shape (other s) l) ls

-- the whole chain: it goes on until no leg is there
abbrev pub Chain : Colouring → ℕ → ℕ → Side → ℕ → List Leg → Type 0
Chain c a b s m [] = IsFree c s m (leave a b s)
Chain c a b s m (l ∷ ls) = Holds c l (leave a b s) × (module_on c.shape s l ≡ m) × Chain c a b (other s) (module_on c.shape (other s) l) ls

-- the row chain: the first leg stands in row i on b, the second in the first's column on a, the third in the second's row on b, and so on
abbrev pub RowChain : Colouring → ℕ → ℕ → ℕ → List Leg → Type 0
RowChain c a b i ls = Chain c a b Row i ls

-- the column chain: the first leg stands in column j on a, the second in the first's row on b, and so on
abbrev pub ColumnChain : Colouring → ℕ → ℕ → ℕ → List Leg → Type 0
ColumnChain c a b j ls = Chain c a b Column j ls

-- a chain from m of the side s comes to the row or column n of the side t
abbrev pub ComesTo : Dimensions → Side → ℕ → List Leg → Side → ℕ → Type 0
ComesTo d s m [] t n = (s ≡ t) × (m ≡ n)
ComesTo d s m (l ∷ ls) t n = ((s ≡ t) × (m ≡ n)) ⊎ ComesTo d (other s) (module_on d (other s) l) ls t n

-- The legs of each row, or of each column, by middle.
use Rattle.std.specs.Prelude.{◌≡◌, ◌≤◌, ◌<◌, ◌↔◌, ℕ, ◌+◌, ◌*◌, ◌/◌, ◌%◌, List, length, replicate, slice_index, slice_index_or, slice_set, Option, Some, None, IsBitSet}
use Rattle.dxc_num.specs.declared.port.Leg.{Leg}
use Rattle.dxc_num.specs.declared.port.Route.{Route}
use Rattle.dxc_num.specs.Dimensions.{Dimensions, IsInLimits}
use Rattle.paull_matrix.specs.declared.side.Side.{Side}
use Rattle.paull_matrix.specs.declared.side.Side.TheVariants.{Row, Column}
use Rattle.paull_matrix.specs.Colourings.{Colouring, IsProperColouring, Holds, colouring_of, module_on}

-- for each module and each middle, the spare among these, the leg that is there
pub record Cells : Type 0 where
  pub shape : Dimensions
  pub legs : List (Option Leg)

abbrev pub cell_count : Dimensions → ℕ
cell_count d = d.modules * (d.slots + 1)

abbrev pub cell_of : Dimensions → ℕ → ℕ → ℕ
cell_of d m k = m * (d.slots + 1) + k

abbrev pub no_cells : Dimensions → Cells
no_cells d = record { shape = d; legs = replicate (cell_count d) None }

abbrev pub leg_in : Cells → ℕ → ℕ → Option Leg
leg_in g m k = slice_index_or g.legs (cell_of g.shape m k) None

abbrev pub with_cell : ℕ → ℕ → Option Leg → Cells → Cells
with_cell m k x g = record { shape = g.shape; legs = slice_set g.legs (cell_of g.shape m k) x }

-- the place of the word of a middle: each module has two, of 64 middles each
abbrev pub word_of : ℕ → ℕ → ℕ
word_of m k = m * 2 + k / 64

-- of each module two words have the middles whose cell is empty
pub record HasFreeSets (d : Dimensions) (legs : List (Option Leg)) (free : List ℕ) : Type 0 where
  pub limits : IsInLimits d
  pub size : length legs ≡ cell_count d
  pub sets : length free ≡ d.modules * 2
  pub bits : (m k : ℕ) → m < d.modules → k ≤ d.slots → (IsBitSet (slice_index free (word_of m k)) (k % 64) ↔ (slice_index_or legs (cell_of d m k) None ≡ None))

-- the cells have the legs of each row, or of each column, and no others
pub record Indexes (c : Colouring) (s : Side) (g : Cells) : Type 0 where
  pub same : g.shape ≡ c.shape
  pub size : length g.legs ≡ cell_count c.shape
  pub has : (l : Leg) (k : ℕ) → Holds c l k → leg_in g (module_on c.shape s l) k ≡ Some l
  pub is : (m k : ℕ) (l : Leg) → m < c.shape.modules → k ≤ c.shape.slots → leg_in g m k ≡ Some l → Holds c l k × (module_on c.shape s l ≡ m)

-- a proper colouring with its rows and columns
pub record IsMatrix (d : Dimensions) (routes : List (Option Route)) (rows columns : Cells) : Type 0 where
  pub proper : IsProperColouring (colouring_of d routes)
  pub rows_are : Indexes (colouring_of d routes) Row rows
  pub columns_are : Indexes (colouring_of d routes) Column columns

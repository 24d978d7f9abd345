-- A colouring gives each leg a middle (Paull 1962).
use Rattle.std.specs.Prelude.{◌≡◌, ◌≢◌, ◌≤◌, ℕ, List, length, replicate, slice_index_or, slice_set, Option, Some, None}
use Rattle.dxc_num.specs.declared.port.Leg.{Leg}
use Rattle.dxc_num.specs.declared.port.Route.{Route}
use Rattle.dxc_num.specs.Dimensions.{Dimensions, IsInside, module_of, ports, route}
use Rattle.paull_matrix.specs.declared.side.Side.{Side}
use Rattle.paull_matrix.specs.declared.side.Side.TheVariants.{Row, Column}

-- a network's shape, and for each output port its input port and middle
pub record Colouring : Type 0 where
  pub shape : Dimensions
  pub routes : List (Option Route)

abbrev pub colouring_of : Dimensions → List (Option Route) → Colouring
colouring_of d routes = record { shape = d; routes = routes }

abbrev pub route_at : Colouring → ℕ → Option Route
route_at c y = slice_index_or c.routes y None

-- the leg stands on the middle k
abbrev pub Holds : Colouring → Leg → ℕ → Type 0
Holds c l k = route_at c l.output.0 ≡ Some (route l.input.0 k)

abbrev pub IsHeld : Colouring → Leg → Type 0
IsHeld c l = (k : ℕ) × Holds c l k

-- the module of a leg on a side: its row or its column
abbrev pub module_on : Dimensions → Side → Leg → ℕ
module_on d Row l = module_of d l.input
module_on d Column l = module_of d l.output

-- the leg stands in this row, or in this column, on the middle k
abbrev pub IsOn : Colouring → Side → ℕ → ℕ → Leg → Type 0
IsOn c s m k l = Holds c l k × (module_on c.shape s l ≡ m)

-- no leg of this row, or of this column, stands on the middle k
abbrev pub IsFree : Colouring → Side → ℕ → ℕ → Type 0
IsFree c s m k = (l : Leg) → Holds c l k → module_on c.shape s l ≢ m

-- the middle k is free in the leg's row and in its column
abbrev pub IsFreeFor : Colouring → Leg → ℕ → Type 0
IsFreeFor c l k = (s : Side) → IsFree c s (module_on c.shape s l) k

-- no leg stands on the middle k
abbrev pub IsEmpty : Colouring → ℕ → Type 0
IsEmpty c k = (l : Leg) → Holds c l k → ⊥

-- no leg uses a side of this one
pub record IsUnused (c : Colouring) (l : Leg) : Type 0 where
  pub output : (v : Leg) (k : ℕ) → Holds c v k → v.output.0 ≢ l.output.0
  pub input : (v : Leg) (k : ℕ) → Holds c v k → v.input.0 ≢ l.input.0

-- a leg of the network with both sides unused, and a middle that is free for it
pub record CanPlace (c : Colouring) (l : Leg) (k : ℕ) : Type 0 where
  pub inside : IsInside c.shape l
  pub low : k ≤ c.shape.slots
  pub unused : IsUnused c l
  pub free : IsFreeFor c l k

-- legs go from port to port over middles, the spare among these; no two of one row, and no two of one column, have one middle; no two have one input
pub record IsProperColouring (c : Colouring) : Type 0 where
  pub size : length c.routes ≡ ports c.shape
  pub inside : (l : Leg) (k : ℕ) → Holds c l k → IsInside c.shape l × (k ≤ c.shape.slots)
  pub apart : (s : Side) (k : ℕ) (l v : Leg) → Holds c l k → Holds c v k → module_on c.shape s l ≡ module_on c.shape s v → l ≡ v
  pub inputs : (l v : Leg) (k q : ℕ) → Holds c l k → Holds c v q → l.input.0 ≡ v.input.0 → l ≡ v

abbrev pub no_legs : Dimensions → Colouring
no_legs d = colouring_of d (replicate (ports d) None)

-- the colouring with the leg on the middle k, and without the leg
abbrev pub with_leg : Leg → ℕ → Colouring → Colouring
with_leg l k c = colouring_of c.shape (slice_set c.routes l.output.0 (Some (route l.input.0 k)))

abbrev pub without_leg : Leg → Colouring → Colouring
without_leg l c = colouring_of c.shape (slice_set c.routes l.output.0 None)

-- Paull's theorem (1962).
use Rattle.std.specs.Prelude.{◌≡◌, ◌≢◌, ◌⊎◌, ◌≤◌, ◌<◌, ◌-◌, ◌*◌, ◌/◌, ℕ, List, [], ◌∷◌, length}
use Rattle.dxc_num.specs.declared.port.Leg.{Leg}
use Rattle.dxc_num.specs.Dimensions.{IsInside}
use Rattle.roll_plan.specs.declared.op.Move.{Move}
use Rattle.paull_matrix.specs.declared.side.Side.{Side}
use Rattle.paull_matrix.specs.declared.side.Side.TheVariants.{Row, Column}
use Rattle.paull_matrix.specs.Colourings.{Colouring, Holds, IsEmpty, IsFreeFor, IsProperColouring, IsUnused, module_on, with_leg}
use Rattle.paull_chain.specs.Works.{after, AreValidMoves}

abbrev pub Among : Leg → List Leg → Type 0
Among x [] = ⊥
Among x (l ∷ ls) = (l ≡ x) ⊎ Among x ls

-- no two of the legs go to one output
abbrev pub AreDifferent : List Leg → Type 0
AreDifferent [] = Unit {0}
AreDifferent (l ∷ ls) = ((x : Leg) → Among x ls → x.output.0 ≢ l.output.0) × AreDifferent ls

-- fewer than n legs stand in this row or column
abbrev pub HasFewer : Colouring → Side → ℕ → ℕ → Type 0
HasFewer c s m n = (ls : List Leg) → AreDifferent ls → ((x : Leg) → Among x ls → (k : ℕ) × Holds c x k × (module_on c.shape s x ≡ m)) → length ls < n

-- the leg can be joined on the working middle k after these moves, which leave the spare empty
pub record CanJoin (c : Colouring) (l : Leg) (ms : List Move) (k : ℕ) : Type 0 where
  pub valid : AreValidMoves ms c
  pub few : length ms ≤ 3 * (c.shape.modules - 1) / 2
  pub works : k < c.shape.slots
  pub free : IsFreeFor (after ms c) l k
  pub unused : IsUnused (after ms c) l
  pub spare : IsEmpty (after ms c) c.shape.slots
  pub proper : IsProperColouring (with_leg l k (after ms c))

-- in any proper colouring with n working middles and an empty spare, a new leg with fewer than n legs in its row and fewer than n in its column can be joined after at most 3 (r - 1) / 2 valid moves
abbrev pub IsRearrangeable : Type 0
IsRearrangeable = (c : Colouring) (l : Leg) → IsProperColouring c → IsEmpty c c.shape.slots → IsInside c.shape l → IsUnused c l
    → HasFewer c Row (module_on c.shape Row l) c.shape.slots → HasFewer c Column (module_on c.shape Column l) c.shape.slots
    → (ms : List Move) × (k : ℕ) × CanJoin c l ms k

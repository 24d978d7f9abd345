-- The legs and the phase along a list of writes, whatever the looks and the numbers of switches.
use Rattle.std.specs.Prelude.{◌≡◌, ◌⊎◌, ◌+◌, ◌^◌, ◌≤◌, List, [], ◌∷◌, length, slice_set, Option, Some, None}
use Rattle.dxc_num.specs.declared.port.Leg.{Leg}
use Rattle.dxc_num.specs.declared.port.Middle.{Middle}
use Rattle.dxc_num.specs.declared.port.Route.{Route}
use Rattle.dxc_num.specs.declared.register.RegWrite.{RegWrite}
use Rattle.dxc_num.specs.declared.register.WriteKind.{WriteKind}
use Rattle.dxc_num.specs.declared.register.WriteKind.TheVariants as kind
use Rattle.dxc_num.specs.Dimensions.{Dimensions, IsInside}
use Rattle.roll_plan.specs.Works.{switches_in}
use Rattle.paull_matrix.specs.Colourings.{Colouring, colouring_of, Holds, IsHeld, IsFreeFor, IsUnused}
use Rattle.fabric_core.specs.declared.size.Size.{Size}
use Rattle.fabric_core.specs.declared.mover.Mover.{Mover}
use Rattle.fabric_core.specs.declared.phase.Phase.{Phase}
use Rattle.fabric_core.specs.declared.phase.Phase.TheVariants.{Rest, InSet, MidSet, Old, Freed}
use Rattle.fabric_core.specs.Registers.{route_at}
use Rattle.fabric_core.specs.Moving.{IsMiddle, over, after_switch}

-- how far the writes have come: the established leg of each output, and the phase
pub record Course : Type 0 where
  pub legs : List (Option Route)
  pub phase : Phase

abbrev pub course_of : Mover → Course
course_of m = record { legs = m.legs; phase = m.phase }

abbrev pub at_rest : List (Option Route) → Course
at_rest legs = record { legs = legs; phase = Rest }

-- a leg of the network, held or with both sides unused, and a middle that is free in its row and column
pub record CanBegin (c : Colouring) (l : Leg) (k : Middle) : Type 0 where
  pub inside : IsInside c.shape l
  pub middle : IsMiddle c.shape k
  pub free : IsFreeFor c l k.0
  pub may_go : IsHeld c l ⊎ IsUnused c l

-- when a write may come next; a path is cleared where it was left, and where it is half built
abbrev pub GoesByKind : WriteKind → Dimensions → Leg → Middle → Course → Type 0
GoesByKind kind.SetIn d l k c = (c.phase ≡ Rest) × CanBegin (colouring_of d c.legs) l k
GoesByKind kind.SetMid d l k c = c.phase ≡ InSet l k
GoesByKind kind.SwitchOut d l k c = c.phase ≡ MidSet l k
GoesByKind kind.ClearOut d l k c = (c.phase ≡ Rest) × Holds (colouring_of d c.legs) l k.0
GoesByKind kind.ClearMid d l k c = (c.phase ≡ Old l k) ⊎ (c.phase ≡ MidSet l k)
GoesByKind kind.ClearIn d l k c = (c.phase ≡ Freed l k) ⊎ (c.phase ≡ InSet l k)

-- and where it leads
abbrev pub gone_by_kind : WriteKind → Leg → Middle → Course → Course
gone_by_kind kind.SetIn l k c = record { legs = c.legs; phase = InSet l k }
gone_by_kind kind.SetMid l k c = record { legs = c.legs; phase = MidSet l k }
gone_by_kind kind.SwitchOut l k c = record { legs = slice_set c.legs l.output.0 (Some (over l k)); phase = after_switch l (route_at c.legs l.output) }
gone_by_kind kind.ClearOut l k c = record { legs = slice_set c.legs l.output.0 None; phase = Old l k }
gone_by_kind kind.ClearMid l k c = record { legs = c.legs; phase = Freed l k }
gone_by_kind kind.ClearIn l k c = record { legs = c.legs; phase = Rest }

abbrev pub gone : RegWrite → Course → Course
gone w c = gone_by_kind w.kind w.leg w.middle c

-- each of the writes may come next at its turn
abbrev pub Goes : Dimensions → List RegWrite → Course → Type 0
Goes d [] c = Unit {0}
Goes d (w ∷ ws) c = GoesByKind w.kind d w.leg w.middle c × Goes d ws (gone w c)

-- the course after the writes
abbrev pub course_after : List RegWrite → Course → Course
course_after [] c = c
course_after (w ∷ ws) c = course_after ws (gone w c)

-- the mover was turned away from a path
abbrev pub IsOld : Phase → Type 0
IsOld p = (l : Leg) × (k : Middle) × (p ≡ Old l k)

-- the mover stands where these writes may be made, and there are switch numbers for them
pub record IsReady (z : Size) (ws : List RegWrite) (m : Mover) : Type 0 where
  pub goes : Goes z.shape ws (course_of m)
  pub room : length m.log + switches_in ws ≤ 2 ^ 48

-- What a shape is: its modules, its slots, and the numbers in it.
use Rattle.std.specs.Prelude.{ℕ, ◌*◌, ◌/◌, ◌%◌, ◌<◌, ◌≤◌, Bool, ◌==◌}
use Rattle.dxc_num.specs.declared.port.Port.{Port}
use Rattle.dxc_num.specs.declared.port.Leg.{Leg}
use Rattle.dxc_num.specs.declared.port.Route.{Route}

-- so many modules of so many slots
pub record Dimensions : Type 0 where
  pub modules : ℕ
  pub slots : ℕ

-- the limits of modules and slots
pub record IsInLimits (d : Dimensions) : Type 0 where
  pub least_modules : 2 ≤ d.modules
  pub most_modules : d.modules ≤ 64
  pub least_slots : 1 ≤ d.slots
  pub most_slots : d.slots ≤ 96

abbrev pub ports : Dimensions → ℕ
ports d = d.modules * d.slots

-- the module that a port belongs to
abbrev pub module_of : Dimensions → Port → ℕ
module_of d p = p.0 / d.slots

-- the slot of a port in its module
abbrev pub slot_of : Dimensions → Port → ℕ
slot_of d p = p.0 % d.slots

abbrev pub IsModule : Dimensions → ℕ → Type 0
IsModule d m = m < d.modules

-- a working middle: not the spare, which is behind them
abbrev pub IsWorking : Dimensions → ℕ → Type 0
IsWorking d k = k < d.slots

abbrev pub IsPort : Dimensions → Port → Type 0
IsPort d p = p.0 < ports d

-- both ends of a leg are ports
pub record IsInside (d : Dimensions) (l : Leg) : Type 0 where
  pub input : IsPort d l.input
  pub output : IsPort d l.output

abbrev pub same_port : Port → Port → Bool
same_port p q = p.0 == q.0

-- from one port's input side to another's output side
abbrev pub leg_between : Port → Port → Leg
leg_between x y = record { input = x; output = y }

-- the same, by the ports' numbers
abbrev pub leg : ℕ → ℕ → Leg
leg x y = leg_between (record { 0 = x }) (record { 0 = y })

-- the leg the other way round
abbrev pub leg_back : Leg → Leg
leg_back l = leg_between l.output l.input

-- from an input port over a middle, by their numbers
abbrev pub route : ℕ → ℕ → Route
route x k = record { input = record { 0 = x }; middle = record { 0 = k } }

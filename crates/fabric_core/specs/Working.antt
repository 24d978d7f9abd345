-- What each step of a worker does to its part, and when it may be taken.
use Rattle.std.specs.Prelude.{◌≡◌, ℕ, ◌+◌, ◌-◌, ◌%◌, ◌^◌, ◌<◌, ◌==◌, if◌then◌else◌, List, [], ◌∷◌, ◌++◌, length}
use Rattle.dxc_num.specs.Dimensions.{Dimensions, IsPort, module_of}
use Rattle.dxc_num.specs.declared.port.Port.{Port}
use Rattle.fabric_core.specs.declared.size.Size.{Size}
use Rattle.fabric_core.specs.declared.registers.Registers.{Registers}
use Rattle.fabric_core.specs.declared.worker.Hold.{Hold}
use Rattle.fabric_core.specs.declared.worker.Hold.TheVariants.{Empty, Output, Path}
use Rattle.fabric_core.specs.declared.worker.Note.{Note}
use Rattle.fabric_core.specs.declared.worker.Note.TheVariants.{OutWord, MidWord, InWord, Carried}
use Rattle.fabric_core.specs.declared.worker.Worker.{Worker}
use Rattle.fabric_core.specs.Registers.{in_cell, mid_cell, in_word, mid_word, middle_in, number_in, port_at}

-- a frame runs
abbrev pub Runs : Worker → Type 0
Runs v = v.frame % 2 ≡ 1

-- no frame runs, and there is room for one more
abbrev pub CanBegin : Worker → Type 0
CanBegin v = (v.frame % 2 ≡ 0) × (v.frame < 2 ^ 63 - 2)

-- a frame begins, or ends
abbrev pub begun : Worker → Worker
begun v = record { number = v.number; frame = v.frame + 1; hold = Empty; notes = v.notes }

-- worker w of n has the output modules j with j mod n = w
abbrev pub IsOwn : Size → ℕ → Port → Type 0
IsOwn z w y = module_of z.shape y % z.workers ≡ w

abbrev pub CanLoadOut : Size → Port → Worker → Type 0
CanLoadOut z y v = Runs v × IsPort z.shape y × IsOwn z v.number y

-- the hold that an OUT word gives
abbrev pub hold_of : Port → ℕ → Hold
hold_of y o = (if o == 0 then Empty else Output y (number_in o) (middle_in o))

abbrev pub out_loaded : Port → ℕ → Worker → Worker
out_loaded y o v = record { number = v.number; frame = v.frame; hold = hold_of y o; notes = v.notes ++ OutWord y o ∷ [] }

abbrev pub HasOutput : Hold → Type 0
HasOutput (Output y n k) = Unit {0}
HasOutput h = ⊥

abbrev pub HasPath : Hold → Type 0
HasPath (Path y n k i) = Unit {0}
HasPath h = ⊥

-- the MID word that a hold names
abbrev pub named_mid : Dimensions → Registers → Hold → ℕ
named_mid d r (Output y n k) = mid_word d r k (module_of d y)
named_mid d r h = 0

abbrev pub with_module : ℕ → Hold → Hold
with_module i (Output y n k) = Path y n k i
with_module i h = Empty

abbrev pub mid_loaded : ℕ → Worker → Worker
mid_loaded q v = record { number = v.number; frame = v.frame; hold = with_module (q - 1) v.hold; notes = v.notes ++ MidWord q ∷ [] }

-- the IN word that a hold names
abbrev pub named_in : Dimensions → Registers → Hold → ℕ
named_in d r (Path y n k i) = in_word d r i k
named_in d r h = 0

-- the input port that a hold and an IN word name
abbrev pub port_of : Dimensions → Hold → ℕ → Port
port_of d (Path y n k i) q = port_at d i (q - 1)
port_of d h q = port_at d 0 0

-- what they carry
abbrev pub carried_by : Dimensions → ℕ → Hold → List Note
carried_by d q (Path y n k i) = Carried y n (port_at d i (q - 1)) ∷ []
carried_by d q h = []

abbrev pub in_loaded : Dimensions → ℕ → Worker → Worker
in_loaded d q v = record { number = v.number; frame = v.frame; hold = Empty; notes = (v.notes ++ InWord q ∷ []) ++ carried_by d q v.hold }

-- the word that a hold names lies in the registers
abbrev pub HasMidCell : Dimensions → Registers → Hold → Type 0
HasMidCell d r (Output y n k) = mid_cell d k (module_of d y) < length r.mids
HasMidCell d r h = ⊥

abbrev pub HasInCell : Dimensions → Registers → Hold → Type 0
HasInCell d r (Path y n k i) = in_cell d i k < length r.ins
HasInCell d r h = ⊥

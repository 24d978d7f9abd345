-- The registers: where their words lie, what the words name, and the source of an output.
use Rattle.std.specs.Prelude.{◌≡◌, ℕ, ◌+◌, ◌-◌, ◌*◌, ◌/◌, ◌%◌, ◌==◌, if◌then◌else◌, List, slice_index, slice_index_or, Option, Some, None}
use Rattle.dxc_num.specs.Dimensions.{Dimensions, module_of}
use Rattle.dxc_num.specs.declared.port.Port.{Port}
use Rattle.dxc_num.specs.declared.port.Middle.{Middle}
use Rattle.dxc_num.specs.declared.port.Route.{Route}
use Rattle.fabric_core.specs.declared.registers.Registers.{Registers}

-- The words of IN and those of MID lie middle by middle. A middle's words begin after its number plus one times the modules, and IN words lie one further.
-- So the low byte of an OUT word, and a MID word, give a place without a subtraction
abbrev pub in_cell : Dimensions → ℕ → Middle → ℕ
in_cell d i k = (k.0 + 1) * d.modules + (i + 1)

abbrev pub mid_cell : Dimensions → Middle → ℕ → ℕ
mid_cell d k j = (k.0 + 1) * d.modules + j

abbrev pub in_count : Dimensions → ℕ
in_count d = (d.slots + 2) * d.modules + 1

abbrev pub mid_count : Dimensions → ℕ
mid_count d = (d.slots + 2) * d.modules

-- the words themselves
abbrev pub in_word : Dimensions → Registers → ℕ → Middle → ℕ
in_word d r i k = slice_index r.ins (in_cell d i k)

abbrev pub mid_word : Dimensions → Registers → Middle → ℕ → ℕ
mid_word d r k j = slice_index r.mids (mid_cell d k j)

abbrev pub out_word : Registers → Port → ℕ
out_word r y = slice_index r.outs y.0

-- the middle that an OUT word names, and the number of its switch
abbrev pub middle_in : ℕ → Middle
middle_in o = record { 0 = o % 256 - 1 }

abbrev pub number_in : ℕ → ℕ
number_in o = o / 256

-- the OUT word of a switch number and a middle
abbrev pub out_of : ℕ → Middle → ℕ
out_of n k = n * 256 + k.0 + 1

-- the port of a module and a slot
abbrev pub port_at : Dimensions → ℕ → ℕ → Port
port_at d i s = record { 0 = i * d.slots + s }

-- The source of an output: its OUT word names a middle, the MID word there an input module, the IN word there a slot. None where one of the three is none
abbrev pub src : Dimensions → Registers → Port → Option Port
src d r y =
    let o : ℕ = out_word r y in
    let i : ℕ = mid_word d r (middle_in o) (module_of d y) in
    let q : ℕ = in_word d r (i - 1) (middle_in o) in
    (if o == 0 then None else (if i == 0 then None else (if q == 0 then None else Some (port_at d (i - 1) (q - 1)))))

-- the established leg of an output
abbrev pub route_at : List (Option Route) → Port → Option Route
route_at legs y = slice_index_or legs y.0 None

-- each established leg is carried: the source of its output is its input
abbrev pub Carries : Dimensions → Registers → List (Option Route) → Type 0
Carries d r legs = (y : Port) (w : Route) → route_at legs y ≡ Some w → src d r y ≡ Some w.input

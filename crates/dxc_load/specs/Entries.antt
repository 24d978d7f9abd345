-- What the commands of the script name, as they are drawn one after the other.
use Rattle.std.specs.Prelude.{◌≡◌, ◌<◌, ℕ, ◌+◌, ◌-◌, ◌*◌, ◌/◌, ◌%◌, ◌^◌, ◌==◌, List, ◌++◌, if◌then◌else◌, codes}
use Rattle.dxc_aid.specs.Names.{port_name}
use Rattle.dxc_load.specs.declared.draw.Draws.{Draws}
use Rattle.dxc_load.specs.declared.draw.Entry.{Entry}
use Rattle.dxc_load.specs.Script.{is_two_way, load_shape, number_after, port_from, port_to}

-- the entry of two numbers
abbrev pub IsDrawn : ℕ → ℕ → Entry → Type 0
IsDrawn odd even e =
    (e.from.0 ≡ odd / 2 ^ 33 % 192) × (e.to.0 ≡ (odd / 2 ^ 33 % 192 + 1 + even / 2 ^ 33 % 191) % 192) × (e.two_way ≡ (even / 2 ^ 33 / 191 % 2 == 1))

-- its ports are of the load's shape
abbrev pub IsInside : Entry → Type 0
IsInside e = (e.from.0 < 192) × (e.to.0 < 192)

-- the entry of a command
abbrev pub IsEntered : ℕ → ℕ → Entry → Type 0
IsEntered first i e = (e.from.0 ≡ port_from first i) × (e.to.0 ≡ port_to first i) × (e.two_way ≡ is_two_way first i)

-- what a command names: each fourth what the third before it entered
abbrev pub IsNamed : ℕ → ℕ → Entry → Type 0
IsNamed first i e = IsEntered first (if i % 4 == 0 then i - 3 else i) e

-- so many commands were drawn
abbrev pub AreBehind : ℕ → ℕ → Draws → Type 0
AreBehind first commands d = (d.last ≡ number_after first (2 * commands)) × (d.fours ≡ number_after first (commands / 4 * 8))

-- the two ports of an entry
abbrev pub ports_text : Entry → List ℕ
ports_text e = port_name load_shape e.from ++ codes "," ++ port_name load_shape e.to

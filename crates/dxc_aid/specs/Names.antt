-- Names of ports, modules and middles, and selections.
use Rattle.std.specs.Prelude.{◌≡◌, ℕ, ◌+◌, ◌-◌, ◌*◌, Bool, List, [], ◌∷◌, ◌++◌, take, drop, nat_le, ◌==◌, ◌&&◌, if◌then◌else◌, Option, Some, None, map, position, codes, decimal}
use Rattle.std.specs.Option.{option_map, option_and_then}
use Rattle.std.specs.Int.{is_in_range}
use Rattle.std.specs.Char.{to_ascii_lowercase}
use Rattle.std.specs.Str.{bytes_eq}
use Rattle.dxc_num.specs.declared.port.Port.{Port}
use Rattle.dxc_num.specs.declared.port.Middle.{Middle}
use Rattle.dxc_num.specs.Dimensions.{Dimensions, module_of, slot_of, IsModule, IsPort, IsWorking}
use Rattle.dxc_model.specs.declared.op.Selection.{Selection}
use Rattle.dxc_model.specs.declared.op.Selection.TheVariants.{All, Module, Port as OnePort}

-- two texts are the same but for ASCII case
abbrev pub IsSameText : List ℕ → List ℕ → Type 0
IsSameText a b = map to_ascii_lowercase a ≡ map to_ascii_lowercase b

-- what is written for a module: its number from 1
abbrev pub module_name : ℕ → List ℕ
module_name m = codes "MOD-" ++ decimal (m + 1)

-- what is written for a middle: its number from 1
abbrev pub middle_name : Middle → List ℕ
middle_name m = codes "MID-" ++ decimal (m.0 + 1)

-- what is written for a port: the numbers of its module and of its slot, from 1
abbrev pub port_name : Dimensions → Port → List ℕ
port_name d p = codes "DS0-" ++ decimal (module_of d p + 1) ++ codes "-" ++ decimal (slot_of d p + 1)

-- a text names a module, a working middle, a port or a selection of the shape
pub record NamesModule (d : Dimensions) (text : List ℕ) (m : ℕ) : Type 0 where
  pub inside : IsModule d m
  pub name : IsSameText text (module_name m)

pub record NamesMiddle (d : Dimensions) (text : List ℕ) (m : Middle) : Type 0 where
  pub inside : IsWorking d m.0
  pub name : IsSameText text (middle_name m)

pub record NamesPort (d : Dimensions) (text : List ℕ) (p : Port) : Type 0 where
  pub inside : IsPort d p
  pub name : IsSameText text (port_name d p)

pub data NamesSelection (d : Dimensions) (text : List ℕ) : Selection → Type 0 where
  names_all : IsSameText text (codes "ALL") → NamesSelection d text All
  names_module : (m : ℕ) → NamesModule d text m → NamesSelection d text (Module m)
  names_port : (p : Port) → NamesPort d text p → NamesSelection d text (OnePort p)

-- the same test as it computes
abbrev pub is_same_text : List ℕ → List ℕ → Bool
is_same_text a b = bytes_eq (map to_ascii_lowercase a) (map to_ascii_lowercase b)

-- the number from 1 to 99 that a text writes in decimal
abbrev pub number_of : List ℕ → Option ℕ
number_of [] = None
number_of (b ∷ []) = if is_in_range 49 57 b then Some (b - 48) else None
number_of (a ∷ b ∷ []) = if is_in_range 49 57 a && is_in_range 48 57 b then Some ((a - 48) * 10 + (b - 48)) else None
number_of (a ∷ b ∷ c ∷ more) = None

-- a number from 1 up to a most
abbrev pub up_to : ℕ → ℕ → Option ℕ
up_to most n = if nat_le n most then Some n else None

-- what follows four bytes that are this text but for case
abbrev pub behind : List ℕ → List ℕ → Option (List ℕ)
behind front text = if is_same_text (take 4 text) front then Some (drop 4 text) else None

-- what a text numbers after four bytes, from 0; written it is from 1 up to a most
abbrev pub numbered : List ℕ → ℕ → List ℕ → Option ℕ
numbered front most text = option_map (λ n. n - 1) (option_and_then (up_to most) (option_and_then number_of (behind front text)))

-- the module that a text names
unfoldable pub module_named : Dimensions → List ℕ → Option ℕ
module_named d text = numbered (codes "MOD-") d.modules text

-- the middle of a number
abbrev pub middle_at : ℕ → Middle
middle_at k = record { 0 = k }

-- the working middle that a text names
unfoldable pub middle_named : Dimensions → List ℕ → Option Middle
middle_named d text = option_map middle_at (numbered (codes "MID-") d.slots text)

-- the port of a module's and a slot's number
abbrev pub port_at : Dimensions → ℕ → ℕ → Port
port_at d number slot = record { 0 = (number - 1) * d.slots + (slot - 1) }

-- the port of two numbers joined by -
abbrev pub port_of_numbers : Dimensions → List ℕ → Option Port
port_of_numbers d text = option_and_then (λ at. option_and_then (λ number. option_map (λ slot. port_at d number slot)
    (option_and_then (up_to d.slots) (number_of (drop (at + 1) text)))) (option_and_then (up_to d.modules) (number_of (take at text)))) (position (λ b. b == 45) text)

-- the port that a text names
unfoldable pub port_named : Dimensions → List ℕ → Option Port
port_named d text = option_and_then (port_of_numbers d) (behind (codes "DS0-") text)

-- the first of two that is there
abbrev pub or_else : {A : Type 0} → Option A → Option A → Option A
or_else None b = b
or_else (Some x) b = Some x

-- the selection that a text names: ALL, a module or a port
unfoldable pub selection_named : Dimensions → List ℕ → Option Selection
selection_named d text = if is_same_text text (codes "ALL") then Some All else or_else (option_map Module (module_named d text)) (option_map OnePort (port_named d text))

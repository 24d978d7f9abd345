-- What the words ask of the program itself, before they are read as a line.
use Rattle.std.specs.Prelude.{◌||◌, ℕ, Bool, true, false, List, [], ◌∷◌, codes}
use Rattle.std.specs.Str.{bytes_eq}
use Rattle.dxc_args.specs.declared.line.Line.{Line}
use Rattle.dxc_args.specs.declared.line.Line.TheVariants.{Script, Trial, Check, Export, Serve, Standby, Load}

-- the mode is one that changes no file
abbrev pub is_look : List (List ℕ) → Bool
is_look [] = false
is_look (mode ∷ rest) = bytes_eq mode (codes "check") || bytes_eq mode (codes "export")

-- a line of such a mode
abbrev pub looks_only : Line → Bool
looks_only (Script shelf journal) = false
looks_only (Trial shape) = false
looks_only (Check shelf journal) = true
looks_only (Export shelf journal) = true
looks_only (Serve x) = false
looks_only (Standby journal address) = false
looks_only (Load number) = false

-- the one word asks for the help or for the version
abbrev pub asks_for_help : List (List ℕ) → Bool
asks_for_help [] = false
asks_for_help (word ∷ []) = bytes_eq word (codes "--help") || bytes_eq word (codes "--version")
asks_for_help (word ∷ other ∷ rest) = false

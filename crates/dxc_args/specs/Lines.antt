-- The lines of words that the program understands.
use Rattle.std.specs.Prelude.{◌≡◌, ◌^◌, ◌≤◌, ◌<◌, ◌==◌, ◌&&◌, ℕ, Bool, false, List, [], ◌∷◌, Option, Some, None, codes, decimal, map, if◌then◌else◌}
use denote.Bor.{Bor}
use Rattle.std.specs.Str.{bytes_eq}
use Rattle.std.specs.Char.{is_ascii_digit}
use Rattle.std.specs.List.{list_all, list_any}
use Rattle.dxc_num.specs.Dimensions.{IsInLimits}
use Rattle.dxc_args.specs.Counts.{AreFew}
use Rattle.dxc_args.specs.declared.line.Line.{Line}
use Rattle.dxc_args.specs.declared.line.Line.TheVariants.{Script, Trial, Check, Export, Serve, Standby, Load}
use Rattle.dxc_args.specs.declared.line.Mode.{Mode}
use Rattle.dxc_args.specs.declared.line.Mode.TheVariants.{Script as ScriptMode, Check as CheckMode, Export as ExportMode, Serve as ServeMode, Standby as StandbyMode, Load as LoadMode}

-- a word that begins with a dash
abbrev pub is_dashed : List ℕ → Bool
is_dashed [] = false
is_dashed (c ∷ cs) = c == 45

-- digits alone
abbrev pub is_number : List ℕ → Bool
is_number [] = false
is_number (c ∷ cs) = list_all is_ascii_digit (c ∷ cs)

-- two words that name no files, but a shape
abbrev pub are_numbers : (first second : List ℕ) → Bool
are_numbers first second = is_number first && is_number second

-- what the first word of a line asks for
abbrev pub mode_in : List ℕ → Option Mode
mode_in word =
    if bytes_eq word (codes "script") then Some ScriptMode
    else (if bytes_eq word (codes "check") then Some CheckMode
    else (if bytes_eq word (codes "export") then Some ExportMode
    else (if bytes_eq word (codes "serve") then Some ServeMode
    else (if bytes_eq word (codes "standby") then Some StandbyMode
    else (if bytes_eq word (codes "load") then Some LoadMode else None)))))

-- the word for a peer, where there is one
abbrev pub peer_words : Option (List ℕ) → List (List ℕ)
peer_words None = []
peer_words (Some peer) = peer ∷ []

-- the words that spell a line
abbrev pub words_of : Line → List (List ℕ)
words_of (Script shelf journal) = codes "script" ∷ shelf ∷ journal ∷ []
words_of (Trial shape) = codes "script" ∷ decimal shape.modules ∷ decimal shape.slots ∷ []
words_of (Check shelf journal) = codes "check" ∷ shelf ∷ journal ∷ []
words_of (Export shelf journal) = codes "export" ∷ shelf ∷ journal ∷ []
words_of (Serve x) = codes "serve" ∷ x.shelf ∷ x.journal ∷ x.address ∷ x.lines ∷ decimal x.workers ∷ peer_words x.peer
words_of (Standby journal address) = codes "standby" ∷ journal ∷ address ∷ []
words_of (Load number) = codes "load" ∷ decimal number ∷ []

-- names of files that are no shape, a shape, 1 to 8 frame workers, a number of 64 bits
abbrev pub IsInRange : Line → Type 0
IsInRange (Script shelf journal) = are_numbers shelf journal ≡ false
IsInRange (Trial shape) = IsInLimits shape
IsInRange (Check shelf journal) = Unit {0}
IsInRange (Export shelf journal) = Unit {0}
IsInRange (Serve x) = AreFew x.workers
IsInRange (Standby journal address) = Unit {0}
IsInRange (Load number) = number < 2 ^ 64

-- words that spell a line
pub record Spells (words : List (List ℕ)) (l : Line) : Type 0 where
  pub spelled : words ≡ words_of l
  pub in_range : IsInRange l

-- words that spell a line, none of which begins with a dash
pub record IsLine (words : List (List ℕ)) (l : Line) : Type 0 where
  pub spells : Spells words l
  pub plain : list_any is_dashed words ≡ false

-- the bytes of some texts
abbrev pub texts : List (Bor (List ℕ)) → List (List ℕ)
texts ws = map (λ w. w.now) ws

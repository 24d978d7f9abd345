-- What the program tells of itself.
use Rattle.std.specs.Prelude.{◌≡◌, ◌++◌, ℕ, if◌then◌else◌, List, [], ◌∷◌, codes}
use Rattle.std.specs.Str.{bytes_eq}
use Rattle.dxc_console.specs.declared.help.TheConstants.{HELP, VERSION}
use Rattle.dxc_console.specs.declared.sources.TheConstants.{SOURCES}

-- the version, and the sum of its sources
abbrev pub version_texts : List (List ℕ)
version_texts = codes "dxc " ∷ VERSION.now ∷ codes "\nsources " ∷ SOURCES.now ∷ codes "\n" ∷ []

-- what these words ask to be told
abbrev pub told_for : List (List ℕ) → List (List ℕ)
told_for [] = []
told_for (word ∷ []) = if bytes_eq word (codes "--help") then HELP.now ∷ [] else if bytes_eq word (codes "--version") then version_texts else []
told_for (word ∷ other ∷ rest) = []

-- The first of these texts were told, and no other; where it went well, all of them.
pub record IsTold (told : List (List ℕ) → Type 0) (texts : List (List ℕ)) (well : Type 0) : Type 0 where
  pub made : List (List ℕ)
  pub rest : List (List ℕ)
  pub split : texts ≡ made ++ rest
  pub told_made : told made
  pub whole : well → rest ≡ []

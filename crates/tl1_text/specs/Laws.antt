-- What is true of every stream, and of every text.
use Rattle.std.specs.Prelude.{◌≡◌, ◌↔◌, ℕ, List, ◌∷◌, ◌++◌, Some}
use Rattle.tl1_text.specs.Units.{Input, IsStream, HasUnits}
use Rattle.tl1_text.specs.Grammar.{Block, AreParams, IsCommandText}
use Rattle.tl1_text.specs.Walk.{blocks_of, values_of}
use Rattle.tl1_text.specs.Tags.{as_ctag, ctag_of}

-- the bytes determine the units and the rest
abbrev pub AreDetermined : Type 0
AreDetermined = (bs : List ℕ) (us vs : List Input) (r s : List ℕ) → IsStream bs us r → IsStream bs vs s → (us ≡ vs) × (r ≡ s)

-- every list of bytes has units and a rest
abbrev pub AreThere : Type 0
AreThere = (bs : List ℕ) → HasUnits bs

-- the units of a ++ b are those of a, continued by those of the rest of a and b
abbrev pub AreContinued : Type 0
AreContinued = (a b : List ℕ) (us vs : List Input) (r s : List ℕ) → IsStream a us r → IsStream (r ++ b) vs s → IsStream (a ++ b) (us ++ vs) s

-- the blocks that are read of a text are those that the grammar has of it
abbrev pub IsRead : Type 0
IsRead = (text : List ℕ) (bs : List Block) → IsCommandText text bs ↔ (blocks_of text ≡ Some bs)

-- the values that are read of a block are those that the grammar has of it
abbrev pub AreRead : Type 0
AreRead = (text : List ℕ) (vs : List (List ℕ)) → AreParams text vs → values_of text ≡ vs

-- the fourth block, cut at colons outside quotes, is the grammar's fourth block
abbrev pub IsTagged : Type 0
IsTagged = (text : List ℕ) (code tid aid tag : Block) (others : List Block) → IsCommandText text (code ∷ tid ∷ aid ∷ tag ∷ others) → ctag_of text ≡ as_ctag tag.text

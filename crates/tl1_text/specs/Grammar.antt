-- The grammar of a unit's text, by cases.
use Rattle.std.specs.Prelude.{◌≡◌, ℕ, suc, ◌≤◌, Bool, true, List, [], ◌∷◌, ◌++◌, length, nat_le, not, ◌==◌, ◌||◌, ◌&&◌}
use Rattle.std.specs.Int.{is_in_range}
use Rattle.std.specs.List.{list_all}
use Rattle.std.specs.Char.{is_ascii_alphanumeric}

-- a byte outside quotes: 0x21 to 0x7E without quote, comma, colon and semicolon
abbrev pub is_plain : ℕ → Bool
is_plain b = is_in_range 33 126 b && not (b == 34 || b == 44 || b == 58 || b == 59)

-- a byte inside quotes: 0x20 to 0x7E without quote
abbrev pub is_inner : ℕ → Bool
is_inner b = is_in_range 32 126 b && not (b == 34)

-- a parameter and its value, which stands inside its quotes where it has them
pub data IsParam : List ℕ → List ℕ → Type 0 where
  plain : (v : List ℕ) → list_all is_plain v ≡ true → IsParam v v
  quoted : (v : List ℕ) → list_all is_inner v ≡ true → IsParam (34 ∷ v ++ 34 ∷ []) v

-- parameters parted by commas, and their values
pub data AreParams : List ℕ → List (List ℕ) → Type 0 where
  last_param : (p v : List ℕ) → IsParam p v → AreParams p (v ∷ [])
  more_params : (p v rest : List ℕ) (vs : List (List ℕ)) → IsParam p v → AreParams rest vs → AreParams (p ++ 44 ∷ rest) (v ∷ vs)

-- a block: its text, and the values of its parameters
pub record Block : Type 0 where
  pub text : List ℕ
  pub values : List (List ℕ)

-- blocks parted by colons
pub data AreBlocks : List ℕ → List Block → Type 0 where
  last_block : (text : List ℕ) (vs : List (List ℕ)) → AreParams text vs → AreBlocks text (record { text = text; values = vs } ∷ [])
  more_blocks : (text rest : List ℕ) (vs : List (List ℕ)) (bs : List Block) → AreParams text vs → AreBlocks rest bs
      → AreBlocks (text ++ 58 ∷ rest) (record { text = text; values = vs } ∷ bs)

-- a word of letters and digits
pub record IsWord (w : List ℕ) : Type 0 where
  pub some : 1 ≤ length w
  pub alphanumeric : list_all is_ascii_alphanumeric w ≡ true

-- words joined by -, and how many they are
pub data AreWords : List ℕ → ℕ → Type 0 where
  last_word : (w : List ℕ) → IsWord w → AreWords w 1
  more_words : (w rest : List ℕ) (n : ℕ) → IsWord w → AreWords rest n → AreWords (w ++ 45 ∷ rest) (suc n)

-- a block has at most eight parameters
abbrev pub are_few : Block → Bool
are_few b = nat_le (length b.values) 8

-- the text of the first block, which is the command code
abbrev pub code_of : List Block → List ℕ
code_of [] = []
code_of (b ∷ bs) = b.text

-- a command's text: four to ten blocks, the first of them a code of one to three words
pub record IsCommandText (text : List ℕ) (bs : List Block) : Type 0 where
  pub blocks : AreBlocks text bs
  pub least : 4 ≤ length bs
  pub most : length bs ≤ 10
  pub few : list_all are_few bs ≡ true
  pub words : ℕ
  pub code : AreWords (code_of bs) words
  pub most_words : words ≤ 3

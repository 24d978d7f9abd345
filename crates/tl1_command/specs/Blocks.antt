-- The blocks of a command, and the values of their parameters. What isn't there is empty.
use Rattle.std.specs.Prelude.{ℕ, Bool, true, false, List, [], ◌∷◌, drop, slice_index_or}
use Rattle.std.specs.List.{list_any}
use Rattle.tl1_text.specs.Grammar.{Block}

abbrev pub no_block : Block
no_block = record { text = []; values = [] }

-- the block of a number: 0 is the command code, 1 the TID, 2 the AID block, 3 the CTAG, 4 the general block, from 5 on the payload
abbrev pub block : ℕ → List Block → Block
block n bs = slice_index_or bs n no_block

abbrev pub code_text : List Block → List ℕ
code_text bs = (block 0 bs).text

abbrev pub target_text : List Block → List ℕ
target_text bs = (block 1 bs).text

abbrev pub tag_text : List Block → List ℕ
tag_text bs = (block 3 bs).text

-- the value of a parameter of a block
abbrev pub value : ℕ → ℕ → List Block → List ℕ
value b p bs = slice_index_or (block b bs).values p []

-- the value of an AID
abbrev pub aid : ℕ → List Block → List ℕ
aid p bs = value 2 p bs

-- the value of the first parameter of the first payload block
abbrev pub first_value : List Block → List ℕ
first_value bs = value 5 0 bs

-- and of the second
abbrev pub second_value : List Block → List ℕ
second_value bs = value 5 1 bs

abbrev pub is_empty : List ℕ → Bool
is_empty [] = true
is_empty (b ∷ bs) = false

abbrev pub is_there : List ℕ → Bool
is_there [] = false
is_there (b ∷ bs) = true

-- a value from this parameter of the block on is there
abbrev pub has_value_from : ℕ → Block → Bool
has_value_from p b = list_any is_there (drop p b.values)

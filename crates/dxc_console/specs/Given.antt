-- What the program is given.
use Rattle.std.specs.Prelude.{ℕ, List, drop, map, String, string_bytes}
use Rattle.std.specs.declared.alloc.Global.{Global}

-- what comes after the program's name
abbrev pub after_name : {X : Type 0} → List X → List X
after_name words = drop 1 words

-- the bytes of these texts
abbrev pub texts_of : List (String Global) → List (List ℕ)
texts_of words = map string_bytes words

-- What is held of a file, for the contracts of its own calls.
use Rattle.std.specs.Prelude.{ℕ, List}

-- bytes of a file from a place on
pub record Ahead : Type 0 where
  pub at : ℕ
  pub bytes : List ℕ

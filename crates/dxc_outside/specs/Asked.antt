-- What an opener is asked for, by name.
use Rattle.std.specs.Prelude.{◌≡◌, ℕ, zero, suc, List, [], ◌∷◌, ◌++◌}

-- one call of an opener that may fail
pub data Asking : Type 0 where
  shelf_named : List ℕ → Asking
  journal_named : List ℕ → Asking
  -- the disk of a copy that is to be made
  copy_named : List ℕ → Asking
  lines_named : List ℕ → ℕ → Asking
  listener_named : List ℕ → Asking
  peer_named : List ℕ → Asking

-- so many askings, by their number
abbrev pub asked_each : (ℕ → Asking) → ℕ → List Asking
asked_each asking zero = []
asked_each asking (suc n) = asked_each asking n ++ asking n ∷ []

-- Of these askings the first were made, in this order and no other; where it went well, all of them.
pub record AskedFor (asked_for : List Asking → Type 0) (all : List Asking) (well : Type 0) : Type 0 where
  pub made : List Asking
  pub rest : List Asking
  pub split : all ≡ made ++ rest
  pub asked : asked_for made
  pub whole : well → rest ≡ []

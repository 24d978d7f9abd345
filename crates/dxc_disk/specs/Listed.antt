-- Which calls of a fake fail: those whose numbers it was given.
use Rattle.std.specs.Prelude.{ℕ, ◌==◌, Bool, List}
use Rattle.std.specs.List.{list_any}

-- whether the call of a number is one of those that fail
abbrev pub is_listed : ℕ → List ℕ → Bool
is_listed call failing = list_any (λ n. n == call) failing

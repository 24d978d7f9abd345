-- How many frame workers there may be.
use Rattle.std.specs.Prelude.{ℕ, ◌≤◌}

abbrev pub AreFew : ℕ → Type 0
AreFew workers = (1 ≤ workers) × (workers ≤ 8)

-- Counts of several things at once.
use Rattle.std.specs.Prelude.{ℕ, ◌+◌, ◌≤◌, min}
use Rattle.dxc_causes.specs.Causes.{last}

-- a count has risen by at least so much, or stands at its last value
abbrev pub RoseBy : ℕ → ℕ → ℕ → Type 0
RoseBy n before now = min (before + n) last ≤ now

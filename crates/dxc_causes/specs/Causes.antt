-- Counts that an object of the outside keeps, and what they say of a call.
use Rattle.std.specs.Prelude.{ℕ, ◌+◌, ◌-◌, ◌^◌, ◌≤◌, min}

-- the last value of a count, which is a u64
abbrev pub last : ℕ
last = 2 ^ 64 - 1

-- a count has risen, or stands at its last value
abbrev pub Rose : ℕ → ℕ → Type 0
Rose before now = min (before + 1) last ≤ now

-- a count of faults: it doesn't fall, and has risen where the call failed
pub record HasCause (before now : ℕ) (failed : Type 0) : Type 0 where
  pub later : before ≤ now
  pub cause : failed → Rose before now

-- so many more were counted, unless the count stands at its last value
pub record Counted (before now more : ℕ) : Type 0 where
  pub reached : min (before + more) last ≤ now
  pub no_more : now ≤ before + more

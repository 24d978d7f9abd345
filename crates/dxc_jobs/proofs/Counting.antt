-- Counts, one by one.
use Rattle.std.proofs.Common.{◌+◌, ◌≤◌, ℕ, arith}
use Rattle.dxc_causes.specs.Causes.{Rose}
use Rattle.dxc_jobs.specs.Counts.{RoseBy}

-- one more after n
pub rose_more : (n before now later : ℕ) → RoseBy n before now → Rose now later → RoseBy (n + 1) before later
rose_more n before now later r s = omega arith

-- a fault after what was opened before
pub rose_behind : (a b c : ℕ) → a ≤ b → Rose b c → Rose a c
rose_behind a b c later rose = omega (arith, later, rose)

use Rattle.std.proofs.Common.{◌≡◌, take}
use Rattle.fabric_core.specs.Passing.{seen_of}
use Rattle.fabric_core.proofs.seen.Seen.of.Given as goal

abbrev pub invariant-loop-place : goal.invariant-loop-place
invariant-loop-place l = l.seen ≡ seen_of (take l.place l.looks)

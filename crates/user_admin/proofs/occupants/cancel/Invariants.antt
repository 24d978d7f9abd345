use Rattle.std.proofs.Common.{◌≡◌, ◌++◌, map, take, drop}
use Rattle.user_admin.specs.Occupants.{without}
use Rattle.user_admin.proofs.occupants.cancel.Given as goal

abbrev pub invariant-loop-place : goal.invariant-loop-place
invariant-loop-place l = l.occupants ≡ take l.place (map (without l.name) l.initial.occupants) ++ drop l.place l.initial.occupants

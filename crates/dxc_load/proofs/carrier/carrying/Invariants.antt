use Rattle.std.proofs.Common.{◌≡◌, ◌≤◌, take}
use Rattle.dxc_load.specs.Carrying.{carrying}
use Rattle.dxc_load.proofs.carrier.carrying.Given as goal

abbrev pub invariant-loop-byte : goal.invariant-loop-byte
invariant-loop-byte l = record { counted : l.count ≡ carrying (take l.byte-index l.output); few : l.count ≤ l.byte-index }

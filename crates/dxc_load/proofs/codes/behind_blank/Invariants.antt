use Rattle.std.proofs.Common.{take}
use Rattle.dxc_load.specs.Codes.{HasNone}
use Rattle.dxc_load.proofs.codes.behind_blank.Given as goal

abbrev pub invariant-loop-at : goal.invariant-loop-at
invariant-loop-at l = HasNone 32 (take l.at l.text)

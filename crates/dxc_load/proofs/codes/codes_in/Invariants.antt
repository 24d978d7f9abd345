use Rattle.std.proofs.Common.{◌≡◌, ◌+◌, ◌≤◌, length}
use Rattle.dxc_load.specs.Codes.{Rest, coded_from, compld, deny}
use Rattle.dxc_load.proofs.codes.codes_in.Given as goal

abbrev pub invariant-loop-letter : goal.invariant-loop-letter
invariant-loop-letter l = record {
  completed : l.codes.completed + coded_from compld Rest l.text ≡ coded_from compld Rest l.written;
  denied : l.codes.denied + coded_from deny Rest l.text ≡ coded_from deny Rest l.written;
  few : (l.codes.completed + length l.text ≤ length l.written) × (l.codes.denied + length l.text ≤ length l.written);
}

abbrev pub decreases-loop-letter : goal.decreases-loop-letter
decreases-loop-letter l = length l.text

use Rattle.std.proofs.Common.{◌≡◌, take, drop}
use Rattle.tl1_text.specs.Tags.{is_alphanumeric}
use Rattle.tl1_text.proofs.ctag.Ctag.of.Given as goal

abbrev pub invariant-loop-at : goal.invariant-loop-at
invariant-loop-at l = record {
  kept : l.text.items ≡ take l.at l.bytes;
  same : is_alphanumeric l.bytes ≡ is_alphanumeric (drop l.at l.bytes);
}

use Rattle.std.proofs.Common.{◌≡◌, ◌++◌, length, map}
use Rattle.std.specs.Prelude.{string_bytes}
use Rattle.std.specs.Vec.Iter.{into_iter_items, into_iter_len}
use Rattle.dxc_console.specs.Given.{after_name}
use Rattle.dxc_console.proofs.words.add_words.Given as goal

abbrev pub invariant-loop-word : goal.invariant-loop-word
invariant-loop-word l = record {
  all : l.yielded ++ into_iter_items l.word-iterator ≡ after_name (into_iter_items l.fn.args);
  count : into_iter_len l.word-iterator ≡ length (into_iter_items l.word-iterator);
  given : l.words.items ≡ l.fn.words.items ++ map string_bytes l.yielded;
}

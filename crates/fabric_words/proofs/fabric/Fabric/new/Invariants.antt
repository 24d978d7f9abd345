use Rattle.std.specs.Prelude.{◌≡◌, [], length}
use Rattle.fabric_core.specs.State.{new_mover}
use Rattle.fabric_words.specs.declared.table.View.TheVariants.{AsMover}
use Rattle.fabric_words.specs.New.{AreNew}
use Rattle.fabric_words.proofs.fabric.Fabric.new.Given as goal

abbrev pub invariant-loop-number : goal.invariant-loop-number
invariant-loop-number l = record {
  table : l.token.table_id ≡ l.fabric-inside.board.shared.table_id;
  mover : l.token.me ≡ (AsMover l.fabric-inside.size l.number (new_mover l.fabric-inside.size), []);
  count : length l.seats.items ≡ l.number;
  seats : AreNew (record { table = l.fabric-inside.board.shared.table_id; size = l.fabric-inside.size }) 0 l.seats.items;
}

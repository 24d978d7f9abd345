use Rattle.std.proofs.Common.{◌≡◌, ◌<◌, ◌*◌, length}
use Rattle.paull_matrix.specs.declared.side.Side.TheVariants.{Row, Column}
use Rattle.paull_chain.proofs.walk.shorter.Given as goal
use Rattle.paull_chain.proofs.Going.{LeadsTo}

abbrev pub invariant-loop-pairs : goal.invariant-loop-pairs
invariant-loop-pairs l = record {
  rows : LeadsTo l.fn.matrix l.fn.a.0 l.fn.b.0 Row l.fn.row l.rows.items Row l.row_at;
  columns : LeadsTo l.fn.matrix l.fn.a.0 l.fn.b.0 Column l.fn.column l.columns.items Column l.column_at;
  sizes : (length l.rows.items ≡ 2 * l.pairs) × (length l.columns.items ≡ 2 * l.pairs);
  low : (l.row_at < l.fn.matrix.shape.modules) × (l.column_at < l.fn.matrix.shape.modules);
}

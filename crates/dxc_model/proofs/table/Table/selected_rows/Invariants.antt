use Rattle.std.proofs.Common.{◌≡◌, vec_capacity}
use Rattle.dxc_model.specs.Order.{IsListed}
use Rattle.dxc_model.specs.Tables.{is_selected}
use Rattle.dxc_model.proofs.table.Table.selected_rows.Given as goal

abbrev pub invariant-loop-port : goal.invariant-loop-port
invariant-loop-port l = IsListed (is_selected l.self.shape l.selection) l.self.conns l.into.items l.port × (vec_capacity l.into ≡ vec_capacity l.fn.into)

use Rattle.std.proofs.Common.{rules, ap₂, ◌∙◌, Option}
use Rattle.dxc_model.specs.declared.conn.Conn.{Conn}
use Rattle.dxc_model.specs.Sides.{in_order}
use Rattle.dxc_model.proofs.Rows.{port_rows_are, two_ports}
use Rattle.dxc_model.proofs.table.Table.port_rows.Goals as goal

pub users-requires : goal.users-requires
users-requires c = search (rules, two_ports _ c.self.inside.sides c.self.invariant)

pub returns-else-port-ports-clause-rows : goal.returns-else-port-ports-clause-rows
returns-else-port-ports-clause-rows c = rw (← c.self.view_is)
    (c.users.ensures.rows ∙ (ap₂ (λ (a b : Option Conn). in_order a b) c.input_user-input.ensures c.output_user-output.ensures ∙ port_rows_are _ c.self.inside.sides c.args.port c.self.invariant))

use Rattle.std.proofs.Common.{sym, ◌∙◌}
use Rattle.xc_recovery.proofs.Rowing.{next_in, next_out, row_in, row_out}
use Rattle.xc_recovery.proofs.rows.checkpoint_row.Goals as goal

pub returns-in-None-clause-row : goal.returns-in-None-clause-row
returns-in-None-clause-row c = c.conn_row.ensures.row ∙ row_in c.args.table.now c.args.matrix.now c.args.i c.args.port.now (sym c.out.ensures ∙ c.in-None.is) c.requires.port

pub returns-in-None-clause-port : goal.returns-in-None-clause-port
returns-in-None-clause-port c = next_in c.args.table.now c.args.matrix.now c.args.i c.args.port.now c.conn_row.new.port c.conn_row.result c.requires.placed (sym c.out.ensures ∙ c.in-None.is) c.requires.port c.conn_row.ensures.row c.conn_row.ensures.port

pub returns-else-i-eq0-clause-row : goal.returns-else-i-eq0-clause-row
returns-else-i-eq0-clause-row c = c.conn_row-else-i-eq0.ensures.row ∙ row_out c.args.table.now c.args.matrix.now c.in-Some.middle c.args.i c.args.port.now (sym c.out.ensures ∙ c.in-Some.is) c.if-i-eq0.false c.requires.port

pub returns-else-i-eq0-clause-port : goal.returns-else-i-eq0-clause-port
returns-else-i-eq0-clause-port c = next_out c.args.table.now c.args.matrix.now c.args.i c.args.port.now c.conn_row-else-i-eq0.new.port c.conn_row-else-i-eq0.result c.requires.placed c.if-i-eq0.false c.requires.port c.conn_row-else-i-eq0.ensures.row c.conn_row-else-i-eq0.ensures.port

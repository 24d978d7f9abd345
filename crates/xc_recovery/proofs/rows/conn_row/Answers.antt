use Rattle.std.proofs.Common.{sym, ap, Some, List, ◌∙◌}
use Rattle.std.specs.Prelude.{option_map}
use Rattle.dxc_model.specs.declared.op.Change.TheVariants.{Enter}
use Rattle.roll_plan.specs.declared.op.Choice.{Choice}
use Rattle.xc_journal.specs.Spelling.{spelling}
use Rattle.xc_recovery.specs.Rows.{row_of}
use Rattle.xc_recovery.proofs.Rowing.{held_at}
use Rattle.xc_recovery.proofs.rows.conn_row.Goals as goal

pub choices_at-requires-clause-inside : goal.choices_at-requires-clause-inside
choices_at-requires-clause-inside c l m = let held = held_at c.args.table.now c.args.matrix.now c.args.port.now c.in_ok-conn.conn c.requires (sym c.in_ok-conn.ensures.first) l m in
    (c.requires.colouring.inside l held.0 held.1).0

pub choices_at-requires-clause-held : goal.choices_at-requires-clause-held
choices_at-requires-clause-held c l m = held_at c.args.table.now c.args.matrix.now c.args.port.now c.in_ok-conn.conn c.requires (sym c.in_ok-conn.ensures.first) l m

pub returns-clause-row : goal.returns-clause-row
returns-clause-row c = ap Some (c.record_of.ensures.spelled ∙ ap (λ (hs : List Choice). spelling (Enter c.in_ok-conn.conn) hs) c.choices_at.ensures) ∙ ap (option_map (row_of c.args.matrix.now)) c.in_ok-conn.ensures.first

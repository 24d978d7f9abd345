use Rattle.craft_session.proofs.Asking.{asked_no_rows, asked_rows}
use Rattle.craft_session.proofs.user_commands.list_users.Goals as goal

pub returns-in-Ok-clause-asked : goal.returns-in-Ok-clause-asked
returns-in-Ok-clause-asked g c = asked_rows c.args.users.now.seat c.rows.new.self.seen c.args.which c.in-Ok.rows.items (λ h saw. c.in-Ok.ensures.rows h saw)

pub returns-in-Err-clause-asked : goal.returns-in-Err-clause-asked
returns-in-Err-clause-asked g c = asked_no_rows c.args.users.now.seat c.rows.new.self.seen c.args.which c.in-Err.cause _ c.requires.no_rows (λ h saw. c.in-Err.ensures.rows h saw)

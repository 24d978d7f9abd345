use Rattle.std.specs.Prelude.{IfOk}
use Rattle.std.proofs.Common.{ℕ, List, Result, ◌∙◌, ap, map, subst, sym}
use Rattle.dxc_model.specs.declared.cause.Cause.{Cause}
use Rattle.tl1_users.specs.declared.op.UserOp.{UserOp}
use Rattle.craft_session.specs.Readings.{IsCommand}
use Rattle.tl1_text.specs.Spans.{block_at}
use Rattle.tl1_users.specs.Commands.{user_meaning}
use Rattle.craft_session.proofs.Codes.{is_command}
use Rattle.craft_session.proofs.meaning.read_operation.Goals as goal

pub returns-clause-meaning : goal.returns-clause-meaning
returns-clause-meaning c = c.user_command_of-asked.ensures.meaning ∙ ap (λ (s : List ℕ). user_meaning s c.args.user.now (map (block_at c.args.unit.now) c.args.found.now.block.items)) c.sid.ensures

pub returns-clause-command : goal.returns-clause-command
returns-clause-command c = let bs = map (block_at c.args.unit.now) c.args.found.now.block.items in subst (λ (r : Result UserOp Cause). IfOk r IsCommand) (sym c.user_command_of-asked.ensures.meaning) (is_command c.sid.result.now c.args.user.now bs)

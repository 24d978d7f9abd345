use Rattle.std.proofs.Common.{◌∙◌, sym, ap, map}
use Rattle.dxc_model.specs.declared.cause.Cause.TheVariants.{UnknownCommand}
use Rattle.tl1_text.specs.Spans.{block_at}
use Rattle.craft_session.specs.declared.ask.Ask.TheVariants.{Refused}
use Rattle.craft_session.specs.Meanings.{users_ask, users_want}
use Rattle.craft_session.proofs.Codes.{none_is_unknown, unnamed}
use Rattle.craft_session.proofs.Reading.{read_session}
use Rattle.craft_session.proofs.meaning.read_users.Goals as goal

pub returns-then-is_of_users : goal.returns-then-is_of_users
returns-then-is_of_users c = let r = c.read_operation.ensures in record { read = record { wanted = ap users_want r.meaning; asked = λ x. ap (users_ask x) r.meaning; apt = (r.named, r.command) } }

pub returns-else-is_of_users : goal.returns-else-is_of_users
returns-else-is_of_users c =
    let s = c.args.shelf.now in
    let user = c.args.user.now in
    let is = none_is_unknown s.sid user (map (block_at c.args.unit.now) c.args.found.now.block.items) (unnamed _ (sym c.is_of_users.ensures ∙ c.if-is_of_users.false)) in
    record { read = read_session s.shape user _ _ c.args.unit.now (Refused UnknownCommand) c.args.asked.now.op (ap users_want is) (λ x. ap (users_ask x) is) tt }

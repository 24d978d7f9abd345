use Rattle.std.specs.Prelude.{IfOk, MatchResult}
use Rattle.std.proofs.Common.{◌≡◌, ℕ, List, Ok, Err, Result, map, sym, ◌∙◌, ap, ap₂, subst}
use Rattle.dxc_num.specs.Dimensions.{Dimensions}
use Rattle.dxc_model.specs.declared.cause.Cause.{Cause}
use Rattle.tl1_text.specs.Spans.{block_at}
use Rattle.tl1_command.specs.declared.command.Command.{Command}
use Rattle.tl1_command.specs.Commands.{asked_by, IsAptCommand}
use Rattle.tl1_command.specs.Meanings.{Asked, meaning}
use Rattle.craft_session.specs.declared.ask.Ask.TheVariants.{Refused}
use Rattle.craft_session.specs.Meanings.{command_ask, command_wants, session_ask, session_wants}
use Rattle.craft_session.specs.Readings.{IsReadAs, read_as}
use Rattle.craft_session.proofs.Asking.{refused_ask, refused_wants}
use Rattle.craft_session.proofs.Reading.{read_session}
use Rattle.craft_session.proofs.meaning.read_in.Goals as goal

pub on_command-requires : goal.on_command-requires
on_command-requires c = record { within = (c.shape.result, subst (λ (r : Result Command Cause). IfOk r (IsAptCommand c.shape.result c.args.unit.now)) c.in-Ok.is c.command_with.ensures.apt) }

pub returns-in-Ok : goal.returns-in-Ok
returns-in-Ok c =
    let s = c.args.shelf.now in
    let user = c.args.user.now in
    let unit = c.args.unit.now in
    let bs = map (block_at unit) c.args.found.now.block.items in
    let meant : meaning c.shape.result c.sid.result.now user bs ≡ Ok (asked_by unit c.in-Ok.command) = subst (λ (r : Result Command Cause). MatchResult r (λ k. meaning c.shape.result c.sid.result.now user bs ≡ Ok (asked_by unit k)) (λ q. meaning c.shape.result c.sid.result.now user bs ≡ Err q)) c.in-Ok.is c.command_with.ensures.meaning in
    let fit = subst (λ (r : Result Command Cause). IfOk r (IsAptCommand c.shape.result unit)) c.in-Ok.is c.command_with.ensures.apt in
    let is : meaning s.shape s.sid user bs ≡ Ok (asked_by unit c.in-Ok.command) = sym (ap₂ (λ (d : Dimensions) (sid : List ℕ). meaning d sid user bs) c.shape.ensures c.sid.ensures) ∙ meant in
    let r = read_as unit c.on_command.result c.on_command.new.ask c.args.asked.now.op in
    record {
      read = subst (λ (m : Result Asked Cause). IsReadAs s.shape user (command_wants s user bs m) (λ x. command_ask s user x bs m) r) (sym is)
          (subst (λ (d : Dimensions). IsReadAs d user (session_wants user (asked_by unit c.in-Ok.command)) (λ x. session_ask user x (asked_by unit c.in-Ok.command)) r) c.shape.ensures (c.on_command.ensures.read c.shape.result c.args.asked.now.op fit));
    }

pub returns-in-UnknownCommand : goal.returns-in-UnknownCommand
returns-in-UnknownCommand c =
    let s = c.args.shelf.now in
    let user = c.args.user.now in
    let bs = map (block_at c.args.unit.now) c.args.found.now.block.items in
    let meant : meaning c.shape.result c.sid.result.now user bs ≡ Err c.in-Err.cause = subst (λ (r : Result Command Cause). MatchResult r (λ k. meaning c.shape.result c.sid.result.now user bs ≡ Ok (asked_by c.args.unit.now k)) (λ q. meaning c.shape.result c.sid.result.now user bs ≡ Err q)) c.in-Err.is c.command_with.ensures.meaning in
    let is : meaning s.shape s.sid user bs ≡ Err c.in-Err.cause = sym (ap₂ (λ (d : Dimensions) (sid : List ℕ). meaning d sid user bs) c.shape.ensures c.sid.ensures) ∙ meant in
    record { read = subst (λ (m : Result Asked Cause). IsReadAs s.shape user (command_wants s user bs m) (λ x. command_ask s user x bs m) (read_as c.args.unit.now c.read_users.result c.read_users.new.ask c.read_users.new.asked.op)) (sym (is ∙ ap Err c.in-UnknownCommand.is)) c.read_users.ensures.read }

pub returns-in_default : goal.returns-in_default
returns-in_default c =
    let s = c.args.shelf.now in
    let user = c.args.user.now in
    let bs = map (block_at c.args.unit.now) c.args.found.now.block.items in
    let not = c.in_default.not-UnknownCommand in
    let meant : meaning c.shape.result c.sid.result.now user bs ≡ Err c.in-Err.cause = subst (λ (r : Result Command Cause). MatchResult r (λ k. meaning c.shape.result c.sid.result.now user bs ≡ Ok (asked_by c.args.unit.now k)) (λ q. meaning c.shape.result c.sid.result.now user bs ≡ Err q)) c.in-Err.is c.command_with.ensures.meaning in
    let is : meaning s.shape s.sid user bs ≡ Err c.in-Err.cause = sym (ap₂ (λ (d : Dimensions) (sid : List ℕ). meaning d sid user bs) c.shape.ensures c.sid.ensures) ∙ meant in
    record { read = read_session s.shape user _ _ c.args.unit.now (Refused c.in-Err.cause) c.args.asked.now.op (ap (command_wants s user bs) is ∙ refused_wants s user bs c.in-Err.cause not) (λ x. ap (command_ask s user x bs) is ∙ refused_ask s user x bs c.in-Err.cause not) tt }

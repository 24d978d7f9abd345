use Rattle.std.proofs.Common.{Result, Ok, ◌∙◌, ap, subst}
use Rattle.dxc_outside.specs.declared.stopped.Stopped.{Stopped}
use Rattle.user_admin.specs.declared.turns.UserTook.{UserTook}
use Rattle.user_admin.specs.Openings.{asked_at_turn}
use Rattle.user_admin.specs.Turns.{TookIs}
use Rattle.craft_session.specs.declared.ask.Ask.{Ask}
use Rattle.craft_session.specs.Hearing.{AskedIs, to_do}
use Rattle.craft_session.specs.Meanings.{heard_ask}
use Rattle.craft_session.specs.Noted.{UsersNoted}
use Rattle.craft_session.proofs.Asking.{asked_denied, asked_done, asked_stopped}
use Rattle.craft_session.proofs.Ends.{by_stop}
use Rattle.craft_session.proofs.Noted.{noted_change}
use Rattle.craft_session.proofs.user_commands.change_users.Goals as goal

pub returns-in-Done-clause-asked : goal.returns-in-Done-clause-asked
returns-in-Done-clause-asked g c =
    let seat = c.args.users.now.seat in
    let seen = c.change.new.self.seen in
    let is = c.in_ok-change.was ∙ ap (λ (t : UserTook). Ok t) c.in-Done.is in
    asked_done seat seen (g.G.Gate.asked c.args.gate.now c.change.new.gate) c.args.op _ c.requires.no_rows (subst (λ (r : Result UserTook Stopped). g.G.Gate.asked c.args.gate.now c.change.new.gate (asked_at_turn r)) is c.change.ensures.asked)
    (λ h saw. subst (λ (r : Result UserTook Stopped). TookIs seat.opening seat.place h c.args.op seen r) is (c.change.ensures.took h saw))

pub returns-in-Denied-clause-asked : goal.returns-in-Denied-clause-asked
returns-in-Denied-clause-asked g c =
    let seat = c.args.users.now.seat in
    let seen = c.change.new.self.seen in
    let is = c.in_ok-change.was ∙ ap (λ (t : UserTook). Ok t) c.in-Denied.is in
    asked_denied seat seen (g.G.Gate.asked c.args.gate.now c.change.new.gate) c.args.op c.in-Denied.cause _ c.requires.no_rows (subst (λ (r : Result UserTook Stopped). g.G.Gate.asked c.args.gate.now c.change.new.gate (asked_at_turn r)) is c.change.ensures.asked)
    (λ h saw. subst (λ (r : Result UserTook Stopped). TookIs seat.opening seat.place h c.args.op seen r) is (c.change.ensures.took h saw))

pub returns-in_err-change-clause-asked : goal.returns-in_err-change-clause-asked
returns-in_err-change-clause-asked g c = by_stop (λ (r : Result Ask Stopped). AskedIs c.args.users.now.seat (to_do c.args.op) heard_ask c.args.users.now.rows.items c.change.new.self.seen (g.G.Gate.asked c.args.gate.now c.change.new.gate) r) c.from_residual.result c.from_residual.ensures.0
    (asked_stopped c.args.users.now.seat c.change.new.self.seen (g.G.Gate.asked c.args.gate.now c.change.new.gate) c.args.op c.requires.changing c.in_err-change.ensures.asked (λ h saw. c.in_err-change.ensures.took h saw))

pub returns-in_err-change-clause-noted : goal.returns-in_err-change-clause-noted
returns-in_err-change-clause-noted g c = by_stop (λ (r : Result Ask Stopped). UsersNoted (g.N.Notes.noted c.args.notes.now c.args.notes.now) c.args.user.now c.args.tag.now (to_do c.args.op) r) c.from_residual.result c.from_residual.ensures.0 (g.N.Notes.unnoted c.args.notes.now)

pub returns-in-Done-clause-noted : goal.returns-in-Done-clause-noted
returns-in-Done-clause-noted g c = noted_change (g.N.Notes.noted c.args.notes.now c.note_user_command.new.notes) c.args.user.now c.args.tag.now c.args.op _ _ c.user_change_of-change.ensures c.note_user_command.ensures

pub returns-in-Denied-clause-noted : goal.returns-in-Denied-clause-noted
returns-in-Denied-clause-noted g c = noted_change (g.N.Notes.noted c.args.notes.now c.note_user_command-in-Denied.new.notes) c.args.user.now c.args.tag.now c.args.op _ _ c.user_change_of-change.ensures c.note_user_command-in-Denied.ensures

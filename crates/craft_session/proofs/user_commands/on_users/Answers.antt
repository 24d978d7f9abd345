use Rattle.std.proofs.Common.{ℕ, List, Some, Ok, sym, ◌∙◌, ap, subst}
use Rattle.craft_session.specs.declared.ask.Ask.TheVariants.{Completes}
use Rattle.craft_session.specs.Gated.{NothingAsked}
use Rattle.craft_session.specs.Hearing.{IsAsked, Wanted}
use Rattle.craft_session.specs.Meanings.{heard_ask, op_wants}
use Rattle.craft_session.specs.Noted.{UsersNoted}
use Rattle.tl1_users.specs.declared.op.UserOp.{UserOp}
use Rattle.tl1_users.specs.declared.op.UserOp.TheVariants as op
use Rattle.dxc_notes.specs.declared.command.UserChange.TheVariants as change
use Rattle.craft_session.proofs.Asking.{asked_beside, asked_cancelled}
use Rattle.craft_session.proofs.Noted.{noted_change}
use Rattle.craft_session.proofs.user_commands.on_users.Goals as goal

pub returns-in-Rows-clause-asked : goal.returns-in-Rows-clause-asked
returns-in-Rows-clause-asked g c = asked_beside c.args.users.now.seat (op_wants c.args.op) heard_ask c.list_users.result c.list_users.new.users.rows.items c.list_users.new.users.seat.seen (g.G.Gate.asked c.args.gate.now c.args.gate.now) (g.G.Gate.unasked c.args.gate.now)
    (subst (λ (w : Wanted). IsAsked c.args.users.now.seat w heard_ask c.list_users.result c.list_users.new.users.rows.items c.list_users.new.users.seat.seen NothingAsked) (sym (ap op_wants c.in-Rows.is)) c.list_users.ensures.asked)

pub returns-in-Cancel-clause-asked : goal.returns-in-Cancel-clause-asked
returns-in-Cancel-clause-asked g c = asked_beside c.args.users.now.seat (op_wants c.args.op) heard_ask Completes c.args.users.now.rows.items c.cancel.new.self.seen (g.G.Gate.asked c.args.gate.now c.args.gate.now) (g.G.Gate.unasked c.args.gate.now)
    (subst (λ (w : Wanted). IsAsked c.args.users.now.seat w heard_ask Completes c.args.users.now.rows.items c.cancel.new.self.seen NothingAsked) (sym (ap op_wants c.in-Cancel.is)) (asked_cancelled c.args.users.now.seat c.cancel.new.self.seen _ _ c.requires.no_rows c.cancel.ensures.cancelled))

pub returns-in-Rows-clause-noted : goal.returns-in-Rows-clause-noted
returns-in-Rows-clause-noted g c = subst (λ (o : UserOp). UsersNoted (g.N.Notes.noted c.args.notes.now c.args.notes.now) c.args.user.now c.args.tag.now (op_wants o) (Ok c.list_users.result)) (sym c.in-Rows.is) (g.N.Notes.unnoted c.args.notes.now)

pub returns-in-Cancel-clause-noted : goal.returns-in-Cancel-clause-noted
returns-in-Cancel-clause-noted g c = subst (λ (o : UserOp). UsersNoted (g.N.Notes.noted c.args.notes.now c.note_user_command.new.notes) c.args.user.now c.args.tag.now (op_wants o) (Ok Completes)) (sym c.in-Cancel.is)
    (noted_change (g.N.Notes.noted c.args.notes.now c.note_user_command.new.notes) c.args.user.now c.args.tag.now (op.Cancel c.in-Cancel.uid) (Some (change.Cancel, c.of.result)) _ (ap (λ (uid : List ℕ). Some (change.Cancel, uid)) (c.of.ensures ∙ c.bytes.ensures.bytes)) c.note_user_command.ensures)

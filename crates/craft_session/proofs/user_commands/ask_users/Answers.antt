use Rattle.std.specs.Prelude.{IfOk, is_err}
use Rattle.std.proofs.Common.{Result, Ok, Err, ◌∙◌, ap, subst, sym}
use Rattle.dxc_outside.specs.declared.stopped.Stopped.{Stopped}
use Rattle.dxc_outside.specs.Stops.{the_stop}
use Rattle.dxc_model.specs.declared.cause.Cause.{Cause}
use Rattle.tl1_users.specs.Commands.{NamesUid}
use Rattle.tl1_users.specs.declared.op.UserOp.{UserOp}
use Rattle.craft_session.specs.declared.ask.Ask.{Ask}
use Rattle.craft_session.specs.Asks.{IsAptAsk}
use Rattle.craft_session.specs.Desks.{put_down}
use Rattle.craft_session.specs.Hearing.{AskedIs, unasked}
use Rattle.craft_session.specs.Meanings.{heard_ask, op_wants, users_ask, users_want}
use Rattle.craft_session.specs.Noted.{UsersNoted}
use Rattle.craft_session.specs.Readings.{IsCommand}
use Rattle.craft_session.proofs.Consulted.{asked_nothing}
use Rattle.craft_session.proofs.Ends.{by_stop, never, rose_by, still}
use Rattle.craft_session.proofs.Noted.{noted_nothing}
use Rattle.craft_session.proofs.Keeping.{user_seat_stays}
use Rattle.craft_session.proofs.user_commands.ask_users.Goals as goal

pub on_users-requires-clause-named : goal.on_users-requires-clause-named
on_users-requires-clause-named g c = subst (λ (r : Result UserOp Cause). IfOk r NamesUid) (sym c.take.ensures ∙ c.in-Ok.is) c.requires.named

pub on_users-requires-clause-command : goal.on_users-requires-clause-command
on_users-requires-clause-command g c = subst (λ (r : Result UserOp Cause). IfOk r IsCommand) (sym c.take.ensures ∙ c.in-Ok.is) c.requires.command

pub returns-in_err-ask-in-Ok : goal.returns-in_err-ask-in-Ok
returns-in_err-ask-in-Ok g c =
    let seat = c.args.users.now.seat in
    let was = c.args.users.now.asked.op in
    let a = c.args.ask.now in
    let r = c.on_users.ensures in
    let given = sym (sym c.take.ensures ∙ c.in-Ok.is) in
    let gate = g.G.Gate.asked c.args.gate.now c.on_users.new.gate in
    let noted = g.N.Notes.noted c.args.notes.now c.on_users.new.notes in
    let rows = c.on_users.new.users.rows.items in
    let seen = c.on_users.new.users.seat.seen in
    let stop = c.from_residual.ensures.0 in
    record {
      same = r.same;
      goes = r.goes;
      asked = by_stop (λ (x : Result (Unit {0}) Stopped). AskedIs seat (users_want was) (λ y. users_ask y was) rows seen gate (put_down x a)) c.from_residual.result stop
          (subst (λ (o : Result UserOp Cause). AskedIs seat (users_want o) (λ y. users_ask y o) rows seen gate (Err the_stop)) given
          (subst (λ (x : Result Ask Stopped). AskedIs seat (op_wants c.in-Ok.op) heard_ask rows seen gate x) c.in_err-ask-in-Ok.was r.asked));
      noted = by_stop (λ (x : Result (Unit {0}) Stopped). UsersNoted noted c.args.user.now c.args.tag.now (users_want was) (put_down x a)) c.from_residual.result stop
          (subst (λ (o : Result UserOp Cause). UsersNoted noted c.args.user.now c.args.tag.now (users_want o) (Err the_stop)) given
          (subst (λ (x : Result Ask Stopped). UsersNoted noted c.args.user.now c.args.tag.now (op_wants c.in-Ok.op) x) c.in_err-ask-in-Ok.was r.noted));
      apt = λ d. by_stop (λ (x : Result (Unit {0}) Stopped). IfOk (put_down x a) (IsAptAsk d)) c.from_residual.result stop tt;
      stopped = rose_by _ _ _ _ r.stopped (ap is_err c.in_err-ask-in-Ok.was) stop;
    }

pub returns-in_ok-ask-in-Ok : goal.returns-in_ok-ask-in-Ok
returns-in_ok-ask-in-Ok g c =
    let seat = c.args.users.now.seat in
    let r = c.in_ok-ask-in-Ok.ensures in
    let given = sym (sym c.take.ensures ∙ c.in-Ok.is) in
    let gate = g.G.Gate.asked c.args.gate.now c.on_users.new.gate in
    let noted = g.N.Notes.noted c.args.notes.now c.on_users.new.notes in
    let rows = c.on_users.new.users.rows.items in
    let seen = c.on_users.new.users.seat.seen in
    record {
      same = c.on_users.ensures.same;
      goes = c.on_users.ensures.goes;
      asked = subst (λ (o : Result UserOp Cause). AskedIs seat (users_want o) (λ y. users_ask y o) rows seen gate (Ok c.in_ok-ask-in-Ok.field-0)) given r.asked;
      noted = subst (λ (o : Result UserOp Cause). UsersNoted noted c.args.user.now c.args.tag.now (users_want o) (Ok c.in_ok-ask-in-Ok.field-0)) given r.noted;
      apt = r.apt;
      stopped = still _ _ (r.stopped.only (λ e. never e));
    }

pub returns-in-Err-clause-asked : goal.returns-in-Err-clause-asked
returns-in-Err-clause-asked g c =
    let is = sym c.take.ensures ∙ c.in-Err.is in
    asked_nothing _ _ _ _ _ (g.G.Gate.asked c.args.gate.now c.args.gate.now) (g.G.Gate.unasked c.args.gate.now) (ap users_want is) (sym (ap (users_ask unasked) is)) c.requires.no_rows

pub returns-in-Err-clause-noted : goal.returns-in-Err-clause-noted
returns-in-Err-clause-noted g c =
    let is = sym c.take.ensures ∙ c.in-Err.is in
    noted_nothing (g.N.Notes.noted c.args.notes.now c.args.notes.now) c.args.user.now c.args.tag.now _ _ (ap users_want is) (g.N.Notes.unnoted c.args.notes.now)

pub returns-in-Err-clause-goes : goal.returns-in-Err-clause-goes
returns-in-Err-clause-goes g c = user_seat_stays _

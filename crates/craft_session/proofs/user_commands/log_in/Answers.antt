use Rattle.std.proofs.Common.{List, ℕ, Bool, Option, ◌∙◌, ap, subst, sym}
use Rattle.dxc_model.specs.declared.user.Class.{Class}
use Rattle.dxc_model.specs.declared.user.SessionUser.TheVariants.{User}
use Rattle.user_admin.specs.declared.op.UserEntry.{UserEntry}
use Rattle.user_admin.specs.Turns.{LoggedIn, Saw}
use Rattle.craft_session.specs.Hearing.{found}
use Rattle.craft_session.specs.Meanings.{log_in, named_by}
use Rattle.craft_session.proofs.Asking.{asked_login, asked_too_long, nobody_refused}
use Rattle.craft_session.proofs.Keeping.{user_seat_stays}
use Rattle.craft_session.proofs.user_commands.log_in.Goals as goal

pub returns-in_default-clause-asked : goal.returns-in_default-clause-asked
returns-in_default-clause-asked g c = asked_too_long c.args.users.now.seat c.args.user.now c.args.uid.now c.args.pid.now _ c.of.result c.of.ensures c.requires.no_rows c.in_default.is

pub returns-in-Some-login-clause-asked : goal.returns-in-Some-login-clause-asked
returns-in-Some-login-clause-asked g c =
    let named : List ℕ = c.in-Some.uid in
    let seat = c.args.users.now.seat in
    let logged = subst (λ (v : Bool). (h : List UserEntry) → Saw seat.opening seat.seen h → LoggedIn seat.opening seat.place h (record { vacant = v; uid = named; pid = c.args.pid.now }) c.login.new.self.seen c.login.result) c.is_vacant.ensures c.login.ensures.logged in
    asked_login c.args.users.now.seat c.args.user.now c.args.uid.now c.args.pid.now _ c.of.result c.of.ensures c.requires.no_rows named c.in-Some.is c.login.new.self.seen c.login.result logged c.log_in_as.result
    (c.log_in_as.ensures.ask ∙ ap (λ (n : List ℕ). log_in c.args.user.now (User n c.in-Some-login.class)) c.upper.ensures ∙ ap (λ (o : Option Class). log_in c.args.user.now (named_by named (found o))) (sym c.in-Some-login.is))

pub returns-in-None-clause-asked : goal.returns-in-None-clause-asked
returns-in-None-clause-asked g c =
    let named : List ℕ = c.in-Some.uid in
    let seat = c.args.users.now.seat in
    let logged = subst (λ (v : Bool). (h : List UserEntry) → Saw seat.opening seat.seen h → LoggedIn seat.opening seat.place h (record { vacant = v; uid = named; pid = c.args.pid.now }) c.login.new.self.seen c.login.result) c.is_vacant.ensures c.login.ensures.logged in
    asked_login c.args.users.now.seat c.args.user.now c.args.uid.now c.args.pid.now _ c.of.result c.of.ensures c.requires.no_rows named c.in-Some.is c.login.new.self.seen c.login.result logged _
    (nobody_refused c.args.user.now ∙ ap (λ (o : Option Class). log_in c.args.user.now (named_by named (found o))) (sym c.in-None.is))

pub returns-in_default-clause-goes : goal.returns-in_default-clause-goes
returns-in_default-clause-goes g c = user_seat_stays _

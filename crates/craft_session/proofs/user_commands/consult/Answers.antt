use Rattle.std.proofs.Common.{ℕ, List, Ok, refl, sym, ap, subst}
use Rattle.tl1_text.specs.Spans.{text_at}
use Rattle.tl1_command.specs.Meanings.{acts}
use Rattle.craft_session.specs.declared.ask.Meaning.{Meaning}
use Rattle.craft_session.specs.Desks.{put_down}
use Rattle.craft_session.specs.Gated.{NothingAsked}
use Rattle.craft_session.specs.Hearing.{AskedIs, IsAsked, unasked}
use Rattle.craft_session.specs.Meanings.{log_in, login_wants, named_by}
use Rattle.craft_session.specs.Noted.{UsersNoted}
use Rattle.craft_session.specs.Readings.{IsAptIn, asked_in, wanted_in}
use Rattle.craft_session.proofs.Asking.{asked_beside}
use Rattle.craft_session.proofs.Consulted.{asked_nothing}
use Rattle.craft_session.proofs.Ends.{still}
use Rattle.craft_session.proofs.Noted.{noted_nothing, noted_session}
use Rattle.craft_session.proofs.Keeping.{user_seat_stays}
use Rattle.craft_session.proofs.user_commands.consult.Goals as goal

pub ask_users-requires-clause-named : goal.ask_users-requires-clause-named
ask_users-requires-clause-named g c = (subst (λ (m : Meaning). IsAptIn c.requires.apt.0 c.args.unit.now c.args.ask.now c.args.users.now.asked.op m) c.in-Users.is c.requires.apt.1).0

pub ask_users-requires-clause-command : goal.ask_users-requires-clause-command
ask_users-requires-clause-command g c = (subst (λ (m : Meaning). IsAptIn c.requires.apt.0 c.args.unit.now c.args.ask.now c.args.users.now.asked.op m) c.in-Users.is c.requires.apt.1).1

pub returns-in-Session : goal.returns-in-Session
returns-in-Session g c =
    let user = c.args.user.now in
    let unit = c.args.unit.now in
    let ask = c.args.ask.now in
    let op = c.args.users.now.asked.op in
    let none = ap (λ (m : Meaning). wanted_in user unit op m) c.in-Session.is in
    record {
      same = (refl, refl, refl, refl);
      goes = user_seat_stays _;
      asked = asked_nothing c.args.users.now.seat _ _ ask _ (g.G.Gate.asked c.args.gate.now c.args.gate.now) (g.G.Gate.unasked c.args.gate.now) none (sym (ap (λ (m : Meaning). asked_in user unit ask op m unasked) c.in-Session.is)) c.requires.no_rows;
      noted = noted_nothing (g.N.Notes.noted c.args.notes.now c.args.notes.now) user c.args.tag.now _ ask none (g.N.Notes.unnoted c.args.notes.now);
      apt = λ d fit. subst (λ (m : Meaning). IsAptIn d unit ask op m) c.in-Session.is fit;
      stopped = still _ _ refl;
    }

pub returns-in-LogIn : goal.returns-in-LogIn
returns-in-LogIn g c =
    let user = c.args.user.now in
    let unit = c.args.unit.now in
    let op = c.args.users.now.asked.op in
    let seat = c.args.users.now.seat in
    let rows = c.log_in.new.users.rows.items in
    let seen = c.log_in.new.users.seat.seen in
    let a = c.log_in.new.ask in
    let is = c.in-LogIn.is in
    record {
      same = c.log_in.ensures.same;
      goes = c.log_in.ensures.goes;
      asked = subst (λ (m : Meaning). IsAsked seat (wanted_in user unit op m) (asked_in user unit c.args.ask.now op m) a rows seen (g.G.Gate.asked c.args.gate.now c.args.gate.now)) (sym is)
          (asked_beside seat _ _ a rows seen (g.G.Gate.asked c.args.gate.now c.args.gate.now) (g.G.Gate.unasked c.args.gate.now)
          (subst (λ (w : List ℕ × List ℕ). IsAsked seat (login_wants user w.0 w.1) (λ x. log_in user (named_by w.0 x)) a rows seen NothingAsked) (λ i. (c.text.ensures i, c.text-in-LogIn.ensures i)) c.log_in.ensures.asked));
      noted = subst (λ (m : Meaning). UsersNoted (g.N.Notes.noted c.args.notes.now c.args.notes.now) user c.args.tag.now (wanted_in user unit op m) (Ok a)) (sym is) (noted_session (g.N.Notes.noted c.args.notes.now c.args.notes.now) user c.args.tag.now (acts (text_at unit c.in-LogIn.uid) (text_at unit c.in-LogIn.pid)) a (g.N.Notes.unnoted c.args.notes.now));
      apt = λ d fit. c.log_in.ensures.apt d;
      stopped = still _ _ refl;
    }

pub returns-in-Users : goal.returns-in-Users
returns-in-Users g c =
    let user = c.args.user.now in
    let unit = c.args.unit.now in
    let ask = c.args.ask.now in
    let op = c.args.users.now.asked.op in
    let seat = c.args.users.now.seat in
    let r = c.ask_users.ensures in
    let rows = c.ask_users.new.users.rows.items in
    let seen = c.ask_users.new.users.seat.seen in
    let gate = g.G.Gate.asked c.args.gate.now c.ask_users.new.gate in
    let noted = g.N.Notes.noted c.args.notes.now c.ask_users.new.notes in
    let is = c.in-Users.is in
    record {
      same = r.same;
      goes = r.goes;
      asked = subst (λ (m : Meaning). AskedIs seat (wanted_in user unit op m) (asked_in user unit ask op m) rows seen gate (put_down c.ask_users.result c.ask_users.new.ask)) (sym is) r.asked;
      noted = subst (λ (m : Meaning). UsersNoted noted user c.args.tag.now (wanted_in user unit op m) (put_down c.ask_users.result c.ask_users.new.ask)) (sym is) r.noted;
      apt = λ d fit. r.apt d;
      stopped = r.stopped;
    }

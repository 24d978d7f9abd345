use Rattle.std.proofs.Common.{◌≡◌, ◌<◌, ◌^◌, ◌∙◌, ℕ, arith, false, inl, inr, refl, sym, subst}
use Rattle.dxc_causes.specs.Causes.{Counted}
use Rattle.craft_session.specs.declared.end.SessionEnd.{SessionEnd}
use Rattle.craft_session.specs.Meanings.{language}
use Rattle.craft_session.specs.Sessions.{IsServed}
use Rattle.dxc_load.specs.Sending.{link_state}
use Rattle.craft_server.specs.Loads.{load_moments}
use Rattle.craft_server.proofs.Loading.{no_read_fault, not_spent}
use Rattle.craft_server.proofs.load.serve_load.Goals as goal

pub unreachable-requires : goal.unreachable-requires
unreachable-requires g c = no_read_fault (c.serve_session.ensures.served.why.read_fault c.in-ReadFault.is)

pub unreachable-requires-in-Spent : goal.unreachable-requires-in-Spent
unreachable-requires-in-Spent g c =
    let l = link_state c.serve_session.new.link in
    let e = c.serve_session.ensures.served in
    let counted = subst (λ (n : ℕ). Counted n l.reads (2 ^ 32)) c.requires.unread (e.why.spent c.in-Spent.is) in
    let x = c.serve_session.new.link in
    let below : x.ended ≡ false → x.reads < 2 ^ 21 = λ on. let few = x.few on in let most = x.most in omega (arith, few.0, few.1, most) in
    not_spent l.ended l.reads c.serve_session.result c.in-Spent.is e.why.ended counted below

pub returns-in-End-clause-served : goal.returns-in-End-clause-served
returns-in-End-clause-served g c =
    let old = c.args.place.now in
    let new = c.serve_session.new.place in
    let k = link_state c.args.link.now in
    let l = link_state c.serve_session.new.link in
    let e = c.serve_session.ensures.served in
    record {
      session = subst (λ (end : SessionEnd). IsServed (language old.shelf) (Unit {0}) (Unit {0}) k l load_moments load_moments old.seat new.seat old.users new.users end) c.in-End.is e.session;
      prompt = e.prompt;
      seat = e.place.seat;
      users = e.place.users;
      numbers = e.place.numbers;
      users_numbers = e.place.users_numbers;
      astray = e.place.astray;
      ended = e.why.ended.0 c.in-End.is;
      all_read = e.why.all_read tt c.in-End.is;
    }

pub returns-in-End-clause-unstopped : goal.returns-in-End-clause-unstopped
returns-in-End-clause-unstopped g c = c.serve_session.ensures.served.unstopped (λ is. let bad = sym c.in-End.is ∙ is in cc)

pub returns-in-WriteFault-clause-served : goal.returns-in-WriteFault-clause-served
returns-in-WriteFault-clause-served g c = inl refl

pub returns-in-WriteFault-clause-unstopped : goal.returns-in-WriteFault-clause-unstopped
returns-in-WriteFault-clause-unstopped g c = c.serve_session.ensures.served.later

pub returns-in-Stopped-clause-served : goal.returns-in-Stopped-clause-served
returns-in-Stopped-clause-served g c = inr (refl, c.serve_session.ensures.served.stopped c.in-Stopped.is)

pub returns-in-Stopped-clause-unstopped : goal.returns-in-Stopped-clause-unstopped
returns-in-Stopped-clause-unstopped g c = c.serve_session.ensures.served.later

pub unreachable-requires-in-Unattended : goal.unreachable-requires-in-Unattended
unreachable-requires-in-Unattended g c = c.serve_session.ensures.attended c.in-Unattended.is

pub unreachable-requires-in-Idle : goal.unreachable-requires-in-Idle
unreachable-requires-in-Idle g c = c.serve_session.ensures.endless c.in-Idle.is

pub unreachable-requires-in-Cancelled : goal.unreachable-requires-in-Cancelled
unreachable-requires-in-Cancelled g c = c.serve_session.ensures.alone c.in-Cancelled.is

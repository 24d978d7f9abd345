use Rattle.std.proofs.Common.{ℕ, inl, inr, refl, subst}
use Rattle.dxc_model.specs.declared.user.SessionUser.TheVariants.{Nobody}
use Rattle.xc_core.specs.States.{opening_of}
use Rattle.craft_server.proofs.Scripting.{IsEnd, ran_and_left}
use Rattle.dxc_element.proofs.Starting.{begun, users_began}
use Rattle.craft_server.proofs.Starting.{opened_at}
use Rattle.dxc_outside.proofs.Asking.{asked_less}
use Rattle.dxc_element.specs.Openings.{files_asked, named, sources}
use Rattle.dxc_element.proofs.Wording.{not_opened_ends}
use Rattle.craft_server.proofs.script.run_script.Goals as goal

pub lone_place-requires-clause-begins : goal.lone_place-requires-clause-begins
lone_place-requires-clause-begins g c = c.in-Ok.ensures.opened.0.1.begins

pub lone_place-requires-clause-users_begin : goal.lone_place-requires-clause-users_begin
lone_place-requires-clause-users_begin g c = c.in-Ok.ensures.opened.1.1.begins

pub lone_place-requires-clause-opening : goal.lone_place-requires-clause-opening
lone_place-requires-clause-opening g c = let h = c.in-Ok.ensures.opened.0 in opened_at g.O.Journal.Disk.told g.O.Journal.Disk.state h.0.disk h.0.shelf _ c.in-Ok.element.controller h.1

pub returns-in-Err-clause-opens : goal.returns-in-Err-clause-opens
returns-in-Err-clause-opens g c = inl (c.in-Err.ensures.opened, (refl, refl))

pub returns-clause-opens : goal.returns-clause-opens
returns-clause-opens g c =
    let f = c.in-Ok.ensures.opened.0.0 in
    let x = c.in-Ok.element.controller in
    let st = c.in-Ok.ensures.opened.0.1 in
    let u = c.in-Ok.ensures.opened.1 in
    let users = c.in-Ok.element.users in
    let told = g.O.Journal.Disk.told in
    let state = g.O.Journal.Disk.state in
    let k = g.K.Link.state c.args.terminal.now in
    let l = g.K.Link.state c.serve_session.new.link in
    let later = g.G.Gate.stops c.serve_session.new.gate in
    let e = c.serve_session.ensures.served in
    let ended : IsEnd k l (g.G.Gate.stops c.open.new.gate) later c.serve_session.result = record { ended = e.why.ended; read_fault = e.why.read_fault; write_fault = e.why.write_fault; stopped = e.stopped; unstopped = e.unstopped; spent = e.why.spent; attended = c.serve_session.ensures.attended; endless = c.serve_session.ensures.endless; alone = c.serve_session.ensures.alone } in
    inr (
      f,
      opening_of state x.state,
      begun told state f.disk f.shelf _ x st,
      users_began told state g.O.Opener.told _ _ f.shelf users u,
      inl (ran_and_left told state g.K.Link.told g.C.Clock.told g.K.Link.begun k l (g.C.Clock.coming c.args.clock.now) (g.C.Clock.coming c.serve_session.new.clock) (g.G.Gate.stops c.args.gate.now) later Nobody f.shelf f.disk u.0.disk g.O.LetGo.gone _ x users c.in-Ok-lone_place.place c.serve_session.new.place c.serve_session.result c.after_session-status.result st u.1 c.in-Ok-lone_place.ensures e.place.seat e.place.users e.place.numbers e.place.users_numbers e.place.astray e.session e.prompt
          (subst (λ (n : ℕ). IsEnd k l n later c.serve_session.result) c.in-Ok.ensures.unstopped ended) c.after_session-status.ensures c.let_go.ensures),
    )

pub returns-in_default-clause-opens : goal.returns-in_default-clause-opens
returns-in_default-clause-opens g c =
    let h = c.in-Ok.ensures.opened.0 in
    let x = c.in-Ok.element.controller in
    let told = g.O.Journal.Disk.told in
    let state = g.O.Journal.Disk.state in
    inr (
      h.0,
      opening_of state x.state,
      begun told state h.0.disk h.0.shelf _ x h.1,
      users_began told state g.O.Opener.told _ _ h.0.shelf c.in-Ok.element.users c.in-Ok.ensures.opened.1,
      inr (record { no_memory = refl; link = refl; clock = refl; unstopped = c.in-Ok.ensures.unstopped }),
    )

pub returns-in-Err-clause-asked : goal.returns-in-Err-clause-asked
returns-in-Err-clause-asked g c =
    let names = named c.args.names.shelf.now c.args.names.journal.now in
    let before = sources (g.O.Opener.state c.args.opener.now) (g.O.Opener.journal_at c.args.opener.now) (g.G.Gate.stops c.args.gate.now) in
    let after = sources (g.O.Opener.state c.open.new.opener) (g.O.Opener.journal_at c.open.new.opener) (g.G.Gate.stops c.open.new.gate) in
    asked_less (g.O.Opener.asked c.args.opener.now c.open.new.opener) _ (files_asked names) (λ ends. absurd (not_opened_ends g.O.Opener.told g.O.Journal.Disk.told g.O.Journal.Disk.state g.O.LetGo.gone names before after c.in-Err.status c.in-Err.ensures.opened ends)) c.in-Err.ensures.asked

pub returns-in_default-clause-asked : goal.returns-in_default-clause-asked
returns-in_default-clause-asked g c = asked_less (g.O.Opener.asked c.args.opener.now c.open.new.opener) _ (files_asked (named c.args.names.shelf.now c.args.names.journal.now)) (λ ends. refl) c.in-Ok.ensures.asked

pub returns-clause-asked : goal.returns-clause-asked
returns-clause-asked g c = asked_less (g.O.Opener.asked c.args.opener.now c.open.new.opener) _ (files_asked (named c.args.names.shelf.now c.args.names.journal.now)) (λ ends. refl) c.in-Ok.ensures.asked

use Rattle.std.proofs.Common.{◌≡◌, ◌∙◌, List, Result, arith, ap, inl, inr, length, refl, subst, sym}
use Rattle.dxc_model.specs.declared.user.SessionUser.{SessionUser}
use Rattle.shelf_file.specs.Contents.{Contents, UserEntry}
use Rattle.shelf_file.specs.Users.{logged_in}
use Rattle.user_admin.specs.States.{opening_of as users_opening}
use Rattle.xc_core.specs.States.{opening_of}
use Rattle.dxc_args.specs.declared.status.Status.{Status}
use Rattle.dxc_args.specs.declared.status.Status.TheVariants.{NoMemory}
use Rattle.dxc_element.specs.declared.opening.Element.{Element}
use Rattle.craft_server.specs.Scripts.{RanSession}
use Rattle.craft_server.specs.Trials.{IsTried, TriesOn, shape_in, trial_lent, trial_told}
use Rattle.craft_server.proofs.Loading.{on_started}
use Rattle.craft_server.proofs.Scripting.{IsEnd, ran_session}
use Rattle.craft_server.proofs.Starting.{opened_at}
use Rattle.craft_server.proofs.Trying.{first_user, ran_trial}
use Rattle.craft_server.proofs.trial.trial_on.Goals as goal

pub logged_in-user-requires : goal.logged_in-user-requires
logged_in-user-requires g c =
    let el = on_started (IsTried g.D.Disk.told g.D.Disk.state) c.args.opened c.in-Ok.element c.in-Ok.is c.requires.element in
    let one : length c.deref.result.now.users ≡ 1 = ap (λ (s : Contents). length s.users) (c.deref.ensures ∙ el.is_new.started.shelf) ∙ ap (λ (us : List UserEntry). length us) el.is_shelf.users in
    omega (arith, one)

pub lone_place-requires-clause-begins : goal.lone_place-requires-clause-begins
lone_place-requires-clause-begins g c = let el = on_started (IsTried g.D.Disk.told g.D.Disk.state) c.args.opened c.in-Ok.element c.in-Ok.is c.requires.element in el.is_new.started.begins

pub lone_place-requires-clause-users_begin : goal.lone_place-requires-clause-users_begin
lone_place-requires-clause-users_begin g c = let el = on_started (IsTried g.D.Disk.told g.D.Disk.state) c.args.opened c.in-Ok.element c.in-Ok.is c.requires.element in el.is_new.users_started.begins

pub lone_place-requires-clause-opening : goal.lone_place-requires-clause-opening
lone_place-requires-clause-opening g c = let el = on_started (IsTried g.D.Disk.told g.D.Disk.state) c.args.opened c.in-Ok.element c.in-Ok.is c.requires.element in opened_at g.D.Disk.told g.D.Disk.state el.is_new.disk el.shelf 1 c.in-Ok.element.controller el.is_new.started

pub returns-in_default-clause-ran : goal.returns-in_default-clause-ran
returns-in_default-clause-ran g c =
    let was = trial_told g.D.Disk.told g.D.Disk.state g.K.Link.told g.C.Clock.told g.K.Link.begun in
    let before = trial_lent (g.K.Link.state c.args.terminal.now) (g.C.Clock.coming c.args.clock.now) (g.G.Gate.stops c.args.gate.now) in
    subst (λ (y : Result (Element g.row.D.Denot g.row.D.Denot) Status). TriesOn was y before before NoMemory) (sym c.in-Ok.is) (inl (record { terminal = refl; clock = refl; why = inl refl }))

pub returns-in-Err-clause-ran : goal.returns-in-Err-clause-ran
returns-in-Err-clause-ran g c =
    let was = trial_told g.D.Disk.told g.D.Disk.state g.K.Link.told g.C.Clock.told g.K.Link.begun in
    let before = trial_lent (g.K.Link.state c.args.terminal.now) (g.C.Clock.coming c.args.clock.now) (g.G.Gate.stops c.args.gate.now) in
    subst (λ (y : Result (Element g.row.D.Denot g.row.D.Denot) Status). TriesOn was y before before c.in-Err.status) (sym c.in-Err.is) (refl, refl)

pub returns-clause-ran : goal.returns-clause-ran
returns-clause-ran g c =
    let el = on_started (IsTried g.D.Disk.told g.D.Disk.state) c.args.opened c.in-Ok.element c.in-Ok.is c.requires.element in
    let x = c.in-Ok.element in
    let told = g.D.Disk.told in
    let state = g.D.Disk.state in
    let k = g.K.Link.state c.args.terminal.now in
    let l = g.K.Link.state c.serve_session_of.new.link in
    let moments = g.C.Clock.coming c.args.clock.now in
    let later_moments = g.C.Clock.coming c.serve_session_of.new.clock in
    let stops = g.G.Gate.stops c.args.gate.now in
    let later = g.G.Gate.stops c.serve_session_of.new.gate in
    let status = c.after_session.result in
    let user = c.logged_in-user.result in
    let e = c.serve_session_of.ensures.served in
    let o = opening_of state x.controller.state in
    let p = users_opening state x.users in
    let user_is = first_user el.shelf c.deref.result.now.users user (shape_in x) (ap (λ (s : Contents). s.users) (c.deref.ensures ∙ el.is_new.started.shelf)) el.is_shelf c.logged_in-user.ensures in
    let ended : IsEnd k l stops later c.serve_session_of.result = record { ended = e.why.ended; read_fault = e.why.read_fault; write_fault = e.why.write_fault; stopped = e.stopped; unstopped = e.unstopped; spent = e.why.spent; attended = c.serve_session_of.ensures.attended; endless = c.serve_session_of.ensures.endless; alone = c.serve_session_of.ensures.alone } in
    let ran = ran_session told state g.K.Link.told g.C.Clock.told g.K.Link.begun k l moments later_moments stops later user el.shelf el.is_new.disk el.is_new.users_disk 1 x.controller x.users c.in-Ok-lone_place.place c.serve_session_of.new.place c.serve_session_of.result status el.is_new.started el.is_new.users_started c.in-Ok-lone_place.ensures e.place.seat e.place.users e.place.numbers e.place.users_numbers e.place.astray e.session e.prompt ended c.after_session.ensures in
    let was = trial_told g.D.Disk.told g.D.Disk.state g.K.Link.told g.C.Clock.told g.K.Link.begun in
    let before = trial_lent k moments stops in
    let after = trial_lent l later_moments later in
    subst (λ (y : Result (Element g.row.D.Denot g.row.D.Denot) Status). TriesOn was y before after status) (sym c.in-Ok.is)
    (inr (ran_trial was (shape_in x) x el before after status (subst (λ (u : SessionUser). RanSession told g.K.Link.told g.C.Clock.told g.K.Link.begun (state el.is_new.disk) (state el.is_new.users_disk) u el.shelf o p k l moments later_moments stops later status) user_is ran)))

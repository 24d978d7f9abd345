use Rattle.std.proofs.Common.{◌≡◌, ◌∙◌, ◌++◌, ℕ, List, None, Option, Some, inl, inr, refl, sym, ap, ap₂, subst}
use Rattle.shelf_file.specs.Contents.{Contents}
use Rattle.standby_link.specs.declared.mirror_disk.MirrorDisk.{MirrorDisk}
use Rattle.standby_link.proofs.LineSteps.{none_some}
use Rattle.user_admin.specs.Histories.{Opening as UsersOpening}
use Rattle.xc_core.specs.States.{Opening, opening_of}
use Rattle.dxc_outside.specs.Asked.{Asking, AskedFor}
use Rattle.dxc_outside.proofs.Asking.{all_made, asked_behind, asked_within}
use Rattle.dxc_jobs.specs.Missing.{IsOfNoOpening}
use Rattle.dxc_element.specs.Openings.{files_asked, named, sources}
use Rattle.dxc_element.specs.Peers.{mirror_asked}
use Rattle.dxc_element.specs.Peers.{mirror_state}
use Rattle.dxc_element.proofs.Mirroring.{serves}
use Rattle.dxc_element.proofs.Starting.{begun, users_began}
use Rattle.dxc_element.proofs.Wording.{not_mirrored_ends, not_opened_ends}
use Rattle.craft_server.specs.Askings.{opened_asked, serve_asked, site_asked}
use Rattle.craft_server.specs.Serving.{ServedSite, jobs_told, names_in, site_at, site_in}
use Rattle.craft_server.proofs.Mirroring.{alone_by, mirrored_by}
use Rattle.craft_server.proofs.Serves.{served_on}
use Rattle.craft_server.proofs.Starting.{opened_at, sized}
use Rattle.craft_server.proofs.serve.serve_all.Goals as goal

pub serve_on-requires-clause-seats : goal.serve_on-requires-clause-seats
serve_on-requires-clause-seats g c κs within = c.in-Ok.ensures.opened.0.1.seats

pub serve_on-requires-clause-each : goal.serve_on-requires-clause-each
serve_on-requires-clause-each g c κs within = c.in-Ok.ensures.opened.0.1.each

pub serve_on-requires-clause-sized : goal.serve_on-requires-clause-sized
serve_on-requires-clause-sized g c κs within = let h = c.in-Ok.ensures.opened.0 in sized g.O.Journal.Disk.told g.O.Journal.Disk.state h.0.disk h.0.shelf _ c.in-Ok.element.controller h.1

pub serve_on-requires-clause-begins : goal.serve_on-requires-clause-begins
serve_on-requires-clause-begins g c κs within = c.in-Ok.ensures.opened.0.1.begins

pub serve_on-requires-clause-users_begin : goal.serve_on-requires-clause-users_begin
serve_on-requires-clause-users_begin g c κs within = c.in-Ok.ensures.opened.1.1.begins

pub serve_on-requires-clause-opening : goal.serve_on-requires-clause-opening
serve_on-requires-clause-opening g c κs within = let h = c.in-Ok.ensures.opened.0 in opened_at g.O.Journal.Disk.told g.O.Journal.Disk.state h.0.disk h.0.shelf _ c.in-Ok.element.controller h.1

pub serve_on-requires-in-Ok-open_mirrored-clause-seats : goal.serve_on-requires-in-Ok-open_mirrored-clause-seats
serve_on-requires-in-Ok-open_mirrored-clause-seats g c κs within = c.in-Ok-open_mirrored.ensures.opened.0.1.seats

pub serve_on-requires-in-Ok-open_mirrored-clause-each : goal.serve_on-requires-in-Ok-open_mirrored-clause-each
serve_on-requires-in-Ok-open_mirrored-clause-each g c κs within = c.in-Ok-open_mirrored.ensures.opened.0.1.each

pub serve_on-requires-in-Ok-open_mirrored-clause-sized : goal.serve_on-requires-in-Ok-open_mirrored-clause-sized
serve_on-requires-in-Ok-open_mirrored-clause-sized g c κs within = let h = c.in-Ok-open_mirrored.ensures.opened.0 in sized g.O.Journal.Disk.told (mirror_state g.O.Journal.Disk.state) h.0.mirror h.0.shelf _ c.in-Ok-open_mirrored.element.controller h.1

pub serve_on-requires-in-Ok-open_mirrored-clause-begins : goal.serve_on-requires-in-Ok-open_mirrored-clause-begins
serve_on-requires-in-Ok-open_mirrored-clause-begins g c κs within = c.in-Ok-open_mirrored.ensures.opened.0.1.begins

pub serve_on-requires-in-Ok-open_mirrored-clause-users_begin : goal.serve_on-requires-in-Ok-open_mirrored-clause-users_begin
serve_on-requires-in-Ok-open_mirrored-clause-users_begin g c κs within = c.in-Ok-open_mirrored.ensures.opened.1.1.begins

pub serve_on-requires-in-Ok-open_mirrored-clause-opening : goal.serve_on-requires-in-Ok-open_mirrored-clause-opening
serve_on-requires-in-Ok-open_mirrored-clause-opening g c κs within = let h = c.in-Ok-open_mirrored.ensures.opened.0 in opened_at g.O.Journal.Disk.told (mirror_state g.O.Journal.Disk.state) h.0.mirror h.0.shelf _ c.in-Ok-open_mirrored.element.controller h.1

pub returns-in-Ok-clause-alone : goal.returns-in-Ok-clause-alone
returns-in-Ok-clause-alone g c = λ none.
    let line = c.args.line.now in
    let names = named c.text.result.now c.text-2.result.now in
    let same : names ≡ names_in line = ap₂ named c.text.ensures c.text-2.ensures in
    let site = site_at c.text-3.result.now c.text-4.result.now c.number.result in
    let here : site ≡ site_in line = λ i. site_at (c.text-3.ensures i) (c.text-4.ensures i) (c.number.ensures.value i) in
    let told = g.O.Journal.Disk.told in
    let state = g.O.Journal.Disk.state in
    let before = sources (g.O.Opener.state c.args.opener.now) (g.O.Opener.journal_at c.args.opener.now) (g.G.Gate.stops c.args.gate.now) in
    let after = sources (g.O.Opener.state c.serve_on.new.opener) (g.O.Opener.journal_at c.serve_on.new.opener) (g.G.Gate.stops c.open.new.gate) in
    let p = g.P.Spawner.state c.args.spawner.now in
    let q = g.P.Spawner.state c.serve_on.new.spawner in
    let jobs = jobs_told told g.O.Opener g.O.Lines.Lines g.O.Listener.Listener g.O.Listener.Link.Link g.O.Clock.Timestamps g.O.Gate.Gate g.O.LetGo.gone (g.P.Spawner.handed c.args.spawner.now c.serve_on.new.spawner) in
    let h = c.in-Ok.ensures.opened.0 in
    let x = c.in-Ok.element in
    let disk : Type 0 = g.row.O-Journal.Denot in
    alone_by told g.O.Opener.told g.O.LetGo.gone jobs state names (names_in line) same site (site_in line) here before after p q c.serve_on.result
    (inr (
      h.0,
      opening_of state x.controller.state,
      begun told state h.0.disk h.0.shelf _ x.controller h.1,
      users_began told state g.O.Opener.told names before h.0.shelf x.users c.in-Ok.ensures.opened.1,
      served_on disk disk jobs site before after _ p q h.0.shelf _ _ _ c.serve_on.result c.in-Ok.ensures.unstopped c.in-Ok.ensures.later h.1.shelf c.serve_on.ensures.serving c.serve_on.ensures.jobs c.serve_on.ensures.closed,
    ))

pub returns-in-Err-clause-alone : goal.returns-in-Err-clause-alone
returns-in-Err-clause-alone g c = λ none.
    let line = c.args.line.now in
    let names = named c.text.result.now c.text-2.result.now in
    let same : names ≡ names_in line = ap₂ named c.text.ensures c.text-2.ensures in
    let site = site_at c.text-3.result.now c.text-4.result.now c.number.result in
    let here : site ≡ site_in line = λ i. site_at (c.text-3.ensures i) (c.text-4.ensures i) (c.number.ensures.value i) in
    let told = g.O.Journal.Disk.told in
    let state = g.O.Journal.Disk.state in
    let before = sources (g.O.Opener.state c.args.opener.now) (g.O.Opener.journal_at c.args.opener.now) (g.G.Gate.stops c.args.gate.now) in
    let after = sources (g.O.Opener.state c.open.new.opener) (g.O.Opener.journal_at c.open.new.opener) (g.G.Gate.stops c.open.new.gate) in
    let p = g.P.Spawner.state c.args.spawner.now in
    let q = g.P.Spawner.state c.args.spawner.now in
    let jobs = jobs_told told g.O.Opener g.O.Lines.Lines g.O.Listener.Listener g.O.Listener.Link.Link g.O.Clock.Timestamps g.O.Gate.Gate g.O.LetGo.gone (g.P.Spawner.handed c.args.spawner.now c.args.spawner.now) in
    alone_by told g.O.Opener.told g.O.LetGo.gone jobs state names (names_in line) same site (site_in line) here before after p q c.in-Err.status (inl (c.in-Err.ensures.opened, refl))

pub returns-in-Ok-clause-mirrored : goal.returns-in-Ok-clause-mirrored
returns-in-Ok-clause-mirrored g c = λ some. absurd (none_some c.args.line.now.peer c.in-None.is some)

pub returns-in-Err-clause-mirrored : goal.returns-in-Err-clause-mirrored
returns-in-Err-clause-mirrored g c = λ some. absurd (none_some c.args.line.now.peer c.in-None.is some)

pub returns-in-Ok-open_mirrored-clause-alone : goal.returns-in-Ok-open_mirrored-clause-alone
returns-in-Ok-open_mirrored-clause-alone g c = λ none. let no = sym c.in-Some.is ∙ none in cc

pub returns-in-Err-open_mirrored-clause-alone : goal.returns-in-Err-open_mirrored-clause-alone
returns-in-Err-open_mirrored-clause-alone g c = λ none. let no = sym c.in-Some.is ∙ none in cc

pub returns-in-Ok-open_mirrored-clause-mirrored : goal.returns-in-Ok-open_mirrored-clause-mirrored
returns-in-Ok-open_mirrored-clause-mirrored g c = λ some.
    let line = c.args.line.now in
    let names = named c.text.result.now c.text-2.result.now in
    let same : names ≡ names_in line = ap₂ named c.text.ensures c.text-2.ensures in
    let site = site_at c.text-3.result.now c.text-4.result.now c.number.result in
    let here : site ≡ site_in line = λ i. site_at (c.text-3.ensures i) (c.text-4.ensures i) (c.number.ensures.value i) in
    let told = g.O.Journal.Disk.told in
    let state = g.O.Journal.Disk.state in
    let before = sources (g.O.Opener.state c.args.opener.now) (g.O.Opener.journal_at c.args.opener.now) (g.G.Gate.stops c.args.gate.now) in
    let after = sources (g.O.Opener.state c.serve_on-in-Ok-open_mirrored.new.opener) (g.O.Opener.journal_at c.serve_on-in-Ok-open_mirrored.new.opener) (g.G.Gate.stops c.open_mirrored.new.gate) in
    let p = g.P.Spawner.state c.args.spawner.now in
    let q = g.P.Spawner.state c.serve_on-in-Ok-open_mirrored.new.spawner in
    let jobs = jobs_told told g.O.Opener g.O.Lines.Lines g.O.Listener.Listener g.O.Listener.Link.Link g.O.Clock.Timestamps g.O.Gate.Gate g.O.LetGo.gone (g.P.Spawner.handed c.args.spawner.now c.serve_on-in-Ok-open_mirrored.new.spawner) in
    let h = c.in-Ok-open_mirrored.ensures.opened.0 in
    let mirror : Type 0 = MirrorDisk g.row.O-Journal.Denot g.row.O-Peer.Denot in
    let Served : Contents → Opening → UsersOpening → Type 0 = λ s o u. ServedSite mirror mirror jobs site before after p q s o u c.serve_on-in-Ok-open_mirrored.result in
    mirrored_by told g.O.Opener.told g.O.LetGo.gone jobs state names (names_in line) same site (site_in line) here before after p q c.serve_on-in-Ok-open_mirrored.result g.O.Peer.Link.told g.O.Peer.Link.state
    (serves told g.O.Peer.Link.told state g.O.Peer.Link.state g.O.Opener.told g.O.LetGo.gone names c.number.result before after (q ≡ p) Served c.serve_on-in-Ok-open_mirrored.result c.in-Ok-open_mirrored.element c.in-Ok-open_mirrored.ensures.opened
    (served_on mirror mirror jobs site before after _ p q h.0.shelf _ _ _ c.serve_on-in-Ok-open_mirrored.result c.in-Ok-open_mirrored.ensures.unstopped c.in-Ok-open_mirrored.ensures.later h.1.shelf c.serve_on-in-Ok-open_mirrored.ensures.serving c.serve_on-in-Ok-open_mirrored.ensures.jobs c.serve_on-in-Ok-open_mirrored.ensures.closed))

pub returns-in-Err-open_mirrored-clause-mirrored : goal.returns-in-Err-open_mirrored-clause-mirrored
returns-in-Err-open_mirrored-clause-mirrored g c = λ some.
    let line = c.args.line.now in
    let names = named c.text.result.now c.text-2.result.now in
    let same : names ≡ names_in line = ap₂ named c.text.ensures c.text-2.ensures in
    let site = site_at c.text-3.result.now c.text-4.result.now c.number.result in
    let here : site ≡ site_in line = λ i. site_at (c.text-3.ensures i) (c.text-4.ensures i) (c.number.ensures.value i) in
    let told = g.O.Journal.Disk.told in
    let state = g.O.Journal.Disk.state in
    let before = sources (g.O.Opener.state c.args.opener.now) (g.O.Opener.journal_at c.args.opener.now) (g.G.Gate.stops c.args.gate.now) in
    let after = sources (g.O.Opener.state c.open_mirrored.new.opener) (g.O.Opener.journal_at c.open_mirrored.new.opener) (g.G.Gate.stops c.open_mirrored.new.gate) in
    let p = g.P.Spawner.state c.args.spawner.now in
    let q = g.P.Spawner.state c.args.spawner.now in
    let jobs = jobs_told told g.O.Opener g.O.Lines.Lines g.O.Listener.Listener g.O.Listener.Link.Link g.O.Clock.Timestamps g.O.Gate.Gate g.O.LetGo.gone (g.P.Spawner.handed c.args.spawner.now c.args.spawner.now) in
    mirrored_by told g.O.Opener.told g.O.LetGo.gone jobs state names (names_in line) same site (site_in line) here before after p q c.in-Err-open_mirrored.status g.O.Peer.Link.told g.O.Peer.Link.state (inl (c.in-Err-open_mirrored.ensures.opened, refl))

pub returns-in-Ok-clause-asked : goal.returns-in-Ok-clause-asked
returns-in-Ok-clause-asked g c =
    let line = c.args.line.now in
    let names = named c.text.result.now c.text-2.result.now in
    let mine = site_asked c.text-4.result.now c.text-3.result.now c.number.result in
    let list : files_asked names ++ mine ≡ serve_asked line
    = (λ i. files_asked (named (c.text.ensures i) (c.text-2.ensures i)) ++ site_asked (c.text-4.ensures i) (c.text-3.ensures i) (c.number.ensures.value i))
    ∙ ap (λ (p : Option (List ℕ)). opened_asked (names_in line) p ++ site_asked line.lines line.address line.workers) (sym c.in-None.is) in
    let first = all_made g.O.Opener.asked g.O.Opener.asked_on c.args.opener.now c.open.new.opener c.open.new.opener (files_asked names) c.in-Ok.ensures.asked refl in
    subst (λ (l : List Asking). AskedFor (g.O.Opener.asked c.args.opener.now c.serve_on.new.opener) l (IsOfNoOpening c.serve_on.result)) list
    (asked_behind g.O.Opener.asked g.O.Opener.asked_on c.args.opener.now c.open.new.opener c.serve_on.new.opener (files_asked names) mine first c.serve_on.ensures.asked)

pub returns-in-Err-clause-asked : goal.returns-in-Err-clause-asked
returns-in-Err-clause-asked g c =
    let line = c.args.line.now in
    let names = named c.text.result.now c.text-2.result.now in
    let mine = site_asked c.text-4.result.now c.text-3.result.now c.number.result in
    let list : files_asked names ++ mine ≡ serve_asked line
    = (λ i. files_asked (named (c.text.ensures i) (c.text-2.ensures i)) ++ site_asked (c.text-4.ensures i) (c.text-3.ensures i) (c.number.ensures.value i))
    ∙ ap (λ (p : Option (List ℕ)). opened_asked (names_in line) p ++ site_asked line.lines line.address line.workers) (sym c.in-None.is) in
    let before = sources (g.O.Opener.state c.args.opener.now) (g.O.Opener.journal_at c.args.opener.now) (g.G.Gate.stops c.args.gate.now) in
    let after = sources (g.O.Opener.state c.open.new.opener) (g.O.Opener.journal_at c.open.new.opener) (g.G.Gate.stops c.open.new.gate) in
    subst (λ (l : List Asking). AskedFor (g.O.Opener.asked c.args.opener.now c.open.new.opener) l (IsOfNoOpening c.in-Err.status)) list
    (asked_within (g.O.Opener.asked c.args.opener.now c.open.new.opener) _ (files_asked names) mine c.in-Err.ensures.asked (λ ends. not_opened_ends g.O.Opener.told g.O.Journal.Disk.told g.O.Journal.Disk.state g.O.LetGo.gone names before after c.in-Err.status c.in-Err.ensures.opened ends))

pub returns-in-Ok-open_mirrored-clause-asked : goal.returns-in-Ok-open_mirrored-clause-asked
returns-in-Ok-open_mirrored-clause-asked g c =
    let line = c.args.line.now in
    let names = named c.text.result.now c.text-2.result.now in
    let mine = site_asked c.text-4.result.now c.text-3.result.now c.number.result in
    let list : mirror_asked names c.text-in-Some.result.now ++ mine ≡ serve_asked line
    = (λ i. mirror_asked (named (c.text.ensures i) (c.text-2.ensures i)) (c.text-in-Some.ensures i) ++ site_asked (c.text-4.ensures i) (c.text-3.ensures i) (c.number.ensures.value i))
    ∙ ap (λ (p : Option (List ℕ)). opened_asked (names_in line) p ++ site_asked line.lines line.address line.workers) (sym c.in-Some.is) in
    let first = all_made g.O.Opener.asked g.O.Opener.asked_on c.args.opener.now c.open_mirrored.new.opener c.open_mirrored.new.opener (mirror_asked names c.text-in-Some.result.now) c.in-Ok-open_mirrored.ensures.asked refl in
    subst (λ (l : List Asking). AskedFor (g.O.Opener.asked c.args.opener.now c.serve_on-in-Ok-open_mirrored.new.opener) l (IsOfNoOpening c.serve_on-in-Ok-open_mirrored.result)) list
    (asked_behind g.O.Opener.asked g.O.Opener.asked_on c.args.opener.now c.open_mirrored.new.opener c.serve_on-in-Ok-open_mirrored.new.opener (mirror_asked names c.text-in-Some.result.now) mine first c.serve_on-in-Ok-open_mirrored.ensures.asked)

pub returns-in-Err-open_mirrored-clause-asked : goal.returns-in-Err-open_mirrored-clause-asked
returns-in-Err-open_mirrored-clause-asked g c =
    let line = c.args.line.now in
    let names = named c.text.result.now c.text-2.result.now in
    let mine = site_asked c.text-4.result.now c.text-3.result.now c.number.result in
    let list : mirror_asked names c.text-in-Some.result.now ++ mine ≡ serve_asked line
    = (λ i. mirror_asked (named (c.text.ensures i) (c.text-2.ensures i)) (c.text-in-Some.ensures i) ++ site_asked (c.text-4.ensures i) (c.text-3.ensures i) (c.number.ensures.value i))
    ∙ ap (λ (p : Option (List ℕ)). opened_asked (names_in line) p ++ site_asked line.lines line.address line.workers) (sym c.in-Some.is) in
    let before = sources (g.O.Opener.state c.args.opener.now) (g.O.Opener.journal_at c.args.opener.now) (g.G.Gate.stops c.args.gate.now) in
    let after = sources (g.O.Opener.state c.open_mirrored.new.opener) (g.O.Opener.journal_at c.open_mirrored.new.opener) (g.G.Gate.stops c.open_mirrored.new.gate) in
    subst (λ (l : List Asking). AskedFor (g.O.Opener.asked c.args.opener.now c.open_mirrored.new.opener) l (IsOfNoOpening c.in-Err-open_mirrored.status)) list
    (asked_within (g.O.Opener.asked c.args.opener.now c.open_mirrored.new.opener) _ (mirror_asked names c.text-in-Some.result.now) mine c.in-Err-open_mirrored.ensures.asked (λ ends. not_mirrored_ends g.O.Journal.Disk.told g.O.Peer.Link.told g.O.Journal.Disk.state g.O.Peer.Link.state g.O.Opener.told g.O.LetGo.gone names before after c.in-Err-open_mirrored.status c.in-Err-open_mirrored.ensures.opened ends))

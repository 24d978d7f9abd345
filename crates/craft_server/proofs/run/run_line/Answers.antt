use Rattle.std.proofs.Common.{◌≡◌, ◌+◌, ◌⊎◌, ◌∙◌, [], ◌∷◌, ℕ, List, Option, inl, inr, refl, sym, ap, subst}
use Rattle.dxc_model.specs.declared.user.SessionUser.TheVariants.{Nobody}
use Rattle.dxc_outside.specs.declared.clock.Moment.{Moment}
use Rattle.dxc_outside.specs.Links.{LinkState}
use Rattle.dxc_outside.specs.Openings.{OpenerState}
use Rattle.shelf_file.specs.Contents.{Contents}
use Rattle.standby_link.specs.declared.mirror_disk.MirrorDisk.{MirrorDisk}
use Rattle.user_admin.specs.Histories.{Opening as UsersOpening}
use Rattle.xc_core.specs.States.{Opening}
use Rattle.dxc_args.specs.declared.line.Line.{Line}
use Rattle.dxc_element.specs.Openings.{WasLetGo, named, opened_on, sources}
use Rattle.dxc_element.specs.Exports.{IsExport}
use Rattle.dxc_element.specs.Listings.{IsCheck}
use Rattle.craft_server.specs.Runs.{IsRunOf, IsUntouched, RanCheck, RanExport, RanScript, RanServe, lent, told_by}
use Rattle.craft_server.specs.Scripts.{IsUnplaced, RanAndLeft}
use Rattle.dxc_jobs.specs.Standbys.{StandsBy}
use Rattle.craft_server.specs.Loads.{load_lent}
use Rattle.craft_server.specs.Serving.{ServedSite, jobs_told, names_in, site_in}
use Rattle.craft_server.proofs.Loading.{load_words}
use Rattle.dxc_element.proofs.Mirroring.{mirrors_for}
use Rattle.dxc_element.proofs.Starting.{opens_for}
use Rattle.dxc_element.proofs.Wording.{check_words, export_words, mirrors_words, opens_words}
use Rattle.dxc_jobs.proofs.Wording.{stands_words}
use Rattle.craft_server.proofs.Mirroring.{serves_for}
use Rattle.craft_server.proofs.Trying.{trial_words}
use Rattle.craft_server.proofs.Wording.{end_words, serve_words, serving_words}
use Rattle.dxc_outside.specs.Asked.{Asking, AskedFor, copy_named, listener_named}
use Rattle.dxc_outside.proofs.Asking.{asked_all}
use Rattle.dxc_jobs.specs.Missing.{IsOfNoOpening}
use Rattle.dxc_element.specs.Openings.{files_asked}
use Rattle.craft_server.specs.Askings.{line_asked}
use Rattle.craft_server.proofs.run.run_line.Goals as goal

pub returns-in-Script-clause-run : goal.returns-in-Script-clause-run
returns-in-Script-clause-run g c =
    let told = told_by g.O.Opener.told g.O.Journal.Disk.told g.K.Link.told g.C.Clock.told g.O.Peer.Link.told g.O.Listener.Listener.told g.O.Listener.Link.Link.told g.K.Link.begun g.O.Listener.Link.Link.begun g.O.LetGo.gone (g.O.Opener.asked c.args.opener.now c.run_script.new.opener) in
    let jobs = jobs_told g.O.Journal.Disk.told g.O.Opener g.O.Lines.Lines g.O.Listener.Listener g.O.Listener.Link.Link g.O.Clock.Timestamps g.O.Gate.Gate g.O.LetGo.gone (g.P.Spawner.handed c.args.spawner.now c.args.spawner.now) in
    let state = g.O.Journal.Disk.state in
    let p = g.P.Spawner.state c.args.spawner.now in
    let before = lent (sources (g.O.Opener.state c.args.opener.now) (g.O.Opener.journal_at c.args.opener.now) (g.G.Gate.stops c.args.gate.now)) (g.K.Link.state c.args.terminal.now) (g.C.Clock.coming c.args.clock.now) p in
    let after = lent (sources (g.O.Opener.state c.run_script.new.opener) (g.O.Opener.journal_at c.run_script.new.opener) (g.G.Gate.stops c.run_script.new.gate)) (g.K.Link.state c.run_script.new.terminal) (g.C.Clock.coming c.run_script.new.clock) p in
    let status = c.run_script.result in
    let P : Contents → g.row.O-Journal.Denot → Opening → g.row.O-Journal.Denot → UsersOpening → Type 0 = λ s d o e u. RanAndLeft g.O.Journal.Disk.told g.K.Link.told g.C.Clock.told g.K.Link.begun g.O.LetGo.gone (state d) (state e) Nobody s o u before.terminal after.terminal before.clock after.clock before.sources.stops after.sources.stops status ⊎ IsUnplaced before.terminal after.terminal before.clock after.clock before.sources.stops after.sources.stops status in
    let Q : Contents → g.row.O-Journal.Denot → Opening → g.row.O-Journal.Denot → UsersOpening → Type 0 = λ s d o e u. RanScript told state before after s o u d e status in
    let ran = opens_for told.disk state told.opener told.gone _ (named c.in-Script.shelf c.in-Script.journal) c.names_of-names.ensures before.sources after.sources ((after.terminal ≡ before.terminal) × (after.clock ≡ before.clock)) (IsUntouched before after) P Q status
    (λ u. record { terminal = u.0; clock = u.1; spawner = refl }) (λ s d o e u one. record { session = one; spawner = refl }) c.run_script.ensures.opens in
    subst (λ (l : Line). IsRunOf told jobs state g.O.Peer.Link.state g.O.Listener.Listener.state g.O.Listener.Link.Link.state g.O.Listener.Link.Link.hung_up (g.O.Opener.listener_at c.args.opener.now) l before after status) (sym c.in-Script.is) ran

pub returns-in-Check-clause-run : goal.returns-in-Check-clause-run
returns-in-Check-clause-run g c =
    let told = told_by g.O.Opener.told g.O.Journal.Disk.told g.K.Link.told g.C.Clock.told g.O.Peer.Link.told g.O.Listener.Listener.told g.O.Listener.Link.Link.told g.K.Link.begun g.O.Listener.Link.Link.begun g.O.LetGo.gone (g.O.Opener.asked c.args.opener.now c.run_check.new.opener) in
    let jobs = jobs_told g.O.Journal.Disk.told g.O.Opener g.O.Lines.Lines g.O.Listener.Listener g.O.Listener.Link.Link g.O.Clock.Timestamps g.O.Gate.Gate g.O.LetGo.gone (g.P.Spawner.handed c.args.spawner.now c.args.spawner.now) in
    let state = g.O.Journal.Disk.state in
    let p = g.P.Spawner.state c.args.spawner.now in
    let moments = g.C.Clock.coming c.args.clock.now in
    let before = lent (sources (g.O.Opener.state c.args.opener.now) (g.O.Opener.journal_at c.args.opener.now) (g.G.Gate.stops c.args.gate.now)) (g.K.Link.state c.args.terminal.now) moments p in
    let after = lent (sources (g.O.Opener.state c.run_check.new.opener) (g.O.Opener.journal_at c.run_check.new.opener) (g.G.Gate.stops c.run_check.new.gate)) (g.K.Link.state c.run_check.new.terminal) moments p in
    let status = c.run_check.result in
    let P : Contents → g.row.O-Journal.Denot → Opening → g.row.O-Journal.Denot → UsersOpening → Type 0 = λ s d o e u. (after.sources.stops ≡ before.sources.stops) × IsCheck g.K.Link.told s o before.terminal after.terminal status × WasLetGo told.disk state told.gone (opened_on d e s o) in
    let Q : Contents → g.row.O-Journal.Denot → Opening → g.row.O-Journal.Denot → UsersOpening → Type 0 = λ s d o e u. RanCheck told state before after (opened_on d e s o) status in
    let ran = opens_for told.disk state told.opener told.gone _ (named c.in-Check.shelf c.in-Check.journal) c.names_of-names-in-Check.ensures before.sources after.sources (after.terminal ≡ before.terminal) (IsUntouched before after) P Q status
    (λ u. record { terminal = u; clock = refl; spawner = refl }) (λ s d o e u one. record { check = one.1; let_go = one.2; clock = refl; spawner = refl; gate = one.0 }) c.run_check.ensures.opens in
    subst (λ (l : Line). IsRunOf told jobs state g.O.Peer.Link.state g.O.Listener.Listener.state g.O.Listener.Link.Link.state g.O.Listener.Link.Link.hung_up (g.O.Opener.listener_at c.args.opener.now) l before after status) (sym c.in-Check.is) ran

pub returns-in-Export-clause-run : goal.returns-in-Export-clause-run
returns-in-Export-clause-run g c =
    let told = told_by g.O.Opener.told g.O.Journal.Disk.told g.K.Link.told g.C.Clock.told g.O.Peer.Link.told g.O.Listener.Listener.told g.O.Listener.Link.Link.told g.K.Link.begun g.O.Listener.Link.Link.begun g.O.LetGo.gone (g.O.Opener.asked c.args.opener.now c.run_export.new.opener) in
    let jobs = jobs_told g.O.Journal.Disk.told g.O.Opener g.O.Lines.Lines g.O.Listener.Listener g.O.Listener.Link.Link g.O.Clock.Timestamps g.O.Gate.Gate g.O.LetGo.gone (g.P.Spawner.handed c.args.spawner.now c.args.spawner.now) in
    let state = g.O.Journal.Disk.state in
    let p = g.P.Spawner.state c.args.spawner.now in
    let moments = g.C.Clock.coming c.args.clock.now in
    let before = lent (sources (g.O.Opener.state c.args.opener.now) (g.O.Opener.journal_at c.args.opener.now) (g.G.Gate.stops c.args.gate.now)) (g.K.Link.state c.args.terminal.now) moments p in
    let after = lent (sources (g.O.Opener.state c.run_export.new.opener) (g.O.Opener.journal_at c.run_export.new.opener) (g.G.Gate.stops c.run_export.new.gate)) (g.K.Link.state c.run_export.new.terminal) moments p in
    let status = c.run_export.result in
    let P : Contents → g.row.O-Journal.Denot → Opening → g.row.O-Journal.Denot → UsersOpening → Type 0 = λ s d o e u. (after.sources.stops ≡ before.sources.stops) × IsExport g.K.Link.told s o before.terminal after.terminal status × WasLetGo told.disk state told.gone (opened_on d e s o) in
    let Q : Contents → g.row.O-Journal.Denot → Opening → g.row.O-Journal.Denot → UsersOpening → Type 0 = λ s d o e u. RanExport told state before after (opened_on d e s o) status in
    let ran = opens_for told.disk state told.opener told.gone _ (named c.in-Export.shelf c.in-Export.journal) c.names_of-names-in-Export.ensures before.sources after.sources (after.terminal ≡ before.terminal) (IsUntouched before after) P Q status
    (λ u. record { terminal = u; clock = refl; spawner = refl }) (λ s d o e u one. record { export = one.1; let_go = one.2; clock = refl; spawner = refl; gate = one.0 }) c.run_export.ensures.opens in
    subst (λ (l : Line). IsRunOf told jobs state g.O.Peer.Link.state g.O.Listener.Listener.state g.O.Listener.Link.Link.state g.O.Listener.Link.Link.hung_up (g.O.Opener.listener_at c.args.opener.now) l before after status) (sym c.in-Export.is) ran

pub returns-in-Serve-clause-run : goal.returns-in-Serve-clause-run
returns-in-Serve-clause-run g c =
    let told = told_by g.O.Opener.told g.O.Journal.Disk.told g.K.Link.told g.C.Clock.told g.O.Peer.Link.told g.O.Listener.Listener.told g.O.Listener.Link.Link.told g.K.Link.begun g.O.Listener.Link.Link.begun g.O.LetGo.gone (g.O.Opener.asked c.args.opener.now c.serve_all.new.opener) in
    let jobs = jobs_told g.O.Journal.Disk.told g.O.Opener g.O.Lines.Lines g.O.Listener.Listener g.O.Listener.Link.Link g.O.Clock.Timestamps g.O.Gate.Gate g.O.LetGo.gone (g.P.Spawner.handed c.args.spawner.now c.serve_all.new.spawner) in
    let state = g.O.Journal.Disk.state in
    let peer_state = g.O.Peer.Link.state in
    let terminal = g.K.Link.state c.args.terminal.now in
    let moments = g.C.Clock.coming c.args.clock.now in
    let before = lent (sources (g.O.Opener.state c.args.opener.now) (g.O.Opener.journal_at c.args.opener.now) (g.G.Gate.stops c.args.gate.now)) terminal moments (g.P.Spawner.state c.args.spawner.now) in
    let after = lent (sources (g.O.Opener.state c.serve_all.new.opener) (g.O.Opener.journal_at c.serve_all.new.opener) (g.G.Gate.stops c.serve_all.new.gate)) terminal moments (g.P.Spawner.state c.serve_all.new.spawner) in
    let status = c.serve_all.result in
    let line = c.in-Serve.line in
    let names = names_in line in
    let site = site_in line in
    let disk : Type 0 = g.row.O-Journal.Denot in
    let mirror : Type 0 = MirrorDisk disk g.row.O-Peer.Denot in
    let keep : after.spawner ≡ before.spawner → IsUntouched before after = λ u. record { terminal = refl; clock = refl; spawner = u } in
    let P : Contents → disk → Opening → disk → UsersOpening → Type 0 = λ s d o e u. ServedSite disk disk jobs site before.sources after.sources before.spawner after.spawner s o u status in
    let Q : Contents → disk → Opening → disk → UsersOpening → Type 0 = λ s d o e u. RanServe disk jobs site before after s o u status in
    let M : Contents → Opening → UsersOpening → Type 0 = λ s o u. ServedSite mirror mirror jobs site before.sources after.sources before.spawner after.spawner s o u status in
    let W : Contents → Opening → UsersOpening → Type 0 = λ s o u. RanServe mirror jobs site before after s o u status in
    subst (λ (l : Line). IsRunOf told jobs state peer_state g.O.Listener.Listener.state g.O.Listener.Link.Link.state g.O.Listener.Link.Link.hung_up (g.O.Opener.listener_at c.args.opener.now) l before after status) (sym c.in-Serve.is)
    (serves_for told jobs state peer_state g.O.Listener.Listener.state g.O.Listener.Link.Link.state g.O.Listener.Link.Link.hung_up (g.O.Opener.listener_at c.args.opener.now) line before after status line.peer
    (λ none. opens_for told.disk state told.opener told.gone names names refl before.sources after.sources (after.spawner ≡ before.spawner) (IsUntouched before after) P Q status keep
    (λ s d o e u one. record { served = one; terminal = refl; clock = refl }) (c.serve_all.ensures.alone none))
    (λ some. mirrors_for told.disk told.peer state peer_state told.opener told.gone names names refl before.sources after.sources (after.spawner ≡ before.spawner) (IsUntouched before after) M W status keep
    (λ s o u one. record { served = one; terminal = refl; clock = refl }) (c.serve_all.ensures.mirrored some)))

pub returns-in-Standby-clause-run : goal.returns-in-Standby-clause-run
returns-in-Standby-clause-run g c =
    let told = told_by g.O.Opener.told g.O.Journal.Disk.told g.K.Link.told g.C.Clock.told g.O.Peer.Link.told g.O.Listener.Listener.told g.O.Listener.Link.Link.told g.K.Link.begun g.O.Listener.Link.Link.begun g.O.LetGo.gone (g.O.Opener.asked c.args.opener.now c.run_standby.new.opener) in
    let jobs = jobs_told g.O.Journal.Disk.told g.O.Opener g.O.Lines.Lines g.O.Listener.Listener g.O.Listener.Link.Link g.O.Clock.Timestamps g.O.Gate.Gate g.O.LetGo.gone (g.P.Spawner.handed c.args.spawner.now c.args.spawner.now) in
    let state = g.O.Journal.Disk.state in
    let listener = g.O.Listener.Listener.state in
    let link = g.O.Listener.Link.Link.state in
    let hung_up = g.O.Listener.Link.Link.hung_up in
    let at = λ (opener : OpenerState) (disks : List ℕ → Option g.row.O-Journal.Denot). lent (sources opener disks (g.G.Gate.stops c.args.gate.now)) (g.K.Link.state c.args.terminal.now) (g.C.Clock.coming c.args.clock.now) (g.P.Spawner.state c.args.spawner.now) in
    let before = at (g.O.Opener.state c.args.opener.now) (g.O.Opener.journal_at c.args.opener.now) in
    let after = at (g.O.Opener.state c.run_standby.new.opener) (g.O.Opener.journal_at c.run_standby.new.opener) in
    let status = c.run_standby.result in
    let listeners = g.O.Opener.listener_at c.args.opener.now in
    let by = λ (journal address : List ℕ). StandsBy told.opener told.disk told.listener told.link state listener link told.link_begun hung_up before.sources.journal_at listeners before.sources.opener.faults after.sources.opener.faults journal address told.gone told.asked status in
    let stands : by c.in-Standby.journal c.in-Standby.address = subst (λ (n : List ℕ). by n c.in-Standby.address) c.text.ensures (subst (λ (n : List ℕ). by c.text.result.now n) c.text-in-Standby.ensures c.run_standby.ensures.stands_by) in
    subst (λ (l : Line). IsRunOf told jobs state g.O.Peer.Link.state listener link hung_up listeners l before after status) (sym c.in-Standby.is) (record { stands_by = stands; untouched = record { terminal = refl; clock = refl; spawner = refl }; gate = refl })

pub returns-in-Script-clause-words : goal.returns-in-Script-clause-words
returns-in-Script-clause-words g c = λ bad.
    let before = sources (g.O.Opener.state c.args.opener.now) (g.O.Opener.journal_at c.args.opener.now) (g.G.Gate.stops c.args.gate.now) in
    let after = sources (g.O.Opener.state c.run_script.new.opener) (g.O.Opener.journal_at c.run_script.new.opener) (g.G.Gate.stops c.run_script.new.gate) in
    opens_words g.O.Opener.told g.O.Journal.Disk.told g.O.Journal.Disk.state g.O.LetGo.gone _ before after _ _ c.run_script.result (λ f o u ran no. elim ran [ inl one ↦ end_words one.ran.end (sym one.ran.status_is ∙ no) | inr none ↦ (let other = sym none.no_memory ∙ no in cc) ]) c.run_script.ensures.opens bad

pub returns-in-Check-clause-words : goal.returns-in-Check-clause-words
returns-in-Check-clause-words g c = λ bad.
    let before = sources (g.O.Opener.state c.args.opener.now) (g.O.Opener.journal_at c.args.opener.now) (g.G.Gate.stops c.args.gate.now) in
    let after = sources (g.O.Opener.state c.run_check.new.opener) (g.O.Opener.journal_at c.run_check.new.opener) (g.G.Gate.stops c.run_check.new.gate) in
    opens_words g.O.Opener.told g.O.Journal.Disk.told g.O.Journal.Disk.state g.O.LetGo.gone _ before after _ _ c.run_check.result (λ f o u ran no. check_words _ _ _ _ _ c.run_check.result ran.1 no) c.run_check.ensures.opens bad

pub returns-in-Export-clause-words : goal.returns-in-Export-clause-words
returns-in-Export-clause-words g c = λ bad.
    let before = sources (g.O.Opener.state c.args.opener.now) (g.O.Opener.journal_at c.args.opener.now) (g.G.Gate.stops c.args.gate.now) in
    let after = sources (g.O.Opener.state c.run_export.new.opener) (g.O.Opener.journal_at c.run_export.new.opener) (g.G.Gate.stops c.run_export.new.gate) in
    opens_words g.O.Opener.told g.O.Journal.Disk.told g.O.Journal.Disk.state g.O.LetGo.gone _ before after _ _ c.run_export.result (λ f o u ran no. export_words _ _ _ _ _ c.run_export.result ran.1 no) c.run_export.ensures.opens bad

pub returns-in-Serve-clause-words : goal.returns-in-Serve-clause-words
returns-in-Serve-clause-words g c = λ bad.
    let before = sources (g.O.Opener.state c.args.opener.now) (g.O.Opener.journal_at c.args.opener.now) (g.G.Gate.stops c.args.gate.now) in
    let after = sources (g.O.Opener.state c.serve_all.new.opener) (g.O.Opener.journal_at c.serve_all.new.opener) (g.G.Gate.stops c.serve_all.new.gate) in
    let p = g.P.Spawner.state c.args.spawner.now in
    let q = g.P.Spawner.state c.serve_all.new.spawner in
    let line = c.in-Serve.line in
    let site = site_in line in
    let status = c.serve_all.result in
    let jobs = jobs_told g.O.Journal.Disk.told g.O.Opener g.O.Lines.Lines g.O.Listener.Listener g.O.Listener.Link.Link g.O.Clock.Timestamps g.O.Gate.Gate g.O.LetGo.gone (g.P.Spawner.handed c.args.spawner.now c.serve_all.new.spawner) in
    let disk : Type 0 = g.row.O-Journal.Denot in
    let mirror : Type 0 = MirrorDisk disk g.row.O-Peer.Denot in
    let S : Contents → Opening → UsersOpening → Type 0 = λ s o u. ServedSite disk disk jobs site before after p q s o u status in
    let M : Contents → Opening → UsersOpening → Type 0 = λ s o u. ServedSite mirror mirror jobs site before after p q s o u status in
    let other = serving_words (site.workers + 16) before.opener.faults after.opener.faults p q status in
    serve_words line.peer
    (λ none. opens_words g.O.Opener.told g.O.Journal.Disk.told g.O.Journal.Disk.state g.O.LetGo.gone (names_in line) before after (q ≡ p) (λ f o u. S f.shelf o u.opening) status (λ f o u ran. other ran.serving) (c.serve_all.ensures.alone none) bad)
    (λ some. mirrors_words g.O.Journal.Disk.told g.O.Peer.Link.told g.O.Journal.Disk.state g.O.Peer.Link.state g.O.Opener.told g.O.LetGo.gone (names_in line) before after (q ≡ p) M status (λ s o u ran. other ran.serving) (c.serve_all.ensures.mirrored some) bad)

pub returns-in-Standby-clause-words : goal.returns-in-Standby-clause-words
returns-in-Standby-clause-words g c = λ bad. stands_words _ _ _ _ _ _ _ _ _ _ _ _ _ _ _ _ _ _ c.run_standby.ensures.stands_by bad

pub returns-in-Load-clause-run : goal.returns-in-Load-clause-run
returns-in-Load-clause-run g c =
    let told = told_by g.O.Opener.told g.O.Journal.Disk.told g.K.Link.told g.C.Clock.told g.O.Peer.Link.told g.O.Listener.Listener.told g.O.Listener.Link.Link.told g.K.Link.begun g.O.Listener.Link.Link.begun g.O.LetGo.gone (g.O.Opener.asked c.args.opener.now c.args.opener.now) in
    let jobs = jobs_told g.O.Journal.Disk.told g.O.Opener g.O.Lines.Lines g.O.Listener.Listener g.O.Listener.Link.Link g.O.Clock.Timestamps g.O.Gate.Gate g.O.LetGo.gone (g.P.Spawner.handed c.args.spawner.now c.args.spawner.now) in
    let state = g.O.Journal.Disk.state in
    let at = λ (stops : ℕ) (terminal : LinkState). lent (sources (g.O.Opener.state c.args.opener.now) (g.O.Opener.journal_at c.args.opener.now) stops) terminal (g.C.Clock.coming c.args.clock.now) (g.P.Spawner.state c.args.spawner.now) in
    let before = at (g.G.Gate.stops c.args.gate.now) (g.K.Link.state c.args.terminal.now) in
    let after = at (g.G.Gate.stops c.run_load.new.gate) (g.K.Link.state c.run_load.new.terminal) in
    subst (λ (l : Line). IsRunOf told jobs state g.O.Peer.Link.state g.O.Listener.Listener.state g.O.Listener.Link.Link.state g.O.Listener.Link.Link.hung_up (g.O.Opener.listener_at c.args.opener.now) l before after c.run_load.result) (sym c.in-Load.is) (record { load = c.run_load.ensures.load; opener = refl; journal_at = refl; clock = refl; spawner = refl })

pub returns-in-Load-clause-words : goal.returns-in-Load-clause-words
returns-in-Load-clause-words g c = λ bad. load_words c.in-Load.number g.K.Link.told (load_lent (g.K.Link.state c.args.terminal.now) (g.G.Gate.stops c.args.gate.now)) (load_lent (g.K.Link.state c.run_load.new.terminal) (g.G.Gate.stops c.run_load.new.gate)) c.run_load.result c.run_load.ensures.load bad

pub returns-in-Script-clause-asked : goal.returns-in-Script-clause-asked
returns-in-Script-clause-asked g c =
    subst (λ (l : List Asking). AskedFor (g.O.Opener.asked c.args.opener.now c.run_script.new.opener) l (IsOfNoOpening c.run_script.result)) (ap files_asked c.names_of-names.ensures ∙ sym (ap line_asked c.in-Script.is)) c.run_script.ensures.asked

pub returns-in-Check-clause-asked : goal.returns-in-Check-clause-asked
returns-in-Check-clause-asked g c =
    subst (λ (l : List Asking). AskedFor (g.O.Opener.asked c.args.opener.now c.run_check.new.opener) l (IsOfNoOpening c.run_check.result)) (ap files_asked c.names_of-names-in-Check.ensures ∙ sym (ap line_asked c.in-Check.is)) c.run_check.ensures.asked

pub returns-in-Export-clause-asked : goal.returns-in-Export-clause-asked
returns-in-Export-clause-asked g c =
    subst (λ (l : List Asking). AskedFor (g.O.Opener.asked c.args.opener.now c.run_export.new.opener) l (IsOfNoOpening c.run_export.result)) (ap files_asked c.names_of-names-in-Export.ensures ∙ sym (ap line_asked c.in-Export.is)) c.run_export.ensures.asked

pub returns-in-Serve-clause-asked : goal.returns-in-Serve-clause-asked
returns-in-Serve-clause-asked g c = subst (λ (l : List Asking). AskedFor (g.O.Opener.asked c.args.opener.now c.serve_all.new.opener) l (IsOfNoOpening c.serve_all.result)) (sym (ap line_asked c.in-Serve.is)) c.serve_all.ensures.asked

pub returns-in-Standby-clause-asked : goal.returns-in-Standby-clause-asked
returns-in-Standby-clause-asked g c =
    let list : copy_named c.text.result.now ∷ listener_named c.text-in-Standby.result.now ∷ [] ≡ copy_named c.in-Standby.journal ∷ listener_named c.in-Standby.address ∷ [] = λ i. copy_named (c.text.ensures i) ∷ listener_named (c.text-in-Standby.ensures i) ∷ [] in
    subst (λ (l : List Asking). AskedFor (g.O.Opener.asked c.args.opener.now c.run_standby.new.opener) l (IsOfNoOpening c.run_standby.result)) (list ∙ sym (ap line_asked c.in-Standby.is)) c.run_standby.ensures.asked

pub returns-in-Load-clause-asked : goal.returns-in-Load-clause-asked
returns-in-Load-clause-asked g c =
    subst (λ (l : List Asking). AskedFor (g.O.Opener.asked c.args.opener.now c.args.opener.now) l (IsOfNoOpening c.run_load.result)) (sym (ap line_asked c.in-Load.is)) (asked_all (g.O.Opener.asked c.args.opener.now c.args.opener.now) _ [] (g.O.Opener.unasked c.args.opener.now))

pub returns-in-Trial-clause-run : goal.returns-in-Trial-clause-run
returns-in-Trial-clause-run g c =
    let told = told_by g.O.Opener.told g.O.Journal.Disk.told g.K.Link.told g.C.Clock.told g.O.Peer.Link.told g.O.Listener.Listener.told g.O.Listener.Link.Link.told g.K.Link.begun g.O.Listener.Link.Link.begun g.O.LetGo.gone (g.O.Opener.asked c.args.opener.now c.args.opener.now) in
    let jobs = jobs_told g.O.Journal.Disk.told g.O.Opener g.O.Lines.Lines g.O.Listener.Listener g.O.Listener.Link.Link g.O.Clock.Timestamps g.O.Gate.Gate g.O.LetGo.gone (g.P.Spawner.handed c.args.spawner.now c.args.spawner.now) in
    let state = g.O.Journal.Disk.state in
    let at = λ (stops : ℕ) (terminal : LinkState) (moments : List Moment). lent (sources (g.O.Opener.state c.args.opener.now) (g.O.Opener.journal_at c.args.opener.now) stops) terminal moments (g.P.Spawner.state c.args.spawner.now) in
    let before = at (g.G.Gate.stops c.args.gate.now) (g.K.Link.state c.args.terminal.now) (g.C.Clock.coming c.args.clock.now) in
    let after = at (g.G.Gate.stops c.run_trial.new.gate) (g.K.Link.state c.run_trial.new.terminal) (g.C.Clock.coming c.run_trial.new.clock) in
    subst (λ (l : Line). IsRunOf told jobs state g.O.Peer.Link.state g.O.Listener.Listener.state g.O.Listener.Link.Link.state g.O.Listener.Link.Link.hung_up (g.O.Opener.listener_at c.args.opener.now) l before after c.run_trial.result) (sym c.in-Trial.is) (record { trial = c.run_trial.ensures.ran; opener = refl; journal_at = refl; spawner = refl })

pub returns-in-Trial-clause-words : goal.returns-in-Trial-clause-words
returns-in-Trial-clause-words g c = λ bad. trial_words _ c.in-Trial.shape _ _ c.run_trial.result c.run_trial.ensures.ran bad

pub returns-in-Trial-clause-asked : goal.returns-in-Trial-clause-asked
returns-in-Trial-clause-asked g c =
    subst (λ (l : List Asking). AskedFor (g.O.Opener.asked c.args.opener.now c.args.opener.now) l (IsOfNoOpening c.run_trial.result)) (sym (ap line_asked c.in-Trial.is)) (asked_all (g.O.Opener.asked c.args.opener.now c.args.opener.now) _ [] (g.O.Opener.unasked c.args.opener.now))

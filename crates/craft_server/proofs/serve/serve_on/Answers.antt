use Rattle.std.proofs.Common.{◌+◌, ◌∙◌, [], ◌++◌, ℕ, List, ap, ap₂, arith, Err, inl, inr, refl, subst, sym, ◌≡◌, Bool, true}
use Rattle.std.specs.Arc.{arc_value}
use Rattle.dxc_args.specs.declared.status.Status.{Status}
use Rattle.dxc_args.specs.declared.status.Status.TheVariants.{NoMemory}
use Rattle.fabric_words.specs.Seats.{FabricId}
use Rattle.user_admin.specs.States.{opening_of as users_opening}
use Rattle.xc_core.specs.States.{opening_of}
use Rattle.craft_session.specs.Places.{HasPlaces}
use Rattle.craft_session.specs.Seats.{PlaceAt}
use Rattle.dxc_jobs.specs.Handed.{AreJobsOf}
use Rattle.dxc_jobs.specs.Missing.{IsOfNoOpening}
use Rattle.dxc_jobs.proofs.Counting.{rose_behind}
use Rattle.craft_server.specs.Serving.{IsServing}
use Rattle.craft_server.proofs.Serves.{none_started}
use Rattle.std.specs.Prelude.{IsOk, vec_len}
use Rattle.dxc_outside.specs.Asked.{AskedFor, asked_each, lines_named, listener_named}
use Rattle.dxc_outside.proofs.Asking.{all_made, asked_behind, asked_less, asked_part, asked_within}
use Rattle.dxc_jobs.proofs.Faulting.{made_ends}
use Rattle.craft_server.specs.Askings.{site_asked}
use Rattle.craft_server.proofs.serve.serve_on.Goals as goal

pub returns-in_default-clause-serving : goal.returns-in_default-clause-serving
returns-in_default-clause-serving g c = none_started _ _ _ _ NoMemory (λ is. cc) (λ not. refl)

pub returns-in-Err-clause-serving : goal.returns-in-Err-clause-serving
returns-in-Err-clause-serving g c =
    let e = c.frame_jobs.ensures in
    none_started _ _ _ _ c.in-Err.status (λ is. e.made.cause (c.in-Err.is ∙ ap (λ (s : Status). Err s) is)) (e.made.only c.in-Err.status c.in-Err.is)

pub returns-in-Err-session_jobs-clause-serving : goal.returns-in-Err-session_jobs-clause-serving
returns-in-Err-session_jobs-clause-serving g c =
    let e = c.session_jobs.ensures in
    let status = c.in-Err-session_jobs.status in
    none_started _ _ _ _ status (λ is. rose_behind _ _ _ c.frame_jobs.ensures.made.counted (e.made.cause (c.in-Err-session_jobs.is ∙ ap (λ (s : Status). Err s) is))) (e.made.only status c.in-Err-session_jobs.is)

pub returns-clause-serving : goal.returns-clause-serving
returns-clause-serving g c =
    let faults = (g.O.Opener.state c.args.opener.now).faults in
    let later = (g.O.Opener.state c.session_jobs.new.opener).faults in
    let all = ap₂ (λ (a b : ℕ). a + b) c.in-Ok-frame_jobs.ensures.jobs (c.in-Ok-session_jobs.ensures.jobs ∙ c.in-Ok.ensures.each) in
    subst (λ (n : ℕ). IsServing n faults later (g.P.Spawner.state c.args.spawner.now) (g.P.Spawner.state c.run_jobs.new.spawner) c.run_jobs.result) all (c.run_jobs.ensures.serving faults later)

pub returns-in_default-clause-asked : goal.returns-in_default-clause-asked
returns-in_default-clause-asked g c = asked_part (g.O.Opener.asked c.args.opener.now c.args.opener.now) _ [] (site_asked c.args.site.lines.now c.args.site.address.now c.args.site.workers) (g.O.Opener.unasked c.args.opener.now) (λ ends. ends)

pub returns-in-Err-clause-asked : goal.returns-in-Err-clause-asked
returns-in-Err-clause-asked g c =
    let lines = asked_each (lines_named c.args.site.lines.now) c.args.site.workers in
    let listeners = asked_each (λ session. listener_named c.args.site.address.now) 16 in
    asked_within (g.O.Opener.asked c.args.opener.now c.frame_jobs.new.opener) _ lines listeners c.frame_jobs.ensures.asked (made_ends _ _ _ c.frame_jobs.ensures.made c.in-Err.status c.in-Err.is)

pub returns-in-Err-session_jobs-clause-asked : goal.returns-in-Err-session_jobs-clause-asked
returns-in-Err-session_jobs-clause-asked g c =
    let lines = asked_each (lines_named c.args.site.lines.now) c.args.site.workers in
    let listeners = asked_each (λ session. listener_named c.args.site.address.now) 16 in
    let asked = g.O.Opener.asked in
    let first = all_made asked g.O.Opener.asked_on c.args.opener.now c.frame_jobs.new.opener c.frame_jobs.new.opener lines c.in-Ok-frame_jobs.ensures.asked refl in
    let behind = subst (λ (n : ℕ). AskedFor (asked c.frame_jobs.new.opener c.session_jobs.new.opener) (asked_each (λ session. listener_named c.args.site.address.now) n) (IsOk c.session_jobs.result)) c.in-Ok.ensures.each c.session_jobs.ensures.asked in
    asked_less (asked c.args.opener.now c.session_jobs.new.opener) _ (lines ++ listeners) (λ ends. absurd (made_ends _ _ _ c.session_jobs.ensures.made c.in-Err-session_jobs.status c.in-Err-session_jobs.is ends))
    (asked_behind asked g.O.Opener.asked_on c.args.opener.now c.frame_jobs.new.opener c.session_jobs.new.opener lines listeners first behind)

pub returns-clause-asked : goal.returns-clause-asked
returns-clause-asked g c =
    let lines = asked_each (lines_named c.args.site.lines.now) c.args.site.workers in
    let listeners = asked_each (λ session. listener_named c.args.site.address.now) 16 in
    let asked = g.O.Opener.asked in
    let first = all_made asked g.O.Opener.asked_on c.args.opener.now c.frame_jobs.new.opener c.frame_jobs.new.opener lines c.in-Ok-frame_jobs.ensures.asked refl in
    let behind = subst (λ (n : ℕ). AskedFor (asked c.frame_jobs.new.opener c.session_jobs.new.opener) (asked_each (λ session. listener_named c.args.site.address.now) n) (◌≡◌ {A = Bool} true true)) c.in-Ok.ensures.each c.in-Ok-session_jobs.ensures.asked in
    asked_less (asked c.args.opener.now c.session_jobs.new.opener) _ (lines ++ listeners) (λ ends. refl)
    (asked_behind asked g.O.Opener.asked_on c.args.opener.now c.frame_jobs.new.opener c.session_jobs.new.opener lines listeners first behind)

pub returns-in_default-clause-closed : goal.returns-in_default-clause-closed
returns-in_default-clause-closed g c = λ none. cc

pub returns-in-Err-clause-closed : goal.returns-in-Err-clause-closed
returns-in-Err-clause-closed g c = λ none. record { places = c.in-Ok.places; let_go = c.let_go.ensures; are = c.in-Ok.ensures.places }

pub returns-in-Err-session_jobs-clause-closed : goal.returns-in-Err-session_jobs-clause-closed
returns-in-Err-session_jobs-clause-closed g c = λ none. record { places = c.in-Ok.places; let_go = c.in-Err-session_jobs.ensures.let_go; are = c.in-Ok.ensures.places }

pub returns-clause-closed : goal.returns-clause-closed
returns-clause-closed g c = λ none. absurd (c.run_jobs.ensures.opened (inl none))

pub returns-in_default-clause-no_memory : goal.returns-in_default-clause-no_memory
returns-in_default-clause-no_memory g c = λ none. inr (g.O.Opener.unasked c.args.opener.now)

pub returns-in-Err-clause-no_memory : goal.returns-in-Err-clause-no_memory
returns-in-Err-clause-no_memory g c = λ none. inl (record { places = c.in-Ok.places; let_go = c.let_go.ensures; are = c.in-Ok.ensures.places })

pub returns-in-Err-session_jobs-clause-no_memory : goal.returns-in-Err-session_jobs-clause-no_memory
returns-in-Err-session_jobs-clause-no_memory g c = λ none. inl (record { places = c.in-Ok.places; let_go = c.in-Err-session_jobs.ensures.let_go; are = c.in-Ok.ensures.places })

pub returns-clause-no_memory : goal.returns-clause-no_memory
returns-clause-no_memory g c = λ none. absurd (c.run_jobs.ensures.opened (inr none))

pub returns-in_default-clause-jobs : goal.returns-in_default-clause-jobs
returns-in_default-clause-jobs g c = (
  λ done. cc,
  λ none. cc,
)

pub returns-in-Err-clause-jobs : goal.returns-in-Err-clause-jobs
returns-in-Err-clause-jobs g c = (
  λ done. absurd (made_ends _ _ _ c.frame_jobs.ensures.made c.in-Err.status c.in-Err.is (subst IsOfNoOpening (sym done) tt)),
  λ none. absurd (made_ends _ _ _ c.frame_jobs.ensures.made c.in-Err.status c.in-Err.is (subst IsOfNoOpening (sym none) tt)),
)

pub returns-in-Err-session_jobs-clause-jobs : goal.returns-in-Err-session_jobs-clause-jobs
returns-in-Err-session_jobs-clause-jobs g c = (
  λ done. absurd (made_ends _ _ _ c.session_jobs.ensures.made c.in-Err-session_jobs.status c.in-Err-session_jobs.is (subst IsOfNoOpening (sym done) tt)),
  λ none. absurd (made_ends _ _ _ c.session_jobs.ensures.made c.in-Err-session_jobs.status c.in-Err-session_jobs.is (subst IsOfNoOpening (sym none) tt)),
)

pub returns-clause-jobs : goal.returns-clause-jobs
returns-clause-jobs g c = (
  λ done.
      let workers = c.in-Ok-frame_jobs.jobs in
      let sessions = c.in-Ok-session_jobs.jobs in
      let o = opening_of g.D.Disk.state c.args.state in
      let p = users_opening g.D.Disk.state c.args.users in
      record {
        workers = workers.items;
        each = let ok = workers.ok.0 in let each = c.in-Ok-frame_jobs.ensures.jobs in omega (arith, ok, each);
        seats = subst (λ (f : FabricId). AreJobsOf g.O.Opener.lines_for f c.args.site.lines.now 0 workers.items) (sym c.requires.opening.fabric) c.in-Ok-frame_jobs.ensures.workers;
        sessions = sessions.items;
        sixteen = let ok = sessions.ok.0 in let all : vec_len sessions ≡ 16 = c.in-Ok-session_jobs.ensures.jobs ∙ c.in-Ok.ensures.each in omega (arith, ok, all);
        places = subst (λ (l : List PlaceAt). HasPlaces (arc_value c.args.shelf.now) o p 16 l) (sym c.in-Ok-session_jobs.ensures.places) c.in-Ok.ensures.places;
        listeners = c.in-Ok-session_jobs.ensures.listeners;
        sized = ap (λ (f : FabricId). f.size) c.requires.opening.fabric ∙ c.requires.sized;
        handed = c.run_jobs.ensures.handed done;
        left = c.run_jobs.ensures.left done;
      },
  λ none.
      let workers = c.in-Ok-frame_jobs.jobs in
      let sessions = c.in-Ok-session_jobs.jobs in
      let o = opening_of g.D.Disk.state c.args.state in
      let p = users_opening g.D.Disk.state c.args.users in
      record {
        workers = workers.items;
        each = let ok = workers.ok.0 in let each = c.in-Ok-frame_jobs.ensures.jobs in omega (arith, ok, each);
        seats = subst (λ (f : FabricId). AreJobsOf g.O.Opener.lines_for f c.args.site.lines.now 0 workers.items) (sym c.requires.opening.fabric) c.in-Ok-frame_jobs.ensures.workers;
        sessions = sessions.items;
        sixteen = let ok = sessions.ok.0 in let all : vec_len sessions ≡ 16 = c.in-Ok-session_jobs.ensures.jobs ∙ c.in-Ok.ensures.each in omega (arith, ok, all);
        places = subst (λ (l : List PlaceAt). HasPlaces (arc_value c.args.shelf.now) o p 16 l) (sym c.in-Ok-session_jobs.ensures.places) c.in-Ok.ensures.places;
        listeners = c.in-Ok-session_jobs.ensures.listeners;
        sized = ap (λ (f : FabricId). f.size) c.requires.opening.fabric ∙ c.requires.sized;
        handed = tt;
        left = c.run_jobs.ensures.left_to none;
      },
)

-- What became of the jobs of a controller that is served.
use Rattle.std.proofs.Common.{◌≡◌, ◌≢◌, ◌+◌, ◌≤◌, ◌∙◌, ℕ, arith, true, inl, inr, refl, subst, sym}
use Rattle.dxc_causes.specs.Causes.{Rose}
use Rattle.dxc_outside.specs.declared.spawner.Started.{Started}
use Rattle.dxc_outside.specs.declared.spawner.Started.TheVariants.{Running, Failed}
use Rattle.dxc_outside.specs.Threads.{SpawnerState}
use Rattle.shelf_file.specs.Contents.{Contents}
use Rattle.user_admin.specs.Histories.{Opening as UsersOpening}
use Rattle.xc_core.specs.States.{Opening}
use Rattle.dxc_jobs.specs.Starts.{AreStarts}
use Rattle.dxc_jobs.proofs.Counting.{rose_behind}
use Rattle.dxc_args.specs.declared.status.Status.{Status}
use Rattle.dxc_args.specs.declared.status.Status.TheVariants.{Done, CannotOpen, NoThread, NoMemory}
use Rattle.dxc_element.specs.Openings.{Sources}
use Rattle.craft_server.specs.Serving.{CameTo, IsServing, JobsTold, LeftPlaces, ServedSite, SiteAt}

module _ (jobs faults later : ℕ) (old new : SpawnerState) where
  -- all were started
  pub all_started : (started : Started) → started ≡ Running → AreStarts jobs old new started → new.waited ≡ true → IsServing jobs faults later old new Done
  all_started started is starts waited = record {
    done = λ _. (starts.running is).0;
    no_more = starts.no_more;
    waited = λ is. waited;
    no_thread = λ is. cc;
    cannot_open = λ is. cc;
    not_started = λ is. elim is [ inl bad ↦ cc | inr bad ↦ cc ];
    only = λ not. absurd (not refl);
  }

  -- one wasn't
  pub not_all_started : (started : Started) → started ≡ Failed → AreStarts jobs old new started → new.waited ≡ true → IsServing jobs faults later old new NoThread
  not_all_started started is starts waited = record {
    done = λ e. cc;
    no_more = starts.no_more;
    waited = λ _. waited;
    no_thread = λ _. starts.failed is;
    cannot_open = λ is. cc;
    not_started = λ is. elim is [ inl bad ↦ cc | inr bad ↦ cc ];
    only = λ a not. absurd (not refl);
  }

-- none was, since something couldn't be opened, or memory was wanting
pub none_started : (jobs faults later : ℕ) (old : SpawnerState) (status : Status) → (status ≡ CannotOpen → Rose faults later) → (status ≢ CannotOpen → status ≡ NoMemory) → IsServing jobs faults later old old status
none_started jobs faults later old status closed other = record {
  done = λ is. let memory = other (λ e. let no = sym is ∙ e in cc) in let no = sym is ∙ memory in cc;
  no_more = omega arith;
  waited = λ was. elim was [
    | inl is ↦ (let memory = other (λ e. let no = sym is ∙ e in cc) in let no = sym is ∙ memory in cc)
    | inr is ↦ (let memory = other (λ e. let no = sym is ∙ e in cc) in let no = sym is ∙ memory in cc)
  ];
  no_thread = λ is. let memory = other (λ e. let no = sym is ∙ e in cc) in let no = sym is ∙ memory in cc;
  cannot_open = closed;
  not_started = λ is. refl;
  only = λ a b not. other not;
}

-- on what was opened after other things
pub serving_behind : (jobs faults mid later : ℕ) (old new : SpawnerState) (status : Status) → faults ≤ mid → IsServing jobs mid later old new status → IsServing jobs faults later old new status
serving_behind jobs faults mid later old new status more s = record {
  done = s.done;
  no_more = s.no_more;
  waited = s.waited;
  no_thread = s.no_thread;
  cannot_open = λ is. rose_behind faults mid later more (s.cannot_open is);
  not_started = s.not_started;
  only = s.only;
}

module _ (D U : Type 0) {N L C G : Type 0} (told : JobsTold N L C G) where
  -- and by the shelf that was found
  pub served_on : (site : SiteAt) {J : Type 0} (before after : Sources J) (mid : ℕ) (old new : SpawnerState) (s t : Contents) (o : Opening) (p : UsersOpening) (status : Status) → after.stops ≡ before.stops → before.opener.faults ≤ mid → t ≡ s
      → IsServing (site.workers + 16) mid after.opener.faults old new status → CameTo D U told site status t o p → (status ≡ CannotOpen → LeftPlaces told.gone t o p) → ServedSite D U told site before after old new s o p status
  served_on site before after mid old new s t o p status unstopped later same serving jobs closed = record {
    gate = unstopped;
    serving = serving_behind (site.workers + 16) before.opener.faults mid after.opener.faults old new status later serving;
    jobs = subst (λ (r : Contents). CameTo D U told site status r o p) same jobs;
    closed = λ none. subst (λ (r : Contents). LeftPlaces told.gone r o p) same (closed none);
  }

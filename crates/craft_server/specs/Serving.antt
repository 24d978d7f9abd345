-- The serving of callers, and the program's jobs.
use Rattle.std.specs.Prelude.{◌≡◌, ◌≢◌, ℕ, ◌+◌, ◌≤◌, ◌⊎◌, true, All, List, ◌++◌, length, map, Vec}
use Rattle.std.specs.declared.alloc.Global.{Global}
use Rattle.dxc_causes.specs.Causes.{Rose}
use Rattle.dxc_outside.specs.declared.gate.Gate.{Ghosts as GateOf}
use Rattle.dxc_outside.specs.declared.lines.Lines.{Ghosts as LinesOf}
use Rattle.dxc_outside.specs.declared.link.Link.{Ghosts as LinkOf}
use Rattle.dxc_outside.specs.declared.listener.Listener.{Ghosts as ListenerOf}
use Rattle.dxc_outside.specs.declared.opener.Opener.{Ghosts as OpenerOf}
use Rattle.dxc_outside.specs.declared.spawner.Started.TheVariants.{Failed}
use Rattle.dxc_outside.specs.Jobs.{AnyJob, any_jobs}
use Rattle.dxc_outside.specs.Threads.{SpawnerState}
use Rattle.dxc_leaving.specs.Values.{AnyValue, any_value}
use Rattle.shelf_file.specs.Contents.{Contents}
use Rattle.user_admin.specs.Histories.{Opening as UsersOpening}
use Rattle.xc_core.specs.States.{Opening}
use Rattle.craft_session.specs.declared.timestamps.Timestamps.{Ghosts as ClockOf}
use Rattle.craft_session.specs.Places.{HasPlaces}
use Rattle.craft_session.specs.Seats.{PlaceAt}
use Rattle.dxc_args.specs.declared.line.ServeLine.{ServeLine}
use Rattle.dxc_args.specs.declared.status.Status.{Status}
use Rattle.dxc_args.specs.declared.status.Status.TheVariants.{Done, CannotOpen, NoThread, NoMemory}
use Rattle.dxc_jobs.specs.declared.begun.RanAll.{RanAll}
use Rattle.dxc_jobs.specs.declared.frames.FrameJob.{FrameJob}
use Rattle.dxc_jobs.specs.declared.frames_left.FramesDone.{FramesDone}
use Rattle.dxc_jobs.specs.declared.frames_left.FramesLeft.{FramesLeft}
use Rattle.dxc_jobs.specs.Begun.{AreRan, RanTo}
use Rattle.dxc_jobs.specs.Counts.{RoseBy}
use Rattle.dxc_jobs.specs.Framed.{RanFrames}
use Rattle.dxc_jobs.specs.Handed.{AreJobsOf}
use Rattle.dxc_jobs.specs.Leaves.{left_by}
use Rattle.dxc_jobs.specs.Starts.{IsLastFailed}
use Rattle.dxc_element.specs.Openings.{Named, Sources, named}
use Rattle.craft_server.specs.declared.sessions.SessionDone.{SessionDone}
use Rattle.craft_server.specs.declared.sessions.SessionJob.{SessionJob}
use Rattle.craft_server.specs.Entrances.{Ends, Entrance}
use Rattle.craft_server.specs.Served.{RanAt}

-- where sessions and frame workers run: the address, the name of the lines, and how many workers there are
pub record SiteAt : Type 0 where
  pub address : List ℕ
  pub lines : List ℕ
  pub workers : ℕ

abbrev pub site_at : (address lines : List ℕ) → ℕ → SiteAt
site_at address lines workers = record { address = address; lines = lines; workers = workers }

-- the site that a line of `serve` names, and its shelf file and journal
abbrev pub site_in : ServeLine → SiteAt
site_in x = site_at x.address x.lines x.workers

abbrev pub names_in : ServeLine → Named
names_in x = named x.shelf x.journal

-- what became of so many jobs of an opened controller, by the counts of the opener's faults and of the spawner
pub record IsServing (jobs faults later : ℕ) (old new : SpawnerState) (status : Status) : Type 0 where
  -- each was started
  pub done : status ≡ Done → RoseBy jobs old.starts new.starts
  pub no_more : new.starts ≤ old.starts + jobs
  -- and those that were have ended
  pub waited : (status ≡ Done) ⊎ (status ≡ NoThread) → new.waited ≡ true
  -- no job was started after the one whose start failed
  pub no_thread : status ≡ NoThread → IsLastFailed jobs old new
  pub cannot_open : status ≡ CannotOpen → Rose faults later
  pub not_started : (status ≡ CannotOpen) ⊎ (status ≡ NoMemory) → new ≡ old
  pub only : status ≢ Done → status ≢ NoThread → status ≢ CannotOpen → status ≡ NoMemory

-- the opener's count of faults, and the spawner
pub record Tally : Type 0 where
  pub faults : ℕ
  pub spawner : SpawnerState

abbrev pub tally : ℕ → SpawnerState → Tally
tally faults spawner = record { faults = faults; spawner = spawner }

abbrev pub IsServingBy : (jobs : ℕ) → (old new : Tally) → Status → Type 0
IsServingBy jobs old new status = IsServing jobs old.faults new.faults old.spawner new.spawner status

-- What tells of jobs: for which worker lines were handed out, and at which address a listener, and which jobs the spawner was handed; what a worker's frames
-- came to, and the sessions of a place; and what was let go.
pub record JobsTold (N L C G : Type 0) : Type 1 where
  pub lines_for : N → List ℕ → ℕ → Type 0
  pub listener_for : L → List ℕ → Type 0
  pub handed : List AnyJob → Type 0
  pub carried : FrameJob N G → FramesDone N G → FramesLeft → Type 0
  pub served : (D U : Type 0) → SessionJob D U L C G → SessionDone L C G → PlaceAt → Type 0
  pub gone : AnyValue → Type 0

abbrev pub jobs_told : (disk_told : Type 0) {O D N L C G E K : Type 0} → OpenerOf O D N L C G E K → LinesOf N → ListenerOf L K → LinkOf K → ClockOf C → GateOf G → (gone : AnyValue → Type 0) → (List AnyJob → Type 0) → JobsTold N L C G
jobs_told disk_told o n l k c g gone handed = record {
  lines_for = o.lines_for;
  listener_for = o.listener_for;
  handed = handed;
  carried = RanFrames n g;
  served = λ D U. RanAt {D = D} {U = U} disk_told l k c g;
  gone = gone;
}

abbrev pub jobs_by : (disk_told : Type 0) {O D N L C G E K : Type 0} → OpenerOf O D N L C G E K → LinesOf N → Entrance L K C G → Ends → JobsTold N L C G
jobs_by disk_told o n e x = jobs_told disk_told o n e.listener e.link e.clock e.gate x.gone x.handed

-- What these jobs left, which was let go: each has run, and left this.
pub record AreLeft {J K E F : Type 0} (gone : AnyValue → Type 0) (carried : J → E → Type 0) (served : K → F → Type 0) (workers : List J) (sessions : List K) : Type 0 where
  pub left : RanAll E F
  pub let_go : gone (any_value left)
  pub of_workers : AreRan carried workers left.workers.items
  pub of_sessions : AreRan served sessions left.sessions.items

-- What those of these jobs left that were started, where a start failed: they stand in front of the one whose start failed, each has run, and what they left was let go.
pub record AreLeftTo {J K E F : Type 0} (gone : AnyValue → Type 0) (carried : J → E → Type 0) (served : K → F → Type 0) (workers : List J) (sessions : List K) : Type 0 where
  pub left : RanAll E F
  pub let_go : gone (any_value left)
  pub of_workers : RanTo carried workers Failed left.workers.items
  pub of_sessions : RanTo served sessions Failed left.sessions.items

-- the sixteen places at what was opened were let go as they were made: none of them took a turn
pub record LeftPlaces (gone : AnyValue → Type 0) (s : Contents) (o : Opening) (p : UsersOpening) : Type 0 where
  pub places : Vec PlaceAt Global
  pub let_go : gone (any_value places)
  pub are : HasPlaces s o p 16 places.items

module _ (D U : Type 0) {N L C G : Type 0} (told : JobsTold N L C G) (site : SiteAt) where
  -- The jobs of the site: one for each worker of the opening's fabric, with its seat of it and lines that were handed out for it; after these one for
  -- each of 16 places of one turnstile, at the opening's state, and of one at its users, with a listener that was handed out at the address; and no other. The
  -- spawner was handed so much of them, and they left this.
  pub record SiteJobs (spawned : List AnyJob → Type 0) (leaving : List (FrameJob N G) → List (SessionJob D U L C G) → Type 0) (s : Contents) (o : Opening) (p : UsersOpening) : Type 0 where
    pub workers : List (FrameJob N G)
    pub each : length workers ≡ site.workers
    pub sized : o.site.fabric.size ≡ record { shape = s.shape; workers = site.workers }
    pub seats : AreJobsOf told.lines_for o.site.fabric site.lines 0 workers
    pub sessions : List (SessionJob D U L C G)
    pub sixteen : length sessions ≡ 16
    pub places : HasPlaces s o p 16 (map (λ (job : SessionJob D U L C G). job.place) sessions)
    pub listeners : All (λ (job : SessionJob D U L C G). told.listener_for job.listener site.address) sessions
    pub handed : spawned (any_jobs workers ++ any_jobs sessions)
    pub left : leaving workers sessions

  -- The spawner was handed these jobs, and no other. Each has run, and what it left was let go: the seat, as the worker's frames left it, and the place, as its
  -- sessions left it.
  abbrev pub HandedJobs : Contents → Opening → UsersOpening → Type 0
  HandedJobs s o p = SiteJobs told.handed (λ ws ss. AreLeft told.gone (left_by told.carried) (left_by (told.served D U)) ws ss) s o p

  -- A start of them failed.
  abbrev pub FailedJobs : Contents → Opening → UsersOpening → Type 0
  FailedJobs s o p = SiteJobs (λ jobs. Unit {0}) (λ ws ss. AreLeftTo told.gone (left_by told.carried) (left_by (told.served D U)) ws ss) s o p

  -- what came of the jobs, by the status
  abbrev pub CameTo : Status → Contents → Opening → UsersOpening → Type 0
  CameTo status s o p = (status ≡ Done → HandedJobs s o p) × (status ≡ NoThread → FailedJobs s o p)

  -- What came of serving the site on what was opened. The gate is asked no more once that is so; where the status is Done, these jobs were started, and where it is
  -- NoThread, some of them. Where something couldn't be opened, its places were let go.
  pub record ServedSite {J : Type 0} (before after : Sources J) (old new : SpawnerState) (s : Contents) (o : Opening) (p : UsersOpening) (status : Status) : Type 0 where
    pub gate : after.stops ≡ before.stops
    pub serving : IsServing (site.workers + 16) before.opener.faults after.opener.faults old new status
    pub jobs : CameTo status s o p
    pub closed : status ≡ CannotOpen → LeftPlaces told.gone s o p

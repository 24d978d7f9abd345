-- The jobs of a server, over what it is lent.
use Rattle.std.specs.Prelude.{◌≡◌, ℕ, List, Some, slice_get}
use Rattle.dxc_disk.specs.declared.disk.Disk.{Ghosts as DiskOf}
use Rattle.dxc_outside.specs.declared.clock.Moment.{Moment}
use Rattle.dxc_outside.specs.declared.gate.Gate.{Ghosts as GateOf}
use Rattle.dxc_outside.specs.declared.lines.Lines.{Ghosts as LinesOf}
use Rattle.dxc_outside.specs.Jobs.{AnyJob}
use Rattle.dxc_leaving.specs.Values.{AnyValue}
use Rattle.shelf_file.specs.Contents.{Contents}
use Rattle.user_admin.specs.Histories.{Opening as UsersOpening}
use Rattle.xc_core.specs.States.{Opening}
use Rattle.craft_session.specs.declared.timestamps.Timestamps.{Ghosts as ClockOf}
use Rattle.craft_session.specs.Happenings.{Request}
use Rattle.craft_session.specs.Seats.{PlaceAt}
use Rattle.switch_laws.specs.Element.{Session}
use Rattle.switch_laws.specs.Users.{Hearing}
use Rattle.dxc_jobs.specs.declared.frames.FrameJob.{FrameJob}
use Rattle.dxc_jobs.specs.Offices.{Office}
use Rattle.craft_server.specs.declared.sessions.SessionDone.{SessionDone}
use Rattle.craft_server.specs.declared.sessions.SessionJob.{SessionJob}
use Rattle.craft_server.specs.Callers.{standing}
use Rattle.craft_server.specs.Served.{RanAt}
use Rattle.craft_server.specs.Serving.{HandedJobs, JobsTold, SiteAt, jobs_told}
use Rattle.serve_laws.specs.Written.{AreHeardIn, AreWritten, links_in}

-- the ghost members of lines, clocks and gates
pub record Means (N C G : Type 0) : Type 1 where
  pub lines : LinesOf N
  pub clock : ClockOf C
  pub gate : GateOf G

abbrev pub means : {N C G : Type 0} → LinesOf N → ClockOf C → GateOf G → Means N C G
means n c g = record { lines = n; clock = c; gate = g }

-- What a server is over: an opener and what that hands out, the disk of the journals, which may be a mirror of the opener's, and what was let go.
pub record World : Type 1 where
  pub Opener : Type 0
  pub Disk : Type 0
  pub office : Office Opener
  pub disk : DiskOf Disk
  pub uses : Means office.Lines office.Clock office.Gate
  pub gone : AnyValue → Type 0

abbrev pub world : {O D : Type 0} (w : Office O) → DiskOf D → Means w.Lines w.Clock w.Gate → (AnyValue → Type 0) → World
world {O} {D} w d m gone = record { Opener = O; Disk = D; office = w; disk = d; uses = m; gone = gone }

module _ (w : World) where
  abbrev pub Job : Type 0
  Job = SessionJob w.Disk w.Disk w.office.Listener w.office.Clock w.office.Gate

  abbrev pub Done : Type 0
  Done = SessionDone w.office.Listener w.office.Clock w.office.Gate

  abbrev pub Frames : Type 0
  Frames = FrameJob w.office.Lines w.office.Gate

  -- what came of a session job
  abbrev pub Ran : Job → Done → PlaceAt → Type 0
  Ran = RanAt w.disk.told w.office.listener w.office.link w.uses.clock w.uses.gate

  abbrev pub told_of : (List AnyJob → Type 0) → JobsTold w.office.Lines w.office.Listener w.office.Clock w.office.Gate
  told_of handed = jobs_told w.disk.told w.office.opener w.uses.lines w.office.listener w.office.link w.uses.clock w.uses.gate w.gone handed

  -- the jobs that `dxc_run` handed to the spawner and to no one else, each of which has run, for a line that ended with Done
  abbrev pub Jobs : (List AnyJob → Type 0) → SiteAt → Contents → Opening → UsersOpening → Type 0
  Jobs handed site s o p = HandedJobs w.Disk w.Disk (told_of handed) site s o p

  -- the links that came to a place, as they came and as they were left, the newest first
  abbrev pub links_of : (job : Job) (done : Done) (left : PlaceAt) → Ran job done left → List (w.office.Link × w.office.Link)
  links_of job done left ran = links_in w.disk.told w.uses.clock w.office.link w.uses.gate (standing job.place (w.uses.clock.coming job.clock) job.gate) ran.served.callers (standing left (w.uses.clock.coming done.clock) done.gate) ran.served.served

  -- The job of this number, and the place that it left: the links that came to it were written what the element writes these sessions, or a first part of it
  -- where a write failed; and in the sessions that happened of which the users told.
  pub record IsServedAt (jobs : List Job) (lefts : List PlaceAt) (k : ℕ) (ss : List (Session Request Moment)) (hs : List (Hearing Request)) : Type 0 where
    pub job : Job
    pub is : slice_get jobs k ≡ Some job
    pub left : PlaceAt
    pub left_is : slice_get lefts k ≡ Some left
    pub done : Done
    pub ran : Ran job done left
    pub written : AreWritten w.office.link.told w.office.link.state (links_of job done left ran) ss
    pub heard : AreHeardIn ss hs

-- What the program does, by its words.
use Rattle.std.specs.Prelude.{◌≡◌, ◌⊎◌, ℕ, List, Option, Some, None}
use Rattle.dxc_disk.specs.Disks.{DiskState}
use Rattle.dxc_outside.specs.declared.clock.Moment.{Moment}
use Rattle.dxc_outside.specs.Asked.{Asking}
use Rattle.dxc_outside.specs.Callers.{ListenerState}
use Rattle.dxc_outside.specs.declared.link.Lost.{Lost}
use Rattle.dxc_outside.specs.Links.{LinkState}
use Rattle.dxc_outside.specs.Threads.{SpawnerState}
use Rattle.dxc_model.specs.declared.user.SessionUser.TheVariants.{Nobody}
use Rattle.dxc_num.specs.Dimensions.{Dimensions}
use Rattle.dxc_leaving.specs.Values.{AnyValue}
use Rattle.shelf_file.specs.Contents.{Contents}
use Rattle.standby_link.specs.declared.mirror_disk.MirrorDisk.{MirrorDisk}
use Rattle.user_admin.specs.Histories.{Opening as UsersOpening}
use Rattle.xc_core.specs.States.{Opening}
use Rattle.dxc_args.specs.declared.line.Line.{Line}
use Rattle.dxc_args.specs.declared.line.ServeLine.{ServeLine}
use Rattle.dxc_args.specs.declared.line.Line.TheVariants.{Script, Trial, Check, Export, Serve, Standby, Load}
use Rattle.dxc_args.specs.declared.status.Status.{Status}
use Rattle.dxc_args.specs.declared.status.Status.TheVariants.{BadWords, NoMemory}
use Rattle.dxc_args.specs.Lines.{IsLine}
use Rattle.dxc_element.specs.Exports.{IsExport}
use Rattle.dxc_element.specs.Listings.{IsCheck}
use Rattle.craft_server.specs.Loads.{IsLoad, load_lent}
use Rattle.dxc_element.specs.Openings.{Began, Found, Named, OpenedOn, Opens, Sources, WasLetGo, named, opened_on}
use Rattle.dxc_element.specs.Peers.{Mirrors}
use Rattle.craft_server.specs.Scripts.{IsUnplaced, RanAndLeft}
use Rattle.craft_server.specs.Trials.{IsTrialOn, memory_told, trial_lent}
use Rattle.craft_server.specs.Serving.{JobsTold, ServedSite, SiteAt, names_in, site_in}
use Rattle.dxc_jobs.specs.Standbys.{StandsBy}
use Rattle.craft_server.specs.declared.world.World.{Ghosts as WorldOf}
use Rattle.craft_server.specs.Sites.{asked_after, asked_before, jobs_across}
use Rattle.craft_server.specs.Worlds.{WorldLent, Worlds}

-- whether opener, disk, terminal, clock, peer, listener and the listener's links tell what they hold, and where reads of terminal and links began
pub record Told : Type 1 where
  pub opener : Type 0
  pub disk : Type 0
  pub terminal : Type 0
  pub clock : Type 0
  pub peer : Type 0
  pub listener : Type 0
  pub link : Type 0
  pub terminal_begun : LinkState → Type 0
  pub link_begun : LinkState → Type 0
  -- what was let go, and what the opener was asked for
  pub gone : AnyValue → Type 0
  pub asked : List Asking → Type 0

abbrev pub told_by : (opener disk terminal clock peer listener link : Type 0) (terminal_begun link_begun : LinkState → Type 0) (gone : AnyValue → Type 0) (asked : List Asking → Type 0) → Told
told_by opener disk terminal clock peer listener link terminal_begun link_begun gone asked = record { opener = opener; disk = disk; terminal = terminal; clock = clock; peer = peer; listener = listener; link = link; terminal_begun = terminal_begun; link_begun = link_begun; gone = gone; asked = asked }

-- what the program is lent, at a moment
pub record Lent (D : Type 0) : Type 0 where
  pub sources : Sources D
  pub terminal : LinkState
  pub clock : List Moment
  pub spawner : SpawnerState

abbrev pub lent : {D : Type 0} → Sources D → LinkState → List Moment → SpawnerState → Lent D
lent s k c p = record { sources = s; terminal = k; clock = c; spawner = p }

-- nothing was read, written or started
pub record IsUntouched {D : Type 0} (before after : Lent D) : Type 0 where
  pub terminal : after.terminal ≡ before.terminal
  pub clock : after.clock ≡ before.clock
  pub spawner : after.spawner ≡ before.spawner

module _ (told : Told) {D : Type 0} (state : D → DiskState) where
  -- one session was served over the terminal, and the place was let go as it left it; or memory was wanting for the place
  pub record RanScript (before after : Lent D) (s : Contents) (o : Opening) (p : UsersOpening) (disk users_disk : D) (status : Status) : Type 0 where
    pub session : RanAndLeft told.disk told.terminal told.clock told.terminal_begun told.gone (state disk) (state users_disk) Nobody s o p before.terminal after.terminal before.clock after.clock before.sources.stops after.sources.stops status ⊎ IsUnplaced before.terminal after.terminal before.clock after.clock before.sources.stops after.sources.stops status
    pub spawner : after.spawner ≡ before.spawner

  -- the table was written to the terminal, unless memory was wanting, and what was opened was let go as it was opened
  pub record RanCheck (before after : Lent D) (on : OpenedOn D) (status : Status) : Type 0 where
    pub check : IsCheck told.terminal on.shelf on.opening before.terminal after.terminal status
    pub let_go : WasLetGo told.disk state told.gone on
    pub clock : after.clock ≡ before.clock
    pub spawner : after.spawner ≡ before.spawner
    pub gate : after.sources.stops ≡ before.sources.stops

  -- the commands that make the table were written to the terminal, unless memory was wanting, and what was opened was let go as it was opened
  pub record RanExport (before after : Lent D) (on : OpenedOn D) (status : Status) : Type 0 where
    pub export : IsExport told.terminal on.shelf on.opening before.terminal after.terminal status
    pub let_go : WasLetGo told.disk state told.gone on
    pub clock : after.clock ≡ before.clock
    pub spawner : after.spawner ≡ before.spawner
    pub gate : after.sources.stops ≡ before.sources.stops

  -- the load was run, with opener, clock and spawner untouched
  pub record RanLoad (number : ℕ) (before after : Lent D) (status : Status) : Type 0 where
    pub load : IsLoad number told.terminal (load_lent before.terminal before.sources.stops) (load_lent after.terminal after.sources.stops) status
    pub opener : after.sources.opener ≡ before.sources.opener
    pub journal_at : after.sources.journal_at ≡ before.sources.journal_at
    pub clock : after.clock ≡ before.clock
    pub spawner : after.spawner ≡ before.spawner

  -- a trial of the shape was run, with opener and spawner untouched
  pub record RanNew (shape : Dimensions) (before after : Lent D) (status : Status) : Type 0 where
    pub trial : IsTrialOn (memory_told told.terminal told.clock told.terminal_begun) shape (trial_lent before.terminal before.clock before.sources.stops) (trial_lent after.terminal after.clock after.sources.stops) status
    pub opener : after.sources.opener ≡ before.sources.opener
    pub journal_at : after.sources.journal_at ≡ before.sources.journal_at
    pub spawner : after.spawner ≡ before.spawner

-- sessions at a state and at users on disks of type E, and frame workers, were started, with terminal and clock untouched
pub record RanServe (E : Type 0) {N L C G : Type 0} (jobs : JobsTold N L C G) {D : Type 0} (site : SiteAt) (before after : Lent D) (s : Contents) (o : Opening) (p : UsersOpening) (status : Status) : Type 0 where
  pub served : ServedSite E E jobs site before.sources after.sources before.spawner after.spawner s o p status
  pub terminal : after.terminal ≡ before.terminal
  pub clock : after.clock ≡ before.clock

module _ (told : Told) {D : Type 0} (state : D → DiskState) where
  -- what the names stand for was opened, or why not, and this was done on it
  abbrev pub OpensFor : (names : Named) (before after : Lent D) → ((f : Found told.opener names before.sources) → Opening → Began told.opener told.disk state names before.sources f.shelf → Type 0) → Status → Type 0
  OpensFor names before after done status = Opens told.opener told.disk state told.gone names before.sources after.sources (IsUntouched before after) done status

-- the words are no line, or memory was wanting to read them
abbrev pub NoLine : List (List ℕ) → Status → Type 0
NoLine words status = ((status ≡ BadWords) × ((l : Line) → IsLine words l → ⊥)) ⊎ (status ≡ NoMemory)

module _ (told : Told) {N L C G : Type 0} (jobs : JobsTold N L C G) {D K J : Type 0} (state : D → DiskState) (peer : K → LinkState) (listener : L → ListenerState J) (link : J → LinkState) (hung_up : J → Option Lost) (listener_at : List ℕ → Option L) where
  -- what the names stand for was opened and mirrored, or why not, and sessions and frame workers were started on it
  abbrev pub MirrorsFor : (names : Named) → SiteAt → (before after : Lent D) → Status → Type 0
  MirrorsFor names site before after status = Mirrors told.disk told.peer state peer told.opener told.gone names before.sources after.sources (IsUntouched before after) (λ f o u. RanServe (MirrorDisk D K) jobs site before after f.shelf o u.opening status) status

  -- without a peer, or with one
  abbrev pub ServesFor : (named_peer : Option (List ℕ)) → ServeLine → (before after : Lent D) → Status → Type 0
  ServesFor None x before after status = OpensFor told state (names_in x) before after (λ f o u. RanServe D jobs (site_in x) before after f.shelf o u.opening status) status
  ServesFor (Some name) x before after status = MirrorsFor (names_in x) (site_in x) before after status

  -- a standby ran, by what the opener would hand out, with terminal, clock, spawner and gate untouched
  pub record RanBy (journal address : List ℕ) (before after : Lent D) (status : Status) : Type 0 where
    pub stands_by : StandsBy told.opener told.disk told.listener told.link state listener link told.link_begun hung_up before.sources.journal_at listener_at before.sources.opener.faults after.sources.opener.faults journal address told.gone told.asked status
    pub untouched : IsUntouched before after
    pub gate : after.sources.stops ≡ before.sources.stops

  -- what a line did
  abbrev pub IsRunOf : Line → (before after : Lent D) → Status → Type 0
  IsRunOf (Load number) before after status = RanLoad told state number before after status
  IsRunOf (Trial shape) before after status = RanNew told state shape before after status
  IsRunOf (Script shelf journal) before after status = OpensFor told state (named shelf journal) before after (λ f o u. RanScript told state before after f.shelf o u.opening f.disk u.found.disk status) status
  IsRunOf (Check shelf journal) before after status = OpensFor told state (named shelf journal) before after (λ f o u. RanCheck told state before after (opened_on f.disk u.found.disk f.shelf o) status) status
  IsRunOf (Export shelf journal) before after status = OpensFor told state (named shelf journal) before after (λ f o u. RanExport told state before after (opened_on f.disk u.found.disk f.shelf o) status) status
  IsRunOf (Serve x) before after status = ServesFor x.peer x before after status
  IsRunOf (Standby journal address) before after status = RanBy journal address before after status

  -- what the program did, by its words
  abbrev pub IsRun : List (List ℕ) → (before after : Lent D) → Status → Type 0
  IsRun words before after status = ((after ≡ before) × NoLine words status) ⊎ ((l : Line) × IsLine words l × IsRunOf l before after status)

-- what the program is lent shows at the call, and at the return
abbrev pub before : (w : Worlds) → WorldLent w → Lent w.ground.Disk
before w x = lent (asked_before w.ground x.0 x.3) (w.terminal.state x.1.entry.now) (w.clock.coming x.2.entry.now) (w.ground.spawner.state x.4.entry.now)

abbrev pub after : (w : Worlds) → WorldLent w → Lent w.ground.Disk
after w x = lent (asked_after w.ground x.0 x.3) (w.terminal.state x.1.exit.now) (w.clock.coming x.2.exit.now) (w.ground.spawner.state x.4.exit.now)

abbrev pub told_in : (w : Worlds) → WorldLent w → Told
told_in w x = let g = w.ground in told_by g.opener.told g.disk.told w.terminal.told w.clock.told g.peer.told g.listener.told g.link.told w.terminal.begun g.link.begun g.gone (g.opener.asked x.0.entry.now x.0.exit.now)

-- what a line did with what it was lent
abbrev pub RanLine : {T : Type 0} (g : WorldOf T) → Line → WorldLent g.world → Status → Type 0
RanLine g line x status = let w = g.world.ground in IsRunOf (told_in g.world x) (jobs_across w x.4) w.disk.state w.peer.state w.listener.state w.link.state w.link.hung_up (w.opener.listener_at x.0.entry.now) line (before g.world x) (after g.world x) status

-- what the program did, by its words
abbrev pub RanWords : {T : Type 0} (g : WorldOf T) → List (List ℕ) → WorldLent g.world → Status → Type 0
RanWords g words x status = let w = g.world.ground in IsRun (told_in g.world x) (jobs_across w x.4) w.disk.state w.peer.state w.listener.state w.link.state w.link.hung_up (w.opener.listener_at x.0.entry.now) words (before g.world x) (after g.world x) status

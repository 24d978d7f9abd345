-- Sites that are served, by all that serves them.
use Rattle.std.specs.Prelude.{◌≡◌}
use Rattle.dxc_disk.specs.Disks.{DiskState}
use Rattle.dxc_leaving.specs.Values.{AnyValue}
use Rattle.shelf_file.specs.Contents.{Contents}
use Rattle.user_admin.specs.declared.state.UserState.{UserState}
use Rattle.user_admin.specs.States.{opening_of as users_opening}
use Rattle.xc_core.specs.declared.state.State.{State}
use Rattle.xc_core.specs.States.{opening_of}
use Rattle.standby_link.specs.declared.mirror_disk.MirrorDisk.{MirrorDisk}
use Rattle.dxc_args.specs.declared.status.Status.{Status}
use Rattle.dxc_element.specs.declared.opening.Names.{Names}
use Rattle.dxc_element.specs.Openings.{Named, Opens, Sources, named, sources}
use Rattle.dxc_element.specs.Peers.{Mirrors}
use Rattle.dxc_jobs.specs.Offices.{Across}
use Rattle.craft_server.specs.declared.serve.Site.{Site}
use Rattle.craft_server.specs.declared.world.Ground.{Ghosts as GroundOf}
use Rattle.craft_server.specs.Serving.{CameTo, JobsTold, LeftPlaces, ServedSite, SiteAt, jobs_told, site_at}
use Rattle.craft_server.specs.Worlds.{GroundLent, Grounds}

-- the names and the site that a call is passed
abbrev pub names_of : Names → Named
names_of n = named n.shelf.now n.journal.now

abbrev pub site_of : Site → SiteAt
site_of s = site_at s.address.now s.lines.now s.workers

-- what jobs begin on: a shelf, a state and users
pub record Outset (D : Type 0) : Type 0 where
  pub shelf : Contents
  pub state : State D
  pub users : UserState D

abbrev pub outset : {D : Type 0} → Contents → State D → UserState D → Outset D
outset shelf state users = record { shelf = shelf; state = state; users = users }

-- what came of its jobs, by the status; or that its places were let go
abbrev pub CameToOn : {D N L C G : Type 0} (state : D → DiskState) → JobsTold N L C G → SiteAt → Outset D → Status → Type 0
CameToOn {D} state jobs site x status = CameTo D D jobs site status x.shelf (opening_of state x.state) (users_opening state x.users)

abbrev pub LeftPlacesOf : {D : Type 0} (state : D → DiskState) (gone : AnyValue → Type 0) → Outset D → Type 0
LeftPlacesOf state gone x = LeftPlaces gone x.shelf (opening_of state x.state) (users_opening state x.users)

-- what is asked, at the call and at the return
abbrev pub asked_before : (w : Grounds) → Across w.O → Across w.G → Sources w.Disk
asked_before w o g = sources (w.opener.state o.entry.now) (w.opener.journal_at o.entry.now) (w.gate.stops g.entry.now)

abbrev pub asked_after : (w : Grounds) → Across w.O → Across w.G → Sources w.Disk
asked_after w o g = sources (w.opener.state o.exit.now) (w.opener.journal_at o.exit.now) (w.gate.stops g.exit.now)

-- what tells of jobs, across the call
abbrev pub jobs_across : (w : Grounds) → Across w.P → JobsTold w.Lines w.Listener w.Clock w.Gate
jobs_across w p = jobs_told w.disk.told w.opener w.lines w.listener w.link w.session_clock w.session_gate w.gone (w.spawner.handed p.entry.now p.exit.now)

-- the site was served with what was opened on the names, or why nothing was opened
abbrev pub ServedAlone : {T : Type 0} (g : GroundOf T) → Named → SiteAt → GroundLent g.ground → Status → Type 0
ServedAlone g names site x status =
    let w = g.ground in
    let before = asked_before w x.0 x.1 in
    let after = asked_after w x.0 x.1 in
    let old = w.spawner.state x.2.entry.now in
    let new = w.spawner.state x.2.exit.now in
    Opens w.opener.told w.disk.told w.disk.state w.gone names before after (new ≡ old) (λ f o u. ServedSite w.Disk w.Disk (jobs_across w x.2) site before after old new f.shelf o u.opening status) status

-- or with what was opened on them and mirrored
abbrev pub ServedMirrored : {T : Type 0} (g : GroundOf T) → Named → SiteAt → GroundLent g.ground → Status → Type 0
ServedMirrored g names site x status =
    let w = g.ground in
    let before = asked_before w x.0 x.1 in
    let after = asked_after w x.0 x.1 in
    let old = w.spawner.state x.2.entry.now in
    let new = w.spawner.state x.2.exit.now in
    Mirrors w.disk.told w.peer.told w.disk.state w.peer.state w.opener.told w.gone names before after (new ≡ old) (λ f o u. ServedSite (MirrorDisk w.Disk w.Peer) (MirrorDisk w.Disk w.Peer) (jobs_across w x.2) site before after old new f.shelf o u.opening status) status

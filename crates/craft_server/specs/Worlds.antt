-- All that the program is lent.
use Rattle.dxc_disk.specs.declared.disk.Disk.{Ghosts as DiskOf}
use Rattle.dxc_outside.specs.declared.clock.Clock.{Ghosts as ClockOf}
use Rattle.craft_session.specs.declared.timestamps.Timestamps.{Ghosts as TimestampsOf}
use Rattle.dxc_outside.specs.declared.gate.Gate.{Ghosts as GateOf}
use Rattle.dxc_outside.specs.declared.lines.Lines.{Ghosts as LinesOf}
use Rattle.dxc_outside.specs.declared.link.Link.{Ghosts as LinkOf}
use Rattle.dxc_outside.specs.declared.listener.Listener.{Ghosts as ListenerOf}
use Rattle.dxc_outside.specs.declared.opener.Opener.{Ghosts as OpenerOf}
use Rattle.dxc_outside.specs.declared.spawner.Spawner.{Ghosts as SpawnerOf}
use Rattle.dxc_leaving.specs.Values.{AnyValue}
use Rattle.dxc_jobs.specs.Offices.{Across}
use Rattle.dxc_element.specs.Lenders.{Lender}
use Rattle.craft_server.specs.Entrances.{Entrance}

-- the ghost members of an opener and of what it hands out, and of a gate and a spawner
pub record Grounds : Type 1 where
  pub O : Type 0
  pub G : Type 0
  pub P : Type 0
  pub Disk : Type 0
  pub Lines : Type 0
  pub Listener : Type 0
  pub Clock : Type 0
  pub Gate : Type 0
  pub Peer : Type 0
  pub Link : Type 0
  pub Threads : Type 0
  pub opener : OpenerOf O Disk Lines Listener Clock Gate Peer Link
  pub gone : AnyValue → Type 0
  pub disk : DiskOf Disk
  pub lines : LinesOf Lines
  pub listener : ListenerOf Listener Link
  pub link : LinkOf Link
  pub session_clock : TimestampsOf Clock
  pub session_gate : GateOf Gate
  pub peer : LinkOf Peer
  pub gate : GateOf G
  pub spawner : SpawnerOf P Threads

abbrev pub grounds : {O G P Threads : Type 0} (l : Lender O) → LinesOf l.Lines → Entrance l.Listener l.Link l.Clock l.Gate → GateOf G → SpawnerOf P Threads → Grounds
grounds {O} {G} {P} {Threads} l n e g p = record {
  O = O;
  G = G;
  P = P;
  Disk = l.Disk;
  Lines = l.Lines;
  Listener = l.Listener;
  Clock = l.Clock;
  Gate = l.Gate;
  Peer = l.Peer;
  Link = l.Link;
  Threads = Threads;
  opener = l.opener;
  gone = l.gone;
  disk = l.disk;
  lines = n;
  listener = e.listener;
  link = e.link;
  session_clock = e.clock;
  session_gate = e.gate;
  peer = l.peer;
  gate = g;
  spawner = p;
}

-- an opener, a gate and a spawner, at the call and at the return
abbrev pub GroundLent : Grounds → Type 0
GroundLent w = Across w.O × Across w.G × Across w.P

-- with a terminal and a clock
pub record Worlds : Type 1 where
  pub ground : Grounds
  pub K : Type 0
  pub C : Type 0
  pub terminal : LinkOf K
  pub clock : ClockOf C

abbrev pub worlds : {K C : Type 0} → Grounds → LinkOf K → ClockOf C → Worlds
worlds {K} {C} g k c = record { ground = g; K = K; C = C; terminal = k; clock = c }

-- all that is lent, at the call and at the return
abbrev pub WorldLent : Worlds → Type 0
WorldLent w = Across w.ground.O × Across w.K × Across w.C × Across w.ground.G × Across w.ground.P

-- the ghost members of an opener and of its disks, and of a terminal, a clock and a gate
pub record Stations : Type 1 where
  pub O : Type 0
  pub K : Type 0
  pub C : Type 0
  pub G : Type 0
  pub Disk : Type 0
  pub Lines : Type 0
  pub Listener : Type 0
  pub Clock : Type 0
  pub Gate : Type 0
  pub Peer : Type 0
  pub Link : Type 0
  pub opener : OpenerOf O Disk Lines Listener Clock Gate Peer Link
  pub gone : AnyValue → Type 0
  pub disk : DiskOf Disk
  pub terminal : LinkOf K
  pub clock : ClockOf C
  pub gate : GateOf G

abbrev pub stations : {O K C G : Type 0} (l : Lender O) → LinkOf K → ClockOf C → GateOf G → Stations
stations {O} {K} {C} {G} l k c g = record {
  O = O;
  K = K;
  C = C;
  G = G;
  Disk = l.Disk;
  Lines = l.Lines;
  Listener = l.Listener;
  Clock = l.Clock;
  Gate = l.Gate;
  Peer = l.Peer;
  Link = l.Link;
  opener = l.opener;
  gone = l.gone;
  disk = l.disk;
  terminal = k;
  clock = c;
  gate = g;
}

-- an opener, a terminal, a clock and a gate, at the call and at the return
abbrev pub StationLent : Stations → Type 0
StationLent w = Across w.O × Across w.K × Across w.C × Across w.G

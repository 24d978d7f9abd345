-- A TCP link, and a door for its callers, as contracts of links and listeners see them.
use Rattle.std.specs.Prelude.{[], false}
use base.Stored.{gnil}
use Rattle.dxc_outside.specs.Callers.{ListenerState}
use Rattle.dxc_outside.specs.Links.{LinkState}
use Rattle.dxc_host.specs.declared.peer_link.PeerLink.{PeerLink}
use Rattle.dxc_host.specs.declared.tcp_door.TcpDoor.{TcpDoor}
use Rattle.dxc_host.specs.declared.tcp_link.TcpLink.{TcpLink}

-- it tells nothing of its content
abbrev pub tcp_state : TcpLink → LinkState
tcp_state t = record {
  left = [];
  written = [];
  ended = t.ended;
  reads = t.reads;
  read_faults = t.read_faults;
  write_faults = t.write_faults;
  sound = false;
  lasting = gnil;
}

-- nor of its callers
abbrev pub tcp_door : {T : Type 0} → TcpDoor T → ListenerState TcpLink
tcp_door d = record { coming = []; ended = false; faults = d.faults; sound = false }

-- nor does a link to a standby, whatever connections it goes over
abbrev pub peer_state : {T : Type 0} → PeerLink T → LinkState
peer_state p = record {
  left = [];
  written = [];
  ended = p.ended;
  reads = p.reads;
  read_faults = p.read_faults;
  write_faults = p.write_faults;
  sound = false;
  lasting = gnil;
}

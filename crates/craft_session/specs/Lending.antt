-- What a session is lent.
use Rattle.dxc_disk.specs.declared.disk.Disk.{Ghosts as DiskOf}
use Rattle.dxc_outside.specs.declared.gate.Gate.{Ghosts as GateOf}
use Rattle.dxc_outside.specs.declared.link.Link.{Ghosts as LinkOf}
use Rattle.craft_session.specs.declared.timestamps.Timestamps.{Ghosts as ClockOf}
use Rattle.craft_session.specs.Seats.{PlaceAt}

-- the ghost members of a link, a clock, a gate and a disk
pub record Members : Type 1 where
  pub K : Type 0
  pub C : Type 0
  pub G : Type 0
  pub D : Type 0
  pub link : LinkOf K
  pub clock : ClockOf C
  pub gate : GateOf G
  pub disk : DiskOf D

abbrev pub members : {K C G D : Type 0} → LinkOf K → ClockOf C → GateOf G → DiskOf D → Members
members {K} {C} {G} {D} k c g d = record { K = K; C = C; G = G; D = D; link = k; clock = c; gate = g; disk = d }

-- what is lent, at a moment: a place, a link, a clock and a gate
abbrev pub Things : Members → Type 0
Things w = PlaceAt × w.K × w.C × w.G

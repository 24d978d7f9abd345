-- What reads an element and writes it to a terminal is lent.
use Rattle.std.specs.Prelude.{◌≡◌}
use Rattle.dxc_disk.specs.Disks.{DiskState}
use Rattle.dxc_outside.specs.Links.{LinkState}
use Rattle.dxc_args.specs.declared.status.Status.{Status}
use Rattle.dxc_leaving.specs.Values.{AnyValue}
use Rattle.dxc_element.specs.Listings.{IsCheck}
use Rattle.dxc_element.specs.Openings.{Named, Opens, Sources, WasLetGo, opened_on}

-- whether opener, disk and link tell what they hold, what a disk holds, and what was let go
pub record Told (D : Type 0) : Type 1 where
  pub opener : Type 0
  pub disk : Type 0
  pub state : D → DiskState
  pub link : Type 0
  pub gone : AnyValue → Type 0

abbrev pub told_by : {D : Type 0} → (opener disk : Type 0) → (D → DiskState) → Type 0 → (AnyValue → Type 0) → Told D
told_by opener disk state link gone = record { opener = opener; disk = disk; state = state; link = link; gone = gone }

-- what an audit or an export is lent, at a moment
pub record Lent (D : Type 0) : Type 0 where
  pub sources : Sources D
  pub terminal : LinkState

abbrev pub lent : {D : Type 0} → Sources D → LinkState → Lent D
lent sources terminal = record { sources = sources; terminal = terminal }

-- nothing was opened and written, and why; or the rows of what was opened were written, unless memory was wanting, and it was let go as it was opened
abbrev pub Checks : {D : Type 0} → Told D → Named → (before after : Lent D) → Status → Type 0
Checks told names before after status = Opens told.opener told.disk told.state told.gone names before.sources after.sources (after.terminal ≡ before.terminal)
    (λ f o u. (after.sources.stops ≡ before.sources.stops) × IsCheck told.link f.shelf o before.terminal after.terminal status
    × WasLetGo told.disk told.state told.gone (opened_on f.disk u.found.disk f.shelf o)) status

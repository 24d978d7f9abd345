-- The one byte that an opening or a reread may have to write.
use Rattle.std.specs.Prelude.{◌≡◌, ◌⊎◌, ℕ, List}
use Rattle.dxc_disk.specs.Disks.{Torn}
use Rattle.dxc_num.specs.Dimensions.{Dimensions}
use Rattle.journal_core.specs.declared.half.Half.{Half}
use Rattle.journal_core.specs.declared.head.Head.{Head}
use Rattle.journal_core.specs.Areas.{area_of}
use Rattle.journal_core.specs.Headers.{IsCurrent}
use Rattle.journal_core.specs.Scans.{end_of, LacksEnd}

-- the file as it was, or, where the byte after the last record of the area that is current lacks, what a write of that byte may have left
abbrev pub SetsEndAlone : Dimensions → List ℕ → List ℕ → Type 0
SetsEndAlone shape old new = (new ≡ old)
    ⊎ ((half : Half) × (head : Head) × IsCurrent shape half head old × LacksEnd (area_of half head.version) old × Torn (end_of (area_of half head.version) old) 1 old new)

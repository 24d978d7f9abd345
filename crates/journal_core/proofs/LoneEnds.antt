-- An opening and a reread write at most the byte after the last record.
use Rattle.std.proofs.Common.{ℕ, List, inl, inr, ⊎_elim, subst}
use Rattle.std.specs.Prelude.{Result}
use Rattle.dxc_disk.specs.Disks.{DiskState, IsDisk, Looks}
use Rattle.dxc_num.specs.Dimensions.{Dimensions}
use Rattle.journal_core.specs.declared.book.Book.{Book}
use Rattle.journal_core.specs.declared.half.Half.{Half}
use Rattle.journal_core.specs.declared.head.Head.{Head}
use Rattle.journal_core.specs.Areas.{area_of}
use Rattle.journal_core.specs.Books.{area}
use Rattle.journal_core.specs.Headers.{IsCurrent}
use Rattle.journal_core.specs.Scans.{SetsEnd}
use Rattle.journal_core.specs.Ends.{SetsEndAlone}
use Rattle.journal_core.proofs.FoundSteps.{found_current}
use Rattle.journal_core.proofs.ResumeSteps.{IsAgain}

-- looks before it change nothing
pub alone_looked : (shape : Dimensions) (a m b : DiskState) → Looks a m → SetsEndAlone shape m.reads_as b.reads_as → SetsEndAlone shape a.reads_as b.reads_as
alone_looked shape a m b looks h = subst (λ (f : List ℕ). SetsEndAlone shape f b.reads_as) looks.same h

-- the end of the area that is current was set right
pub alone_set : (shape : Dimensions) (half : Half) (head : Head) (m b : DiskState) → IsCurrent shape half head m.reads_as → IsDisk b → {T E : Type 0} (result : Result T E) → SetsEnd (area_of half head.version) m b result → SetsEndAlone shape m.reads_as b.reads_as
alone_set shape half head m b current disk_b result sets = ⊎_elim (λ e. inl e) (λ t. inr (half, head, current, t.0, t.1)) (sets.images b.reads_as disk_b.reads_now)

-- the same, of the area that is found again
pub alone_again : (book now : Book) (m b : DiskState) → IsAgain book now m.reads_as → IsDisk b → {T E : Type 0} (result : Result T E) → SetsEnd (area now) m b result → SetsEndAlone book.shape m.reads_as b.reads_as
alone_again book now m b is disk_b result sets = subst (λ (d : Dimensions). SetsEndAlone d m.reads_as b.reads_as) is.shape
    (alone_set now.shape now.half now.head m b (found_current now.shape now.half now.head now.spare m.reads_as is.found) disk_b result sets)

-- What the disk of a start has read since it was handed out.
use Rattle.std.proofs.Common.{◌≡◌, ℕ, inl, inr, ⊎_elim, List, [], Ok, None, ◌∙◌}
use Rattle.dxc_disk.specs.Alls.{all_weaker}
use Rattle.dxc_disk.specs.Disks.{DiskState, IsDisk, ReadsNoMore, files}
use Rattle.journal_core.specs.declared.book.Book.{Book}
use Rattle.journal_core.specs.declared.head.Head.{Head}
use Rattle.journal_core.specs.Headers.{IsNew, Stands, StandsAlike, header}
use Rattle.journal_core.specs.Makes.{IsFresh}
use Rattle.journal_core.specs.Opens.{OpensNew, OpensOld, made_head}
use Rattle.journal_core.proofs.OpenSteps.{new_or_not}
use Rattle.shelf_file.specs.Contents.{Contents}
use Rattle.xc_core.specs.Journals.{IsOld, IsSoFar}
use Rattle.xc_core.specs.Operations.{HasRead, MayBe, start}
use Rattle.xc_core.specs.Reckonings.{Past}
use Rattle.xc_core.proofs.Journalling.{old_by}
use Rattle.xc_core.proofs.Operating.{read_begun}

-- the disk was a when it was handed out, b when the journal was opened, and c once that was read
module _ (shelf : Contents) (first : Past) (a b c : DiskState) (book : Book) (disk : IsDisk a) (then_disk : IsDisk c) (no_more : ReadsNoMore b c) where
  abbrev Begins : List ℕ → Type 0
  Begins file = MayBe first None (start shelf) file

  -- a file that is a journal stands for the same all along
  found_read : (head : Head) (records : List (List ℕ)) → shelf.shape ≡ first.fold.table.shape → IsSoFar first head records → Stands shelf.shape head records a.reads_as → OpensOld shelf.shape a b (Ok book) → HasRead (record { past = first; readings = files a.readings }) [] first c
  found_read head records shape so_far stands old =
      let old_file : (file : List ℕ) → StandsAlike shelf.shape a.reads_as file → IsOld first file = λ file alike. old_by first shelf.shape head records file shape (alike head records stands) so_far in
      read_begun first shelf a c old.read.more disk then_disk (no_more.readings ∙ old.read.readings) (inl (old_file a.reads_as (λ e rs is. is)))
      (all_weaker (StandsAlike shelf.shape a.reads_as) Begins (files old.read.more) (λ file alike. inl (old_file file alike)) old.read.each)

  -- in a new one a journal is made
  made_read : IsNew a.reads_as → OpensNew shelf.shape (made_head shelf.equipped) a b (Ok book) → HasRead (record { past = first; readings = files a.readings }) [] first c
  made_read is new = read_begun first shelf a c new.read.more disk then_disk (no_more.readings ∙ new.read.readings) (inr (inl is))
      (all_weaker (IsFresh (header shelf.shape (made_head shelf.equipped))) Begins (files new.read.more) (λ file fresh. inr fresh) new.read.each)

  pub start_read : (head : Head) (records : List (List ℕ)) → shelf.shape ≡ first.fold.table.shape → IsSoFar first head records → ((IsNew a.reads_as → ⊥) → Stands shelf.shape head records a.reads_as × OpensOld shelf.shape a b (Ok book)) → (IsNew a.reads_as → OpensNew shelf.shape (made_head shelf.equipped) a b (Ok book))
      → HasRead (record { past = first; readings = files a.readings }) [] first c
  start_read head records shape so_far old new = ⊎_elim
      (λ is. made_read is (new is))
      (λ not. let x = old not in found_read head records shape so_far x.0 x.1)
      (new_or_not a.reads_as)

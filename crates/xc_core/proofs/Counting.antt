-- What was counted stays, also where a checkpoint is written.
use Rattle.std.proofs.Common.{◌≡◌, inl, inr, ⊎_elim, ℕ, false, List, length, sym, ap, ◌∙◌, subst, arith}
use Rattle.std.specs.Prelude.{Result, Ok, Err, OnOk}
use Rattle.std.proofs.lemmas.List.{take_all}
use Rattle.dxc_num.specs.Dimensions.{Dimensions}
use Rattle.dxc_disk.specs.Disks.{DiskState, IsDisk, LeavesOnly}
use Rattle.dxc_model.specs.Equipment.{modules_in}
use Rattle.dxc_model.specs.Tables.{Board}
use Rattle.journal_core.specs.declared.book.Book.{Book}
use Rattle.journal_core.specs.declared.head.Head.{Head}
use Rattle.journal_core.specs.declared.spare.SpareArea.TheVariants.{Tried}
use Rattle.journal_core.specs.declared.version.Version.TheVariants.{Two}
use Rattle.journal_core.specs.Headers.{Stands, next_generation}
use Rattle.journal_core.specs.Books.{IsKept, IsWhole, doubted, draft_of, is_tried, listed, next_head, rows, turned}
use Rattle.journal_core.specs.Turns.{Continues, Keeps, MayStand, Turns}
use Rattle.journal_core.proofs.AcknowledgeSteps.{Kept, keeps_may}
use Rattle.journal_core.proofs.BookMends.{kept_stands}
use Rattle.journal_core.proofs.HeaderSteps.{never}
use Rattle.journal_core.proofs.KeepSteps.{none_only, only_weaker}
use Rattle.paull_matrix.specs.Colourings.{Colouring}
use Rattle.xc_recovery.specs.Rows.{checkpoint}
use Rattle.xc_core.specs.Journals.{HasCheckpoint, IsCounted, StillCounts}

-- where no call was made
pub kept_now : (s : DiskState) (book : Book) → IsWhole book → IsKept s book → IsDisk s → Keeps s s book
kept_now s book whole kept disk = keeps_may s s book (none_only s (MayStand book (listed book s.reads_as) (doubted book s.reads_as) (rows book s.reads_as)) disk (kept_stands s book whole kept))

-- a call whose list was the same before, and which has no turn that was tried
pub kept_from : (old mid new : DiskState) (before m : Book) → m.shape ≡ before.shape → m.head ≡ before.head → listed m mid.reads_as ≡ listed before old.reads_as → is_tried m.spare ≡ false → Keeps mid new m → LeavesOnly mid new (Kept before (listed before old.reads_as) (rows before old.reads_as))
kept_from old mid new before m shape head same untried keeps = only_weaker mid new (Kept m (listed m mid.reads_as) (rows m mid.reads_as)) (Kept before (listed before old.reads_as) (rows before old.reads_as))
    (λ file is. ⊎_elim
    (λ k. inl (subst (λ (w : Dimensions × Head × List (List ℕ)). Continues w.0 w.1 w.2 file) (λ i. (shape i, head i, same i)) k))
    (λ r. absurd (never untried r.0))
    is)
    keeps

module _ (old : DiskState) (before : Book) (t : Board) (c : Colouring) where
  pub counts_same : (new : DiskState) (after : Book) → after.shape ≡ before.shape → after.head ≡ before.head → listed after new.reads_as ≡ listed before old.reads_as → StillCounts old before new after t c
  counts_same new after shape head same file is = inl (inl (subst (λ (w : Dimensions × Head × List (List ℕ)). Continues w.0 w.1 w.2 file) (λ i. (shape i, head i, same i)) is))

  pub keeps_counted : (new : DiskState) → LeavesOnly old new (Kept before (listed before old.reads_as) (rows before old.reads_as)) → LeavesOnly old new (IsCounted old before t c)
  keeps_counted new keeps = only_weaker old new (Kept before (listed before old.reads_as) (rows before old.reads_as)) (IsCounted old before t c) (λ file is. inl is) keeps

  -- a call with no turn that was tried
  pub counted_on : (mid new : DiskState) (m : Book) → StillCounts old before mid m t c → is_tried m.spare ≡ false → Keeps mid new m → LeavesOnly mid new (IsCounted old before t c)
  counted_on mid new m still untried keeps = only_weaker mid new (Kept m (listed m mid.reads_as) (rows m mid.reads_as)) (IsCounted old before t c)
      (λ file is. ⊎_elim (λ k. still file k) (λ r. absurd (never untried r.0)) is) keeps

  -- the rows of a draft after this list
  module _ (mid : DiskState) (m : Book) (shape : m.shape ≡ before.shape) (head : m.head ≡ before.head) (same : listed m mid.reads_as ≡ listed before old.reads_as) (equipment : modules_in t.shape (draft_of m.spare).equipped ≡ t.equipped) (drafted : rows m mid.reads_as ≡ checkpoint t c) where
    has_rows : (file : List ℕ) → Continues m.shape (next_head m) (rows m mid.reads_as) file → HasCheckpoint before t c file
    has_rows file is = record {
      equipped = (draft_of m.spare).equipped;
      same = equipment;
      continues = subst (λ (w : Dimensions × Head × List (List ℕ)). Continues w.0 (record { version = Two; generation = next_generation w.1.generation; equipped = (draft_of m.spare).equipped }) w.2 file) (λ i. (shape i, head i, drafted i)) is;
    }

    stands_whole : (file : List ℕ) → Stands m.shape (next_head m) (rows m mid.reads_as) file → Continues m.shape (next_head m) (rows m mid.reads_as) file
    stands_whole file stands = record { all = rows m mid.reads_as; stands = stands; begins = take_all (length (rows m mid.reads_as)) (rows m mid.reads_as) (omega arith) }

    -- the turn to them
    pub turn_counted : (new : DiskState) → Keeps mid new (record m { spare = Tried (draft_of m.spare) }) → LeavesOnly mid new (IsCounted old before t c)
    turn_counted new keeps =
        let come : Book = record m { spare = Tried (draft_of m.spare) } in
        only_weaker mid new (Kept come (listed come mid.reads_as) (rows come mid.reads_as)) (IsCounted old before t c)
        (λ file is. ⊎_elim (λ k. counts_same mid m shape head same file k) (λ r. inr (has_rows file (stands_whole file r.1))) is)
        keeps

    pub turned_counts : (new : DiskState) (after : Book) → after ≡ turned m (draft_of m.spare) → listed after new.reads_as ≡ rows m mid.reads_as → StillCounts old before new after t c
    turned_counts new after book lists file is = inr (has_rows file (subst (λ (w : Dimensions × Head × List (List ℕ)). Continues w.0 w.1 w.2 file) (λ i. ((book i).shape, (book i).head, lists i)) is))

    -- a turn that succeeded
    pub turn_counts : (new : DiskState) (after : Book) {T E : Type 0} (result : Result T E) → Turns mid new m after result → OnOk result (after ≡ turned m (draft_of m.spare)) → OnOk result (StillCounts old before new after t c)
    turn_counts new after (Ok v) turns book = turned_counts new after book turns.ok.1
    turn_counts new after (Err e) turns book = tt

-- what was counted after a call that left list and rows as they were
module _ (old mid : DiskState) (before m : Book) (t : Board) (c : Colouring) (shape : m.shape ≡ before.shape) (head : m.head ≡ before.head) (spare : m.spare ≡ before.spare) (same : listed m mid.reads_as ≡ listed before old.reads_as) (lines : rows m mid.reads_as ≡ rows before old.reads_as) where
  pub counted_from : (file : List ℕ) → IsCounted mid m t c file → IsCounted old before t c file
  counted_from file is = ⊎_elim
      (λ k. inl (⊎_elim
      (λ list. inl (subst (λ (w : Dimensions × Head × List (List ℕ)). Continues w.0 w.1 w.2 file) (λ i. (shape i, head i, same i)) list))
      (λ turn. inr (
        ap is_tried (sym spare) ∙ turn.0,
        subst (λ (w : Dimensions × Head × List (List ℕ)). Stands w.0 w.1 w.2 file) (λ i. (shape i, record { version = Two; generation = next_generation (head i).generation; equipped = (draft_of (spare i)).equipped }, lines i)) turn.1,
      ))
      k))
      (λ x. inr (record { equipped = x.equipped; same = x.same; continues = subst (λ (w : Dimensions × Head). Continues w.0 (record { version = Two; generation = next_generation w.1.generation; equipped = x.equipped }) (checkpoint t c) file) (λ i. (shape i, head i)) x.continues }))
      is

  pub still_from : (new : DiskState) (after : Book) {T E : Type 0} (result : Result T E) → OnOk result (StillCounts mid m new after t c) → OnOk result (StillCounts old before new after t c)
  still_from new after (Ok v) still = λ file is. counted_from file (still file is)
  still_from new after (Err e) still = tt

  pub left_counted : (a b : DiskState) → LeavesOnly a b (IsCounted mid m t c) → LeavesOnly a b (IsCounted old before t c)
  left_counted a b only = only_weaker a b (IsCounted mid m t c) (IsCounted old before t c) counted_from only

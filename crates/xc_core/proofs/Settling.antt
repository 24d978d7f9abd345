-- A journal that is mended.
use Rattle.std.proofs.Common.{◌≡◌, inl, inr, ⊎_elim, ℕ, Bool, true, false, List, Option, Some, None, refl, sym, ap, ◌∙◌, subst}
use Rattle.std.specs.Prelude.{Result, Ok, Err}
use Rattle.dxc_disk.specs.Disks.{DiskState, LeavesOnly}
use Rattle.journal_core.specs.declared.book.Book.{Book}
use Rattle.journal_core.specs.Books.{IsReady, IsWhole, is_tried, next_head}
use Rattle.journal_core.specs.Turns.{Mends}
use Rattle.journal_core.proofs.HeaderSteps.{never}
use Rattle.journal_core.proofs.KeepSteps.{only_weaker}
use Rattle.dxc_model.specs.declared.op.Op.{Op}
use Rattle.xc_core.specs.declared.provisioner.Provisioner.{Provisioner}
use Rattle.xc_core.specs.Begins.{MayDoubt}
use Rattle.xc_core.specs.Provisioners.{IsHome}
use Rattle.xc_core.specs.Reckonings.{Past}
use Rattle.xc_core.specs.Journals.{IsOldOrDoubted}
use Rattle.xc_core.proofs.Journalling.{doubts_on, home_on, may_called, tried_on}
use Rattle.xc_core.proofs.Pasts.{home_with, none_held, with_journal}

module _ {D : Type 0} (told : Type 0) (state : D → DiskState) (b : Past) (p : Provisioner D) (h : IsHome told state b p) (j : D × Book) (whole : IsWhole j.1) where
  -- it is mended, and nothing is in doubt
  pub settled_home : {T E : Type 0} (v : T) → (told → Mends {T = T} {E = E} (state p.journal.0) (state j.0) p.journal.1 j.1 (Ok v)) → j.1 ≡ record p.journal.1 { to_mend = false } → IsHome told state b (with_journal p j None)
  settled_home v mends book = home_with told state b p h j None whole (ap (λ (x : Book). x.shape) book) (none_held b)
      (home_on told (state p.journal.0) (state j.0) p.journal.1 j.1 b p.doubt h.journal (λ t. (mends t).kept) (ap (λ (x : Book). x.head) book) (λ t. (mends t).same) None
      (λ marked. absurd (never (ap (λ (x : Book). x.to_mend) book) marked))
      (tried_on told (state p.journal.0) (state j.0) p.journal.1 j.1 b p.doubt h.journal (λ t. (mends t).kept) (ap (λ (x : Book). x.head) book) (λ t. (mends t).same)
      (λ tried. sym (ap (λ (x : Book). is_tried x.spare) book) ∙ tried) (ap next_head book) (λ t _. (mends t).lines)))

  -- or isn't, and all is as it was
  pub unsettled_home : {T E : Type 0} (e : E) → (told → Mends {T = T} {E = E} (state p.journal.0) (state j.0) p.journal.1 j.1 (Err e)) → j.1 ≡ p.journal.1 → IsHome told state b (with_journal p j p.doubt)
  unsettled_home e mends book = home_with told state b p h j p.doubt whole (ap (λ (x : Book). x.shape) book) h.past.doubts
      (home_on told (state p.journal.0) (state j.0) p.journal.1 j.1 b p.doubt h.journal (λ t. (mends t).kept) (ap (λ (x : Book). x.head) book) (λ t. (mends t).same) p.doubt
      (doubts_on told (state p.journal.0) (state j.0) p.journal.1 j.1 b p.doubt h.journal (λ t. (mends t).kept) (ap (λ (x : Book). x.head) book) (λ t. (mends t).same)
      (λ marked. ap (λ (x : Book). x.to_mend) (sym book) ∙ marked) (λ t _. (mends t).err))
      (tried_on told (state p.journal.0) (state j.0) p.journal.1 j.1 b p.doubt h.journal (λ t. (mends t).kept) (ap (λ (x : Book). x.head) book) (λ t. (mends t).same)
      (λ tried. sym (ap (λ (x : Book). is_tried x.spare) book) ∙ tried) (ap next_head book) (λ t _. (mends t).lines)))

-- at any moment of it
pub mend_left : {D : Type 0} (told : Type 0) (state : D → DiskState) (b : Past) (p : Provisioner D) → IsHome told state b p → told → {T E : Type 0} (result : Result T E) (new : DiskState) (after : Book) → Mends (state p.journal.0) new p.journal.1 after result → LeavesOnly (state p.journal.0) new (IsOldOrDoubted b p.doubt)
mend_left told state b p h t result new after mends = may_called told (state p.journal.0) p.journal.1 b p.doubt (sym h.past.shape) h.journal t new mends.any_moment

-- what stands beside an operation in doubt stands beside an earlier one, which was the same where there is one still
doubted_from : (b : Past) (old new : Option Op) → ((op : Op) → new ≡ Some op → old ≡ Some op) → (file : List ℕ) → IsOldOrDoubted b new file → IsOldOrDoubted b old file
doubted_from b old new kept file is = ⊎_elim (λ was. inl was) (λ more. inr (more.0, kept more.0 more.1, more.2)) is

pub settled_left : (b : Past) (old new : Option Op) (a c : DiskState) → ((op : Op) → new ≡ Some op → old ≡ Some op) → LeavesOnly a c (IsOldOrDoubted b new) → LeavesOnly a c (IsOldOrDoubted b old)
settled_left b old new a c kept only = only_weaker a c (IsOldOrDoubted b new) (IsOldOrDoubted b old) (λ file is. doubted_from b old new kept file is) only

-- what isn't unmarked is marked
pub is_marked : (b : Bool) → (b ≡ false → ⊥) → b ≡ true
is_marked true not = refl
is_marked false not = absurd (not refl)

-- what is in doubt after a plan that left journal and doubt as they were
pub doubts_as : {D : Type 0} (op : Op) (old mid new : Provisioner D) → mid.journal ≡ old.journal → mid.doubt ≡ old.doubt → MayDoubt op mid new → MayDoubt op old new
doubts_as {D} op old mid new journal doubt may = elim may [
  | inl is ↦ inl (record {
    doubt = is.doubt ∙ doubt;
    book = is.book ∙ ap (λ (j : D × Book). j.1) journal;
    marked = ap (λ (j : D × Book). j.1.to_mend) (sym journal) ∙ is.marked;
  })
  | inr other ↦ inr other
]

-- a journal that was ready is so after an append that failed
pub ready_still : (before after : Book) (marked : Bool) (reach : ℕ) → after ≡ record before { to_mend = marked; reach = reach } → IsReady before → IsReady after
ready_still before after marked reach is ready = subst IsReady (sym is) (record { below = ready.below; still = ready.still; version = ready.version })

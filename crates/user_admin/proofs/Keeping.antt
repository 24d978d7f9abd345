-- What the users' journal stands for, before and after its calls.
use Rattle.std.proofs.Common.{◌≡◌, ◌⊎◌, inl, inr, ⊎_elim, ℕ, ◌+◌, Bool, true, false, List, [], ◌∷◌, ◌++◌, Option, Some, refl, sym, ◌∙◌, ap, subst}
use Rattle.std.specs.Prelude.{Result, Ok, Err, OnOk, OnErr}
use Rattle.dxc_num.specs.Dimensions.{Dimensions}
use Rattle.dxc_disk.specs.Disks.{DiskState, IsDisk, Leaves, LeavesOnly}
use Rattle.journal_core.specs.declared.book.Book.{Book}
use Rattle.journal_core.specs.declared.head.Head.{Head}
use Rattle.journal_core.specs.Headers.{IsOldOrLonger, Stands}
use Rattle.journal_core.specs.Books.{IsKept, IsReady, IsWhole, doubted, is_tried, listed, next_head, rows}
use Rattle.journal_core.specs.Turns.{Appends, MayStand, Mends}
use Rattle.journal_core.proofs.HeaderSteps.{never}
use Rattle.journal_core.proofs.BookMends.{kept_stands}
use Rattle.journal_core.proofs.KeepSteps.{none_only, only_on, only_weaker}
use Rattle.user_admin.specs.declared.op.UserChange.{UserChange}
use Rattle.user_admin.specs.Users.{Users}
use Rattle.user_admin.specs.Changes.{Fits, effect}
use Rattle.user_admin.specs.Records.{Means}
use Rattle.user_admin.specs.Files.{FoldsTo, IsFileOn, IsOldOrDoubted, IsOldOrOneMore}
use Rattle.user_admin.specs.Journals.{HoldsDoubt, IsAtHome}
use Rattle.user_admin.proofs.Always.{record_stands}

-- a file with these records stands for the users that they lead to
pub file_by : (shape : Dimensions) (head : Head) (shelf users : Users) (records : List (List ℕ)) (file : List ℕ) → Stands shape head records file → FoldsTo shelf records users → IsFileOn shape shelf users file
file_by shape head shelf users records file stands folds = record { head = head; records = records; stands = stands; folds = folds }

-- what a crash may leave, where list, record in doubt and rows are known
module _ (told : Type 0) (s : DiskState) (book : Book) (shelf users : Users) (doubt : Option UserChange) (t : told) (lists : FoldsTo shelf (listed book s.reads_as) users)
    (doubts : book.to_mend ≡ true → HoldsDoubt told s book shelf users doubt) (tried : is_tried book.spare ≡ true → FoldsTo shelf (rows book s.reads_as) users) where
  -- the list with the record in doubt
  doubted_list : (d : HoldsDoubt told s book shelf users doubt) → FoldsTo shelf (listed book s.reads_as ++ doubted book s.reads_as ∷ []) (effect d.change users)
  doubted_list d = record_stands shelf users (listed book s.reads_as) (doubted book s.reads_as) d.change lists (d.reads t) d.fits

  pub may_stand : (file : List ℕ) → MayStand book (listed book s.reads_as) (doubted book s.reads_as) (rows book s.reads_as) file → IsOldOrDoubted book.shape shelf users doubt file
  may_stand file may = ⊎_elim
      (λ old. inl (file_by book.shape book.head shelf users (listed book s.reads_as) file old lists))
      (λ other. ⊎_elim
      (λ more. let d = doubts more.0 in inr (d.change, d.asked, file_by book.shape book.head shelf (effect d.change users) (listed book s.reads_as ++ doubted book s.reads_as ∷ []) file more.1 (doubted_list d)))
      (λ turn. inl (file_by book.shape (next_head book) shelf users (rows book s.reads_as) file turn.1 (tried turn.0)))
      other)
      may

module _ (told : Type 0) (s : DiskState) (book : Book) (shelf users : Users) (doubt : Option UserChange) (home : IsAtHome told s book shelf users doubt) (t : told) where
  pub may_doubt : (file : List ℕ) → MayStand book (listed book s.reads_as) (doubted book s.reads_as) (rows book s.reads_as) file → IsOldOrDoubted book.shape shelf users doubt file
  may_doubt = may_stand told s book shelf users doubt t (home.lists t) home.doubts (home.tried t)

  pub home_images : IsWhole book → Leaves s (IsOldOrDoubted book.shape shelf users doubt)
  home_images whole c image = may_doubt c (kept_stands s book whole (home.kept t) c image)

  -- no call on the journal
  pub none_called : IsWhole book → IsDisk s → LeavesOnly s s (IsOldOrDoubted book.shape shelf users doubt)
  none_called whole disk = none_only s (IsOldOrDoubted book.shape shelf users doubt) disk (home_images whole)

  -- calls that leave no more than that
  pub may_called : (new : DiskState) → LeavesOnly s new (MayStand book (listed book s.reads_as) (doubted book s.reads_as) (rows book s.reads_as)) → LeavesOnly s new (IsOldOrDoubted book.shape shelf users doubt)
  may_called new only = only_weaker s new (MayStand book (listed book s.reads_as) (doubted book s.reads_as) (rows book s.reads_as)) (IsOldOrDoubted book.shape shelf users doubt) may_doubt only

  -- an append
  pub append_called : (c : UserChange) (bytes : List ℕ) (new : DiskState) → Means shelf bytes c → Fits c users → LeavesOnly s new (IsOldOrLonger book.shape book.head (listed book s.reads_as) bytes) → LeavesOnly s new (IsOldOrOneMore book.shape shelf users doubt c)
  append_called c bytes new means fits only = only_weaker s new (IsOldOrLonger book.shape book.head (listed book s.reads_as) bytes) (IsOldOrOneMore book.shape shelf users doubt c)
      (λ file either. ⊎_elim
      (λ old. inl (inl (file_by book.shape book.head shelf users (listed book s.reads_as) file old (home.lists t))))
      (λ more. inr (file_by book.shape book.head shelf (effect c users) (listed book s.reads_as ++ bytes ∷ []) file more (record_stands shelf users (listed book s.reads_as) bytes c (home.lists t) means fits)))
      either)
      only

-- A journal whose book and list are as they were.
module _ (told : Type 0) (old new : DiskState) (before after : Book) (shelf users : Users) (doubt : Option UserChange) (home : IsAtHome told old before shelf users doubt) (kept : told → IsKept new after)
    (same : told → listed after new.reads_as ≡ listed before old.reads_as) where
  pub lists_on : told → FoldsTo shelf (listed after new.reads_as) users
  lists_on t = subst (λ (w : List (List ℕ)). FoldsTo shelf w users) (sym (same t)) (home.lists t)

  -- the record in doubt too, if there is one
  pub doubts_on : (after.to_mend ≡ true → before.to_mend ≡ true) → (told → before.to_mend ≡ true → doubted after new.reads_as ≡ doubted before old.reads_as) → after.to_mend ≡ true → HoldsDoubt told new after shelf users doubt
  doubts_on was reads marked =
      let d = home.doubts (was marked) in
      record { change = d.change; asked = d.asked; fits = d.fits; reads = λ t. subst (λ (w : List ℕ). Means shelf w d.change) (sym (reads t (was marked))) (d.reads t) }

  pub home_on : (then_doubt : Option UserChange) → (after.to_mend ≡ true → HoldsDoubt told new after shelf users then_doubt) → (told → is_tried after.spare ≡ true → FoldsTo shelf (rows after new.reads_as) users) → IsAtHome told new after shelf users then_doubt
  home_on then_doubt doubts tried = record { kept = kept; lists = lists_on; doubts = doubts; tried = tried }

  -- the rows of a turn that was tried, where they are as they were
  pub tried_on : (is_tried after.spare ≡ true → is_tried before.spare ≡ true) → (told → rows after new.reads_as ≡ rows before old.reads_as) → told → is_tried after.spare ≡ true → FoldsTo shelf (rows after new.reads_as) users
  tried_on was lines t marked = subst (λ (w : List (List ℕ)). FoldsTo shelf w users) (sym (lines t)) (home.tried t (was marked))

-- a journal with no checkpoint begun has tried no turn
pub untried : (book : Book) → IsWhole book → book.turning ≡ false → is_tried book.spare ≡ false
untried book whole still = (whole.idle still).0

-- a mend
module _ (told : Type 0) (old new : DiskState) (before after : Book) (shelf users : Users) (doubt : Option UserChange) (home : IsAtHome told old before shelf users doubt) where
  mended_home : {T E : Type 0} (v : T) → (told → Mends {T = T} {E = E} old new before after (Ok v)) → after ≡ record before { to_mend = false } → IsAtHome told new after shelf users doubt
  mended_home v mends book = home_on told old new before after shelf users doubt home (λ t. (mends t).kept) (λ t. (mends t).same) doubt
      (λ marked. absurd (never (ap (λ (x : Book). x.to_mend) book) marked))
      (tried_on told old new before after shelf users doubt home (λ t. (mends t).kept) (λ t. (mends t).same) (λ tried. sym (ap (λ (x : Book). is_tried x.spare) book) ∙ tried) (λ t. (mends t).lines))

  unmended_home : {T E : Type 0} (e : E) → (told → Mends {T = T} {E = E} old new before after (Err e)) → after ≡ before → IsAtHome told new after shelf users doubt
  unmended_home e mends book = home_on told old new before after shelf users doubt home (λ t. (mends t).kept) (λ t. (mends t).same) doubt
      (doubts_on told old new before after shelf users doubt home (λ t. (mends t).kept) (λ t. (mends t).same) (λ marked. ap (λ (x : Book). x.to_mend) (sym book) ∙ marked) (λ t _. (mends t).err))
      (tried_on told old new before after shelf users doubt home (λ t. (mends t).kept) (λ t. (mends t).same) (λ tried. sym (ap (λ (x : Book). is_tried x.spare) book) ∙ tried) (λ t. (mends t).lines))

  pub mend_home : {T E : Type 0} (result : Result T E) → (told → Mends old new before after result) → OnOk result (after ≡ record before { to_mend = false }) → OnErr result (after ≡ before) → IsAtHome told new after shelf users doubt
  mend_home (Ok v) mends ok err = mended_home v mends ok
  mend_home (Err e) mends ok err = unmended_home e mends err

-- A journal that is ready, once a record is appended, or tried.
module _ (told : Type 0) (old new : DiskState) (before after : Book) (shelf users : Users) (doubt : Option UserChange) (home : IsAtHome told old before shelf users doubt) (kept : told → IsKept new after)
    (c : UserChange) (bytes : List ℕ) (means : Means shelf bytes c) (fits : Fits c users) where
  pub appended : (reach count : ℕ) → after ≡ record before { count = count; reach = reach } → before.to_mend ≡ false → is_tried before.spare ≡ false → (told → listed after new.reads_as ≡ listed before old.reads_as ++ bytes ∷ []) → (then_doubt : Option UserChange) → IsAtHome told new after shelf (effect c users) then_doubt
  appended reach count book whole quiet lists then_doubt = record {
    kept = kept;
    lists = λ t. subst (λ (w : List (List ℕ)). FoldsTo shelf w (effect c users)) (sym (lists t)) (record_stands shelf users (listed before old.reads_as) bytes c (home.lists t) means fits);
    doubts = λ marked. absurd (never (ap (λ (x : Book). x.to_mend) book ∙ whole) marked);
    tried = λ t tried. absurd (never (ap (λ (x : Book). is_tried x.spare) book ∙ quiet) tried);
  }

  pub failed : (reach : ℕ) (marked : Bool) → after ≡ record before { to_mend = marked; reach = reach } → is_tried before.spare ≡ false → (told → listed after new.reads_as ≡ listed before old.reads_as) → (told → after.to_mend ≡ true → doubted after new.reads_as ≡ bytes) → IsAtHome told new after shelf users (Some c)
  failed reach marked book quiet same reads = home_on told old new before after shelf users doubt home kept same (Some c)
      (λ tried. record { change = c; asked = refl; fits = fits; reads = λ t. subst (λ (w : List ℕ). Means shelf w c) (sym (reads t tried)) means })
      (λ t tried. absurd (never (ap (λ (x : Book). is_tried x.spare) book ∙ quiet) tried))

-- one run of calls after the other, which leave no more than that
pub left_on : (a b c : DiskState) (d e : Dimensions) (shelf users : Users) (doubt : Option UserChange) → e ≡ d → LeavesOnly a b (IsOldOrDoubted d shelf users doubt) → LeavesOnly b c (IsOldOrDoubted e shelf users doubt) → LeavesOnly a c (IsOldOrDoubted d shelf users doubt)
left_on a b c d e shelf users doubt same first next = only_on a b c (IsOldOrDoubted d shelf users doubt) first (subst (λ (x : Dimensions). LeavesOnly b c (IsOldOrDoubted x shelf users doubt)) same next)

pub more_left : (a b : DiskState) (d : Dimensions) (shelf users : Users) (doubt : Option UserChange) (c : UserChange) → LeavesOnly a b (IsOldOrDoubted d shelf users doubt) → LeavesOnly a b (IsOldOrOneMore d shelf users doubt c)
more_left a b d shelf users doubt c only = only_weaker a b (IsOldOrDoubted d shelf users doubt) (IsOldOrOneMore d shelf users doubt c) (λ file is. inl is) only

-- An append after calls that made the journal ready, by its result.
module _ (told : Type 0) (first old new : DiskState) (at before after : Book) (shelf users : Users) (c : UserChange) (bytes : List ℕ) (means : Means shelf bytes c) (fits : Fits c users) (ready : IsReady before × (before.to_mend ≡ false)) (whole : IsWhole before)
    (come : (doubt : Option UserChange) → IsAtHome told first at shelf users doubt → IsAtHome told old before shelf users doubt) where
  pub append_kept : {T E : Type 0} (result : Result T E) → (told → Appends old new before after result bytes) → OnOk result (after ≡ record before { count = before.count + 1; reach = after.reach })
      → OnOk result ((doubt then_doubt : Option UserChange) → IsAtHome told first at shelf users doubt → IsAtHome told new after shelf (effect c users) then_doubt)
  append_kept (Ok v) appends book = λ doubt then_doubt home. appended told old new before after shelf users doubt (come doubt home) (λ t. (appends t).kept) c bytes means fits after.reach (before.count + 1) book ready.1 (untried before whole ready.0.still) (λ t. (appends t).ok.1) then_doubt
  append_kept (Err e) appends book = tt

  pub append_failed : {T E : Type 0} (result : Result T E) → (told → Appends old new before after result bytes) → OnErr result (after ≡ record before { to_mend = after.to_mend; reach = after.reach })
      → OnErr result ((doubt : Option UserChange) → IsAtHome told first at shelf users doubt → IsAtHome told new after shelf users doubt ⊎ IsAtHome told new after shelf users (Some c))
  append_failed (Ok v) appends book = tt
  append_failed (Err e) appends book = λ doubt home. inr (failed told old new before after shelf users doubt (come doubt home) (λ t. (appends t).kept) c bytes means fits after.reach after.to_mend book (untried before whole ready.0.still) (λ t. (appends t).err) (λ t. (appends t).doubt))

pub append_shape : {T E : Type 0} (result : Result T E) (before after : Book) → OnOk result (after ≡ record before { count = before.count + 1; reach = after.reach }) → OnErr result (after ≡ record before { to_mend = after.to_mend; reach = after.reach }) → after.shape ≡ before.shape
append_shape (Ok v) before after ok err = ap (λ (x : Book). x.shape) ok
append_shape (Err e) before after ok err = ap (λ (x : Book). x.shape) err

pub append_equipped : {T E : Type 0} (result : Result T E) (before after : Book) → OnOk result (after ≡ record before { count = before.count + 1; reach = after.reach }) → OnErr result (after ≡ record before { to_mend = after.to_mend; reach = after.reach }) → after.head.equipped ≡ before.head.equipped
append_equipped (Ok v) before after ok err = ap (λ (x : Book). x.head.equipped) ok
append_equipped (Err e) before after ok err = ap (λ (x : Book). x.head.equipped) err

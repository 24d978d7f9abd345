-- An opening of the users: the disk's journal, and its records.
use Rattle.std.proofs.Common.{◌≡◌, ◌≢◌, ◌⊎◌, inl, inr, ⊎_elim, ℕ, ◌+◌, ◌-◌, ◌<◌, ◌≤◌, false, append-nil, length-append, List, [], ◌++◌, length, None, Result, Ok, Err, refl, sym, ◌∙◌, ap, subst, arith}
use Rattle.std.specs.Prelude.{replicate, slice_index}
use Rattle.std.specs.FinMap.{len}
use Rattle.std.proofs.lemmas.List.{length-replicate, length-take}
use Rattle.std.proofs.lemmas.Bool.Decides.{leb_tells}
use Rattle.dxc_num.specs.Dimensions.{Dimensions}
use Rattle.dxc_disk.specs.Disks.{DiskState, CountsOn, IsDisk, IsSettled, IsSound, IsSynced, Leaves, LeavesOnly, Looks, ReadsNoMore, ReadsOnly, Spends, files}
use Rattle.dxc_disk.proofs.DiskSteps.{goes_on, no_more_synced, sound_on, spends_more, spends_on}
use Rattle.dxc_disk.proofs.LookSteps.{looks_settled}
use Rattle.dxc_disk.proofs.ReadingSteps.{files_on, only_as, reads_last}
use Rattle.journal_core.specs.declared.area.Area.{Area}
use Rattle.journal_core.specs.declared.book.Book.{Book}
use Rattle.journal_core.specs.declared.fault.JournalWhy.{JournalWhy}
use Rattle.journal_core.specs.declared.fault.JournalWhy.TheVariants.{BadHeader}
use Rattle.journal_core.specs.declared.head.Head.{Head}
use Rattle.journal_core.specs.Records.{listed_in, stands_in}
use Rattle.journal_core.specs.Headers.{IsNew, Stands, StandsAlike, header}
use Rattle.journal_core.specs.Makes.{IsFresh}
use Rattle.journal_core.specs.Books.{IsKept, IsWhole, area, is_tried, listed}
use Rattle.journal_core.specs.Opens.{Finds, Founds, IsOpened, IsRefused, OpensNew, OpensOld, made_head}
use Rattle.journal_core.proofs.AreaSteps.{most_most}
use Rattle.journal_core.proofs.BookMends.{kept_stands}
use Rattle.journal_core.proofs.HeaderSteps.{never}
use Rattle.journal_core.proofs.KeepSteps.{none_only}
use Rattle.journal_core.proofs.StandSteps.{stands_once}
use Rattle.shelf_file.specs.Contents.{Contents}
use Rattle.user_admin.specs.declared.state.UserState.{UserState}
use Rattle.user_admin.specs.Users.{Users, shelf_users}
use Rattle.user_admin.specs.Changes.{most_users}
use Rattle.user_admin.specs.Spellable.{AreDescribed}
use Rattle.user_admin.specs.Files.{FoldsTo}
use Rattle.user_admin.specs.Journals.{IsAtHome, IsBadRecord}
use Rattle.user_admin.specs.Histories.{Opening}
use Rattle.user_admin.specs.Operations.{EndedBy, HasRead, IsFileAfter, IsFileOf, MayBeAtStart, ended_at}
use Rattle.user_admin.specs.States.{IsOfShelf, StandsFor, opening_of, recorded}
use Rattle.user_admin.specs.Openings.{Begins, HasBadRecord, IsOpening, LeavesOpened}
use Rattle.user_admin.proofs.Keeping.{file_by, untried}
use Rattle.user_admin.proofs.Ending.{holds_all, none_ended}
use Rattle.user_admin.proofs.Folding.{fold_spellable}
use Rattle.user_admin.proofs.Operating.{since_end}
use Rattle.user_admin.proofs.Standing.{paid_counted, stands_at}

le_or_lt : (a b : ℕ) → (a ≤ b) ⊎ (b < a)
le_or_lt a b = ⊎_elim (λ x. inl x.1) (λ x. inr x.1) (leb_tells a b)

is_or_not : (a b : ℕ) → (a ≡ b) ⊎ (a ≢ b)
is_or_not a b = ⊎_elim
    (λ le. ⊎_elim (λ ge. inl (omega (arith, le, ge))) (λ lt. inr (omega (arith, lt))) (le_or_lt b a))
    (λ gt. inr (omega (arith, gt)))
    (le_or_lt a b)

new_or_old : (file : List ℕ) → IsNew file ⊎ (IsNew file → ⊥)
new_or_old file = ⊎_elim
    (λ few. inl (inl few))
    (λ some. ⊎_elim
    (λ short. ⊎_elim
    (λ set. inr (λ new. ⊎_elim (λ x. omega (arith, some, x)) (λ x. x.1 set) new))
    (λ unset. inl (inr (short, unset)))
    (is_or_not (slice_index file 0) 165))
    (λ long. inr (λ new. ⊎_elim (λ x. omega (arith, some, x)) (λ x. omega (arith, long, x.0)) new))
    (le_or_lt (length file) 33))
    (le_or_lt (length file) 1)

-- a file that was refused for its header isn't new
pub bad_header : (d : Dimensions) (h : Head) (a b : DiskState) (w : JournalWhy) (bytes : List ℕ) → w ≡ BadHeader bytes → ((IsNew a.reads_as → ⊥) → OpensOld d a b (Err w)) → (IsNew a.reads_as → OpensNew d h a b (Err w))
    → (IsNew a.reads_as → ⊥) × IsRefused d a b bytes
bad_header d h a b w bytes is old new =
    let not_new : IsNew a.reads_as → ⊥ = λ n. subst (λ (x : JournalWhy). Founds d h b (Err x)) is (new n).founds in
    (not_new, subst (λ (x : JournalWhy). Finds d a b (Err x)) is (old not_new).finds)

-- the file of a journal that was opened stands for its list
opened_stands : (d : Dimensions) (b : DiskState) (book : Book) → IsDisk b → IsWhole book → book.to_mend ≡ false → book.turning ≡ false → IsOpened d b book → Stands d book.head (listed book b.reads_as) b.reads_as
opened_stands d b book disk whole mended still opened =
    let here : Stands book.shape book.head (listed book b.reads_as) b.reads_as = ⊎_elim
    (λ old. old)
    (λ other. ⊎_elim (λ more. absurd (never mended more.0)) (λ turn. absurd (never (untried book whole still) turn.0)) other)
    (kept_stands b book whole opened.kept b.reads_as disk.reads_now) in
    subst (λ (x : Dimensions). Stands x book.head (listed book b.reads_as) b.reads_as) opened.shape_is here

-- and for no other
listed_once : (d : Dimensions) (h : Head) (records : List (List ℕ)) (b : DiskState) (book : Book) → IsDisk b → IsWhole book → book.to_mend ≡ false → book.turning ≡ false → IsOpened d b book → Stands d h records b.reads_as → listed book b.reads_as ≡ records
listed_once d h records b book disk whole mended still opened stands = stands_once d h book.head records (listed book b.reads_as) b.reads_as stands (opened_stands d b book disk whole mended still opened)

-- nor is one with a bad record
pub bad_record : (shelf : Contents) (h : Head) (a b : DiskState) (book : Book) (i : ℕ) (users : Users) (left : List ℕ) → left ≡ b.reads_as → IsDisk b → IsWhole book → book.to_mend ≡ false → book.turning ≡ false → ((IsNew a.reads_as → ⊥) → OpensOld shelf.shape a b (Ok book)) → (IsNew a.reads_as → OpensNew shelf.shape h a b (Ok book))
    → IsBadRecord (shelf_users shelf) (listed book b.reads_as) i users → (IsNew a.reads_as → ⊥) × HasBadRecord a.reads_as left shelf i
bad_record shelf h a b book i users left same disk whole mended still old new bad =
    let not_new : IsNew a.reads_as → ⊥ = λ n.
    let f = (new n).founds in
    absurd (let low : i < length {A = List ℕ} [] = subst (λ (l : List (List ℕ)). i < length l) (listed_once shelf.shape h [] b book disk whole mended still f.0 f.2) bad.within in omega (arith, low)) in
    let found = (old not_new).finds in (
      not_new,
      record {
        head = book.head;
        records = listed book b.reads_as;
        stands = found.1;
        stays = subst (λ (f : List ℕ). Stands shelf.shape book.head (listed book b.reads_as) f) (sym same) (opened_stands shelf.shape b book disk whole mended still found.0);
        users = users;
        bad = bad;
      },
    )

-- what holds of a crash at any moment of a call holds still where only looks came after it
looked_on : (a b c : DiskState) (P : List ℕ → Type 0) → IsDisk b → LeavesOnly a b P → Looks b c → LeavesOnly a c P
looked_on a b c P disk first looks =
    let image_has : (x : List ℕ) → c.may_leave x → P x = λ x image. first.each x (disk.counts_now a.moment x first.on.later (looks.crash x image)) in
    record {
      on = goes_on a b c first.on looks.time.on;
      each = λ x left. ⊎_elim (λ mid. first.each x mid) (λ image. image_has x image) (looks.time.nothing_else a.moment x first.on.later left);
      before = λ t x le left. ⊎_elim (λ mid. first.before t x le mid) (λ image. inr (image_has x image)) (looks.time.nothing_else t x (omega (arith, le, first.on.later)) left);
    }

-- the moments of an opening, and of looks after it
pub leaves_opened : (shelf : Contents) (a b c : DiskState) (result : Result Book JournalWhy) → IsDisk b → ((IsNew a.reads_as → ⊥) → OpensOld shelf.shape a b result) → (IsNew a.reads_as → OpensNew shelf.shape (made_head shelf.equipped) a b result)
    → Looks b c → LeavesOpened shelf a c
leaves_opened shelf a b c result disk old new looks = record {
  found = λ not. looked_on a b c (λ x. a.may_leave x ⊎ StandsAlike shelf.shape a.reads_as x) disk (old not).any_moment looks;
  made = λ n settled. looked_on a b c (IsFresh (header shelf.shape (made_head shelf.equipped))) disk ((new n).any_moment settled) looks;
}

-- where none was called
pub none_opened : (shelf : Contents) (a : DiskState) → IsDisk a → LeavesOpened shelf a a
none_opened shelf a disk = record {
  found = λ not. none_only a (λ x. a.may_leave x ⊎ StandsAlike shelf.shape a.reads_as x) disk (λ x image. inl image);
  made = λ n settled. none_only a (IsFresh (header shelf.shape (made_head shelf.equipped))) disk (λ x image. inl (subst IsNew (sym (settled x image)) n));
}

listed_few : (at : Area) (n : ℕ) (file : List ℕ) → length (listed_in at n file) ≤ n
listed_few at n file = let e = length-take n (stands_in at file) in omega (arith, e)

pub recorded_number : (book : Book) (file : List ℕ) → length (recorded book file) ≡ book.count
recorded_number book file =
    let few : length (listed book file) ≤ book.count = listed_few (area book) book.count file in
    let whole = length-append (listed book file) (replicate (book.count - length (listed book file)) []) in
    let rest = length-replicate {A = List ℕ} (book.count - length (listed book file)) [] in
    omega (arith, few, whole, rest)

recorded_is : (book : Book) (file : List ℕ) → book.count ≡ length (listed book file) → recorded book file ≡ listed book file
recorded_is book file counts =
    let none : book.count - length (listed book file) ≡ 0 = omega (arith, counts) in
    ap (λ (n : ℕ). listed book file ++ replicate n []) none ∙ append-nil (listed book file)

-- a disk whose journal was opened, and whose records were taken
module _ {D : Type 0} (told : Type 0) (state : D → DiskState) (shelf : Contents) (a b : DiskState) (book : Book) (s : UserState D) (records : List (List ℕ))
    (shelf_kept : s.origin.shelf.value ≡ shelf)
    (handed : (state s.origin.disk.value).readings ≡ a.readings)
    (users_kept : s.origin.users.value ≡ s.lists.value.users)
    (journal_kept : s.origin.journal.value ≡ s.journal)
    (sid : s.sid ≡ shelf.sid)
    (described : s.lists.value.described ≡ shelf_users shelf)
    (few : len (shelf_users shelf) ≤ most_users)
    (spelled : AreDescribed (shelf_users shelf))
    (old : told → (IsNew a.reads_as → ⊥) → OpensOld shelf.shape a b (Ok book))
    (new : told → IsNew a.reads_as → OpensNew shelf.shape (made_head shelf.equipped) a b (Ok book))
    (was_disk : told → IsDisk a)
    (disk : told → IsDisk b)
    (disk_now : told → IsDisk (state s.journal.0))
    (counts_on : CountsOn (state s.journal.0))
    (whole_book : IsWhole book)
    (shape : book.shape ≡ shelf.shape)
    (whole : book.to_mend ≡ false)
    (still : book.turning ≡ false)
    (same : s.journal.1 ≡ book)
    (looks : told → Looks b (state s.journal.0))
    (no_more : told → ReadsNoMore b (state s.journal.0))
    (kept : told → IsKept b book → IsKept (state s.journal.0) s.journal.1)
    (number : length records ≡ book.count)
    (read : told → records ≡ listed book b.reads_as)
    (folds : FoldsTo (shelf_users shelf) records s.lists.value.users) where
  abbrev opening : Opening
  opening = record {
    shelf = shelf;
    records = recorded s.journal.1 (state s.journal.0).reads_as;
    users = s.lists.value.users;
    readings = files a.readings;
    faults = (state s.journal.0).faults;
    margin = (state s.journal.0).margin;
    room = (state s.journal.0).room;
  }

  opening_is : opening_of state s ≡ opening
  opening_is = λ k. record {
    shelf = shelf_kept k;
    records = recorded (journal_kept k).1 (state (journal_kept k).0).reads_as;
    users = users_kept k;
    readings = files (handed k);
    faults = (state (journal_kept k).0).faults;
    margin = (state (journal_kept k).0).margin;
    room = (state (journal_kept k).0).room;
  }

  -- the journal was well kept when it was opened
  was_kept : told → IsKept b book
  was_kept x = ⊎_elim (λ n. (new x n).founds.0.kept) (λ not. (old x not).finds.0.kept) (new_or_old a.reads_as)

  was_settled : told → IsSettled b
  was_settled x = ⊎_elim (λ n. (new x n).founds.0.settled) (λ not. (old x not).finds.0.settled) (new_or_old a.reads_as)

  -- what was read is what the journal lists
  listed_is : told → records ≡ listed s.journal.1 (state s.journal.0).reads_as
  listed_is x = read x ∙ sym (λ k. listed (same k) ((looks x).same k))

  records_are : told → records ≡ opening.records
  records_are x = listed_is x ∙ sym (recorded_is s.journal.1 (state s.journal.0).reads_as (kept x (was_kept x)).counts)

  journal_home : IsAtHome told (state s.journal.0) s.journal.1 (shelf_users shelf) s.lists.value.users None
  journal_home = record {
    kept = λ x. kept x (was_kept x);
    lists = λ x. subst (λ (rs : List (List ℕ)). FoldsTo (shelf_users shelf) rs s.lists.value.users) (listed_is x) folds;
    doubts = λ marked. absurd (never (ap (λ (x : Book). x.to_mend) same ∙ whole) marked);
    tried = λ x tried. absurd (never (ap (λ (x : Book). is_tried x.spare) same ∙ untried book whole_book still) tried);
  }

  is_opening : IsOpening told a.reads_as shelf opening
  is_opening = record {
    shelf_is = refl;
    folded = record {
      read = records;
      number = number ∙ ap (λ (x : Book). x.count) (sym same) ∙ sym (recorded_number s.journal.1 (state s.journal.0).reads_as);
      same = records_are;
      folds = folds;
    };
    made = λ x n. let f = (new x n).founds in sym (records_are x) ∙ (read x ∙ listed_once shelf.shape (made_head shelf.equipped) [] b book (disk x) whole_book whole still f.0 f.2);
    found = λ x not. let f = (old x not).finds in (book.head, subst (λ (rs : List (List ℕ)). Stands shelf.shape book.head rs a.reads_as) (sym (read x) ∙ records_are x) f.1);
  }

  of_shelf : IsOfShelf opening s
  of_shelf = record { sid = sid; described = described; shape = ap (λ (x : Book). x.shape) same ∙ shape; few = few; spelled = spelled }

  -- a file that stands for what was found stands for the users at the opening
  alike_opened : (x : told) → (IsNew a.reads_as → ⊥) → (file : List ℕ) → StandsAlike shelf.shape a.reads_as file → IsFileOf opening [] file
  alike_opened x not file alike = file_by shelf.shape book.head (shelf_users shelf) s.lists.value.users (listed book b.reads_as) file (alike book.head (listed book b.reads_as) (old x not).finds.1)
      (subst (λ (rs : List (List ℕ)). FoldsTo (shelf_users shelf) rs s.lists.value.users) (read x) folds)

  -- what it read then
  first_read : told → MayBeAtStart opening a.reads_as
  first_read x = ⊎_elim (λ n. inr (inl n)) (λ not. inl (alike_opened x not a.reads_as (λ e rs stands. stands))) (new_or_old a.reads_as)

  -- and in the start
  start_read : told → ReadsOnly a b (MayBeAtStart opening)
  start_read x = ⊎_elim
      (λ n. only_as (IsFresh (header shelf.shape (made_head shelf.equipped))) (MayBeAtStart opening) a b (λ file fresh. inr fresh) (new x n).read)
      (λ not. only_as (StandsAlike shelf.shape a.reads_as) (MayBeAtStart opening) a b (λ file alike. inl (alike_opened x not file alike)) (old x not).read)
      (new_or_old a.reads_as)

  was_synced : told → IsSynced b
  was_synced x = ⊎_elim (λ n. (new x n).synced) (λ not. (old x not).synced) (new_or_old a.reads_as)

  reads_all : (x : told) → files (state s.journal.0).readings ≡ files a.readings ++ (files (start_read x).more ++ [])
  reads_all x =
      let only = start_read x in
      ap files (no_more x).readings ∙ (ap files only.readings ∙ (files_on a.readings only.more ∙ ap (λ (fs : List (List ℕ)). files a.readings ++ fs) (sym (append-nil (files only.more)))))

  read_opened : told → Leaves (state s.journal.0) (IsFileAfter opening []) → HasRead opening [] (state s.journal.0)
  read_opened x images =
      let only = start_read x in
      record {
        started = files only.more;
        operations = [];
        start = (subst (MayBeAtStart opening) (sym (reads_last a (was_disk x))) (first_read x), only.each);
        are = tt;
        entered = refl;
        readings = reads_all x;
        synced = inl (no_more_synced b (state s.journal.0) (no_more x) (was_synced x));
        begun = (state s.journal.0).moment;
        in_order = omega arith;
        since = λ n. since_end (λ r. ended_at (state s.journal.0).moment [] n ≤ r.at) (state s.journal.0) (files a.readings) (files only.more) [] n (omega arith) (reads_all x);
        left = λ n file left. holds_all opening [] file (EndedBy (state s.journal.0).moment [] (ended_at (state s.journal.0).moment [] n))
            (images file ((disk_now x).only_now file (subst (λ (t : ℕ). (state s.journal.0).left_since t file) (none_ended (state s.journal.0).moment n) left)));
      }

  stands_opened : StandsFor told state opening s []
  stands_opened = stands_at told state opening s [] disk_now of_shelf (subst IsWhole (sym same) whole_book) None (λ c e. absurd cc) journal_home refl
      record { opened = (folds.0, folds.2, folds.3); entries = tt } (omega arith) (λ enough. record { room = omega arith; margin = omega arith })
      (paid_counted opening [] (state s.journal.0) counts_on (omega arith) (λ enough. record { room = omega arith; margin = omega arith })) (fold_spellable (shelf_users shelf) records s.lists.value.users spelled folds) read_opened

  pub opened : IsOpening told a.reads_as shelf (opening_of state s) × Begins told state s
  opened = (
    subst (λ (o : Opening). IsOpening told a.reads_as shelf o) (sym opening_is) is_opening,
    record {
      stands = subst (λ (o : Opening). StandsFor told state o s []) (sym opening_is) stands_opened;
      counts = sym (recorded_number s.journal.1 (state s.journal.0).reads_as) ∙ ap (λ (o : Opening). length o.records) (sym opening_is);
      faults = ap (λ (o : Opening). o.faults) opening_is;
      margin = ap (λ (o : Opening). o.margin) opening_is;
      room = ap (λ (o : Opening). o.room) opening_is;
      settled = λ x. looks_settled b (state s.journal.0) (looks x) (was_settled x);
    },
  )

-- a journal counts few records
few_counted : (book : Book) → IsWhole book → book.count ≤ 65_536
few_counted book whole = omega (arith, whole.limit, most_most book.half book.head.version)

-- n for the opening of the journal, and one for each record
pub fold_room : (n : ℕ) (a b c : DiskState) (book : Book) → IsWhole book → Spends n a b → Spends book.count b c → Spends (n + 65_536) a c
fold_room n a b c book whole called looked = spends_on n 65_536 a b c called (spends_more book.count 65_536 b c (few_counted book whole) looked)

-- what is sound for both is sound for the records
pub fold_sound : (n : ℕ) (a b : DiskState) (book : Book) → IsWhole book → a.faults ≤ b.faults → Spends n a b → IsSound (n + 65_536) a → IsSound book.count b
fold_sound n a b book whole later called sound =
    let few = few_counted book whole in
    sound_on n book.count a b later (record { margin = sound.margin; enough = omega (arith, sound.enough, few) }) called

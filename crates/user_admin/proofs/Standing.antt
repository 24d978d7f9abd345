-- When a state stands for the history that is one entry longer.
use Rattle.std.proofs.Common.{◌≡◌, ◌⊎◌, inl, inr, ⊎_elim, ℕ, ◌+◌, ◌≤◌, ◌<◌, Bool, true, false, not, ◌&&◌, if◌then◌else◌, List, [], ◌∷◌, ◌++◌, append-nil, append_assoc, Option, Some, None, Result, Ok, refl, sym, ◌∙◌, ap, subst, arith}
use Rattle.std.specs.Prelude.{min, nat_le}
use Rattle.std.specs.FinMap.{len}
use Rattle.dxc_causes.specs.Causes.{Rose, last}
use Rattle.dxc_num.specs.Dimensions.{Dimensions}
use Rattle.dxc_disk.specs.Disks.{CountsOn, DiskState, IsDisk, IsSpent, IsSynced, Leaves, LeavesOnly, Spends}
use Rattle.dxc_disk.proofs.DiskSteps.{spends_none}
use Rattle.dxc_model.specs.declared.cause.Cause.{Cause}
use Rattle.dxc_model.specs.declared.cause.Cause.TheVariants.{BadIdentity, DiskFault, LastOfClassS, UnknownUser, UserThere, UsersFull}
use Rattle.dxc_model.specs.declared.user.Class.{Class}
use Rattle.dxc_outside.specs.declared.stopped.Stopped.{Stopped}
use Rattle.journal_core.specs.declared.book.Book.{Book}
use Rattle.journal_core.specs.Books.{IsWhole, listed, next_head, rows}
use Rattle.journal_core.proofs.BookMends.{kept_stands}
use Rattle.journal_core.proofs.HeaderSteps.{never}
use Rattle.journal_core.proofs.KeepSteps.{none_only, only_weaker}
use Rattle.user_admin.specs.declared.op.User.{User}
use Rattle.user_admin.specs.declared.op.UserChange.{UserChange}
use Rattle.user_admin.specs.declared.op.UserDone.{UserDone}
use Rattle.user_admin.specs.declared.op.UserDone.TheVariants as done
use Rattle.user_admin.specs.declared.op.UserEntry.{UserEntry}
use Rattle.tl1_users.specs.declared.op.UserOp.{UserOp}
use Rattle.tl1_users.specs.declared.op.UserOp.TheVariants as asked_for
use Rattle.user_admin.specs.declared.op.UserOutcome.{UserOutcome}
use Rattle.user_admin.specs.declared.op.UserOutcome.TheVariants.{Answered, Denied, Done, Failed}
use Rattle.user_admin.specs.declared.state.Lists.{Lists}
use Rattle.user_admin.specs.declared.state.UserState.{UserState}
use Rattle.tl1_users.specs.Commands.{is_of_class_s}
use Rattle.user_admin.specs.Users.{Users, is_there, named, shelf_users}
use Rattle.user_admin.specs.Changes.{after, effect, most_users}
use Rattle.user_admin.specs.Verdicts.{Grants, Refuses, class_or, has_pid, is_last_s, refusal, refused_deletion, refused_edit, refused_pid}
use Rattle.tl1_users.specs.Commands.{NamesUid}
use Rattle.user_admin.specs.Spellable.{AreDescribed, AreSpellable}
use Rattle.user_admin.specs.Files.{IsFileOn, IsOldOrDoubted, IsOldOrOneMore}
use Rattle.user_admin.specs.Journals.{IsAtHome}
use Rattle.user_admin.specs.Histories.{IsInDoubt, IsLegal, IsLegalFrom, IsReading, MayCome, Opening, change_in, changes_of, failure_in, failures, users_after}
use Rattle.user_admin.specs.Laws.{AreNamed}
use Rattle.user_admin.specs.Openings.{asked_before}
use Rattle.user_admin.specs.Operations.{HasRead, IsFileAfter, IsFileOf, IsFileWithDoubt, MayBe}
use Rattle.user_admin.specs.States.{IsOfShelf, IsPaid, SpendsOf, StandsFor, cost, entry, most_room, refused, room_in}
use Rattle.user_admin.proofs.Always.{limit_kept_always, shelf_users_named, users_named}
use Rattle.user_admin.proofs.Granted.{none_some, same_some}
use Rattle.user_admin.proofs.Keeping.{file_by, home_images}
use Rattle.user_admin.specs.Marks.{ArePassing, PassesBy}
use Rattle.user_admin.proofs.Leading.{after-append}
use Rattle.user_admin.proofs.Marking.{no_failure_by, nothing_by}
use Rattle.user_admin.proofs.Operating.{read_more}
use Rattle.user_admin.proofs.Spelling.{always_spellable, granted_spellable}

-- one entry more
changes_more : (h : List UserEntry) (e : UserEntry) → changes_of (h ++ e ∷ []) ≡ changes_of h ++ change_in e.outcome
changes_more [] e = append-nil (change_in e.outcome)
changes_more (x ∷ xs) e = ap (λ (cs : List UserChange). change_in x.outcome ++ cs) (changes_more xs e) ∙ sym (append_assoc (change_in x.outcome) (changes_of xs) (change_in e.outcome))

pub users_more : (o : Opening) (h : List UserEntry) (e : UserEntry) → users_after o (h ++ e ∷ []) ≡ after (change_in e.outcome) (users_after o h)
users_more o h e = ap (λ (cs : List UserChange). after cs o.users) (changes_more h e) ∙ after-append (changes_of h) (change_in e.outcome) o.users

legal_from : (sid : List ℕ) (m : Users) (h : List UserEntry) (e : UserEntry) → IsLegalFrom sid m h → MayCome sid e.op (after (changes_of h) m) e.outcome → IsLegalFrom sid m (h ++ e ∷ [])
legal_from sid m [] e l may = (may, tt)
legal_from sid m (x ∷ xs) e l may = (l.0, legal_from sid (after (change_in x.outcome) m) xs e l.1 (subst (λ (k : Users). MayCome sid e.op k e.outcome) (after-append (change_in x.outcome) (changes_of xs) m) may))

pub legal_more : (o : Opening) (h : List UserEntry) (e : UserEntry) → IsLegal o h → MayCome o.shelf.sid e.op (users_after o h) e.outcome → IsLegal o (h ++ e ∷ [])
legal_more o h e l may = record { opened = l.opened; entries = legal_from o.shelf.sid o.users h e l.entries may }

-- what is in doubt stays so after an entry that changes nothing
pub doubt_more : (o : Opening) (h : List UserEntry) (e : UserEntry) (c : UserChange) → change_in e.outcome ≡ [] → IsInDoubt o h c → IsInDoubt o (h ++ e ∷ []) c
doubt_more o h e c none d = record {
  before = d.before;
  entry = d.entry;
  behind = d.behind ++ e ∷ [];
  whole = ap (λ (l : List UserEntry). l ++ e ∷ []) d.whole ∙ append_assoc d.before (d.entry ∷ d.behind) (e ∷ []);
  failed = d.failed;
  change = d.change;
  none_done = changes_more d.behind e ∙ (λ i. d.none_done i ++ none i);
}

-- an operation that failed by the disk leaves its change in doubt
pub doubt_own : (o : Opening) (h : List UserEntry) (n : ℕ) (op : UserOp) (c : UserChange) → Grants o.shelf.sid op (users_after o h) c → IsInDoubt o (h ++ entry n op (Failed DiskFault) ∷ []) c
doubt_own o h n op c granted = record {
  before = h;
  entry = entry n op (Failed DiskFault);
  behind = [];
  whole = refl;
  failed = refl;
  change = granted;
  none_done = refl;
}

pub failures_more : (h : List UserEntry) (e : UserEntry) → failures (h ++ e ∷ []) ≡ failures h + failure_in e.outcome
failures_more [] e = omega arith
failures_more (x ∷ xs) e = let more = failures_more xs e in omega (arith, more)

pub room_more : (h : List UserEntry) (e : UserEntry) → room_in (h ++ e ∷ []) ≡ room_in h + cost e.outcome
room_more [] e = omega arith
room_more (x ∷ xs) e = let more = room_more xs e in omega (arith, more)

-- the disk counted no fault of an operation, or one
pub same_faults : (first before now : ℕ) (h : List UserEntry) (e : UserEntry) → failure_in e.outcome ≡ 0 → min (first + failures h) last ≤ before → before ≤ now → min (first + failures (h ++ e ∷ [])) last ≤ now
same_faults first before now h e none was later = let more = failures_more h e in omega (arith, more, none, was, later)

pub one_fault : (first before now : ℕ) (h : List UserEntry) (e : UserEntry) → failure_in e.outcome ≡ 1 → min (first + failures h) last ≤ before → Rose before now → min (first + failures (h ++ e ∷ [])) last ≤ now
one_fault first before now h e one was rose = let more = failures_more h e in omega (arith, more, one, was, rose)

-- what the disk has counted
pub paid_counted : (o : Opening) (h : List UserEntry) (s : DiskState) → CountsOn s → min (o.faults + failures h) last ≤ s.faults → SpendsOf o (room_in h) s → IsPaid o h
paid_counted o h s on counted spends enough =
    let left = spends (omega (arith, enough)) in
    let some : 0 < s.room = omega (arith, enough, left.room) in
    let below = on some in
    let margin = left.margin in
    omega (arith, counted, below, margin)

pub spends_more : (o : Opening) (h : List UserEntry) (e : UserEntry) (s t : DiskState) → SpendsOf o (room_in h) s → Spends (cost e.outcome) s t → SpendsOf o (room_in (h ++ e ∷ [])) t
spends_more o h e s t was spent enough =
    let more = room_more h e in
    let first = was (omega (arith, enough, more)) in
    let next : IsSpent (cost e.outcome) s t = spent (omega (arith, enough, more, first.room)) in
    record { room = omega (arith, more, first.room, next.room); margin = omega (arith, first.margin, next.margin) }

-- as a journal at home reads, it stands for the users, or for these after the change in doubt, and then it is to be mended
home_reads : (told : Type 0) (s : DiskState) (book : Book) (shelf users : Users) (doubt : Option UserChange) → IsAtHome told s book shelf users doubt → told → IsWhole book → IsDisk s
    → IsFileOn book.shape shelf users s.reads_as ⊎ (((c : UserChange) × (doubt ≡ Some c) × IsFileOn book.shape shelf (effect c users) s.reads_as) × (book.to_mend ≡ true))
home_reads told s book shelf users doubt home t whole disk = ⊎_elim
    (λ old. inl (file_by book.shape book.head shelf users (listed book s.reads_as) s.reads_as old (home.lists t)))
    (λ other. ⊎_elim
    (λ more.
    ⊎_elim (λ old. inl old) (λ doubted. inr (doubted, more.0)) (home_images told s book shelf users doubt home t whole s.reads_as disk.reads_now))
    (λ turn. inl (file_by book.shape (next_head book) shelf users (rows book s.reads_as) s.reads_as turn.1 (home.tried t turn.0)))
    other)
    (kept_stands s book whole (home.kept t) s.reads_as disk.reads_now)

module _ {D : Type 0} (told : Type 0) (state : D → DiskState) (o : Opening) (s : UserState D) (h : List UserEntry) (disk : told → IsDisk (state s.journal.0)) (of_shelf : IsOfShelf o s) (whole : IsWhole s.journal.1)
    (doubt : Option UserChange) (doubted : (c : UserChange) → doubt ≡ Some c → IsInDoubt o h c) (home : IsAtHome told (state s.journal.0) s.journal.1 (shelf_users o.shelf) (users_after o h) doubt) where
  -- the change in doubt, by the history
  by_history : (file : List ℕ) → (c : UserChange) × (doubt ≡ Some c) × IsFileOn s.journal.1.shape (shelf_users o.shelf) (effect c (users_after o h)) file → IsFileWithDoubt o h file
  by_history file has = (has.0, doubted has.0 has.1, subst (λ (d : Dimensions). IsFileOn d (shelf_users o.shelf) (effect has.0 (users_after o h)) file) of_shelf.shape has.2)

  as_old : (file : List ℕ) → IsFileOn s.journal.1.shape (shelf_users o.shelf) (users_after o h) file → IsFileOf o h file
  as_old file has = subst (λ (d : Dimensions). IsFileOn d (shelf_users o.shelf) (users_after o h) file) of_shelf.shape has

  pub after_doubt : (file : List ℕ) → IsOldOrDoubted s.journal.1.shape (shelf_users o.shelf) (users_after o h) doubt file → IsFileAfter o h file
  after_doubt file is = ⊎_elim (λ old. inl (as_old file old)) (λ more. inr (by_history file more)) is

  images_after : told → Leaves (state s.journal.0) (IsFileAfter o h)
  images_after t file image = after_doubt file (home_images told (state s.journal.0) s.journal.1 (shelf_users o.shelf) (users_after o h) doubt home t whole file image)

  pub stands_at : s.lists.value.users ≡ users_after o h → IsLegal o h → min (o.faults + failures h) last ≤ (state s.journal.0).faults → SpendsOf o (room_in h) (state s.journal.0) → IsPaid o h → AreSpellable (shelf_users o.shelf) (users_after o h)
      → (told → Leaves (state s.journal.0) (IsFileAfter o h) → HasRead o h (state s.journal.0)) → StandsFor told state o s h
  stands_at users legal faults spends paid spellable read = record {
    users = users;
    legal = legal;
    reads = λ t. ⊎_elim (λ old. inl (as_old (state s.journal.0).reads_as old)) (λ more. inr (by_history (state s.journal.0).reads_as more.0, more.1)) (home_reads told (state s.journal.0) s.journal.1 (shelf_users o.shelf) (users_after o h) doubt home t whole (disk t));
    images = images_after;
    faults = faults;
    spends = spends;
    paid = paid;
    of_shelf = of_shelf;
    spellable = spellable;
    book = whole;
    doubt = doubt;
    doubted = doubted;
    home = home;
    read = λ t. read t (images_after t);
  }

-- the operation's entry
pub entered : {D : Type 0} (told : Type 0) (state : D → DiskState) (o : Opening) (s : UserState D) (h : List UserEntry) (e : UserEntry) → (told → IsDisk (state s.journal.0)) → IsOfShelf o s → IsWhole s.journal.1 → (doubt : Option UserChange) → ((c : UserChange) → doubt ≡ Some c → IsInDoubt o (h ++ e ∷ []) c)
    → IsAtHome told (state s.journal.0) s.journal.1 (shelf_users o.shelf) (after (change_in e.outcome) (users_after o h)) doubt → s.lists.value.users ≡ after (change_in e.outcome) (users_after o h) → IsLegal o h → MayCome o.shelf.sid e.op (users_after o h) e.outcome
    → min (o.faults + failures (h ++ e ∷ [])) last ≤ (state s.journal.0).faults → SpendsOf o (room_in (h ++ e ∷ [])) (state s.journal.0) → CountsOn (state s.journal.0) → AreSpellable (shelf_users o.shelf) (after (change_in e.outcome) (users_after o h))
    → (told → Leaves (state s.journal.0) (IsFileAfter o (h ++ e ∷ [])) → HasRead o (h ++ e ∷ []) (state s.journal.0)) → StandsFor told state o s (h ++ e ∷ [])
entered told state o s h e disk of_shelf whole doubt doubted home users legal may faults spends counts spellable read =
    let more = sym (users_more o h e) in
    stands_at told state o s (h ++ e ∷ []) disk of_shelf whole doubt doubted (subst (λ (m : Users). IsAtHome told (state s.journal.0) s.journal.1 (shelf_users o.shelf) m doubt) more home)
    (users ∙ more) (legal_more o h e legal may) faults spends (paid_counted o (h ++ e ∷ []) (state s.journal.0) counts faults spends) (subst (λ (m : Users). AreSpellable (shelf_users o.shelf) m) more spellable) read

-- what holds of each cause of the users holds of the first
module _ (P : Cause → Type 0) (there : P UserThere) (full : P UsersFull) (unknown : P UnknownUser) (last_s : P LastOfClassS) (identity : P BadIdentity) where
  entry_cause : (b d : Bool) (q : Cause) → (if b then Some UserThere else if d then Some UsersFull else None) ≡ Some q → P q
  entry_cause true d q is = subst P (same_some _ _ is) there
  entry_cause false true q is = subst P (same_some _ _ is) full
  entry_cause false false q is = absurd (none_some q is)

  last_cause : (b : Bool) (q : Cause) → (if b then Some LastOfClassS else None) ≡ Some q → P q
  last_cause true q is = subst P (same_some _ _ is) last_s
  last_cause false q is = absurd (none_some q is)

  edit_cause : (u : Option User) (class : Option Class) (users : Users) (q : Cause) → refused_edit u class users ≡ Some q → P q
  edit_cause None class users q is = subst P (same_some _ _ is) unknown
  edit_cause (Some u) class users q is = last_cause (is_last_s u users && not (is_of_class_s (class_or class u.class))) q is

  deletion_cause : (u : Option User) (users : Users) (q : Cause) → refused_deletion u users ≡ Some q → P q
  deletion_cause None users q is = subst P (same_some _ _ is) unknown
  deletion_cause (Some u) users q is = last_cause (is_last_s u users) q is

  held_cause : (b : Bool) (q : Cause) → (if b then None else Some BadIdentity) ≡ Some q → P q
  held_cause true q is = absurd (none_some q is)
  held_cause false q is = subst P (same_some _ _ is) identity

  pid_cause : (old : List ℕ) (u : Option User) (q : Cause) → refused_pid old u ≡ Some q → P q
  pid_cause old None q is = subst P (same_some _ _ is) identity
  pid_cause old (Some u) q is = held_cause (has_pid old u) q is

  rows_cause : (b : Bool) (q : Cause) → (if b then None else Some UnknownUser) ≡ Some q → P q
  rows_cause true q is = absurd (none_some q is)
  rows_cause false q is = subst P (same_some _ _ is) unknown

  pub by_users : (op : UserOp) (users : Users) (q : Cause) → refusal op users ≡ Some q → P q
  by_users (asked_for.Enter uid pid class) users q is = entry_cause (is_there uid users) (nat_le most_users (len users)) q is
  by_users (asked_for.Edit uid pid class) users q is = edit_cause (named uid users) class users q is
  by_users (asked_for.Delete uid) users q is = deletion_cause (named uid users) users q is
  by_users (asked_for.EditPid uid old new) users q is = pid_cause old.items (named uid users) q is
  by_users (asked_for.Rows None) users q is = absurd (none_some q is)
  by_users (asked_for.Rows (Some uid)) users q is = rows_cause (is_there uid users) q is
  by_users (asked_for.Look uid) users q is = absurd (none_some q is)
  by_users (asked_for.LogIn uid) users q is = absurd (none_some q is)
  by_users (asked_for.Cancel uid) users q is = absurd (none_some q is)

-- no cause of the users is the disk's
pub not_by_disk : (op : UserOp) (users : Users) (q : Cause) → refusal op users ≡ Some q → refused q ≡ Denied q
not_by_disk = by_users (λ q. refused q ≡ Denied q) refl refl refl refl refl

pub asked_none : (op : UserOp) (users : Users) (q : Cause) → refusal op users ≡ Some q → asked_before q ≡ []
asked_none = by_users (λ q. asked_before q ≡ []) refl refl refl refl refl

abbrev pub denies : Cause → Result UserDone Stopped
denies q = Ok (done.Denied q)

abbrev stands_against : Result UserDone Stopped → Bool
stands_against (Ok (done.Denied DiskFault)) = true
stands_against _ = false

pub other_than_disk : (op : UserOp) (users : Users) (q : Cause) → refusal op users ≡ Some q → denies q ≡ denies DiskFault → ⊥
other_than_disk op users q is same = never (by_users (λ q. stands_against (denies q) ≡ false) refl refl refl refl refl op users q is) (ap stands_against same)

-- what a state that stands for a history may keep
pub record MayKeep (l : Lists) : Type 0 where
  pub spelled : AreDescribed l.described × AreSpellable l.described l.users
  pub by_names : AreNamed l.described × AreNamed l.users
  pub few : len l.users ≤ most_users

module _ {D : Type 0} (told : Type 0) (state : D → DiskState) (o : Opening) (s : UserState D) (h : List UserEntry) (st : StandsFor told state o s h) where
  pub may_keep : MayKeep s.lists.value
  may_keep = record {
    spelled = (subst AreDescribed (sym st.of_shelf.described) st.of_shelf.spelled, subst (λ (w : Users × Users). AreSpellable w.0 w.1) (λ i. (sym st.of_shelf.described i, sym st.users i)) st.spellable);
    by_names = (subst AreNamed (sym st.of_shelf.described) (shelf_users_named o.shelf), subst AreNamed (sym st.users) (users_named o h st.legal));
    few = subst (λ (m : Users). len m ≤ most_users) (sym st.users) (limit_kept_always o h st.legal st.of_shelf.few);
  }

  -- as it reads it stands for them
  reads_after : told → IsFileAfter o h (state s.journal.0).reads_as
  reads_after x = ⊎_elim (λ old. inl old) (λ more. inr more.0) (st.reads x)

  -- one that made calls
  read_calls : (told → IsDisk (state s.journal.0)) → (new : DiskState) → (told → IsDisk new) → (e : UserEntry) → (told → LeavesOnly (state s.journal.0) new (MayBe o h e.op)) → (told → IsSynced new ⊎ ((c : UserChange) × IsInDoubt o (h ++ e ∷ []) c))
      → told → Leaves new (IsFileAfter o (h ++ e ∷ [])) → HasRead o (h ++ e ∷ []) new
  read_calls disk new disk_now e left synced x images = read_more o h (state s.journal.0) (disk x) (st.read x) new (disk_now x) e (left x) (reads_after x) images (synced x)

  -- no call
  pub none_left : told → IsDisk (state s.journal.0) → (op : UserOp) → LeavesOnly (state s.journal.0) (state s.journal.0) (MayBe o h op)
  none_left x disk op = none_only (state s.journal.0) (MayBe o h op) disk (λ file image. inl (st.images x file image))

  -- an operation that made none, and no change
  read_none : (told → IsDisk (state s.journal.0)) → (e : UserEntry) → change_in e.outcome ≡ [] → told → Leaves (state s.journal.0) (IsFileAfter o (h ++ e ∷ [])) → HasRead o (h ++ e ∷ []) (state s.journal.0)
  read_none disk e none = read_calls disk (state s.journal.0) disk e (λ x. none_left x (disk x) e.op) (λ x. ⊎_elim (λ synced. inl synced) (λ doubt. inr (doubt.0, doubt_more o h e doubt.0 none doubt.1)) (st.read x).synced)

  pub granted_at : (op : UserOp) (c : UserChange) → Grants s.sid op s.lists.value.users c → Grants o.shelf.sid op (users_after o h) c
  granted_at op c granted = subst (λ (w : List ℕ × Users). Grants w.0 op w.1 c) (λ i. (st.of_shelf.sid i, st.users i)) granted

  pub refused_at : (op : UserOp) (q : Cause) → Refuses op s.lists.value.users q → Refuses op (users_after o h) q
  refused_at op q is = subst (λ (m : Users). Refuses op m q) st.users is

  pub home_at : (doubt : Option UserChange) → IsAtHome told (state s.journal.0) s.journal.1 (shelf_users o.shelf) (users_after o h) doubt → IsAtHome told (state s.journal.0) s.journal.1 s.lists.value.described s.lists.value.users doubt
  home_at doubt home = subst (λ (w : Users × Users). IsAtHome told (state s.journal.0) s.journal.1 w.0 w.1 doubt) (λ i. (sym st.of_shelf.described i, sym st.users i)) home

  -- a state after it, of the same shelf
  module _ (t : UserState D) (sid : t.sid ≡ s.sid) (described : t.lists.value.described ≡ s.lists.value.described) (shape : t.journal.1.shape ≡ s.journal.1.shape) (disk : told → IsDisk (state t.journal.0)) (counts : CountsOn (state t.journal.0)) (whole : IsWhole t.journal.1) where
    of_shelf_on : IsOfShelf o t
    of_shelf_on = record { sid = sid ∙ st.of_shelf.sid; described = described ∙ st.of_shelf.described; shape = shape ∙ st.of_shelf.shape; few = st.of_shelf.few; spelled = st.of_shelf.spelled }

    -- at home with the shelf's users and these
    home_by : (users : Users) (m : Users) (doubt : Option UserChange) → users ≡ m → IsAtHome told (state t.journal.0) t.journal.1 s.lists.value.described users doubt → IsAtHome told (state t.journal.0) t.journal.1 (shelf_users o.shelf) m doubt
    home_by users m doubt same home = subst (λ (w : Users × Users). IsAtHome told (state t.journal.0) t.journal.1 w.0 w.1 doubt) (λ i. (st.of_shelf.described i, same i)) home

    -- nothing was done
    pub was_kept : t.lists.value.users ≡ s.lists.value.users → t.journal ≡ s.journal → StandsFor told state o t h
    was_kept users journal = stands_at told state o t h disk of_shelf_on whole st.doubt st.doubted
        (subst (λ (j : D × Book). IsAtHome told (state j.0) j.1 (shelf_users o.shelf) (users_after o h) st.doubt) (sym journal) st.home)
        (users ∙ st.users) st.legal
        (subst (λ (j : D × Book). min (o.faults + failures h) last ≤ (state j.0).faults) (sym journal) st.faults)
        (subst (λ (j : D × Book). SpendsOf o (room_in h) (state j.0)) (sym journal) st.spends) st.paid st.spellable
        (λ x images. subst (λ (j : D × Book). HasRead o h (state j.0)) (sym journal) (st.read x))

    -- no call was made for it
    read_still : (e : UserEntry) → change_in e.outcome ≡ [] → t.journal ≡ s.journal → told → Leaves (state t.journal.0) (IsFileAfter o (h ++ e ∷ [])) → HasRead o (h ++ e ∷ []) (state t.journal.0)
    read_still e none journal x = subst (λ (j : D × Book). Leaves (state j.0) (IsFileAfter o (h ++ e ∷ [])) → HasRead o (h ++ e ∷ []) (state j.0)) (sym journal) (read_none (λ y. subst (λ (j : D × Book). IsDisk (state j.0)) journal (disk y)) e none x)

    -- the users deny it
    pub was_denied : (n : ℕ) (op : UserOp) (q : Cause) → Refuses op s.lists.value.users q → t.lists.value.users ≡ s.lists.value.users → t.journal ≡ s.journal → StandsFor told state o t (h ++ entry n op (refused q) ∷ [])
    was_denied n op q is users journal =
        let denial = refused_at op q is in
        let e : UserEntry = entry n op (Denied q) in
        subst (λ (out : UserOutcome). StandsFor told state o t (h ++ entry n op out ∷ [])) (sym (not_by_disk op (users_after o h) q denial))
        (entered told state o t h e disk of_shelf_on whole st.doubt (λ c asked. doubt_more o h e c refl (st.doubted c asked))
        (subst (λ (j : D × Book). IsAtHome told (state j.0) j.1 (shelf_users o.shelf) (users_after o h) st.doubt) (sym journal) st.home)
        (users ∙ st.users) st.legal denial
        (same_faults o.faults (state s.journal.0).faults (state t.journal.0).faults h e refl st.faults (subst (λ (j : D × Book). (state s.journal.0).faults ≤ (state j.0).faults) (sym journal) (omega arith)))
        (subst (λ (j : D × Book). SpendsOf o (room_in (h ++ e ∷ [])) (state j.0)) (sym journal) (spends_more o h e (state s.journal.0) (state s.journal.0) st.spends (spends_none 0 (state s.journal.0))))
        counts st.spellable (read_still e refl journal))

    -- the disk stood against it
    pub has_failed : (n : ℕ) (op : UserOp) (c : UserChange) → Grants s.sid op s.lists.value.users c → t.lists.value.users ≡ s.lists.value.users
        → ((doubt : Option UserChange) → IsAtHome told (state s.journal.0) s.journal.1 s.lists.value.described s.lists.value.users doubt → IsAtHome told (state t.journal.0) t.journal.1 s.lists.value.described s.lists.value.users doubt ⊎ IsAtHome told (state t.journal.0) t.journal.1 s.lists.value.described s.lists.value.users (Some c))
        → Rose (state s.journal.0).faults (state t.journal.0).faults → Spends most_room (state s.journal.0) (state t.journal.0)
        → (told → IsDisk (state s.journal.0)) → (told → LeavesOnly (state s.journal.0) (state t.journal.0) (MayBe o h op)) → StandsFor told state o t (h ++ entry n op (Failed DiskFault) ∷ [])
    has_failed n op c is users keeps rose spent was_disk left =
        let granted = granted_at op c is in
        let e : UserEntry = entry n op (Failed DiskFault) in
        let build : (doubt : Option UserChange) → ((d : UserChange) → doubt ≡ Some d → IsInDoubt o (h ++ e ∷ []) d) → IsAtHome told (state t.journal.0) t.journal.1 s.lists.value.described s.lists.value.users doubt → StandsFor told state o t (h ++ e ∷ []) = λ doubt doubted home.
        entered told state o t h e disk of_shelf_on whole doubt doubted (home_by s.lists.value.users (users_after o h) doubt st.users home) (users ∙ st.users) st.legal (refl, (c, granted))
        (one_fault o.faults (state s.journal.0).faults (state t.journal.0).faults h e refl st.faults rose) (spends_more o h e (state s.journal.0) (state t.journal.0) st.spends spent) counts st.spellable
        (read_calls was_disk (state t.journal.0) disk e left (λ x. inr (c, doubt_own o h n op c granted))) in
        ⊎_elim
        (λ home. build st.doubt (λ d asked. doubt_more o h e d refl (st.doubted d asked)) home)
        (λ home. build (Some c) (λ d asked. subst (λ (x : UserChange). IsInDoubt o (h ++ e ∷ []) x) (same_some _ _ asked) (doubt_own o h n op c granted)) home)
        (keeps st.doubt (home_at st.doubt st.home))

    -- it was done
    pub was_done : (n : ℕ) (op : UserOp) (c : UserChange) → NamesUid op → Grants s.sid op s.lists.value.users c → t.lists.value.users ≡ effect c s.lists.value.users
        → ((doubt then_doubt : Option UserChange) → IsAtHome told (state s.journal.0) s.journal.1 s.lists.value.described s.lists.value.users doubt → IsAtHome told (state t.journal.0) t.journal.1 s.lists.value.described (effect c s.lists.value.users) then_doubt)
        → (state s.journal.0).faults ≤ (state t.journal.0).faults → Spends most_room (state s.journal.0) (state t.journal.0)
        → (told → IsDisk (state s.journal.0)) → (told → LeavesOnly (state s.journal.0) (state t.journal.0) (MayBe o h op)) → (told → IsSynced (state t.journal.0)) → StandsFor told state o t (h ++ entry n op (Done c) ∷ [])
    was_done n op c named is users keeps later spent was_disk left synced =
        let granted = granted_at op c is in
        let e : UserEntry = entry n op (Done c) in
        entered told state o t h e disk of_shelf_on whole None (λ d asked. absurd (none_some d asked))
        (home_by (effect c s.lists.value.users) (effect c (users_after o h)) None (ap (effect c) st.users) (keeps st.doubt None (home_at st.doubt st.home)))
        (users ∙ ap (effect c) st.users) st.legal granted
        (same_faults o.faults (state s.journal.0).faults (state t.journal.0).faults h e refl st.faults later) (spends_more o h e (state s.journal.0) (state t.journal.0) st.spends spent) counts
        (always_spellable (shelf_users o.shelf) c (users_after o h) st.spellable (granted_spellable (shelf_users o.shelf) o.shelf.sid op (users_after o h) c st.spellable named granted))
        (read_calls was_disk (state t.journal.0) disk e left (λ x. inl (synced x)))

    -- it only read
    pub was_read : (n : ℕ) (op : UserOp) → IsReading op → refusal op s.lists.value.users ≡ None → t.lists.value.users ≡ s.lists.value.users → t.journal ≡ s.journal → StandsFor told state o t (h ++ entry n op Answered ∷ [])
    was_read n op reads allowed users journal =
        let e : UserEntry = entry n op Answered in
        entered told state o t h e disk of_shelf_on whole st.doubt (λ c asked. doubt_more o h e c refl (st.doubted c asked))
        (subst (λ (j : D × Book). IsAtHome told (state j.0) j.1 (shelf_users o.shelf) (users_after o h) st.doubt) (sym journal) st.home)
        (users ∙ st.users) st.legal (reads, ap (refusal op) (sym st.users) ∙ allowed)
        (same_faults o.faults (state s.journal.0).faults (state t.journal.0).faults h e refl st.faults (subst (λ (j : D × Book). (state s.journal.0).faults ≤ (state j.0).faults) (sym journal) (omega arith)))
        (subst (λ (j : D × Book). SpendsOf o (room_in (h ++ e ∷ [])) (state j.0)) (sym journal) (spends_more o h e (state s.journal.0) (state s.journal.0) st.spends (spends_none 0 (state s.journal.0))))
        counts st.spellable (read_still e refl journal)

  -- at any moment of a change
  pub change_left : (op : UserOp) (c : UserChange) (new : DiskState) → Grants s.sid op s.lists.value.users c
      → ((doubt : Option UserChange) → IsAtHome told (state s.journal.0) s.journal.1 s.lists.value.described s.lists.value.users doubt → LeavesOnly (state s.journal.0) new (IsOldOrOneMore s.journal.1.shape s.lists.value.described s.lists.value.users doubt c))
      → (told → IsDisk (state s.journal.0)) → LeavesOnly (state s.journal.0) new (MayBe o h op)
  change_left op c new is left disk =
      only_weaker (state s.journal.0) new (IsOldOrOneMore s.journal.1.shape (shelf_users o.shelf) (users_after o h) st.doubt c) (MayBe o h op)
      (λ file one. ⊎_elim
      (λ old. inl (after_doubt told state o s h disk st.of_shelf st.book st.doubt st.doubted st.home file old))
      (λ more. inr (c, granted_at op c is, subst (λ (d : Dimensions). IsFileOn d (shelf_users o.shelf) (effect c (users_after o h)) file) st.of_shelf.shape more))
      one)
      (subst (λ (w : Users × Users). LeavesOnly (state s.journal.0) new (IsOldOrOneMore s.journal.1.shape w.0 w.1 st.doubt c)) (λ i. (st.of_shelf.described i, st.users i)) (left st.doubt (home_at st.doubt st.home)))

-- An entry that changes nothing, and several.
module _ {D : Type 0} (told : Type 0) (state : D → DiskState) (o : Opening) (s : UserState D) (disk : told → IsDisk (state s.journal.0)) (counts : CountsOn (state s.journal.0)) where
  idle : (h : List UserEntry) (e : UserEntry) → change_in e.outcome ≡ [] → failure_in e.outcome ≡ 0 → StandsFor told state o s h → MayCome o.shelf.sid e.op (users_after o h) e.outcome → StandsFor told state o s (h ++ e ∷ [])
  idle h e none sound st may =
      let same : users_after o h ≡ after (change_in e.outcome) (users_after o h) = ap (λ (cs : List UserChange). after cs (users_after o h)) (sym none) in
      entered told state o s h e disk st.of_shelf st.book st.doubt (λ c asked. doubt_more o h e c none (st.doubted c asked))
      (subst (λ (m : Users). IsAtHome told (state s.journal.0) s.journal.1 (shelf_users o.shelf) m st.doubt) same st.home) (st.users ∙ same) st.legal may
      (same_faults o.faults (state s.journal.0).faults (state s.journal.0).faults h e sound st.faults (omega arith))
      (spends_more o h e (state s.journal.0) (state s.journal.0) st.spends (spends_none (cost e.outcome) (state s.journal.0)))
      counts (subst (λ (m : Users). AreSpellable (shelf_users o.shelf) m) same st.spellable) (read_none told state o s h st disk e none)

  pub passed_one : (h : List UserEntry) (e : UserEntry) → PassesBy e.outcome → StandsFor told state o s h → MayCome o.shelf.sid e.op (users_after o h) e.outcome → StandsFor told state o s (h ++ e ∷ [])
  passed_one h e passes st may = idle h e (nothing_by e.outcome passes) (no_failure_by e.outcome passes) st may

  pub passed : (h es : List UserEntry) → ArePassing es → StandsFor told state o s h → IsLegalFrom o.shelf.sid (users_after o h) es → StandsFor told state o s (h ++ es)
  passed h [] passes st legal = subst (λ (g : List UserEntry). StandsFor told state o s g) (sym (append-nil h)) st
  passed h (e ∷ es) passes st legal = subst (λ (g : List UserEntry). StandsFor told state o s g) (append_assoc h (e ∷ []) es)
      (passed (h ++ e ∷ []) es passes.1 (passed_one h e passes.0 st legal.0) (subst (λ (m : Users). IsLegalFrom o.shelf.sid m es) (sym (users_more o h e)) legal.1))

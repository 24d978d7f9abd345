-- A controller that was opened, or wasn't.
use Rattle.std.proofs.Common.{◌≡◌, ◌≢◌, ◌⊎◌, ◌≤◌, ℕ, List, length, length-append, codes, Option, Some, Result, Ok, Err, inl, inr, sym, ◌∙◌, ap, subst, arith}
use Rattle.std.specs.Prelude.{MatchResult, IfSome}
use Rattle.std.specs.Arc.{arc_value}
use Rattle.dxc_causes.specs.Causes.{HasCause, Rose}
use Rattle.dxc_disk.specs.Disks.{CountsOn, DiskState, IsDisk, IsSound, Spends, files}
use Rattle.dxc_leaving.specs.Values.{AnyValue}
use Rattle.dxc_outside.specs.declared.opened.Opened.{Opened}
use Rattle.dxc_outside.specs.declared.opened.Opened.TheVariants.{Open, Failed}
use Rattle.dxc_outside.specs.declared.opened.Opened.TheVariants as unopened
use Rattle.dxc_outside.specs.Openings.{Hands, IsClosed}
use Rattle.fabric_words.specs.New.{AreNew}
use Rattle.fabric_words.specs.Seats.{FabricId}
use Rattle.shelf_file.specs.Contents.{Contents}
use Rattle.journal_core.specs.Rooms.{opening_room}
use Rattle.user_admin.specs.declared.fault.UserOpenFault.{UserOpenFault}
use Rattle.user_admin.specs.declared.state.UserState.{UserState}
use Rattle.user_admin.specs.Histories.{Opening as UsersOpening}
use Rattle.user_admin.specs.Openings.{Begins as UsersBegin, IsOpening as IsUsersOpening, disk_left as users_disk_left}
use Rattle.user_admin.specs.States.{opening_of as users_opening}
use Rattle.xc_core.specs.declared.fault.OpenFault.{OpenFault}
use Rattle.xc_core.specs.declared.fault.OpenFault.TheVariants as fault_of
use Rattle.xc_core.specs.declared.state.State.{State}
use Rattle.xc_core.specs.Openings.{Begins, Fails, IsDiskFault, IsOpening, IsStopFault, LeavesOpened, disk_home, disk_of, disk_of_fault}
use Rattle.xc_core.proofs.Opened.{none_opened as untouched}
use Rattle.xc_core.specs.States.{Opening, opening_of}
use Rattle.xc_recovery.proofs.LastWorks.{comes_shape}
use Rattle.dxc_element.specs.declared.opening.Controller.{Controller}
use Rattle.dxc_args.specs.declared.status.Status.{Status}
use Rattle.dxc_args.specs.declared.status.Status.TheVariants.{NoMemory}
use Rattle.dxc_jobs.proofs.Counting.{rose_behind}
use Rattle.dxc_element.specs.Openings.{AreUsersNotStarted, AreUsersStarted, Began, Found, HasController, HasOpening, HasUsers, IsKept, IsStarted, IsTaken, IsUnopened, Named, NoController, NoUsers, NotStarted, Opens, Sources, StartFails, users_name}

-- the name of a users' journal isn't that of the journal beside it
pub users_apart : (n : List ℕ) → users_name n ≢ n
users_apart n is = let longer = length-append n (codes ".users") in let same = ap length is in absurd (omega (arith, longer, same))

-- nothing was handed out of the users' journal where nothing was of another name than the journal's
pub users_kept : {D : Type 0} (opener_told : Type 0) (journal : List ℕ) (before after : List ℕ → Option D) → (opener_told → (n : List ℕ) → n ≢ journal → after n ≡ before n) → IsKept opener_told (users_name journal) before after
users_kept opener_told journal before after others t = others t (users_name journal) (users_apart journal)

-- an opening of a journal that failed handed out nothing of its name
pub kept_by : {D : Type 0} (opener_told : Type 0) (name : List ℕ) (before mid after : List ℕ → Option D) (opened none : Opened D) → opened ≡ none → IsClosed none → (opener_told → (n : List ℕ) → mid n ≡ before n) → (opener_told → Hands opened (mid name) (after name)) → IsKept opener_told name before after
kept_by opener_told name before mid after opened (Open d) is closed same hands t = absurd closed
kept_by {D} opener_told name before mid after opened Failed is closed same hands t = subst (λ (x : Opened D). Hands x (mid name) (after name)) is (hands t) ∙ same t name
kept_by {D} opener_told name before mid after opened unopened.NoMemory is closed same hands t = subst (λ (x : Opened D). Hands x (mid name) (after name)) is (hands t) ∙ same t name

-- what couldn't be opened after an earlier call
pub unopened_behind : (faults mid later : ℕ) (status : Status) → faults ≤ mid → IsUnopened mid later status → IsUnopened faults later status
unopened_behind faults mid later status low none = elim none [ inl m ↦ inl m | inr f ↦ inr (f.0, rose_behind faults mid later low f.1) ]

-- what a call tells of the disk that the state has at home
at_home : {D : Type 0} (P : D → Type 0) (r : Result (State D) (OpenFault D)) (x : State D) → r ≡ Ok x → (d : D) → disk_home x.home ≡ Some d → IfSome (disk_of r) P → P d
at_home {D} P r x is d home of = subst (λ (y : Option D). IfSome y P) home (subst (λ (y : Result (State D) (OpenFault D)). IfSome (disk_of y) P) is of)

-- what an opening took of the disk that was handed out, by what it left of the disk that is kept
taken_of : (failed : Type 0) (old new : DiskState) (faults room margin : ℕ) → faults ≡ new.faults → room ≡ new.room → margin ≡ new.margin → CountsOn new → HasCause old.faults new.faults failed → Spends opening_room old new → IsTaken old faults room margin
taken_of failed old new faults room margin same_faults same_room same_margin on caused spent = record {
  later = omega (arith, caused.later, same_faults);
  kept = λ roomy. let left = (spent roomy).room in omega (arith, left, same_room);
  paid = λ roomy. let left = (spent roomy).margin in omega (arith, left, same_faults, same_margin);
  counts = λ some. let below = on (omega (arith, some, same_room)) in omega (arith, below, same_faults);
}

module _ {D : Type 0} (disk_told : Type 0) (state : D → DiskState) where
  -- the controller on what an opening came to
  pub started : (failed : Type 0) → ((x : D) → CountsOn (state x)) → (disk : D) (s lent : Contents) (workers : ℕ) (laid : FabricId) (x : Controller D) (r : Result (State D) (OpenFault D)) → arc_value x.shelf ≡ s → lent ≡ s → arc_value x.fabric ≡ laid → laid.size ≡ record { shape = s.shape; workers = workers } → r ≡ Ok x.state
      → IsOpening disk_told (state disk).reads_as lent laid (opening_of state x.state) → (opening_of state x.state).readings ≡ files (state disk).readings → Begins disk_told state x.state → IfSome (disk_of r) (λ d. HasCause (state disk).faults (state d).faults failed) → IfSome (disk_of r) (λ d. Spends opening_room (state disk) (state d))
      → (length x.seats.items ≡ workers) × AreNew laid 0 x.seats.items → IsStarted disk_told state disk s workers x
  started failed counts disk s lent workers laid x r shelf lent_is fabric size is opening handed begins cause spends seats = record {
    shelf = shelf;
    size = ap (λ (i : FabricId). i.size) fabric ∙ size;
    opening = subst (λ (i : FabricId). IsOpening disk_told (state disk).reads_as s i (opening_of state x.state)) (sym fabric) (subst (λ (y : Contents). IsOpening disk_told (state disk).reads_as y laid (opening_of state x.state)) lent_is opening);
    handed = handed;
    begins = begins;
    shape = (comes_shape lent.shape opening.folded.head opening.folded.read (opening_of state x.state).first.fold.table (opening_of state x.state).first.fold.colours (opening_of state x.state).first.fold.work opening.folded.comes).0 ∙ ap (λ (y : Contents). y.shape) lent_is;
    taken = taken_of failed (state disk) (state begins.disk) _ _ _ begins.faults begins.room begins.margin (counts begins.disk)
        (at_home (λ (d : D). HasCause (state disk).faults (state d).faults failed) r x.state is begins.disk begins.is_home cause)
        (at_home (λ (d : D). Spends opening_room (state disk) (state d)) r x.state is begins.disk begins.is_home spends);
    seats = subst (λ (i : FabricId). AreNew i 0 x.seats.items) (sym fabric) seats.1;
    each = seats.0;
  }

  -- memory was wanting, and nothing was done on the disk
  pub no_memory : (disk : D) (s : Contents) (rose : Type 0) → (disk_told → IsDisk (state disk)) → StartFails disk_told state disk s rose (fault_of.NoMemory disk)
  no_memory disk s rose is_disk = record { why = λ _. tt; left = λ t. untouched s (state disk) (is_disk t); disk_failed = λ is on. is; stopped = λ is. absurd is }

  -- an opening of the core that failed, on a shelf that was lent
  pub not_opened : (disk : D) (s lent : Contents) (rose : Type 0) (fault : OpenFault D) → lent ≡ s → (disk_told → Fails state (state disk) lent.shape fault) → (disk_told → LeavesOpened lent (state disk) (state (disk_of_fault fault)))
      → (IsSound opening_room (state disk) → IsDiskFault fault → ⊥) → (IsStopFault fault → rose) → StartFails disk_told state disk s rose fault
  not_opened disk s lent rose fault lent_is why left sound stopped = record {
    why = λ told. subst (λ (y : Contents). Fails state (state disk) y.shape fault) lent_is (why told);
    left = λ told. subst (λ (y : Contents). LeavesOpened y (state disk) (state (disk_of_fault fault))) lent_is (left told);
    disk_failed = λ failed on. sound on failed;
    stopped = stopped;
  }

  -- started or not, on what was found
  pub opened : (opener_told : Type 0) (gone : AnyValue → Type 0) (names : Named) (workers : ℕ) (before after : Sources D) (f : Found opener_told names before) (r : Result (Controller D) Status)
      → MatchResult r (IsStarted disk_told state f.disk f.shelf workers) (NotStarted disk_told state gone f.disk f.shelf (Rose before.stops after.stops))
      → MatchResult r (HasController opener_told disk_told state names workers before) (NoController opener_told disk_told state gone names before after)
  opened opener_told gone names workers before after f (Ok x) is = (f, is)
  opened opener_told gone names workers before after f (Err e) not = inr (inr (f, not))

  -- the users were taken up, on what their opening came to
  pub users_started : (failed : Type 0) → ((x : D) → CountsOn (state x)) → (disk : D) (s : Contents) (x : UserState D) (r : Result (UserState D) (UserOpenFault D)) → r ≡ Ok x → IsUsersOpening disk_told (state disk).reads_as s (users_opening state x) → (users_opening state x).readings ≡ files (state disk).readings → UsersBegin disk_told state x
      → HasCause (state disk).faults (state (users_disk_left r)).faults failed → Spends opening_room (state disk) (state (users_disk_left r)) → AreUsersStarted disk_told state disk s x
  users_started failed counts disk s x r is opening handed begins cause spends = record {
    opening = opening;
    handed = handed;
    begins = begins;
    taken = taken_of failed (state disk) (state x.journal.0) _ _ _ begins.faults begins.room begins.margin (counts x.journal.0)
        (subst (λ (y : Result (UserState D) (UserOpenFault D)). HasCause (state disk).faults (state (users_disk_left y)).faults failed) is cause)
        (subst (λ (y : Result (UserState D) (UserOpenFault D)). Spends opening_room (state disk) (state (users_disk_left y))) is spends);
  }

  -- the users beside a controller, by what a later call tells
  pub with_users : (opener_told : Type 0) (gone : AnyValue → Type 0) (names : Named) (before mid after : Sources D) (s lent : Contents) (r : Result (UserState D) Status) → lent ≡ s → (opener_told → (n : List ℕ) → n ≢ names.journal → mid.journal_at n ≡ before.journal_at n) → before.opener.faults ≤ mid.opener.faults
      → MatchResult r (λ u. (d : D) × (opener_told → mid.journal_at (users_name names.journal) ≡ Some d) × AreUsersStarted disk_told state d lent u)
      (λ status. (IsUnopened mid.opener.faults after.opener.faults status × IsKept opener_told (users_name names.journal) mid.journal_at after.journal_at) ⊎ ((d : D) × (opener_told → mid.journal_at (users_name names.journal) ≡ Some d) × AreUsersNotStarted disk_told state gone d lent status))
      → MatchResult r (HasUsers opener_told disk_told state names before s) (NoUsers opener_told disk_told state gone names before after s)
  with_users opener_told gone names before mid after s lent (Ok u) is others later given =
      (record { disk = given.0; handed = λ t. sym (others t (users_name names.journal) (users_apart names.journal)) ∙ given.1 t }, subst (λ (y : Contents). AreUsersStarted disk_told state given.0 y u) is given.2)
  with_users opener_told gone names before mid after s lent (Err status) is others later given = elim given [
    | inl none ↦ inl (unopened_behind before.opener.faults mid.opener.faults after.opener.faults status later none.0, λ t. none.1 t ∙ others t (users_name names.journal) (users_apart names.journal))
    | inr not ↦ inr (record { disk = not.0; handed = λ t. sym (others t (users_name names.journal) (users_apart names.journal)) ∙ not.1 t }, subst (λ (y : Contents). AreUsersNotStarted disk_told state gone not.0 y status) is not.2)
  ]

  -- where the history of the users begins
  abbrev pub users_began : (opener_told : Type 0) (names : Named) (before : Sources D) (s : Contents) (x : UserState D) → HasUsers opener_told disk_told state names before s x → Began opener_told disk_told state names before s
  users_began opener_told names before s x has = record { found = has.0; opening = users_opening state x; is = has.1.opening; handed = has.1.handed; taken = has.1.taken }

  -- where the history of a controller begins
  pub begun : (disk : D) (s : Contents) (workers : ℕ) (x : Controller D) → IsStarted disk_told state disk s workers x → HasOpening disk_told state disk s (opening_of state x.state)
  begun disk s workers x started = record { fabric = arc_value x.fabric; opening = started.opening; handed = started.handed; taken = started.taken }

  -- what was opened by these names was by the line's, and what was done there is what the line asks for
  pub opens_for : (opener_told : Type 0) (gone : AnyValue → Type 0) (names other : Named) → names ≡ other → (before after : Sources D) (untouched still : Type 0) (P Q : Contents → D → Opening → D → UsersOpening → Type 0) (status : Status) → (untouched → still) → ((s : Contents) (d : D) (o : Opening) (e : D) (p : UsersOpening) → P s d o e p → Q s d o e p)
      → Opens opener_told disk_told state gone names before after untouched (λ f o u. P f.shelf f.disk o u.found.disk u.opening) status → Opens opener_told disk_told state gone other before after still (λ f o u. Q f.shelf f.disk o u.found.disk u.opening) status
  opens_for opener_told gone names other same before after untouched still P Q status keep on opens =
      subst (λ (n : Named). Opens opener_told disk_told state gone n before after still (λ f o u. Q f.shelf f.disk o u.found.disk u.opening) status) same (elim opens [
        | inl not ↦ inl (not.0, keep not.1)
        | inr ran ↦ inr (ran.0, ran.1, ran.2, ran.3, on ran.0.shelf ran.0.disk ran.1 ran.3.found.disk ran.3.opening ran.4)
      ])

-- The record of a number, in the file that a journal was opened on.
use Rattle.std.proofs.Common.{◌≡◌, ◌<◌, ◌≤◌, ◌∙◌, ◌++◌, ◌∷◌, ℕ, List, [], length, false, Ok, Err, Option, None, Some, Result, inl, inr, ⊎_elim, ap, arith, refl, subst, sym}
use Rattle.std.specs.Prelude.{IfNone, IfSome, IsErr, get_or}
use Rattle.dxc_args.specs.declared.status.JournalBad.{JournalBad}
use Rattle.dxc_args.specs.declared.status.JournalBad.TheVariants.{UsersRecord}
use Rattle.dxc_args.specs.declared.status.Status.{Status}
use Rattle.dxc_args.specs.declared.status.Status.TheVariants.{BadJournal}
use Rattle.dxc_causes.specs.Causes.{HasCause, Rose}
use Rattle.dxc_disk.specs.Disks.{DiskState, IsDisk}
use Rattle.dxc_num.specs.Dimensions.{Dimensions}
use Rattle.dxc_outside.specs.declared.opened.Opened.{Opened}
use Rattle.dxc_outside.specs.declared.opened.Opened.TheVariants.{Open, Failed, NoMemory}
use Rattle.dxc_outside.specs.Openings.{Hands, IsClosed}
use Rattle.journal_core.specs.declared.book.Book.{Book}
use Rattle.journal_core.specs.declared.head.Head.{Head}
use Rattle.journal_core.specs.Books.{IsWhole, listed, padding}
use Rattle.journal_core.specs.Headers.{IsNew, Stands}
use Rattle.journal_core.specs.declared.fault.JournalFault.{JournalFault}
use Rattle.journal_core.specs.declared.fault.JournalWhy.{JournalWhy}
use Rattle.journal_core.specs.declared.fault.JournalWhy.TheVariants.{BadHeader, Disk}
use Rattle.journal_core.specs.Opens.{Finds, Founds, IsDiskErr, IsOpened, OpensNew, OpensOld, book_of, disk_of}
use Rattle.journal_core.proofs.BookMends.{kept_stands}
use Rattle.journal_core.proofs.HeaderSteps.{never}
use Rattle.journal_core.proofs.StandSteps.{stands_once}
use Rattle.users_at_odds.specs.Odds.{Done, HasName, Held, IsAtOdds, IsRecordOf, IsUnnamed, IsUserOf, NoUser, NotAtOdds, name_in}

module _ (shape : Dimensions) (b : DiskState) (book : Book) (disk : IsDisk b) (whole : IsWhole book) (mended : book.to_mend ≡ false) (still : book.turning ≡ false) where
  -- the file of a journal that was opened stands for its list
  opened_stands : IsOpened shape b book → Stands shape book.head (listed book b.reads_as) b.reads_as
  opened_stands opened =
      let here : Stands book.shape book.head (listed book b.reads_as) b.reads_as = ⊎_elim
      (λ old. old)
      (λ other. ⊎_elim (λ more. absurd (never mended more.0)) (λ turn. absurd (never (whole.idle still).0 turn.0)) other)
      (kept_stands b book whole opened.kept b.reads_as disk.reads_now) in
      subst (λ (x : Dimensions). Stands x book.head (listed book b.reads_as) b.reads_as) opened.shape_is here

  -- so a journal that was made has no record
  none_made : (head : Head) (i : ℕ) → i < book.count → IsOpened shape b book → Stands shape head [] b.reads_as → ⊥
  none_made head i low opened stands =
      let none = ap length (stands_once shape head book.head [] (listed book b.reads_as) b.reads_as stands (opened_stands opened)) in
      let counts = opened.kept.counts in
      absurd (omega (arith, low, counts, none))

  -- the record that was read stands in the file that was opened
  pub record_of : (made : Head) (a : DiskState) (i : ℕ) (bytes : List ℕ) → ((IsNew a.reads_as → ⊥) → OpensOld shape a b (Ok book)) → (IsNew a.reads_as → OpensNew shape made a b (Ok book)) → i < book.count
      → bytes ≡ get_or (listed book b.reads_as) i [] ++ padding book.head.version → IsRecordOf shape a.reads_as i bytes
  record_of made a i bytes old new low is =
      let found = (old (λ n. let f = (new n).founds in none_made made i low f.0 f.2)).finds in
      let counts = found.0.kept.counts in
      record { head = book.head; records = listed book b.reads_as; stands = found.1; within = omega (arith, low, counts); is = is }

-- so the name in it is the name in that record
pub named_by : (told : Type 0) (shape : Dimensions) (disk : DiskState) (i : ℕ) (bytes : List ℕ) (name : Option (List ℕ)) → (told → IsRecordOf shape disk.reads_as i bytes) → IfSome name (λ u. u ≡ name_in bytes) → IfSome name (HasName told shape disk i)
named_by told shape disk i bytes None found is = tt
named_by told shape disk i bytes (Some u) found is = record { bytes = bytes; record_is = found; name_is = is }

-- of the words and the status that it is looked for by
pub at_odds : {D : Type 0} (h : Held D) (words : List (List ℕ)) (status : Status) (number : ℕ) (shelf journal d e : List ℕ) (name : Option (List ℕ)) → status ≡ BadJournal (UsersRecord number) → 3 ≤ length words → get_or words 1 d ≡ shelf → get_or words 2 e ≡ journal
    → IfSome name (IsUserOf h shelf journal number) → IfSome name (IsAtOdds h words status)
at_odds h words status number shelf journal d e None is long first second user = tt
at_odds h [] status number shelf journal d e (Some u) is long first second user = absurd (omega (arith, long))
at_odds h (mode ∷ []) status number shelf journal d e (Some u) is long first second user = absurd (omega (arith, long))
at_odds h (mode ∷ a ∷ []) status number shelf journal d e (Some u) is long first second user = absurd (omega (arith, long))
at_odds h (mode ∷ a ∷ b ∷ rest) status number shelf journal d e (Some u) is long first second user = record {
  number = number;
  refused = is;
  mode = mode;
  shelf = shelf;
  journal = journal;
  rest = rest;
  words_are = λ k. mode ∷ first k ∷ second k ∷ rest;
  user = user;
}

module _ {D : Type 0} (told : Type 0) (state : D → DiskState) (shape : Dimensions) (disk : D) (i : ℕ) where
  -- a call of the disk failed after others
  pub failed_since : (mid later : D) → (state disk).faults ≤ (state mid).faults → Rose (state mid).faults (state later).faults → IsUnnamed told state shape disk i
  failed_since mid later low rose = inl (later, omega (arith, low, rose))

  refused_for : (made : Head) (why : JournalWhy) (f : JournalFault D) → f.why ≡ why → (told → (IsNew (state disk).reads_as → ⊥) → OpensOld shape (state disk) (state f.disk) (Err f.why)) → (told → IsNew (state disk).reads_as → OpensNew shape made (state disk) (state f.disk) (Err f.why))
      → (f.why ≡ Disk → Rose (state disk).faults (state f.disk).faults) → IsUnnamed told state shape disk i
  refused_for made Disk f is old new cause = inl (f.disk, cause is)
  refused_for made (BadHeader bytes) f is old new cause = inr (inl (λ t.
      let other : IsNew (state disk).reads_as → ⊥ = λ n. subst (λ (w : JournalWhy). Founds shape made (state f.disk) (Err w)) is (new t n).founds in
      record { old = other; bad = (subst (λ (w : JournalWhy). Finds shape (state disk) (state f.disk) (Err w)) is (old t other).finds).bad }))

  -- the journal wasn't opened
  pub refused_by : (made : Head) (r : Result (D × Book) (JournalFault D)) → ((j : D × Book) → r ≡ Ok j → ⊥) → (told → (IsNew (state disk).reads_as → ⊥) → OpensOld shape (state disk) (state (disk_of r)) (book_of r))
      → (told → IsNew (state disk).reads_as → OpensNew shape made (state disk) (state (disk_of r)) (book_of r)) → HasCause (state disk).faults (state (disk_of r)).faults (IsDiskErr r) → IsUnnamed told state shape disk i
  refused_by made (Ok j) not old new cause = absurd (not j refl)
  refused_by made (Err f) not old new cause = refused_for made f.why f refl old new cause.cause

  -- it has no such record
  pub fewer_by : (mid : D) (book : Book) → (told → (IsNew (state disk).reads_as → ⊥) → OpensOld shape (state disk) (state mid) (Ok book)) → book.count ≤ i → IsUnnamed told state shape disk i
  fewer_by mid book old low = inr (inr (inl (λ t n.
      let found = (old t n).finds in
      let counts = found.0.kept.counts in
      record { head = book.head; records = listed book (state mid).reads_as; stands = found.1; fewer = omega (arith, low, counts) })))

-- what isn't well failed
pub err_of : {A B : Type 0} (r : Result A B) → ((x : A) → r ≡ Ok x → ⊥) → IsErr r
err_of (Ok x) not = absurd (not x refl)
err_of (Err e) not = refl

pub unnamed_by : {X P : Type 0} (r : Option X) → P → IfNone r P
unnamed_by None is = is
unnamed_by (Some x) is = tt

-- where nothing is named, so it is for whoever asked
pub unnamed_on : {X : Type 0} {P Q : Type 0} (r : Option X) → (P → Q) → IfNone r P → IfNone r Q
unnamed_on None on is = on is
unnamed_on (Some x) on is = is

-- an opening of a journal that failed handed out nothing of its name
pub kept_by : {J : Type 0} (told : Type 0) (old_at mid_at new_at : List ℕ → Option J) (opened none : Opened J) (name : List ℕ) → (told → (n : List ℕ) → mid_at n ≡ old_at n) → opened ≡ none → IsClosed none → (told → Hands opened (mid_at name) (new_at name)) → told → new_at name ≡ old_at name
kept_by told old_at mid_at new_at opened (Open d) name same is closed hands t = absurd closed
kept_by {J} told old_at mid_at new_at opened Failed name same is closed hands t = subst (λ (x : Opened J). Hands x (mid_at name) (new_at name)) is (hands t) ∙ same t name
kept_by {J} told old_at mid_at new_at opened NoMemory name same is closed hands t = subst (λ (x : Opened J). Hands x (mid_at name) (new_at name)) is (hands t) ∙ same t name

record_same : (n m : ℕ) → ◌≡◌ {A = Status} (BadJournal (UsersRecord n)) (BadJournal (UsersRecord m)) → n ≡ m
record_same n m is = cc

-- so it is by the words and the status
pub not_at_odds : {D : Type 0} (h : Held D) (d : Done D) (words : List (List ℕ)) (status : Status) (number : ℕ) (shelf journal e f : List ℕ) (name : Option (List ℕ)) → status ≡ BadJournal (UsersRecord number) → get_or words 1 e ≡ shelf → get_or words 2 f ≡ journal → IfNone name (NoUser h d shelf journal number) → IfNone name (NotAtOdds h d words status)
not_at_odds h d words status number shelf journal e f (Some u) is first second none = tt
not_at_odds h d words status number shelf journal e f None is first second none = λ n mode s j rest refused words_are.
    let same : number ≡ n = record_same number n (sym is ∙ refused) in
    let shelf_is : shelf ≡ s = sym first ∙ ap (λ (l : List (List ℕ)). get_or l 1 e) words_are in
    let journal_is : journal ≡ j = sym second ∙ ap (λ (l : List (List ℕ)). get_or l 2 f) words_are in
    subst (λ (x : ℕ). NoUser h d s j x) same (subst (λ (x : List ℕ). NoUser h d s x number) journal_is (subst (λ (x : List ℕ). NoUser h d x journal number) shelf_is none))

pub bad_same : (a b : JournalBad) → ◌≡◌ {A = Status} (BadJournal a) (BadJournal b) → a ≡ b
bad_same a b is = cc

-- there aren't three words
pub too_few : (words : List (List ℕ)) (mode shelf journal : List ℕ) (rest : List (List ℕ)) → length words < 3 → words ≡ mode ∷ shelf ∷ journal ∷ rest → ⊥
too_few words mode shelf journal rest few is = let long = ap length is in absurd (omega (arith, few, long))

-- A start of the controller: the disk's journal, its replay, and the joins of all legs.
use Rattle.std.proofs.Common.{◌≡◌, ◌⊎◌, inl, ⊎_elim, ℕ, ◌-◌, ◌<◌, ◌≤◌, ◌^◌, append-nil, Bool, length-append, false, List, [], ◌++◌, length, None, Some, Result, Ok, Err, refl, sym, ◌∙◌, ap, subst, arith}
use Rattle.std.specs.Prelude.{IfSome, replicate}
use Rattle.std.proofs.lemmas.List.{length-replicate, length-take}
use Rattle.dxc_num.specs.Dimensions.{Dimensions, IsInLimits, ports}
use Rattle.dxc_causes.specs.Causes.{HasCause}
use Rattle.dxc_disk.specs.Disks.{DiskState, IsDisk, IsSettled, IsSynced, Looks, files}
use Rattle.dxc_disk.proofs.DiskSteps.{no_more_synced}
use Rattle.dxc_disk.proofs.LookSteps.{looks_settled}
use Rattle.dxc_model.specs.declared.op.Change.{Change}
use Rattle.dxc_model.specs.Tables.{Board}
use Rattle.fabric_core.specs.declared.mover.Mover.{Mover}
use Rattle.fabric_core.specs.declared.size.Size.{Size}
use Rattle.fabric_core.specs.State.{IsSize, new_mover}
use Rattle.fabric_words.specs.Seats.{FabricId, MoverAt}
use Rattle.journal_core.specs.declared.book.Book.{Book}
use Rattle.journal_core.specs.declared.fault.JournalWhy.{JournalWhy}
use Rattle.journal_core.specs.declared.fault.JournalWhy.TheVariants.{BadHeader}
use Rattle.journal_core.specs.declared.area.Area.{Area}
use Rattle.journal_core.specs.declared.head.Head.{Head}
use Rattle.journal_core.specs.Records.{listed_in, stands_in}
use Rattle.journal_core.specs.Headers.{IsNew, Stands, StandsAlike, header}
use Rattle.journal_core.specs.Makes.{IsFresh}
use Rattle.journal_core.specs.Books.{IsKept, IsWhole, area, is_tried, listed}
use Rattle.journal_core.specs.Opens.{Finds, Founds, IsOpened, IsRefused, OpensNew, OpensOld, made_head}
use Rattle.journal_core.proofs.BookMends.{kept_stands}
use Rattle.journal_core.proofs.HeaderSteps.{never}
use Rattle.journal_core.proofs.KeepSteps.{none_only}
use Rattle.journal_core.proofs.OpenSteps.{new_or_not}
use Rattle.journal_core.proofs.StandSteps.{stands_once}
use Rattle.paull_matrix.specs.Colourings.{Colouring, IsProperColouring, no_legs}
use Rattle.roll_plan.specs.declared.op.LegOp.{LegOp}
use Rattle.dbchg_reports.specs.Recent.{Recent, recent_of}
use Rattle.roll_plan.specs.Works.{switches_in}
use Rattle.roll_engine.specs.Rollings.{RollingAt}
use Rattle.roll_engine.specs.Stages.{IsAtRestOn}
use Rattle.roll_engine.specs.Answers.{Advances}
use Rattle.roll_engine.specs.Cold.{IsColdAt, cold_start, joins_of, left_of}
use Rattle.roll_engine.proofs.Colouring.{new_at_rest}
use Rattle.roll_engine.proofs.ColdRolling.{cold_begun}
use Rattle.roll_engine.proofs.Running.{switch_counted, switches_join}
use Rattle.shelf_file.specs.Contents.{Contents}
use Rattle.xc_recovery.specs.declared.fault.ReplayFault.TheVariants.{BadRecord}
use Rattle.xc_recovery.specs.Folds.{none_folded}
use Rattle.xc_recovery.specs.Replays.{ComesTo, Replays}
use Rattle.xc_recovery.specs.Stages.{IsLastWork}
use Rattle.xc_recovery.proofs.Folding.{IsSeated, folds_seated, none_seated}
use Rattle.xc_recovery.proofs.LastWorks.{last_made}
use Rattle.xc_recovery.proofs.Replaying.{folded}
use Rattle.xc_core.specs.declared.provisioner.Provisioner.{Provisioner}
use Rattle.xc_core.specs.declared.state.Home.TheVariants.{In}
use Rattle.xc_core.specs.declared.origin.Origin.{Origin}
use Rattle.xc_core.specs.declared.state.State.{State}
use Rattle.xc_core.specs.declared.start.Housed.{Housed}
use Rattle.xc_core.specs.declared.start.Start.{Start}
use Rattle.xc_core.specs.Reckonings.{Past, ReckonsTo}
use Rattle.xc_core.specs.Journals.{IsAtHome}
use Rattle.xc_core.specs.Operations.{HasRead}
use Rattle.xc_core.specs.Provisioners.{Boxed, HasRoom, IsHome, KeepsPast, ground_of}
use Rattle.xc_core.specs.Restarts.{LastIs}
use Rattle.xc_core.specs.Starts.{IsHoused, IsStart}
use Rattle.roll_engine.proofs.Joining.{few_switches}
use Rattle.xc_core.proofs.Pasts.{none_held}
use Rattle.xc_core.specs.States.{IsHomeAfter, IsReadyOrHalted, Opening, StandsFor, began, opening_at, opening_of, recorded, rules_of}
use Rattle.xc_core.specs.Openings.{Begins, HasBadRecord, IsFoldOf, IsOpening, LeavesOpened, Opens, disk_home}
use Rattle.xc_core.proofs.Began.{began_astray, began_changes, began_faults, began_holder, began_legal, began_paid, began_turns, began_unstopped}
use Rattle.xc_core.proofs.Handed.{start_read}
use Rattle.xc_core.proofs.Journalling.{looked_on, untried}
use Rattle.xc_core.proofs.Granting.{few_ports}

-- a cold rolling begins on a new fabric
pub cold_from_new : (i : FabricId) (m : MoverAt) (c : Colouring) (r : RollingAt) → m.fabric ≡ i → m.mover ≡ new_mover i.size → IsSize m.fabric.size → c.shape ≡ i.size.shape → IsProperColouring c → r ≡ cold_start
    → IsColdAt m.fabric.size c r m.mover
cold_from_new i m c r own new sized shape proper start =
    let z : Size = m.fabric.size in
    let same : c.shape ≡ z.shape = shape ∙ ap (λ (f : FabricId). f.size.shape) (sym own) in
    let made : m.mover ≡ new_mover z = new ∙ ap (λ (f : FabricId). new_mover f.size) (sym own) in
    let rest : IsAtRestOn z (no_legs c.shape) m.mover = subst (λ (w : Dimensions × Mover). IsAtRestOn z (no_legs w.0) w.1) (λ k. (sym same k, sym made k)) (new_at_rest z sized) in
    let none : length m.mover.log ≡ 0 = ap (λ (x : Mover). length x.log) made in
    let few = few_ports z.shape sized.shape in
    let number : length c.routes ≡ ports z.shape = proper.size ∙ ap ports same in
    subst (λ (x : RollingAt). IsColdAt z c x m.mover) (sym start) (cold_begun z c m.mover proper same rest (omega (arith, none, few, number)))

-- once it has nothing left each leg was switched once
pub switched_once : (z : Size) (i : FabricId) (c : Colouring) (r s : RollingAt) (m m' : Mover) → m ≡ new_mover i.size → r ≡ cold_start → Advances z (left_of c m r) (left_of c m' s) m m' → left_of c m' s ≡ [] → length m'.log ≡ switches_in (joins_of c)
switched_once z i c r s m m' new start a none =
    let counted = switch_counted z a.writes m m' a.runs in
    let joined = switches_join a.writes [] in
    let split : joins_of c ≡ a.writes ++ [] = ap (left_of c m) (sym start) ∙ a.split ∙ ap (λ xs. a.writes ++ xs) none in
    let whole = ap switches_in split in
    let empty : length m.log ≡ 0 = ap (λ (x : Mover). length x.log) new in
    omega (arith, counted, joined, whole, empty)

-- a file that was refused for its header isn't new
pub bad_header : (d : Dimensions) (h : Head) (a b : DiskState) (w : JournalWhy) (bytes : List ℕ) → w ≡ BadHeader bytes → ((IsNew a.reads_as → ⊥) → OpensOld d a b (Err w)) → (IsNew a.reads_as → OpensNew d h a b (Err w))
    → (IsNew a.reads_as → ⊥) × IsRefused d a b bytes
bad_header d h a b w bytes is old new =
    let not_new : IsNew a.reads_as → ⊥ = λ n. subst (λ (x : JournalWhy). Founds d h b (Err x)) is (new n).founds in
    (not_new, subst (λ (x : JournalWhy). Finds d a b (Err x)) is (old not_new).finds)

-- the file of a journal that was opened stands for its list
opened_stands : (d : Dimensions) (b : DiskState) (book : Book) → IsDisk b → IsWhole book → book.to_mend ≡ false → book.turning ≡ false → IsOpened d b book → Stands d book.head (listed book b.reads_as) b.reads_as
opened_stands d b book disk whole mended still opened =
    let here : Stands book.shape book.head (listed book b.reads_as) b.reads_as = ⊎_elim
    (λ old. old)
    (λ other. ⊎_elim (λ more. absurd (never mended more.0)) (λ turn. absurd (never (untried book whole still) turn.0)) other)
    (kept_stands b book whole opened.kept b.reads_as disk.reads_now) in
    subst (λ (x : Dimensions). Stands x book.head (listed book b.reads_as) b.reads_as) opened.shape_is here

-- and for no other
listed_once : (d : Dimensions) (h : Head) (records : List (List ℕ)) (b : DiskState) (book : Book) → IsDisk b → IsWhole book → book.to_mend ≡ false → book.turning ≡ false → IsOpened d b book → Stands d h records b.reads_as → listed book b.reads_as ≡ records
listed_once d h records b book disk whole mended still opened stands = stands_once d h book.head records (listed book b.reads_as) b.reads_as stands (opened_stands d b book disk whole mended still opened)

-- nor is one with a bad record
pub bad_record : (d : Dimensions) (h : Head) (a b : DiskState) (book : Book) (i : ℕ) (t : Board) (c : Colouring) (left : List ℕ) → left ≡ b.reads_as → IsDisk b → IsWhole book → book.to_mend ≡ false → book.turning ≡ false → ((IsNew a.reads_as → ⊥) → OpensOld d a b (Ok book)) → (IsNew a.reads_as → OpensNew d h a b (Ok book))
    → Replays book.shape book.head (listed book b.reads_as) (Err (BadRecord i)) t c → (IsNew a.reads_as → ⊥) × HasBadRecord a.reads_as left d i
bad_record d h a b book i t c left same disk whole mended still old new bad =
    let not_new : IsNew a.reads_as → ⊥ = λ n.
    let f = (new n).founds in
    absurd (let low : i < length {A = List ℕ} [] = subst (λ (l : List (List ℕ)). i < length l) (listed_once d h [] b book disk whole mended still f.0 f.2) bad.0 in omega (arith, low)) in
    let found = (old not_new).finds in (
      not_new,
      record {
        head = book.head;
        records = listed book b.reads_as;
        stands = found.1;
        stays = subst (λ (f : List ℕ). Stands d book.head (listed book b.reads_as) f) (sym same) (opened_stands d b book disk whole mended still found.0);
        table = t;
        colours = c;
        bad = subst (λ (x : Dimensions). Replays x book.head (listed book b.reads_as) (Err (BadRecord i)) t c) found.0.shape_is bad;
      },
    )

-- the moments of an opening, and of looks after it
pub leaves_opened : (shelf : Contents) (a b c : DiskState) (result : Result Book JournalWhy) → IsDisk b → ((IsNew a.reads_as → ⊥) → OpensOld shelf.shape a b result) → (IsNew a.reads_as → OpensNew shelf.shape (made_head shelf.equipped) a b result)
    → Looks b c → LeavesOpened shelf a c
leaves_opened shelf a b c result disk old new looks = record {
  found = λ not. looked_on a b c (λ x. a.may_leave x ⊎ StandsAlike shelf.shape a.reads_as x) disk (old not).any_moment looks;
  made = λ n settled. looked_on a b c (IsFresh (header shelf.shape (made_head shelf.equipped))) disk ((new n).any_moment settled) looks;
}

-- where none was called
pub none_opened : (shelf : Contents) (a : DiskState) → IsDisk a → LeavesOpened shelf a a
none_opened shelf a disk = record {
  found = λ not. none_only a (λ x. a.may_leave x ⊎ StandsAlike shelf.shape a.reads_as x) disk (λ x image. inl image);
  made = λ n settled. none_only a (IsFresh (header shelf.shape (made_head shelf.equipped))) disk (λ x image. inl (subst IsNew (sym (settled x image)) n));
}

pub none_counted : (a : DiskState) → HasCause a.faults a.faults ⊥
none_counted a = record { later = omega arith; cause = λ failed. absurd failed }

-- table and matrix of a replay have one set of legs, and are of the journal's shape
seated : (d : Dimensions) (e : Head) (records : List (List ℕ)) (t : Board) (c : Colouring) (ops : List LegOp) → ComesTo d e records t c ops → IsSeated d (folded t c ops 0)
seated d e records t c ops is = let s = folds_seated e.version d (none_folded d e.equipped) (folded t c ops is.0) records (none_seated d e.equipped) is.1 in record { placed = s.placed; of_shape = s.of_shape; shape = s.shape; fits = s.fits }

pub replayed_shape : (d : Dimensions) (e : Head) (records : List (List ℕ)) (t : Board) (c : Colouring) (ops : List LegOp) → ComesTo d e records t c ops → c.shape ≡ d
replayed_shape d e records t c ops is = let s = seated d e records t c ops is in s.placed.shape ∙ s.shape

-- the records that a journal lists, of which only the number counts where its disk doesn't tell
listed_few : (area : Area) (count : ℕ) (file : List ℕ) → length (listed_in area count file) ≤ count
listed_few area count file = omega (arith, length-take count (stands_in area file))

recorded_number : (book : Book) (file : List ℕ) → length (recorded book file) ≡ book.count
recorded_number book file =
    let few : length (listed book file) ≤ book.count = listed_few (area book) book.count file in
    let whole = length-append (listed book file) (replicate (book.count - length (listed book file)) []) in
    let rest = length-replicate {A = List ℕ} (book.count - length (listed book file)) [] in
    omega (arith, few, whole, rest)

recorded_is : (book : Book) (file : List ℕ) → book.count ≡ length (listed book file) → recorded book file ≡ listed book file
recorded_is book file counts =
    ap (λ (n : ℕ). listed book file ++ replicate n []) (let e : book.count - length (listed book file) ≡ 0 = omega (arith, counts) in e) ∙ append-nil (listed book file)

-- What a start has read of its journal, and the state that begins with it. The disk was a at the start.
module _ {D : Type 0} (told : Type 0) (state : D → DiskState) (shelf : Contents) (a : DiskState) (seat : MoverAt) (x : Start D) (r : IsStart told state shelf a seat x) (disk : told → IsDisk (state r.journal.0)) where
  abbrev b : DiskState
  b = state r.journal.0

  abbrev book : Book
  book = r.journal.1

  abbrev j : D × Book
  j = x.p.journal

  abbrev t : Board
  t = x.table

  abbrev c : Colouring
  c = x.p.matrix

  abbrev ops : List LegOp
  ops = x.last.ops.items

  -- the journal was well kept when it was opened
  was_kept : told → IsKept b book
  was_kept k = ⊎_elim (λ n. (r.new k n).founds.0.kept) (λ not. (r.old k not).finds.0.kept) (new_or_not a.reads_as)

  was_settled : told → IsSettled b
  was_settled k = ⊎_elim (λ n. (r.new k n).founds.0.settled) (λ not. (r.old k not).finds.0.settled) (new_or_not a.reads_as)

  was_synced : told → IsSynced b
  was_synced k = ⊎_elim (λ n. (r.new k n).synced) (λ not. (r.old k not).synced) (new_or_not a.reads_as)

  now_kept : told → IsKept (state j.0) j.1
  now_kept k = r.kept k (was_kept k)

  -- what was read is what the journal lists
  listed_is : told → r.records ≡ listed j.1 (state j.0).reads_as
  listed_is k = r.read k ∙ sym (λ i. listed (r.same i) ((r.looks k).same i))

  records_are : told → r.records ≡ recorded j.1 (state j.0).reads_as
  records_are k = listed_is k ∙ sym (recorded_is j.1 (state j.0).reads_as (now_kept k).counts)

  -- records come to table and legs, whatever their shape is called
  comes_at : (d : Dimensions) → book.shape ≡ d → ComesTo d j.1.head r.records t c ops
  comes_at d is = subst (λ (w : Dimensions × Head). ComesTo w.0 w.1 r.records t c ops) (λ k. (is k, (ap (λ (y : Book). y.head) (sym r.same)) k)) r.comes

  table_shape : book.shape ≡ t.shape
  table_shape = sym (seated book.shape book.head r.records t c ops r.comes).shape

  pub matrix_shape : c.shape ≡ shelf.shape
  matrix_shape = replayed_shape book.shape book.head r.records t c ops r.comes ∙ r.shape

  pub matrix_proper : IsProperColouring c
  matrix_proper = (seated book.shape book.head r.records t c ops r.comes).placed.colouring

  pub last_start : (before : Colouring) × IsLastWork before ops c
  last_start = last_made book.shape book.head r.records t c ops r.comes

  listed_comes : told → ComesTo t.shape j.1.head (listed j.1 (state j.0).reads_as) t c ops
  listed_comes k = subst (λ (rs : List (List ℕ)). ComesTo t.shape j.1.head rs t c ops) (listed_is k) (comes_at t.shape table_shape)

  now_whole : j.1.to_mend ≡ false
  now_whole = ap (λ (y : Book). y.to_mend) r.same ∙ r.whole

  now_still : j.1.turning ≡ false
  now_still = ap (λ (y : Book). y.turning) r.same ∙ r.still

  -- what is made of it, with so many switches
  module _ (n : ℕ) where
    abbrev pub first : Past
    first = record { fold = folded t c ops n; changes = 0 }

    pub journal_home : IsAtHome told (state j.0) j.1 first None
    journal_home = record {
      keeps = record { kept = now_kept; lists = λ k. (ops, listed_comes k) };
      doubts = λ marked. absurd (never now_whole marked);
      tried = λ k tried. absurd (never (ap (λ (y : Book). is_tried y.spare) r.same ∙ untried book r.whole_book r.still) tried);
    }

    pub last_is : told → LastIs (state j.0) j.1 first ops
    last_is k = record { whole = now_whole; still = now_still; comes = listed_comes k }

    -- what its disk has read since it was handed out
    begun_read : (k : told) → IsDisk a × IsDisk (state j.0) → HasRead (record { past = first; readings = files a.readings }) [] first (state j.0)
    begun_read k disks = start_read shelf first a b (state j.0) book disks.0 disks.1 (r.no_more k) j.1.head (listed j.1 (state j.0).reads_as) (sym r.shape ∙ table_shape) (ops, listed_comes k)
        (λ not. (subst (λ (w : Head × List (List ℕ)). Stands shelf.shape w.0 w.1 a.reads_as) (λ i. (ap (λ (y : Book). y.head) (sym r.same) i, listed (sym r.same i) (sym ((r.looks k).same) i))) (r.old k not).finds.1, r.old k not)) (r.new k)

    fold_home : IsFoldOf told shelf.shape (recorded j.1 (state j.0).reads_as) first
    fold_home = record {
      head = j.1.head;
      read = r.records;
      number = r.number ∙ ap (λ (y : Book). y.count) (sym r.same) ∙ sym (recorded_number j.1 (state j.0).reads_as);
      same = records_are;
      comes = comes_at shelf.shape r.shape;
    }

    -- a Provisioner that has read it, with this seat, halted or not
    module _ (due : Bool) (v : MoverAt) where
      abbrev pub at_home : Provisioner D
      at_home = record { matrix = c; journal = j; mover = v; doubt = None; changes = 0; halted = due; spent = n; replayed = x.p.replayed }

      abbrev pub opening : Opening
      opening = record { site = ground_of at_home; records = recorded j.1 (state j.0).reads_as; first = first; due = due; readings = files (state x.handed.value).readings; faults = (state j.0).faults; margin = (state j.0).margin; room = (state j.0).room }

      pub opens : IsInLimits shelf.shape → Opens told a.reads_as shelf v.fabric due n opening
      unfolding fold_home
      opens limits = record {
        limits = limits;
        fabric_is = refl;
        shape = ap (λ (y : Book). y.shape) r.same ∙ r.shape;
        folded = fold_home;
        made = λ k new. let f = (r.new k new).founds in (ap (λ (y : Book). y.head) r.same ∙ f.1, sym (records_are k) ∙ (r.read k ∙ listed_once shelf.shape (made_head shelf.equipped) [] b book (disk k) r.whole_book r.whole r.still f.0 f.2));
        found = λ k not. let f = (r.old k not).finds in subst (λ (w : Head × List (List ℕ)). Stands shelf.shape w.0 w.1 a.reads_as) (λ i. (ap (λ (y : Book). y.head) (sym r.same) i, (sym (r.read k) ∙ records_are k) i)) f.1;
        switches = refl;
        changes = refl;
        due_is = refl;
      }

      pub past_read : n ≤ 2 ^ 48 → KeepsPast first at_home
      past_read few = record {
        matrix = refl;
        placed = (seated book.shape book.head r.records t c ops r.comes).placed;
        spent = refl;
        few = few;
        changes = refl;
        doubts = none_held first;
        spelled = (seated book.shape book.head r.records t c ops r.comes).fits;
        book = subst IsWhole (sym r.same) r.whole_book;
        shape = (seated book.shape book.head r.records t c ops r.comes).shape ∙ sym (ap (λ (y : Book). y.shape) r.same);
        room = subst (λ (d : Dimensions). HasRoom d x.p.replayed) (sym (ap (λ (y : Book). y.shape) r.same ∙ r.shape)) r.room;
      }

      -- the state that it is home in, which keeps it as its origin
      module _ (origin : Origin D) (d : Boxed D) (behind : d.value.p ≡ at_home) (table_kept : origin.table.value ≡ t) (provisioner_kept : origin.provisioner.value ≡ d.value.p) (last_kept : origin.last.value ≡ x.last)
          (handed_kept : origin.disk.value ≡ x.handed.value) (disks : told → IsDisk a × IsDisk (state j.0)) (stage : IsReadyOrHalted told state first (began due ++ []) at_home) where
        abbrev begun : State D
        begun = record { table = t; reports = x.reports; home = In d; origin = origin }

        pub opening_is : opening_of state begun ≡ opening
        opening_is = λ i. opening_at state (handed_kept i) (table_kept i) ((provisioner_kept ∙ behind) i) (last_kept i)

        stands_begun : StandsFor told state opening begun (began due ++ [])
        stands_begun = record {
          now = first;
          reckoned = subst (λ (cs : List Change). ReckonsTo first cs first) (sym (began_changes due)) refl;
          table = refl;
          reports = r.fresh ∙ ap recent_of (sym (began_changes due));
          legal = began_legal (rules_of opening) due;
          turns = began_turns due;
          paid = began_paid opening due;
          astray = λ k. began_astray due;
          home = (
            began_holder due,
            subst (λ (p : Provisioner D). IsHomeAfter told state opening first (began due ++ []) p) (sym behind) (record {
              ground = refl;
              stage = stage;
              doubt = λ op asked. absurd cc;
              faults = let none = began_faults due in omega (arith, none);
              spends = λ enough. record { room = omega arith; margin = omega arith };
              read = λ k. subst (λ (w : List (List ℕ) × List Change). HasRead (record { past = first; readings = w.0 }) w.1 first (state j.0)) (λ i. (sym r.handed i, sym (began_changes due) i)) (begun_read k (disks k));
              synced = λ k clear. no_more_synced b (state j.0) (r.no_more k) (was_synced k);
            }),
          );
        }

        pub begins : Begins told state begun
        begins = record {
          stands = subst (λ (o : Opening). StandsFor told state o begun (began o.due ++ [])) (sym opening_is) stands_begun;
          disk = j.0;
          is_home = ap (λ (p : Provisioner D). Some p.journal.0) behind;
          counts = ap (λ (p : Provisioner D). Some p.journal.1.count) behind ∙ ap Some (sym (recorded_number j.1 (state j.0).reads_as) ∙ ap (λ (o : Opening). length o.records) (sym opening_is));
          faults = ap (λ (o : Opening). o.faults) opening_is;
          margin = ap (λ (o : Opening). o.margin) opening_is;
          room = ap (λ (o : Opening). o.room) opening_is;
          settled = λ k. looks_settled b (state j.0) (r.looks k) (was_settled k);
        }

  -- on a new fabric, once each leg was joined
  module _ (v : MoverAt) (rest : IsAtRestOn v.fabric.size c v.mover) (joins : length v.mover.log ≡ switches_in (joins_of c)) where
    few_joined : length v.mover.log ≤ 2 ^ 48
    few_joined =
        let few = few_switches 0 c.routes in
        let size = (seated book.shape book.head r.records t c ops r.comes).placed.colouring.size in
        let ports_few = few_ports c.shape (subst IsInLimits (sym rest.shape) rest.sized.shape) in
        omega (arith, few, size, ports_few, joins)

    home_joined : IsHome told state (first (length v.mover.log)) (at_home (length v.mover.log) false v)
    home_joined = record { ready = refl; past = past_read (length v.mover.log) false v few_joined; registers = rest; switches = refl; journal = journal_home (length v.mover.log) }

    pub opened : (fabric : FabricId) (n : ℕ) (origin : Origin D) (d : Boxed D) → v.fabric ≡ fabric → n ≡ length v.mover.log → d.value.p ≡ at_home n false v → origin.table.value ≡ t → origin.provisioner.value ≡ d.value.p → origin.last.value ≡ x.last → origin.disk.value ≡ x.handed.value → (told → IsDisk a × IsDisk (state j.0))
        → IsOpening told a.reads_as shelf fabric (opening_of state (record { table = t; reports = x.reports; home = In d; origin = origin })) × Begins told state (record { table = t; reports = x.reports; home = In d; origin = origin })
    opened fabric n origin d own spent behind table_kept provisioner_kept last_kept handed_kept disks =
        let m = length v.mover.log in
        let as_made : d.value.p ≡ at_home m false v = behind ∙ ap (λ (k : ℕ). at_home k false v) spent in
        let limits : IsInLimits shelf.shape = subst IsInLimits (sym rest.shape ∙ matrix_shape) rest.sized.shape in
        let stage : IsReadyOrHalted told state (first m) (began false ++ []) (at_home m false v) = inl (home_joined, began_unstopped) in
        let s : State D = record { table = t; reports = x.reports; home = In d; origin = origin } in
        let is : opening_of state s ≡ opening m false v = opening_is m false v origin d as_made table_kept provisioner_kept last_kept handed_kept disks stage in
        let o : IsOpening told a.reads_as shelf v.fabric (opening m false v) = subst (λ (k : ℕ). Opens told a.reads_as shelf v.fabric false k (opening m false v)) joins (opens m false v limits) in (
          subst (λ (w : FabricId × Opening). IsOpening told a.reads_as shelf w.0 w.1) (λ i. (own i, sym is i)) o,
          begins m false v origin d as_made table_kept provisioner_kept last_kept handed_kept disks stage,
        )

-- the state that was made of what was read
pub state_is : {D : Type 0} (x : Start D) (h : Housed D) (d : Boxed D) (s : State D) → s ≡ record { table = h.beside.table; reports = h.beside.reports; home = In d; origin = s.origin } → IsHoused x h → s ≡ record { table = x.table; reports = x.reports; home = In d; origin = s.origin }
state_is x h d s is kept = is ∙ (λ i. record { table = kept.table i; reports = kept.reports i; home = In d; origin = s.origin })

-- what holds of the disk in its box holds of the disk that is home
pub home_disk : {D : Type 0} (P : D → Type 0) (s : State D) (t : Board) (r : Recent) (d : Boxed D) (o : Origin D) → s ≡ record { table = t; reports = r; home = In d; origin = o } → P d.value.p.journal.0 → IfSome (disk_home s.home) P
home_disk {D} P s t r d o is here = subst (λ (y : State D). IfSome (disk_home y.home) P) (sym is) here

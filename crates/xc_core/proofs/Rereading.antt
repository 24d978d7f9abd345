-- The journal of a halted Provisioner before and after it is read anew.
use Rattle.std.proofs.Common.{◌≡◌, ◌≢◌, ◌⊎◌, ◌≤◌, inl, inr, ⊎_elim, ℕ, ◌+◌, ◌<◌, true, false, List, [], ◌∷◌, ◌++◌, length, take, drop, get_or, Option, Some, None, Ok, Err, sym, refl, ap, ◌∙◌, subst}
use Rattle.std.specs.Prelude.{Result}
use Rattle.dxc_disk.specs.Disks.{DiskState, IsDisk, IsSettled, IsSynced, Leaves, LeavesOnly, Looks}
use Rattle.dxc_num.specs.Dimensions.{Dimensions}
use Rattle.dxc_model.specs.declared.op.Change.{Change}
use Rattle.dxc_model.specs.Tables.{Board}
use Rattle.dxc_model.specs.declared.op.Op.{Op}
use Rattle.journal_core.specs.declared.book.Book.{Book}
use Rattle.journal_core.specs.declared.head.Head.{Head}
use Rattle.journal_core.specs.Areas.{version_number}
use Rattle.journal_core.specs.Headers.{Stands, StandsAlike}
use Rattle.journal_core.specs.Books.{IsKept, IsWhole, doubted, is_tried, listed, next_head, rows}
use Rattle.journal_core.specs.Turns.{Continues, Keeps, MayStand}
use Rattle.journal_core.proofs.AcknowledgeSteps.{keeps_may}
use Rattle.journal_core.proofs.BookMends.{kept_stands}
use Rattle.journal_core.proofs.HeaderSteps.{never}
use Rattle.journal_core.proofs.KeepSteps.{none_only, only_weaker}
use Rattle.journal_core.proofs.StandSteps.{head_once, stands_once}
use Rattle.paull_matrix.specs.Colourings.{Colouring}
use Rattle.roll_plan.specs.declared.op.LegOp.{LegOp}
use Rattle.roll_plan.specs.declared.work.Work.{Work}
use Rattle.roll_engine.specs.Rollings.{RollingAt, rest_of}
use Rattle.roll_engine.specs.UnderWay.{unmade}
use Rattle.std.specs.Prelude.{IfOk}
use Rattle.std.proofs.Common.{append_assoc}
use Rattle.std.proofs.lemmas.List.{take-append-drop, take_more}
use Rattle.xc_recovery.specs.declared.fault.ReplayFault.{ReplayFault}
use Rattle.xc_recovery.specs.declared.fault.ReplayFault.TheVariants.{BadRecord, Disk}
use Rattle.xc_recovery.specs.Folds.{Folded, FoldsTo, IsBad, Makes, as_read, none_folded}
use Rattle.xc_recovery.proofs.Folding.{folds_begin, folds_once, none_seated}
use Rattle.xc_recovery.proofs.LastWorks.{comes_shape}
use Rattle.xc_recovery.specs.Replays.{ComesTo, Reaches, Replays}
use Rattle.xc_core.specs.declared.provisioner.Provisioner.{Provisioner}
use Rattle.xc_core.specs.declared.replayed.Replayed.{Replayed}
use Rattle.xc_core.specs.Journals.{IsJournalled, IsOldOrDoubted, IsOneMore, IsSoFar, StandsAs}
use Rattle.xc_core.specs.Reckonings.{Past, changed}
use Rattle.xc_core.specs.Provisioners.{HasRoom, KeepsPast}
use Rattle.xc_core.specs.Restarts.{HasWay, IsHalted, IsKnown, IsListOf, IsOnWay, IsOwnWay, LastIs, Lists, TakesUp}
use Rattle.xc_core.specs.Recoveries.{IsAstray, IsListed, ReadIs}
use Rattle.xc_core.proofs.Halting.{taken_placed, taken_so_far}
use Rattle.xc_core.proofs.Journalling.{doubts_on, home_on, journalled_home, looked_on, may_doubt, more_by, tried_on, untried}
use Rattle.xc_core.proofs.Staging.{way_begins, way_limits}

abbrev pub with_read : {D : Type 0} → Provisioner D → D × Book → Replayed → Provisioner D
with_read p j replayed = record p { journal = j; replayed = replayed }

-- what a file stands for, another one that stands alike does
alike : (shape : Dimensions) (P : Head → List (List ℕ) → Type 0) (old new : List ℕ) → StandsAlike shape old new → StandsAs shape P old → StandsAs shape P new
alike shape P old new same is = record { head = is.head; records = is.records; stands = same is.head is.records is.stands; has = is.has }

-- a property of what a file stands for is one of every header and list for which it does
held_by : (shape : Dimensions) (P : Head → List (List ℕ) → Type 0) (head : Head) (records : List (List ℕ)) (file : List ℕ) → shape.modules ≤ 64 → Stands shape head records file → StandsAs shape P file → P head records
held_by shape P head records file le stands is =
    let same_head : is.head ≡ head = sym (head_once shape is.head head is.records records file le is.stands stands) in
    let same_list : is.records ≡ records = sym (stands_once shape is.head head is.records records file is.stands stands) in
    subst (λ (w : Head × List (List ℕ)). P w.0 w.1) (λ i. (same_head i, same_list i)) is.has

module _ {D : Type 0} (told : Type 0) (state : D → DiskState) (b : Past) (p : Provisioner D) (h : IsHalted told state b p) where
  abbrev s : DiskState
  s = state p.journal.0

  abbrev book : Book
  book = p.journal.1

  shape_is : book.shape ≡ b.fold.table.shape
  shape_is = sym h.past.shape

  limits : b.fold.table.shape.modules ≤ 64
  limits = (way_limits b p h.past h.way).most_modules

  -- what a crash may leave of a list where no record is in doubt
  may_whole : book.to_mend ≡ false → book.turning ≡ false → (file : List ℕ) → MayStand book (listed book s.reads_as) (doubted book s.reads_as) (rows book s.reads_as) file → Stands book.shape book.head (listed book s.reads_as) file
  may_whole whole still file may = ⊎_elim
      (λ old. old)
      (λ other. ⊎_elim (λ more. absurd (never whole more.0)) (λ turn. absurd (never (untried book h.past.book still) turn.0)) other)
      may

  may_by : (l : Option Change) → Lists told state b p l → told → (file : List ℕ) → MayStand book (listed book s.reads_as) (doubted book s.reads_as) (rows book s.reads_as) file → IsOldOrDoubted b p.doubt file
  may_by None home t file may = may_doubt told s book b p.doubt shape_is home t file may
  may_by (Some x) lists t file may =
      let l = lists.0.lists t in
      inr (l.0, l.1, more_by b l.0 book.shape book.head (listed book s.reads_as) file shape_is (may_whole lists.1 lists.2 file may) l.2)

  kept_by : (l : Option Change) → Lists told state b p l → told → IsKept s book
  kept_by None home t = home.keeps.kept t
  kept_by (Some x) lists t = lists.0.kept t

  pub halted_kept : told → IsKept s book
  halted_kept t = let k = h.known t in kept_by k.way.lacking k.journal t

  -- so does what may stand beside the list
  pub halted_file : told → (file : List ℕ) → MayStand book (listed book s.reads_as) (doubted book s.reads_as) (rows book s.reads_as) file → IsOldOrDoubted b p.doubt file
  halted_file t = let k = h.known t in may_by k.way.lacking k.journal t

  -- each image stands for the changes so far, or for these and the one in doubt
  pub halted_images : told → Leaves s (IsOldOrDoubted b p.doubt)
  halted_images t c image = let k = h.known t in may_by k.way.lacking k.journal t c (kept_stands s book h.past.book (halted_kept t) c image)

  -- no call was made
  pub none_read : told → IsDisk s → LeavesOnly s s (IsOldOrDoubted b p.doubt)
  none_read t disk = none_only s (IsOldOrDoubted b p.doubt) disk (halted_images t)

  -- what was counted stays where none was made
  pub none_lost : told → IsDisk s → Keeps s s book
  none_lost t disk = keeps_may s s book (none_only s (MayStand book (listed book s.reads_as) (doubted book s.reads_as) (rows book s.reads_as)) disk (kept_stands s book h.past.book (halted_kept t)))

  alike_doubted : (c : List ℕ) → StandsAlike book.shape s.reads_as c → IsOldOrDoubted b p.doubt s.reads_as → IsOldOrDoubted b p.doubt c
  alike_doubted c same is =
      let d = b.fold.table.shape in
      let also : StandsAlike d s.reads_as c = subst (λ (x : Dimensions). StandsAlike x s.reads_as c) shape_is same in
      ⊎_elim (λ old. inl (alike d (IsSoFar b) s.reads_as c also old)) (λ more. inr (more.0, more.1, alike d (IsOneMore b more.0) s.reads_as c also more.2)) is

  -- at any moment of the reading
  pub read_moments : (new : DiskState) → told → IsDisk s → LeavesOnly s new (λ c. s.may_leave c ⊎ StandsAlike book.shape s.reads_as c) → LeavesOnly s new (IsOldOrDoubted b p.doubt)
  read_moments new t disk only = only_weaker s new (λ c. s.may_leave c ⊎ StandsAlike book.shape s.reads_as c) (IsOldOrDoubted b p.doubt)
      (λ c either. ⊎_elim (λ image. halted_images t c image) (λ same. alike_doubted c same (halted_images t s.reads_as disk.reads_now)) either)
      only

  -- with another journal and replayed matrix and table
  module _ (j : D × Book) (replayed : Replayed) (whole_book : IsWhole j.1) (shape : j.1.shape ≡ book.shape) (room : HasRoom book.shape replayed) where
    past_read : KeepsPast b (with_read p j replayed)
    past_read =
        let k = h.past in
        record { matrix = k.matrix; placed = k.placed; spent = k.spent; few = k.few; changes = k.changes; doubts = k.doubts; spelled = k.spelled; book = whole_book; shape = k.shape ∙ sym shape; room = subst (λ (d : Dimensions). HasRoom d replayed) (sym shape) room }

    abbrev way_read : HasWay b p → HasWay b (with_read p j replayed)
    way_read w = record { lacking = w.lacking; past = w.past; before = w.before; rolling = w.rolling; taken = w.taken; on_way = record { under_way = w.on_way.under_way; leads = w.on_way.leads; switches = w.on_way.switches; alone = w.on_way.alone } }

    halted_with : (told → IsKnown told state b (with_read p j replayed)) → IsHalted told state b (with_read p j replayed)
    halted_with known = record { halted = h.halted; past = past_read; way = way_read h.way; known = known }

    -- the reading failed: the list is as it was
    module _ (same_book : j.1 ≡ book) (kept : told → IsKept (state j.0) j.1) (same : told → listed j.1 (state j.0).reads_as ≡ listed book s.reads_as)
        (reads : told → book.to_mend ≡ true → doubted j.1 (state j.0).reads_as ≡ doubted book s.reads_as) (lines : told → is_tried book.spare ≡ true → rows j.1 (state j.0).reads_as ≡ rows book s.reads_as) where
      head_same : j.1.head ≡ book.head
      head_same = ap (λ (x : Book). x.head) same_book

      lists_failed : (l : Option Change) → Lists told state b p l → Lists told state b (with_read p j replayed) l
      lists_failed None home = home_on told s (state j.0) book j.1 b p.doubt home kept head_same same p.doubt
          (doubts_on told s (state j.0) book j.1 b p.doubt home kept head_same same (λ marked. ap (λ (x : Book). x.to_mend) (sym same_book) ∙ marked) reads)
          (tried_on told s (state j.0) book j.1 b p.doubt home kept head_same same (λ tried. ap (λ (x : Book). is_tried x.spare) (sym same_book) ∙ tried) (ap next_head same_book) lines)
      lists_failed (Some x) lists = (
        record { kept = kept; lists = λ t. subst (λ (w : Head × List (List ℕ)). IsListOf b p.doubt (Some x) w.0 w.1) (λ i. (sym head_same i, sym (same t) i)) (lists.0.lists t) },
        ap (λ (y : Book). y.to_mend) same_book ∙ lists.1,
        ap (λ (y : Book). y.turning) same_book ∙ lists.2,
      )

      own_failed : told → (l : Option Change) (before : Colouring) (g : Past) (r : RollingAt) → IsOwnWay s book b l before g r → IsOwnWay (state j.0) j.1 b l before g r
      own_failed t None before g r own = elim own [
        | inl done ↦ inl done
        | inr last ↦ inr (record {
          whole = ap (λ (y : Book). y.to_mend) same_book ∙ last.whole;
          still = ap (λ (y : Book). y.turning) same_book ∙ last.still;
          comes = subst (λ (w : Head × List (List ℕ)). ComesTo b.fold.table.shape w.0 w.1 b.fold.table b.fold.colours r.work.ops.items) (λ i. (sym head_same i, sym (same t) i)) last.comes;
        })
      ]
      own_failed t (Some x) before g r own = own

      pub halted_failed : IsHalted told state b (with_read p j replayed)
      halted_failed = halted_with (λ t. let k = h.known t in record { way = way_read k.way; own = own_failed t k.way.lacking k.way.before k.way.past k.way.rolling k.own; journal = lists_failed k.way.lacking k.journal })

    -- it succeeded: the list is what the file stood for
    module _ (whole : j.1.to_mend ≡ false) (still : j.1.turning ≡ false) (kept : told → IsKept (state j.0) j.1) (settled : told → IsSettled (state j.0)) (synced : told → IsSynced (state j.0)) (stands : told → Stands book.shape j.1.head (listed j.1 (state j.0).reads_as) s.reads_as)
        (found : told → MayStand book (listed book s.reads_as) (doubted book s.reads_as) (rows book s.reads_as) s.reads_as) where
      abbrev list : List (List ℕ)
      list = listed j.1 (state j.0).reads_as

      -- whatever is known of what the file stood for is so of the list
      list_has : (P : Head → List (List ℕ) → Type 0) → told → StandsAs b.fold.table.shape P s.reads_as → P j.1.head list
      list_has P t is = held_by b.fold.table.shape P j.1.head list s.reads_as limits (subst (λ (d : Dimensions). Stands d j.1.head list s.reads_as) shape_is (stands t)) is

      journalled_as : (l : Option Change) → IsListOf b p.doubt l j.1.head list → IsJournalled told (state j.0) j.1 (IsListOf b p.doubt l)
      journalled_as l is = record { keeps = record { kept = kept; lists = λ _. is }; whole = whole; still = still; settled = settled; synced = synced }

      -- nothing was in doubt, or it isn't held
      as_was : (g : Past) (before : Colouring) (r : RollingAt) → g ≡ b → IsOnWay p before g r → IsOwnWay (state j.0) j.1 b None before g r → IsSoFar b j.1.head list → IsListed told state b (with_read p j replayed)
      as_was g before r taken way own is =
          let all = journalled_as None is in
          record {
            known = record {
              way = record { lacking = None; past = g; before = before; rolling = r; taken = taken; on_way = record { under_way = way.under_way; leads = way.leads; switches = way.switches; alone = way.alone } };
              own = own;
              journal = journalled_home told (state j.0) j.1 (IsListOf b p.doubt None) b p.doubt whole_book all (λ head records x. x);
            };
            journalled = all;
          }

      -- the record in doubt is held: its work begins
      as_held : (g : Past) (before : Colouring) (r : RollingAt) → g ≡ b → IsOnWay p before g r → rest_of r ≡ [] → (x : Op) → p.doubt ≡ Some x → IsOneMore b x j.1.head list → IsListed told state b (with_read p j replayed)
      as_held g before r taken way own x asked more =
          let d = more.is in
          let ops : List LegOp = d.within.ops in
          let way_on = way_begins b p h.past g before r taken way own x more.bytes d in
          let all = journalled_as (Some d.change) (x, asked, more) in
          record {
            known = record {
              way = record {
                lacking = Some d.change;
                past = changed b d.change ops;
                before = b.fold.colours;
                rolling = unmade (record { ops = record { items = ops } });
                taken = (x, asked, d.granted, d.within, refl);
                on_way = record { under_way = way_on.under_way; leads = way_on.leads; switches = way_on.switches; alone = way_on.alone };
              };
              own = (refl, refl);
              journal = (all.keeps, whole, still);
            };
            journalled = all;
          }

      -- what the journal lists, where no record is in doubt
      stands_whole : (P : Head → List (List ℕ) → Type 0) → told → book.to_mend ≡ false → book.turning ≡ false → P book.head (listed book s.reads_as) → StandsAs b.fold.table.shape P s.reads_as
      stands_whole P t was_whole was_still has = record { head = book.head; records = listed book s.reads_as; stands = subst (λ (d : Dimensions). Stands d book.head (listed book s.reads_as) s.reads_as) shape_is (may_whole was_whole was_still s.reads_as (found t)); has = has }

      -- the last work is under way still
      as_begun : told → (g : Past) (before : Colouring) (r : RollingAt) → g ≡ b → IsOnWay p before g r → LastIs s book b r.work.ops.items → IsListed told state b (with_read p j replayed)
      as_begun t g before r taken way last =
          let ops : List LegOp = r.work.ops.items in
          let Comes : Head → List (List ℕ) → Type 0 = λ head records. ComesTo b.fold.table.shape head records b.fold.table b.fold.colours ops in
          let comes : ComesTo b.fold.table.shape j.1.head list b.fold.table b.fold.colours ops = list_has Comes t (stands_whole Comes t last.whole last.still last.comes) in
          as_was g before r taken way (inr (record { whole = whole; still = still; comes = comes })) (ops, comes)

      relisted : told → (l : Option Change) (g : Past) (before : Colouring) (r : RollingAt) → TakesUp b p.doubt l g → IsOnWay p before g r → IsOwnWay s book b l before g r → Lists told state b p l → IsListed told state b (with_read p j replayed)
      relisted t None g before r taken way own home = elim own [
        | inl done ↦ ⊎_elim
            (λ old. as_was g before r taken way (inl done) (list_has (IsSoFar b) t old))
            (λ more. as_held g before r taken way done more.0 more.1 (list_has (IsOneMore b more.0) t more.2))
            (may_doubt told s book b p.doubt shape_is home t s.reads_as (found t))
        | inr last ↦ as_begun t g before r taken way last
      ]
      relisted t (Some x) g before r taken way own lists =
          let old = stands_whole (IsListOf b p.doubt (Some x)) t lists.1 lists.2 (lists.0.lists t) in
          let all = journalled_as (Some x) (list_has (IsListOf b p.doubt (Some x)) t old) in
          record {
            known = record { way = record { lacking = Some x; past = g; before = before; rolling = r; taken = taken; on_way = record { under_way = way.under_way; leads = way.leads; switches = way.switches; alone = way.alone } }; own = own; journal = (all.keeps, whole, still) };
            journalled = all;
          }

      pub listed_anew : told → IsListed told state b (with_read p j replayed)
      listed_anew t = let k = h.known t in relisted t k.way.lacking k.way.past k.way.before k.way.rolling k.way.taken k.way.on_way k.own k.journal

      pub halted_anew : IsHalted told state b (with_read p j replayed)
      halted_anew = halted_with (λ t. (listed_anew t).known)

-- what a replay comes to is of the journal's shape
pub replays_shape : (d : Dimensions) (e : Head) (records : List (List ℕ)) (result : Result Work ReplayFault) (t : Board) (c : Colouring) → Replays d e records result t c → (t.shape ≡ d) × (c.shape ≡ d)
replays_shape d e records (Ok w) t c is = comes_shape d e records t c w.ops.items is
replays_shape d e records (Err (BadRecord i)) t c is = comes_shape d e (take i records) t c is.1.0 is.1.1
replays_shape d e records (Err Disk) t c is = comes_shape d e (take is.0 records) t c is.2.0 is.2.1

-- of records that come to something none is bad
none_bad : (d : Dimensions) (e : Head) (records : List (List ℕ)) (u t : Board) (a c : Colouring) (ops : List LegOp) (i : ℕ) → ComesTo d e records u a ops → i < length records → Reaches d e (take i records) t c → IsBad (version_number e.version) t c (as_read e.version (get_or records i [])) → ⊥
none_bad d e records u t a c ops i comes low reached bad =
    let v = e.version in
    let first : Folded = none_folded d e.equipped in
    let all : Folded = record { table = u; colours = a; work = ops; switches = comes.0 } in
    let split : records ≡ take i records ++ get_or records i [] ∷ drop (i + 1) records = sym (take-append-drop (i + 1) records) ∙ (ap (λ (xs : List (List ℕ)). xs ++ drop (i + 1) records) (take_more records i [] low) ∙ append_assoc (take i records) (get_or records i [] ∷ []) (drop (i + 1) records)) in
    let parts = folds_begin v first all (take i records) (get_or records i [] ∷ drop (i + 1) records) (subst (λ (rs : List (List ℕ)). FoldsTo v first rs all) split comes.1) in
    let here : Folded = record { table = t; colours = c; work = reached.0; switches = reached.1.0 } in
    let same : parts.0 ≡ here = folds_once v d first parts.0 here (take i records) (none_seated d e.equipped) parts.1 reached.1.1 in
    let next = parts.2 in
    bad next.0 next.1 (subst (λ (f : Folded). Makes (version_number v) f.table f.colours (as_read v (get_or records i [])) next.0 next.1) same next.2)

-- What a replay after a reading that succeeded comes to.
module _ {D : Type 0} (told : Type 0) (state : D → DiskState) (b : Past) (p : Provisioner D) (h : IsHalted told state b p) (j : D × Book) (replayed : Replayed) (whole_book : IsWhole j.1) (shape : j.1.shape ≡ p.journal.1.shape) (room : HasRoom p.journal.1.shape replayed)
    (whole : j.1.to_mend ≡ false) (still : j.1.turning ≡ false) (kept : told → IsKept (state j.0) j.1) (settled : told → IsSettled (state j.0)) (synced : told → IsSynced (state j.0)) (stands : told → Stands p.journal.1.shape j.1.head (listed j.1 (state j.0).reads_as) (state p.journal.0).reads_as)
    (found : told → MayStand p.journal.1 (listed p.journal.1 (state p.journal.0).reads_as) (doubted p.journal.1 (state p.journal.0).reads_as) (rows p.journal.1 (state p.journal.0).reads_as) (state p.journal.0).reads_as) where
  abbrev q : Provisioner D
  q = with_read p j replayed

  read_by : (result : Result Work ReplayFault) (i : ℕ) → (records : List (List ℕ)) × (length records ≡ j.1.count) × Replays j.1.shape j.1.head records (Err (BadRecord i)) replayed.table replayed.matrix → IsAstray told state b q i
  read_by result i is = record { records = is.0; number = is.1; astray = inl is.2 }

  pub read_is : (result : Result Work ReplayFault)
      → (records : List (List ℕ)) × (length records ≡ j.1.count) × Replays j.1.shape j.1.head records result replayed.table replayed.matrix
      → IfOk result (λ w. (records : List (List ℕ)) × (length records ≡ j.1.count) × (told → records ≡ listed j.1 (state j.0).reads_as) × ComesTo j.1.shape j.1.head records replayed.table replayed.matrix w.ops.items)
      → ReadIs told state b q result
  read_is (Ok w) as_read read = record {
    halted = halted_anew told state b p h j replayed whole_book shape room whole still kept settled synced stands found;
    whole = whole;
    still = still;
    listed_is = listed_anew told state b p h j replayed whole_book shape room whole still kept settled synced stands found;
    records = read.0;
    number = read.1;
    records_are = read.2;
    comes = read.3;
  }
  read_is (Err (BadRecord i)) as_read read = read_by (Err (BadRecord i)) i as_read
  read_is (Err Disk) as_read read = tt

  pub never_bad : told → (result : Result Work ReplayFault) (i : ℕ) → Replays j.1.shape j.1.head (listed j.1 (state j.0).reads_as) result replayed.table replayed.matrix → result ≢ Err (BadRecord i)
  never_bad t result i is e =
      let l = listed_anew told state b p h j replayed whole_book shape room whole still kept settled synced stands found t in
      let w = l.known.way in
      let records = listed j.1 (state j.0).reads_as in
      let bad : Replays j.1.shape j.1.head records (Err (BadRecord i)) replayed.table replayed.matrix = subst (λ (x : Result Work ReplayFault). Replays j.1.shape j.1.head records x replayed.table replayed.matrix) e is in
      let came = taken_so_far b p.doubt w.lacking w.past w.taken j.1.head records (l.journalled.keeps.lists t) in
      let same : w.past.fold.table.shape ≡ j.1.shape = (taken_placed b p.doubt h.past.placed w.lacking w.past w.taken).0 ∙ (h.past.shape ∙ sym shape) in
      none_bad j.1.shape j.1.head records w.past.fold.table replayed.table w.past.fold.colours replayed.matrix came.0 i (subst (λ (d : Dimensions). ComesTo d j.1.head records w.past.fold.table w.past.fold.colours came.0) same came.1) bad.0 bad.1 bad.2

-- what a replay read, of the journal after it
pub lift_read : (told : Type 0) (k l : Book) (file now : List ℕ) (t : Board) (c : Colouring) (result : Result Work ReplayFault) → l ≡ k → (told → now ≡ file)
    → IfOk result (λ w. (records : List (List ℕ)) × (length records ≡ k.count) × (told → records ≡ listed k file) × ComesTo k.shape k.head records t c w.ops.items)
    → IfOk result (λ w. (records : List (List ℕ)) × (length records ≡ l.count) × (told → records ≡ listed l now) × ComesTo l.shape l.head records t c w.ops.items)
lift_read told k l file now t c (Ok w) same still is = (
  is.0,
  is.1 ∙ ap (λ (x : Book). x.count) (sym same),
  (λ u. is.2 u ∙ (λ i. listed (sym same i) (sym (still u) i))),
  subst (λ (x : Book). ComesTo x.shape x.head is.0 t c w.ops.items) (sym same) is.3,
)
lift_read told k l file now t c (Err e) same still is = tt

pub lift_replay : (k l : Book) (t : Board) (c : Colouring) (result : Result Work ReplayFault) → l ≡ k
    → (records : List (List ℕ)) × (length records ≡ k.count) × Replays k.shape k.head records result t c → (records : List (List ℕ)) × (length records ≡ l.count) × Replays l.shape l.head records result t c
lift_replay k l t c result same is = subst (λ (x : Book). (records : List (List ℕ)) × (length records ≡ x.count) × Replays x.shape x.head records result t c) (sym same) is

-- the replayed matrix and table keep room for the journal
pub read_room : (d : Dimensions) (e : Head) (records : List (List ℕ)) (result : Result Work ReplayFault) (t : Board) (c : Colouring) (s : Replayed) (f : Dimensions) → d ≡ f → HasRoom f s → Replays d e records result t c → HasRoom f (record s { matrix = c; table = t })
read_room d e records result t c s f same room is = let r = replays_shape d e records result t c is in record { matrix = r.1 ∙ same; table = r.0 ∙ same; expected = room.expected }

-- the journal after a reading that succeeded: mid is the one between
pub record IsReadAnew {D : Type 0} (told : Type 0) (state : D → DiskState) (old mid new : D × Book) : Type 0 where
  pub shape : mid.1.shape ≡ old.1.shape
  pub to_mend : mid.1.to_mend ≡ false
  pub turning : mid.1.turning ≡ false
  pub book : IsWhole mid.1
  pub same_book : new.1 ≡ mid.1
  pub kept : told → IsKept (state new.0) new.1
  pub settled : told → IsSettled (state new.0)
  pub synced : told → IsSynced (state new.0)
  pub stands : told → Stands old.1.shape new.1.head (listed new.1 (state new.0).reads_as) (state old.0).reads_as
  pub found : told → MayStand old.1 (listed old.1 (state old.0).reads_as) (doubted old.1 (state old.0).reads_as) (rows old.1 (state old.0).reads_as) (state old.0).reads_as

module _ {D : Type 0} (told : Type 0) (state : D → DiskState) (b : Past) (p : Provisioner D) (h : IsHalted told state b p) (mid j : D × Book) (replayed : Replayed) (r : IsReadAnew told state p.journal mid j) (room : HasRoom p.journal.1.shape replayed) where
  read_shape : j.1.shape ≡ p.journal.1.shape
  read_shape = ap (λ (x : Book). x.shape) r.same_book ∙ r.shape

  read_whole : j.1.to_mend ≡ false
  read_whole = ap (λ (x : Book). x.to_mend) r.same_book ∙ r.to_mend

  read_still : j.1.turning ≡ false
  read_still = ap (λ (x : Book). x.turning) r.same_book ∙ r.turning

  read_book : IsWhole j.1
  read_book = subst IsWhole (sym r.same_book) r.book

  pub anew_halted : IsHalted told state b (with_read p j replayed)
  anew_halted = halted_anew told state b p h j replayed read_book read_shape room read_whole read_still r.kept r.settled r.synced r.stands r.found

  pub anew_reads : (result : Result Work ReplayFault) → (records : List (List ℕ)) × (length records ≡ j.1.count) × Replays j.1.shape j.1.head records result replayed.table replayed.matrix
      → IfOk result (λ w. (records : List (List ℕ)) × (length records ≡ j.1.count) × (told → records ≡ listed j.1 (state j.0).reads_as) × ComesTo j.1.shape j.1.head records replayed.table replayed.matrix w.ops.items)
      → ReadIs told state b (with_read p j replayed) result
  anew_reads = read_is told state b p h j replayed read_book read_shape room read_whole read_still r.kept r.settled r.synced r.stands r.found

  pub anew_good : told → (result : Result Work ReplayFault) (i : ℕ) → Replays j.1.shape j.1.head (listed j.1 (state j.0).reads_as) result replayed.table replayed.matrix → result ≢ Err (BadRecord i)
  anew_good = never_bad told state b p h j replayed read_book read_shape room read_whole read_still r.kept r.settled r.synced r.stands r.found

-- what a reading keeps, it keeps after a look
pub read_on : (a b c : DiskState) (book : Book) → IsDisk b → Keeps a b book → Looks b c → Keeps a c book
read_on a b c book disk keeps looks = looked_on a b c (λ x. Continues book.shape book.head (listed book a.reads_as) x ⊎ ((is_tried book.spare ≡ true) × Stands book.shape (next_head book) (rows book a.reads_as) x)) disk keeps looks

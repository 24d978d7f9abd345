-- What was read of the journal, beside what there is after the changes, and where the registers are on its last work.
use Rattle.std.specs.Prelude.{IfSome}
use Rattle.std.proofs.Common.{◌≡◌, ◌≢◌, inr, ℕ, ◌<◌, ◌≤◌, ◌^◌, List, length, Option, Some, None, sym, refl, ap, ◌∙◌, subst, arith}
use Rattle.dxc_disk.specs.Disks.{DiskState}
use Rattle.dxc_num.specs.Dimensions.{Dimensions}
use Rattle.dxc_model.specs.declared.op.Change.{Change}
use Rattle.dxc_model.specs.Tables.{Board}
use Rattle.fabric_core.specs.declared.size.Size.{Size}
use Rattle.fabric_core.specs.declared.mover.Mover.{Mover}
use Rattle.fabric_words.specs.Seats.{MoverAt}
use Rattle.roll_plan.specs.declared.op.LegOp.{LegOp}
use Rattle.roll_plan.specs.Works.{ops_writes, writes_of}
use Rattle.paull_matrix.specs.Colourings.{IsProperColouring, Colouring}
use Rattle.paull_chain.specs.Works.{AreValidOps, after_ops}
use Rattle.roll_engine.specs.declared.rolling.Behind.TheVariants.{Nothing, PartsFrom}
use Rattle.roll_engine.specs.Rollings.{RollingAt}
use Rattle.roll_engine.specs.Stages.{IsMidway}
use Rattle.roll_engine.specs.Cold.{IsColdFrom}
use Rattle.roll_engine.proofs.Leading.{leading_begun}
use Rattle.journal_core.specs.declared.book.Book.{Book}
use Rattle.journal_core.specs.Books.{listed}
use Rattle.xc_recovery.specs.Replays.{ComesTo}
use Rattle.xc_recovery.specs.Stages.{IsLastWork}
use Rattle.xc_recovery.proofs.LastWorks.{comes_shape, last_made}
use Rattle.xc_core.specs.declared.provisioner.Provisioner.{Provisioner}
use Rattle.xc_core.specs.declared.replayed.Replayed.{Replayed}
use Rattle.xc_core.specs.declared.recovery.Recovered.{Recovered}
use Rattle.xc_core.specs.declared.recovery.Recovered.TheVariants as recovered
use Rattle.xc_core.specs.Beside.{IsBeside}
use Rattle.xc_core.specs.Journals.{IsJournalled, IsSoFar}
use Rattle.xc_core.specs.Reckonings.{IsTable, Past}
use Rattle.xc_core.specs.Provisioners.{HasRoom, KeepsPast}
use Rattle.xc_core.specs.Restarts.{HasWay, IsHalted, IsListOf, LastIs, Lists, Rejoins, Resumes, TakesUp}
use Rattle.xc_core.specs.Recoveries.{Finds, IsAstray, IsCold, IsNeither, IsWarm, Reads, RecoveredIs, ResumedIs}
use Rattle.xc_core.specs.Endings.{IfCold, IfWarm}
use Rattle.xc_core.proofs.Halting.{few_changes, taken_few, taken_more, taken_placed}
use Rattle.xc_core.proofs.Staging.{IsAtStage, IsWorkOf, at_stage, comes_once, last_stage, taken_once, way_fits}

module _ {D : Type 0} (told : Type 0) (state : D → DiskState) (b : Past) (p : Provisioner D) (ops : List LegOp) (h : Reads told state b p ops) where
  abbrev z : Size
  z = p.mover.fabric.size

  abbrev m : Mover
  m = p.mover.mover

  pub last : (c : Colouring) × IsLastWork c ops p.replayed.matrix
  last = last_made p.journal.1.shape p.journal.1.head h.records p.replayed.table p.replayed.matrix ops h.comes

  pub way_shape : p.replayed.matrix.shape ≡ z.shape
  way_shape = (comes_shape p.journal.1.shape p.journal.1.head h.records p.replayed.table p.replayed.matrix ops h.comes).1 ∙ (sym h.halted.past.shape ∙ way_fits b p h.halted.past h.halted.way)

  pub way_few : length m.log ≤ 2 ^ 48
  way_few = let room = h.halted.way.on_way.under_way.room in omega (arith, room)

  -- where the table is copied, all are of one shape
  pub copy_shape : (e : Board) → e ≡ b.fold.table → e.shape ≡ p.replayed.expected.shape
  copy_shape e is = ap (λ (x : Board). x.shape) is ∙ (h.halted.past.shape ∙ sym h.halted.past.room.expected)

  pub beside : (e : Board) → e ≡ b.fold.table → IsBeside b (record p.replayed { expected = e }) p.matrix e p.doubt p.spent
  beside e is = record {
    matrix = h.halted.past.matrix;
    table = is;
    placed = h.halted.past.placed;
    spent_is = h.halted.past.spent;
    few = subst (λ (n : ℕ). n ≤ 2 ^ 48) (sym h.halted.past.spent) h.halted.past.few;
    doubts = h.halted.past.doubts;
    room = let room = subst (λ (d : Dimensions). HasRoom d p.replayed) (sym h.halted.past.shape) h.halted.past.room in record { matrix = room.matrix; table = room.table; expected = ap (λ (x : Board). x.shape) is };
  }

  abbrev s : DiskState
  s = state p.journal.0

  abbrev book : Book
  book = p.journal.1

  -- the journal's last work is the one that was read
  last_read : told → (r : RollingAt) → LastIs s book b r.work.ops.items → r.work.ops.items ≡ ops
  last_read t r is =
      let listed_comes : ComesTo book.shape book.head (listed book s.reads_as) b.fold.table b.fold.colours r.work.ops.items = subst (λ (d : Dimensions). ComesTo d book.head (listed book s.reads_as) b.fold.table b.fold.colours r.work.ops.items) h.halted.past.shape is.comes in
      let read_comes : ComesTo book.shape book.head (listed book s.reads_as) p.replayed.table p.replayed.matrix ops = subst (λ (rs : List (List ℕ)). ComesTo book.shape book.head rs p.replayed.table p.replayed.matrix ops) (h.records_are t) h.comes in
      (comes_once book.shape book.head (listed book s.reads_as) b.fold.table p.replayed.table b.fold.colours p.replayed.matrix r.work.ops.items ops listed_comes read_comes).2

  -- where the disk tells its content
  module _ (t : told) where
    abbrev way : HasWay b p
    way = (h.listed_is t).known.way

    -- what was read is what the journal lists, which comes to what there is after the way
    read_by : (l : Option Change) (g : Past) → TakesUp b p.doubt l g → IsListOf b p.doubt l p.journal.1.head h.records → (p.replayed.table ≡ g.fold.table) × (p.replayed.matrix ≡ g.fold.colours) × IsWorkOf state b p h.halted.past p.replayed.matrix ops way_shape l g
    read_by None g taken is =
        let came : IsSoFar b p.journal.1.head h.records = is in
        let same = comes_once p.journal.1.shape p.journal.1.head h.records p.replayed.table b.fold.table p.replayed.matrix b.fold.colours ops came.0 h.comes (subst (λ (d : Dimensions). ComesTo d p.journal.1.head h.records b.fold.table b.fold.colours came.0) h.halted.past.shape came.1) in
        (same.0 ∙ sym (ap (λ (x : Past). x.fold.table) taken), same.1 ∙ sym (ap (λ (x : Past). x.fold.colours) taken), tt)
    read_by (Some c) g taken is = comes_once p.journal.1.shape p.journal.1.head h.records p.replayed.table g.fold.table p.replayed.matrix g.fold.colours ops g.fold.work h.comes
        (subst (λ (d : Dimensions). ComesTo d p.journal.1.head h.records g.fold.table g.fold.colours g.fold.work) h.halted.past.shape (taken_more b p.doubt c g taken p.journal.1.head h.records is))

    read : (p.replayed.table ≡ way.past.fold.table) × (p.replayed.matrix ≡ way.past.fold.colours) × IsWorkOf state b p h.halted.past p.replayed.matrix ops way_shape way.lacking way.past
    read = read_by way.lacking way.past way.taken (subst (IsListOf b p.doubt way.lacking p.journal.1.head) (sym (h.records_are t)) ((h.listed_is t).journalled.keeps.lists t))

    -- what was read is the state's, or has the change in doubt besides
    pub not_neither : IsNeither b p.doubt p.replayed.table p.replayed.matrix → ⊥
    not_neither n = n way.lacking way.past way.taken (read.0, read.1)

    -- and it is that of the way on which the registers are
    one_way : (l : Option Change) (g : Past) → TakesUp b p.doubt l g → IsTable g p.replayed.table p.replayed.matrix → (way.lacking ≡ l) × (way.past ≡ g)
    one_way l g taken given = taken_once b p.doubt way.lacking l way.past g way.taken taken (sym read.0 ∙ given.0)

    pub found_stage : (l : Option Change) (g : Past) → TakesUp b p.doubt l g → IsTable g p.replayed.table p.replayed.matrix → (c : Colouring) → IsLastWork c ops p.replayed.matrix → IsAtStage s book b p l g ops c
    found_stage l g taken given c is = subst (λ (w : Option Change × Past). IsAtStage s book b p w.0 w.1 ops c) (λ i. ((one_way l g taken given).0 i, (one_way l g taken given).1 i))
        (at_stage state b p h.halted.past p.replayed.matrix ops way_shape way.lacking way.past way.before way.rolling way.taken way.on_way (h.listed_is t).known.own read.1 read.2 (last_read t way.rolling) c is)

    pub found_journal : (l : Option Change) (g : Past) → TakesUp b p.doubt l g → IsTable g p.replayed.table p.replayed.matrix → IsJournalled told (state p.journal.0) p.journal.1 (IsListOf b p.doubt l)
    found_journal l g taken given = subst (λ (x : Option Change). IsJournalled told (state p.journal.0) p.journal.1 (IsListOf b p.doubt x)) (one_way l g taken given).0 (h.listed_is t).journalled

  pub few_found : (l : Option Change) (g : Past) → TakesUp b p.doubt l g → IfSome l (λ _. p.changes < 2 ^ 48)
  few_found l g taken = subst (λ (n : ℕ). IfSome l (λ _. n < 2 ^ 48)) (sym h.halted.past.changes) (few_changes b p.doubt l g taken)

  -- the Provisioner with what was found, beside which all else is the same
  module _ (e : Board) (lacking : Option Change) (fits : e.shape ≡ p.replayed.expected.shape) where
    abbrev found : Provisioner D
    found = record p { replayed = record p.replayed { expected = e; lacking = lacking } }

    past_found : KeepsPast b found
    past_found =
        let k = h.halted.past in
        record { matrix = k.matrix; placed = k.placed; spent = k.spent; few = k.few; changes = k.changes; doubts = k.doubts; spelled = k.spelled; book = k.book; shape = k.shape; room = record { matrix = k.room.matrix; table = k.room.table; expected = fits ∙ k.room.expected } }

    way_found : HasWay b p → HasWay b found
    way_found w = record { lacking = w.lacking; past = w.past; before = w.before; rolling = w.rolling; taken = w.taken; on_way = record { under_way = w.on_way.under_way; leads = w.on_way.leads; switches = w.on_way.switches; alone = w.on_way.alone } }

    lists_found : (l : Option Change) → Lists told state b p l → Lists told state b found l
    lists_found None j = j
    lists_found (Some c) j = j

    halted_found : IsHalted told state b found
    unfolding way_found
    halted_found = record {
      halted = h.halted.halted;
      past = past_found;
      way = way_found h.halted.way;
      known = λ t. let k = h.halted.known t in record { way = way_found k.way; own = k.own; journal = lists_found k.way.lacking k.journal };
    }

    module _ (g : Past) (taken : TakesUp b p.doubt lacking g) (given : IsTable g p.replayed.table p.replayed.matrix) where
      finds : Finds told state b found lacking g ops
      finds = record { records = h.records; number = h.number; records_are = h.records_are; comes = h.comes; taken = taken; given = given }

      journal_found : IsJournalled told (state p.journal.0) p.journal.1 (IsListOf b p.doubt lacking)
      journal_found = record {
        keeps = record { kept = λ t. (found_journal t lacking g taken given).keeps.kept t; lists = λ t. (found_journal t lacking g taken given).keeps.lists t };
        whole = h.whole;
        still = h.still;
        settled = λ t. (found_journal t lacking g taken given).settled t;
        synced = λ t. (found_journal t lacking g taken given).synced t;
      }

      -- a cold rolling leads to the legs from wherever the registers are
      rejoins_found : (r : RollingAt) → IsColdFrom m.phase r → Rejoins told state b lacking g found r
      rejoins_found r first =
          let midway = h.halted.way.on_way.under_way.midway in
          let proper : IsProperColouring p.replayed.matrix = subst IsProperColouring (sym given.1) (taken_placed b p.doubt h.halted.past.placed lacking g taken).1.colouring in
          record {
            found = record { halted = h.halted.halted; past = past_found; taken = taken; journalled = journal_found; matrix = given.1; lacks = refl };
            cold = λ none. let e : PartsFrom (record { 0 = 0 }) ≡ Nothing = sym first.behind ∙ none in cc;
            leading = leading_begun z p.replayed.matrix m r midway.sized midway.ruled proper way_shape first;
          }

      resumes_found : (r : RollingAt) → IsWarm z m ops p.replayed.matrix g.fold.switches r → Resumes told state b lacking g found r
      resumes_found r warm =
          let c = last.0 in
          let is = last.1 in
          let midway : IsMidway z c (writes_of r.work) r.step m = subst (λ (os : List LegOp). IsMidway z c (ops_writes os) r.step m) (sym warm.work) (warm.midway c is) in
          let few = taken_few b p.doubt lacking g h.halted.past.few taken in
          record {
            halted = h.halted.halted;
            past = past_found;
            taken = taken;
            before = c;
            on_way = record {
              under_way = record {
                proper = is.placed.colouring;
                valid = subst (AreValidOps c) (sym warm.work) is.valid;
                midway = midway;
                room = let s = warm.switched in omega (arith, few, s);
              };
              leads = ap (λ (os : List LegOp). after_ops os c) warm.work ∙ (sym is.leads ∙ given.1);
              switches = warm.switched;
              alone = warm.alone;
            };
            own = λ t. let at = found_stage t lacking g taken given c is in at.own r warm.work (last_stage z m c p.replayed.matrix ops is r.step at.step warm.low at.low (warm.midway c is) at.midway);
            journalled = journal_found;
            matrix = given.1;
            lacks = refl;
          }

      never_cold : told → IsCold z m ops p.replayed.matrix g.fold.switches → ⊥
      never_cold t cold = let at = found_stage t lacking g taken given last.0 last.1 in cold last.0 at.step last.1 at.low at.midway at.switches

      recovered_found : (x : Recovered) (switches : ℕ) → switches ≡ g.fold.switches → ResumedIs z m ops p.replayed.matrix switches x → RecoveredIs told state b found x
      recovered_found (recovered.Warm r) n same is = (lacking, g, ops, finds, subst (λ (w : Colouring × ℕ). IsWarm z m ops w.0 w.1 r) (λ i. (given.1 i, same i)) is)
      recovered_found (recovered.Cold r) n same is = (lacking, g, ops, finds, subst (λ (w : Colouring × ℕ). IsCold z m ops w.0 w.1) (λ i. (given.1 i, same i)) is.0, is.1)
      recovered_found (recovered.Astray i) n same is = absurd is
      recovered_found recovered.Fault n same is = absurd is

      resumes_if : (x : Recovered) (switches : ℕ) → switches ≡ g.fold.switches → ResumedIs z m ops p.replayed.matrix switches x → IfWarm x (λ r. (l : Option Change) × (f : Past) × Resumes told state b l f found r)
      resumes_if (recovered.Warm r) n same is = (lacking, g, resumes_found r (subst (λ (k : ℕ). IsWarm z m ops p.replayed.matrix k r) same is))
      resumes_if (recovered.Cold r) n same is = tt
      resumes_if (recovered.Astray i) n same is = tt
      resumes_if recovered.Fault n same is = tt

      rejoins_if : (x : Recovered) (switches : ℕ) → ResumedIs z m ops p.replayed.matrix switches x → IfCold x (λ r. (l : Option Change) × (f : Past) × Rejoins told state b l f found r)
      rejoins_if (recovered.Warm r) n is = tt
      rejoins_if (recovered.Cold r) n is = (lacking, g, rejoins_found r is.1)
      rejoins_if (recovered.Astray i) n is = tt
      rejoins_if recovered.Fault n is = tt

      warm_if : told → (x : Recovered) (switches : ℕ) → switches ≡ g.fold.switches → ResumedIs z m ops p.replayed.matrix switches x → (r : RollingAt) → x ≢ recovered.Cold r
      warm_if t (recovered.Warm q) n same is r e = let y : recovered.Warm q ≡ recovered.Cold r = e in cc
      warm_if t (recovered.Cold q) n same is r e = never_cold t (subst (IsCold z m ops p.replayed.matrix) same is.0)
      warm_if t (recovered.Astray i) n same is r e = absurd is
      warm_if t recovered.Fault n same is r e = absurd is

    -- they give neither
    astray_found : IsNeither b p.doubt p.replayed.table p.replayed.matrix → IsAstray told state b found p.journal.1.count
    astray_found none = record { records = h.records; number = h.number; astray = inr (sym h.number, (ops, h.comes), none) }

  -- the same of a Provisioner whose parts are those of this one
  pub record AreParts (matrix : Colouring) (mover : MoverAt) (replayed : Replayed) (e : Board) (lacking : Option Change) : Type 0 where
    pub matrix_is : matrix ≡ p.matrix
    pub mover_is : mover ≡ p.mover
    pub replayed_is : replayed ≡ record p.replayed { expected = e; lacking = lacking }
    pub fits : e.shape ≡ p.replayed.expected.shape

  abbrev pub with_parts : Colouring → MoverAt → Replayed → Provisioner D
  with_parts matrix mover replayed = record p { matrix = matrix; mover = mover; replayed = replayed }

  module _ (matrix : Colouring) (mover : MoverAt) (replayed : Replayed) (e : Board) (lacking : Option Change) (parts : AreParts matrix mover replayed e lacking) where
    same_parts : found e lacking parts.fits ≡ with_parts matrix mover replayed
    same_parts = λ i. with_parts (sym parts.matrix_is i) (sym parts.mover_is i) (sym parts.replayed_is i)

    pub go_halted : IsHalted told state b (with_parts matrix mover replayed)
    go_halted = subst (IsHalted told state b) same_parts (halted_found e lacking parts.fits)

    pub go_astray : IsNeither b p.doubt p.replayed.table p.replayed.matrix → IsAstray told state b (with_parts matrix mover replayed) p.journal.1.count
    go_astray none = subst (λ (q : Provisioner D). IsAstray told state b q p.journal.1.count) same_parts (astray_found e lacking parts.fits none)

    module _ (g : Past) (taken : TakesUp b p.doubt lacking g) (given : IsTable g p.replayed.table p.replayed.matrix) (x : Recovered) (switches : ℕ) (number : switches ≡ g.fold.switches) (is : ResumedIs z m ops p.replayed.matrix switches x) where
      pub go_recovered : RecoveredIs told state b (with_parts matrix mover replayed) x
      go_recovered = subst (λ (q : Provisioner D). RecoveredIs told state b q x) same_parts (recovered_found e lacking parts.fits g taken given x switches number is)

      pub go_resumes : IfWarm x (λ r. (l : Option Change) × (f : Past) × Resumes told state b l f (with_parts matrix mover replayed) r)
      go_resumes = subst (λ (q : Provisioner D). IfWarm x (λ r. (l : Option Change) × (f : Past) × Resumes told state b l f q r)) same_parts (resumes_if e lacking parts.fits g taken given x switches number is)

      pub go_rejoins : IfCold x (λ r. (l : Option Change) × (f : Past) × Rejoins told state b l f (with_parts matrix mover replayed) r)
      go_rejoins = subst (λ (q : Provisioner D). IfCold x (λ r. (l : Option Change) × (f : Past) × Rejoins told state b l f q r)) same_parts (rejoins_if e lacking parts.fits g taken given x switches is)

      pub go_warm : told → (r : RollingAt) → x ≢ recovered.Cold r
      go_warm t r = warm_if e lacking parts.fits g taken given t x switches number is r

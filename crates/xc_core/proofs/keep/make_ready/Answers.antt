use Rattle.std.proofs.Common.{◌≡◌, ◌⊎◌, inl, inr, true, false, ◌∙◌, sym, ap, subst}
use Rattle.std.specs.Prelude.{OnErr, OnOk, IsErr, Result, Ok, Err}
use Rattle.std.specs.List.{AllByRecursion}
use Rattle.dxc_num.specs.Dimensions.{IsInLimits}
use Rattle.dxc_disk.specs.Disks.{LeavesOnly}
use Rattle.dxc_disk.proofs.DiskSteps.{sound_on, spends_on}
use Rattle.dxc_model.specs.Tables.{Board}
use Rattle.journal_core.specs.declared.book.Book.{Book}
use Rattle.journal_core.specs.Books.{IsReady}
use Rattle.journal_core.proofs.KeepSteps.{only_on}
use Rattle.paull_matrix.specs.Colourings.{Colouring}
use Rattle.xc_journal.specs.Entries.{FitsConn}
use Rattle.xc_core.specs.declared.provisioner.Provisioner.{Provisioner}
use Rattle.xc_core.specs.Journals.{IsCounted, IsOldOrDoubted, StillCounts}
use Rattle.xc_core.specs.Provisioners.{HasNoDoubt, IsUnmended}
use Rattle.xc_core.specs.Begins.{IsCopied}
use Rattle.xc_core.specs.Reckonings.{Past}
use Rattle.xc_core.proofs.Counting.{counts_same, keeps_counted, left_counted, still_from}
use Rattle.xc_core.proofs.Pasts.{home_with}
use Rattle.xc_core.proofs.Rolling.{home_limits, placed_as}
use Rattle.xc_core.proofs.Rooms.{fault_on}
use Rattle.xc_core.proofs.Settling.{settled_left}
use Rattle.xc_core.proofs.keep.make_ready.Goals as goal

-- two things hold where it went well
ok_both : {T E : Type 0} (r : Result T E) (P Q : Type 0) → OnOk r P → Q → OnOk r (P × Q)
ok_both (Ok x) P Q here other = (here, other)
ok_both (Err e) P Q here other = tt

-- what holds anyway holds where it didn't
on_err : {T E : Type 0} (r : Result T E) (P : Type 0) → P → OnErr r P
on_err (Ok x) P here = tt
on_err (Err e) P here = here

-- where a checkpoint is due, the copy is the table
copy_is : {D : Type 0} (b : Past) (a m : Provisioner D) → m ≡ record a { journal = m.journal; doubt = m.doubt } → m.journal.1 ≡ record a.journal.1 { to_mend = m.journal.1.to_mend } → (IsReady m.journal.1 → ⊥) → IsCopied b a → m.replayed.expected ≡ b.fold.table
copy_is {D} b a m others book due copied = ap (λ (x : Provisioner D). x.replayed.expected) others ∙ copied (λ r. due (subst IsReady (sym book) (record { below = r.below; still = r.still; version = r.version })))

pub write_checkpoint-requires-clause-placed : goal.write_checkpoint-requires-clause-placed
write_checkpoint-requires-clause-placed g c =
    let w = c.requires.home in
    let h = c.settle.ensures.home w.0 w.1 in
    let copy = copy_is w.0 c.args.p.now c.settle.new.p c.settle.ensures.others c.settle.ensures.book (λ r. let e : true ≡ false = c.if-not-due.ensures.1 r in cc) w.2 in
    placed_as w.0 c.settle.new.p.replayed.expected c.settle.new.p.matrix copy h.past.matrix h.past.placed

pub write_checkpoint-requires-clause-shape : goal.write_checkpoint-requires-clause-shape
write_checkpoint-requires-clause-shape g c =
    let w = c.requires.home in
    let h = c.settle.ensures.home w.0 w.1 in
    let copy = copy_is w.0 c.args.p.now c.settle.new.p c.settle.ensures.others c.settle.ensures.book (λ r. let e : true ≡ false = c.if-not-due.ensures.1 r in cc) w.2 in
    ap (λ (x : Board). x.shape) copy ∙ h.past.shape

pub write_checkpoint-requires-clause-of_shape : goal.write_checkpoint-requires-clause-of_shape
write_checkpoint-requires-clause-of_shape g c =
    let w = c.requires.home in
    let copy = copy_is w.0 c.args.p.now c.settle.new.p c.settle.ensures.others c.settle.ensures.book (λ r. let e : true ≡ false = c.if-not-due.ensures.1 r in cc) w.2 in
    (c.shape-shape.ensures.of_shape, subst (λ (t : Board). IsInLimits t.shape) (sym copy) (home_limits g.D.Disk.told g.D.Disk.state w.0 c.args.p.now w.1))

pub write_checkpoint-requires-clause-spelled : goal.write_checkpoint-requires-clause-spelled
write_checkpoint-requires-clause-spelled g c =
    let w = c.requires.home in
    let copy = copy_is w.0 c.args.p.now c.settle.new.p c.settle.ensures.others c.settle.ensures.book (λ r. let e : true ≡ false = c.if-not-due.ensures.1 r in cc) w.2 in
    subst (λ (t : Board). AllByRecursion FitsConn t.conns) (sym copy) w.1.past.spelled

pub returns-clause-home : goal.returns-clause-home
returns-clause-home g c = λ b home copied.
    let copy = copy_is b c.args.p.now c.settle.new.p c.settle.ensures.others c.settle.ensures.book (λ r. let e : true ≡ false = c.if-not-due.ensures.1 r in cc) copied in
    let m = c.settle.new.p in
    let h = c.settle.ensures.home b home in
    home_with g.D.Disk.told g.D.Disk.state b m h c.write_checkpoint.new.journal m.doubt c.write_checkpoint.ensures.book c.write_checkpoint.ensures.shape h.past.doubts (c.write_checkpoint.ensures.home b m.doubt h.journal (copy, h.past.matrix))

pub returns-clause-any_moment : goal.returns-clause-any_moment
returns-clause-any_moment g c = λ told b home copied.
    let copy = copy_is b c.args.p.now c.settle.new.p c.settle.ensures.others c.settle.ensures.book (λ r. let e : true ≡ false = c.if-not-due.ensures.1 r in cc) copied in
    let a = c.args.p.now in
    let m = c.settle.new.p in
    let h = c.settle.ensures.home b home in
    only_on (g.D.Disk.state a.journal.0) (g.D.Disk.state m.journal.0) (g.D.Disk.state c.write_checkpoint.new.journal.0) (IsOldOrDoubted b a.doubt) (c.settle.ensures.any_moment told b home)
    (settled_left b a.doubt m.doubt (g.D.Disk.state m.journal.0) (g.D.Disk.state c.write_checkpoint.new.journal.0) c.settle.ensures.doubt (c.write_checkpoint.ensures.any_moment told b m.doubt h.journal (copy, h.past.matrix)))

pub returns-in-Err-clause-unready : goal.returns-in-Err-clause-unready
returns-in-Err-clause-unready g c = inl c.in-Err.ensures.unmended

pub returns-clause-unready : goal.returns-clause-unready
returns-clause-unready g c =
    let left : Provisioner g.row.D.Denot = record (c.settle.new.p) { journal = c.write_checkpoint.new.journal } in
    on_err c.write_checkpoint.result (IsUnmended c.args.p.now left ⊎ HasNoDoubt left) (inr (c.write_checkpoint.ensures.whole c.in-Ok.ensures.settled.0, c.in-Ok.ensures.settled.1))

pub returns-in-Err-clause-acknowledged : goal.returns-in-Err-clause-acknowledged
returns-in-Err-clause-acknowledged g c = λ told b home copied.
    let a = c.args.p.now in
    keeps_counted (g.D.Disk.state a.journal.0) a.journal.1 b.fold.table a.matrix (g.D.Disk.state c.settle.new.p.journal.0) (c.settle.ensures.acknowledged told)

pub returns-then-not-due-clause-acknowledged : goal.returns-then-not-due-clause-acknowledged
returns-then-not-due-clause-acknowledged g c = λ told b home copied.
    let a = c.args.p.now in
    keeps_counted (g.D.Disk.state a.journal.0) a.journal.1 b.fold.table a.matrix (g.D.Disk.state c.settle.new.p.journal.0) (c.settle.ensures.acknowledged told)

pub returns-then-not-due-clause-counts : goal.returns-then-not-due-clause-counts
returns-then-not-due-clause-counts g c = λ told b home copied.
    let a = c.args.p.now in
    let m = c.settle.new.p in
    let book = c.settle.ensures.book in
    counts_same (g.D.Disk.state a.journal.0) a.journal.1 b.fold.table a.matrix (g.D.Disk.state m.journal.0) m.journal.1 (ap (λ (x : Book). x.shape) book) (ap (λ (x : Book). x.head) book) (c.settle.ensures.same told).0

pub returns-clause-acknowledged : goal.returns-clause-acknowledged
returns-clause-acknowledged g c = λ told b home copied.
    let a = c.args.p.now in
    let m = c.settle.new.p in
    let n = g.D.Disk.state c.write_checkpoint.new.journal.0 in
    let book = c.settle.ensures.book in
    let same = c.settle.ensures.same told in
    let copy = copy_is b c.args.p.now c.settle.new.p c.settle.ensures.others c.settle.ensures.book (λ r. let e : true ≡ false = c.if-not-due.ensures.1 r in cc) copied in
    let legs = ap (λ (x : Provisioner g.row.D.Denot). x.matrix) c.settle.ensures.others in
    only_on (g.D.Disk.state a.journal.0) (g.D.Disk.state m.journal.0) n (IsCounted (g.D.Disk.state a.journal.0) a.journal.1 b.fold.table a.matrix) (keeps_counted (g.D.Disk.state a.journal.0) a.journal.1 b.fold.table a.matrix (g.D.Disk.state m.journal.0) (c.settle.ensures.acknowledged told))
    (left_counted (g.D.Disk.state a.journal.0) (g.D.Disk.state m.journal.0) a.journal.1 m.journal.1 b.fold.table a.matrix (ap (λ (x : Book). x.shape) book) (ap (λ (x : Book). x.head) book) (ap (λ (x : Book). x.spare) book) same.0 same.1 (g.D.Disk.state m.journal.0) n
    (subst (λ (w : Board × Colouring). LeavesOnly (g.D.Disk.state m.journal.0) n (IsCounted (g.D.Disk.state m.journal.0) m.journal.1 w.0 w.1)) (λ i. (copy i, legs i))
    (c.write_checkpoint.ensures.acknowledged told b m.doubt (c.settle.ensures.home b home).journal)))

pub returns-clause-counts : goal.returns-clause-counts
returns-clause-counts g c = λ told b home copied.
    let a = c.args.p.now in
    let m = c.settle.new.p in
    let n = c.write_checkpoint.new.journal in
    let book = c.settle.ensures.book in
    let same = c.settle.ensures.same told in
    let copy = copy_is b c.args.p.now c.settle.new.p c.settle.ensures.others c.settle.ensures.book (λ r. let e : true ≡ false = c.if-not-due.ensures.1 r in cc) copied in
    let legs = ap (λ (x : Provisioner g.row.D.Denot). x.matrix) c.settle.ensures.others in
    still_from (g.D.Disk.state a.journal.0) (g.D.Disk.state m.journal.0) a.journal.1 m.journal.1 b.fold.table a.matrix (ap (λ (x : Book). x.shape) book) (ap (λ (x : Book). x.head) book) (ap (λ (x : Book). x.spare) book) same.0 same.1 (g.D.Disk.state n.0) n.1 c.write_checkpoint.result
    (subst (λ (w : Board × Colouring). OnOk c.write_checkpoint.result (StillCounts (g.D.Disk.state m.journal.0) m.journal.1 (g.D.Disk.state n.0) n.1 w.0 w.1)) (λ i. (copy i, legs i)) (c.write_checkpoint.ensures.counts told))

pub returns-clause-others : goal.returns-clause-others
returns-clause-others g c = ap (λ (x : Provisioner g.row.D.Denot). record x { journal = c.write_checkpoint.new.journal }) c.settle.ensures.others

pub returns-clause-ground : goal.returns-clause-ground
returns-clause-ground g c = (λ i. record { fabric = c.settle.new.p.mover.fabric; shape = c.write_checkpoint.ensures.shape i }) ∙ c.settle.ensures.ground

pub returns-clause-ready : goal.returns-clause-ready
returns-clause-ready g c = ok_both c.write_checkpoint.result (IsReady c.write_checkpoint.new.journal.1) (HasNoDoubt (record (c.settle.new.p) { journal = c.write_checkpoint.new.journal })) c.write_checkpoint.ensures.ready (c.write_checkpoint.ensures.whole c.in-Ok.ensures.settled.0, c.in-Ok.ensures.settled.1)

pub returns-clause-cause : goal.returns-clause-cause
returns-clause-cause g c = fault_on (g.D.Disk.state c.args.p.now.journal.0).faults (g.D.Disk.state c.settle.new.p.journal.0).faults (g.D.Disk.state c.write_checkpoint.new.journal.0).faults (IsErr c.write_checkpoint.result) c.settle.ensures.cause.later c.write_checkpoint.ensures.cause.later c.write_checkpoint.ensures.cause.cause

pub returns-clause-room : goal.returns-clause-room
returns-clause-room g c = spends_on 3 4_600_042 (g.D.Disk.state c.args.p.now.journal.0) (g.D.Disk.state c.settle.new.p.journal.0) (g.D.Disk.state c.write_checkpoint.new.journal.0) c.settle.ensures.room c.write_checkpoint.ensures.room

pub returns-clause-sound : goal.returns-clause-sound
returns-clause-sound g c = λ sound failed. c.write_checkpoint.ensures.sound (sound_on 3 4_600_042 (g.D.Disk.state c.args.p.now.journal.0) (g.D.Disk.state c.settle.new.p.journal.0) c.settle.ensures.cause.later sound c.settle.ensures.room) failed

pub returns-in-Err-clause-still : goal.returns-in-Err-clause-still
returns-in-Err-clause-still g c = λ ready. c.settle.ensures.still ready.1

pub returns-then-not-due-clause-still : goal.returns-then-not-due-clause-still
returns-then-not-due-clause-still g c = λ ready. c.settle.ensures.still ready.1

-- no checkpoint was due
pub returns-clause-still : goal.returns-clause-still
returns-clause-still g c = λ ready.
    let same = c.settle.ensures.still ready.1 in
    absurd (let e : true ≡ false = c.if-not-due.ensures.1 (subst (λ (j : g.row.D.Denot × Book). IsReady j.1) (sym same) ready.0) in cc)

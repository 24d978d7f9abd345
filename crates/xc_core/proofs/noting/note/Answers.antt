use Rattle.std.proofs.Common.{◌≡◌, ◌≢◌, ◌+◌, false, inl, inr, ⊎_elim, Some, Result, Ok, refl, sym, ap, ◌∙◌, subst}
use Rattle.dxc_causes.specs.Causes.{HasCause, Rose}
use Rattle.dxc_disk.specs.Disks.{LeavesOnly, Spends}
use Rattle.dxc_disk.proofs.DiskSteps.{spends_none, spends_on}
use Rattle.dxc_outside.specs.declared.stopped.Stopped.{Stopped}
use Rattle.roll_engine.specs.Rollings.{RollingAt}
use Rattle.journal_core.specs.declared.book.Book.{Book}
use Rattle.journal_core.specs.Books.{IsReady}
use Rattle.xc_core.specs.declared.noting.Noted.{Noted}
use Rattle.xc_core.specs.declared.noting.Noted.TheVariants as noted
use Rattle.xc_core.specs.declared.provisioner.Provisioner.{Provisioner}
use Rattle.xc_core.specs.Begins.{IsCopied, IsWithin, MayNote, NotedIs, Starts, plan_of}
use Rattle.xc_core.specs.Journals.{IsCounted, IsOldOrOneMore}
use Rattle.xc_core.specs.Provisioners.{IsHome, ground_of}
use Rattle.xc_core.specs.Reckonings.{Past}
use Rattle.journal_core.proofs.KeepSteps.{only_on}
use Rattle.xc_core.proofs.Counting.{counted_on, keeps_counted, kept_now}
use Rattle.xc_core.proofs.Journalling.{begun_left, left_from, untried}
use Rattle.xc_core.proofs.Pasts.{with_journal}
use Rattle.xc_core.proofs.Rolling.{append_left, is_within, left_alone, not_appended, starts}
use Rattle.xc_core.proofs.Rooms.{fault_on}
use Rattle.xc_core.proofs.Settling.{ready_still}
use Rattle.xc_core.proofs.Stopping.{by_stop}
use Rattle.xc_core.proofs.noting.note.Given as given
use Rattle.xc_core.proofs.noting.note.Goals as goal
use Rattle.xc_core.proofs.noting.note.Goals.{After-append, After-make_ready}

rolling_no_fault : ◌≢◌ {A = Result Noted Stopped} (Ok noted.Rolling) (Ok noted.Fault)
rolling_no_fault is = cc

-- the place after the call that made it ready
abbrev made_ready : (g : given.Over) → After-append g → After-make_ready g
made_ready g c = c.before.before.before.before.before

abbrev MayNoteHere : (g : given.Over) (c : After-make_ready g) → Past → Type 0
MayNoteHere g c b = MayNote g.D.Disk.told g.D.Disk.state b c.args.p.now (plan_of c.args.op.now c.args.rolling.value c.args.bytes.now)

-- the change is within the limits
within_limits : (g : given.Over) (c : After-make_ready g) (b : Past) → MayNoteHere g c b → IsWithin b c.args.op.now
within_limits g c b m = is_within g.D.Disk.told g.D.Disk.state b c.args.op.now c.args.p.now m.home c.args.rolling.value.work c.args.bytes.now m.is

-- the Provisioner whose journal is ready
ready_home : (g : given.Over) (c : After-make_ready g) (b : Past) → MayNoteHere g c b → IsHome g.D.Disk.told g.D.Disk.state b c.make_ready.new.p
ready_home g c b m = c.make_ready.ensures.home b m.home m.copied

pub returns-in_err-pass-clause-noted : goal.returns-in_err-pass-clause-noted
returns-in_err-pass-clause-noted g c = λ b m.
    let p = c.args.p.now in
    by_stop (NotedIs g.D.Disk.told g.D.Disk.state b p p (plan_of c.args.op.now c.args.rolling.value c.args.bytes.now)) c.from_residual.result c.from_residual.ensures.0 (λ e. refl)

pub returns-in_err-pass-clause-any_moment : goal.returns-in_err-pass-clause-any_moment
returns-in_err-pass-clause-any_moment g c = λ told b m. left_alone g.D.Disk.told g.D.Disk.state b c.args.op.now c.args.p.now c.args.p.now refl m.home told (g.met.D.Disk.is_disk c.args.p.now.journal.0 told)

pub returns-in_err-pass-clause-acknowledged : goal.returns-in_err-pass-clause-acknowledged
returns-in_err-pass-clause-acknowledged g c = λ told b h copied.
    let a = c.args.p.now in
    keeps_counted (g.D.Disk.state a.journal.0) a.journal.1 b.fold.table a.matrix (g.D.Disk.state a.journal.0) (kept_now (g.D.Disk.state a.journal.0) a.journal.1 h.past.book (h.journal.keeps.kept told) (g.met.D.Disk.is_disk a.journal.0 told))

pub returns-in_err-pass-clause-short : goal.returns-in_err-pass-clause-short
returns-in_err-pass-clause-short g c = λ _. spends_none 69 (g.D.Disk.state c.args.p.now.journal.0)

pub returns-in-Err-clause-noted : goal.returns-in-Err-clause-noted
returns-in-Err-clause-noted g c = λ b m. (ready_home g c.before b m, within_limits g c.before b m, ⊎_elim (λ unmended. inl unmended) (λ none. inr (inl none)) c.in-Err.ensures.unready)

pub returns-in-Err-clause-any_moment : goal.returns-in-Err-clause-any_moment
returns-in-Err-clause-any_moment g c = λ told b m. left_from b c.args.p.now.doubt c.args.op.now (g.D.Disk.state c.args.p.now.journal.0) (g.D.Disk.state c.make_ready.new.p.journal.0) (c.make_ready.ensures.any_moment told b m.home m.copied)

pub returns-in-Err-clause-short : goal.returns-in-Err-clause-short
returns-in-Err-clause-short g c = λ ready.
    let s = g.D.Disk.state c.args.p.now.journal.0 in
    subst (λ (j : g.row.D.Denot × Book). Spends 69 s (g.D.Disk.state j.0)) (sym (c.make_ready.ensures.still ready)) (spends_none 69 s)

pub returns-in-Ok-append-clause-noted : goal.returns-in-Ok-append-clause-noted
returns-in-Ok-append-clause-noted g c = λ b m.
    let j = c.append.new.self in
    let p = c.make_ready.new.p in
    subst (λ (r : RollingAt). Starts g.D.Disk.told g.D.Disk.state b c.args.op.now (with_journal p j (Some c.args.op.now)) r) (sym m.unmade_is)
    (starts g.D.Disk.told g.D.Disk.state b c.args.op.now p (ready_home g (made_ready g c.before) b m) c.args.rolling.value.work c.args.bytes.now m.is c.in-Ok.ensures.ready.0 j c.append.ensures.whole (λ t. (c.append.ensures.appends t).kept)
    j.1.reach (p.journal.1.count + 1) c.in-Ok-append.ensures.ok c.in-Ok.ensures.ready.1.0 (λ t. (c.in-Ok-append.ensures.appends t).ok.1) (λ t. (c.in-Ok-append.ensures.appends t).ok.0) (λ t. (c.in-Ok-append.ensures.appends t).synced))

pub returns-in-Err-append-clause-noted : goal.returns-in-Err-append-clause-noted
returns-in-Err-append-clause-noted g c = λ b m.
    let j = c.append.new.self in (
      not_appended g.D.Disk.told g.D.Disk.state b c.args.op.now c.make_ready.new.p (ready_home g (made_ready g c.before) b m) c.args.rolling.value.work c.args.bytes.now m.is c.in-Ok.ensures.ready.0 j c.append.ensures.whole (λ t. (c.append.ensures.appends t).kept)
          j.1.reach j.1.to_mend c.in-Err-append.ensures.err (λ t. (c.in-Err-append.ensures.appends t).err) (λ t. (c.in-Err-append.ensures.appends t).doubt),
      within_limits g (made_ready g c.before) b m,
      inr (inr (ready_still c.make_ready.new.p.journal.1 j.1 j.1.to_mend j.1.reach c.in-Err-append.ensures.err c.in-Ok.ensures.ready.0, refl)),
    )

-- at any moment of the append
appended_left : (g : given.Over) (c : After-append g) → g.D.Disk.told → (b : Past) → MayNoteHere g (made_ready g c) b → LeavesOnly (g.D.Disk.state c.args.p.now.journal.0) (g.D.Disk.state c.append.new.self.0) (IsOldOrOneMore b c.args.p.now.doubt c.args.op.now)
appended_left g c told b m =
    let p = c.make_ready.new.p in
    let j = c.append.new.self in
    begun_left b c.args.p.now.doubt p.doubt c.args.op.now (g.D.Disk.state c.args.p.now.journal.0) (g.D.Disk.state p.journal.0) (g.D.Disk.state j.0) (inr c.in-Ok.ensures.ready.1.1)
    (c.make_ready.ensures.any_moment told b m.home m.copied)
    (append_left g.D.Disk.told g.D.Disk.state b c.args.op.now p (ready_home g (made_ready g c) b m) c.args.rolling.value.work c.args.bytes.now m.is c.in-Ok.ensures.ready.0 j c.append.ensures.whole (λ t. (c.append.ensures.appends t).kept) told (c.append.ensures.appends told).any_moment)

pub returns-in-Ok-append-clause-any_moment : goal.returns-in-Ok-append-clause-any_moment
returns-in-Ok-append-clause-any_moment g c = λ told b m. appended_left g c.before told b m

pub returns-in-Err-append-clause-any_moment : goal.returns-in-Err-append-clause-any_moment
returns-in-Err-append-clause-any_moment g c = λ told b m. appended_left g c.before told b m

-- after a journal that was made ready
appended_counted : (g : given.Over) (c : After-append g) → g.D.Disk.told → (b : Past) → IsHome g.D.Disk.told g.D.Disk.state b c.args.p.now → IsCopied b c.args.p.now → LeavesOnly (g.D.Disk.state c.args.p.now.journal.0) (g.D.Disk.state c.append.new.self.0) (IsCounted (g.D.Disk.state c.args.p.now.journal.0) c.args.p.now.journal.1 b.fold.table c.args.p.now.matrix)
appended_counted g c told b h copied =
    let q = c.args.p.now in
    let m = c.make_ready.new.p in
    let s = g.D.Disk.state q.journal.0 in
    only_on s (g.D.Disk.state m.journal.0) (g.D.Disk.state c.append.new.self.0) (IsCounted s q.journal.1 b.fold.table q.matrix) (c.make_ready.ensures.acknowledged told b h copied)
    (counted_on s q.journal.1 b.fold.table q.matrix (g.D.Disk.state m.journal.0) (g.D.Disk.state c.append.new.self.0) m.journal.1 (c.in-Ok.ensures.counts told b h copied) (untried m.journal.1 (c.make_ready.ensures.home b h copied).past.book c.in-Ok.ensures.ready.0.still) (c.append.ensures.appends told).acknowledged)

pub returns-in-Ok-append-clause-acknowledged : goal.returns-in-Ok-append-clause-acknowledged
returns-in-Ok-append-clause-acknowledged g c = λ told b h copied. appended_counted g c.before told b h copied

pub returns-in-Err-append-clause-acknowledged : goal.returns-in-Err-append-clause-acknowledged
returns-in-Err-append-clause-acknowledged g c = λ told b h copied. appended_counted g c.before told b h copied

-- fabric and shape are those of before the append
appended_ground : (g : given.Over) (c : After-append g) (n : Book) → c.append.new.self.1 ≡ n → n.shape ≡ c.make_ready.new.p.journal.1.shape → record { fabric = c.make_ready.new.p.mover.fabric; shape = c.append.new.self.1.shape } ≡ ground_of c.args.p.now
appended_ground g c n is same =
    let m = c.make_ready.new.p in
    (λ i. record { fabric = m.mover.fabric; shape = (ap (λ (x : Book). x.shape) is ∙ same) i }) ∙ c.make_ready.ensures.ground

pub returns-in-Ok-append-clause-ground : goal.returns-in-Ok-append-clause-ground
returns-in-Ok-append-clause-ground g c = appended_ground g c.before _ c.in-Ok-append.ensures.ok refl

pub returns-in-Err-append-clause-ground : goal.returns-in-Err-append-clause-ground
returns-in-Err-append-clause-ground g c = appended_ground g c.before _ c.in-Err-append.ensures.err refl

pub returns-in-Err-clause-mover : goal.returns-in-Err-clause-mover
returns-in-Err-clause-mover g c = ap (λ (x : Provisioner g.row.D.Denot). x.mover) c.make_ready.ensures.others

-- nor was the seat touched
pub returns-in-Ok-append-clause-mover : goal.returns-in-Ok-append-clause-mover
returns-in-Ok-append-clause-mover g c = ap (λ (x : Provisioner g.row.D.Denot). x.mover) c.make_ready.ensures.others

pub returns-in-Err-append-clause-mover : goal.returns-in-Err-append-clause-mover
returns-in-Err-append-clause-mover g c = ap (λ (x : Provisioner g.row.D.Denot). x.mover) c.make_ready.ensures.others

-- what both calls take of the disk's room
appended_room : (g : given.Over) (c : After-append g) → Spends 4_600_114 (g.D.Disk.state c.args.p.now.journal.0) (g.D.Disk.state c.append.new.self.0)
appended_room g c = spends_on 4_600_045 69 (g.D.Disk.state c.args.p.now.journal.0) (g.D.Disk.state c.make_ready.new.p.journal.0) (g.D.Disk.state c.append.new.self.0) c.make_ready.ensures.room c.append.ensures.room

pub returns-in-Ok-append-clause-room : goal.returns-in-Ok-append-clause-room
returns-in-Ok-append-clause-room g c = appended_room g c.before

pub returns-in-Err-append-clause-room : goal.returns-in-Err-append-clause-room
returns-in-Err-append-clause-room g c = appended_room g c.before

-- a record's
appended_short : (g : given.Over) (c : After-append g) → IsReady c.args.p.now.journal.1 × (c.args.p.now.journal.1.to_mend ≡ false) → Spends 69 (g.D.Disk.state c.args.p.now.journal.0) (g.D.Disk.state c.append.new.self.0)
appended_short g c ready = subst (λ (j : g.row.D.Denot × Book). Spends 69 (g.D.Disk.state j.0) (g.D.Disk.state c.append.new.self.0)) (c.make_ready.ensures.still ready) c.append.ensures.room

pub returns-in-Ok-append-clause-short : goal.returns-in-Ok-append-clause-short
returns-in-Ok-append-clause-short g c = λ ready. appended_short g c.before ready

pub returns-in-Err-append-clause-short : goal.returns-in-Err-append-clause-short
returns-in-Err-append-clause-short g c = λ ready. appended_short g c.before ready

-- and count of its faults
appended_fault : (g : given.Over) (c : After-append g) (failed : Type 0) → (failed → Rose (g.D.Disk.state c.make_ready.new.p.journal.0).faults (g.D.Disk.state c.append.new.self.0).faults) → HasCause (g.D.Disk.state c.args.p.now.journal.0).faults (g.D.Disk.state c.append.new.self.0).faults failed
appended_fault g c failed rose = fault_on (g.D.Disk.state c.args.p.now.journal.0).faults (g.D.Disk.state c.make_ready.new.p.journal.0).faults (g.D.Disk.state c.append.new.self.0).faults failed c.make_ready.ensures.cause.later c.append.ensures.cause.later rose

pub returns-in-Ok-append-clause-fault : goal.returns-in-Ok-append-clause-fault
returns-in-Ok-append-clause-fault g c = appended_fault g c.before (◌≡◌ {A = Result Noted Stopped} (Ok noted.Rolling) (Ok noted.Fault)) (λ is. absurd (rolling_no_fault is))

pub returns-in-Err-append-clause-fault : goal.returns-in-Err-append-clause-fault
returns-in-Err-append-clause-fault g c = appended_fault g c.before (◌≡◌ {A = Result Noted Stopped} (Ok noted.Fault) (Ok noted.Fault)) (λ _. c.in-Err-append.ensures.cause.cause refl)

pub returns-in-Ok-append-clause-sound : goal.returns-in-Ok-append-clause-sound
returns-in-Ok-append-clause-sound g c = λ _. rolling_no_fault

use Rattle.std.proofs.Common.{◌≡◌, ℕ, Bool, List, Err, Ok, refl, ap, subst, sym, ◌∙◌}
use Rattle.dxc_causes.specs.Causes.{HasCause}
use Rattle.dxc_disk.proofs.DiskSteps.{spends_none}
use Rattle.dxc_disk.proofs.LookSteps.{looks_same}
use Rattle.dxc_num.specs.Dimensions.{Dimensions}
use Rattle.dxc_disk.specs.Disks.{DiskState, Leaves, LeavesOnly, Spends, files}
use Rattle.journal_core.specs.declared.head.Head.{Head}
use Rattle.journal_core.specs.Opens.{IsRefused, OpensNew, OpensOld, made_head}
use Rattle.journal_core.specs.Turns.{Passing}
use Rattle.journal_core.proofs.KeepSteps.{none_only}
use Rattle.xc_core.specs.declared.fault.OpenFault.{OpenFault}
use Rattle.xc_core.specs.declared.start.Start.{Start}
use Rattle.xc_core.specs.Starts.{IsStart}
use Rattle.xc_core.specs.Openings.{Fails, IsDiskFault, IsStopFault, LeavesOpened, disk_of_fault}
use Rattle.xc_core.proofs.Journalling.{looked_on}
use Rattle.xc_core.proofs.Opened.{bad_header, leaves_opened, none_counted, none_opened}
use Rattle.xc_core.proofs.Rooms.{fault_on, replay_room, replay_sound}
use Rattle.xc_core.proofs.Unread.{unread_cause, unread_disk, unread_fails, unread_sound, unread_unstopped}
use Rattle.xc_core.proofs.start.read_journal.Goals as goal

pub returns-in-Err-clause-fails : goal.returns-in-Err-clause-fails
returns-in-Err-clause-fails g c told bytes is =
    let a = g.D.Disk.state c.args.disk in
    let b = g.D.Disk.state c.in-Err.fault.disk in
    let refused = bad_header c.shape-shape.result (made_head c.equipped.result) a b c.in-Err.fault.why bytes is (c.in-Err.ensures.old told) (c.in-Err.ensures.is_new told) in
    (refused.0, subst (λ (d : Dimensions). IsRefused d a b bytes) c.shape-shape.ensures refused.1)

-- what a test of the header and the records accepts, for the shelf's shape
passing_as : (d e : Dimensions) (test : Head → List (List ℕ) → Bool) (a b : DiskState) → d ≡ e → (Leaves a (Passing d test) → LeavesOnly a b (Passing d test)) → Leaves a (Passing e test) → LeavesOnly a b (Passing e test)
passing_as d e test a b same passes = subst (λ (x : Dimensions). Leaves a (Passing x test) → LeavesOnly a b (Passing x test)) same passes

pub returns-in-Err-clause-passing : goal.returns-in-Err-clause-passing
returns-in-Err-clause-passing g c told test = passing_as c.shape-shape.result c.args.shelf.now.shape test (g.D.Disk.state c.args.disk) (g.D.Disk.state c.in-Err.fault.disk) c.shape-shape.ensures (c.in-Err.ensures.passing told test)

pub returns-in-Err-clause-any_moment : goal.returns-in-Err-clause-any_moment
returns-in-Err-clause-any_moment g c told =
    let a = g.D.Disk.state c.args.disk in
    let b = g.D.Disk.state c.in-Err.fault.disk in
    leaves_opened c.args.shelf.now a b b (Err c.in-Err.fault.why) (g.met.D.Disk.is_disk c.in-Err.fault.disk told)
    (λ old. subst (λ (d : Dimensions). OpensOld d a b (Err c.in-Err.fault.why)) c.shape-shape.ensures (c.in-Err.ensures.old told old))
    (λ new. subst (λ (w : Dimensions × ℕ). OpensNew w.0 (made_head w.1) a b (Err c.in-Err.fault.why)) (λ k. (c.shape-shape.ensures k, c.equipped.ensures.value k)) (c.in-Err.ensures.is_new told new))
    (looks_same b)

pub replay-requires-clause-matrix : goal.replay-requires-clause-matrix
replay-requires-clause-matrix g c = c.in-Ok.ensures.matrix ∙ sym (c.in-Ok-open.ensures.whole.1 ∙ c.shape-shape.ensures)

pub replay-requires-clause-table : goal.replay-requires-clause-table
replay-requires-clause-table g c = c.in-Ok.ensures.table ∙ sym (c.in-Ok-open.ensures.whole.1 ∙ c.shape-shape.ensures)

pub returns-clause-passing : goal.returns-clause-passing
returns-clause-passing g c told test begin =
    let a = g.D.Disk.state c.args.disk in
    let j = c.in-Ok-open.journal in
    subst (λ (x : Start g.row.D.Denot). LeavesOnly a (g.D.Disk.state x.p.journal.0) (Passing c.args.shelf.now.shape test)) (sym c.start_of.ensures)
    (looked_on a (g.D.Disk.state j.0) (g.D.Disk.state c.replay.new.journal.0) (Passing c.args.shelf.now.shape test) (g.met.D.Disk.is_disk j.0 told)
    (passing_as c.shape-shape.result c.args.shelf.now.shape test a (g.D.Disk.state j.0) c.shape-shape.ensures (c.in-Ok-open.ensures.passing told test) begin) (c.replay.ensures.looks told))

pub returns-clause-any_moment : goal.returns-clause-any_moment
returns-clause-any_moment g c told =
    let a = g.D.Disk.state c.args.disk in
    let j = c.in-Ok-open.journal in
    let b = g.D.Disk.state j.0 in
    subst (λ (x : Start g.row.D.Denot). LeavesOpened c.args.shelf.now a (g.D.Disk.state x.p.journal.0)) (sym c.start_of.ensures)
    (leaves_opened c.args.shelf.now a b (g.D.Disk.state c.replay.new.journal.0) (Ok j.1) (g.met.D.Disk.is_disk j.0 told)
    (λ old. subst (λ (d : Dimensions). OpensOld d a b (Ok j.1)) c.shape-shape.ensures (c.in-Ok-open.ensures.old told old))
    (λ new. subst (λ (w : Dimensions × ℕ). OpensNew w.0 (made_head w.1) a b (Ok j.1)) (λ k. (c.shape-shape.ensures k, c.equipped.ensures.value k)) (c.in-Ok-open.ensures.is_new told new))
    (c.replay.ensures.looks told))

pub returns-clause-room : goal.returns-clause-room
returns-clause-room g c =
    let a = g.D.Disk.state c.args.disk in
    let j = c.in-Ok-open.journal in
    subst (λ (x : Start g.row.D.Denot). Spends 131_081 a (g.D.Disk.state x.p.journal.0)) (sym c.start_of.ensures)
    (replay_room 65_545 a (g.D.Disk.state j.0) (g.D.Disk.state c.replay.new.journal.0) j.1 c.in-Ok-open.ensures.whole.0 c.in-Ok-open.ensures.room c.replay.ensures.room)

pub returns-clause-cause : goal.returns-clause-cause
returns-clause-cause g c = subst (λ (x : Start g.row.D.Denot). HasCause (g.D.Disk.state c.args.disk).faults (g.D.Disk.state x.p.journal.0).faults ⊥) (sym c.start_of.ensures)
    (fault_on (g.D.Disk.state c.args.disk).faults (g.D.Disk.state c.in-Ok-open.journal.0).faults (g.D.Disk.state c.replay.new.journal.0).faults ⊥ c.in-Ok-open.ensures.cause.later c.replay.ensures.cause.later (λ none. absurd none))

pub returns-clause-ok : goal.returns-clause-ok
returns-clause-ok g c =
    let a = g.D.Disk.state c.args.disk in
    let j = c.in-Ok-open.journal in
    let b = g.D.Disk.state j.0 in
    let read = c.in-Ok-replay.ensures.read in
    subst (λ (x : Start g.row.D.Denot). IsStart g.D.Disk.told g.D.Disk.state c.args.shelf.now a c.args.mover x) (sym c.start_of.ensures)
    (record {
      journal = j;
      handed = ap (λ (d : g.row.D.Denot). files (g.D.Disk.state d).readings) c.of-handed.ensures;
      fresh = c.in-Ok.ensures.fresh;
      held = refl;
      old = λ told old. subst (λ (d : Dimensions). OpensOld d a b (Ok j.1)) c.shape-shape.ensures (c.in-Ok-open.ensures.old told old);
      new = λ told new. subst (λ (w : Dimensions × ℕ). OpensNew w.0 (made_head w.1) a b (Ok j.1)) (λ k. (c.shape-shape.ensures k, c.equipped.ensures.value k)) (c.in-Ok-open.ensures.is_new told new);
      whole_book = c.in-Ok-open.ensures.whole.0;
      shape = c.in-Ok-open.ensures.whole.1 ∙ c.shape-shape.ensures;
      whole = c.in-Ok-open.ensures.whole.2;
      still = c.in-Ok-open.ensures.whole.3;
      same = c.replay.ensures.same;
      looks = c.replay.ensures.looks;
      no_more = c.replay.ensures.no_more;
      kept = c.replay.ensures.kept;
      records = read.0;
      number = read.1;
      read = read.2;
      comes = read.3;
      room = c.in-Ok.ensures.room;
    })

pub returns-in-Err-replay-clause-fails : goal.returns-in-Err-replay-clause-fails
returns-in-Err-replay-clause-fails g c told = subst (λ (e : OpenFault g.row.D.Denot). Fails g.D.Disk.state (g.D.Disk.state c.args.disk) c.args.shelf.now.shape e) (sym c.failed.ensures)
    (unread_fails g.D.Disk.state c.shape-shape.result c.args.shelf.now.shape (made_head c.equipped.result) (g.D.Disk.state c.args.disk) (g.D.Disk.state c.in-Ok-open.journal.0) c.in-Ok-open.journal.1 c.replay.new.table c.replay.new.matrix c.replay.new.journal.0 c.shape-shape.ensures (c.in-Err-replay.ensures.looks told).same (g.met.D.Disk.is_disk c.in-Ok-open.journal.0 told) c.in-Ok-open.ensures.whole.0 c.in-Ok-open.ensures.whole.2 c.in-Ok-open.ensures.whole.3 (c.in-Ok-open.ensures.old told) (c.in-Ok-open.ensures.is_new told)
    c.in-Err-replay.fault (c.in-Err-replay.ensures.told told))

pub returns-in-Err-replay-clause-any_moment : goal.returns-in-Err-replay-clause-any_moment
returns-in-Err-replay-clause-any_moment g c told =
    let a = g.D.Disk.state c.args.disk in
    let j = c.in-Ok-open.journal in
    let b = g.D.Disk.state j.0 in
    subst (λ (e : OpenFault g.row.D.Denot). LeavesOpened c.args.shelf.now a (g.D.Disk.state (disk_of_fault e))) (sym c.failed.ensures)
    (unread_disk c.in-Err-replay.fault c.replay.new.journal.0 (λ d. LeavesOpened c.args.shelf.now a (g.D.Disk.state d)) (leaves_opened c.args.shelf.now a b (g.D.Disk.state c.replay.new.journal.0) (Ok j.1) (g.met.D.Disk.is_disk j.0 told)
    (λ old. subst (λ (d : Dimensions). OpensOld d a b (Ok j.1)) c.shape-shape.ensures (c.in-Ok-open.ensures.old told old))
    (λ new. subst (λ (w : Dimensions × ℕ). OpensNew w.0 (made_head w.1) a b (Ok j.1)) (λ k. (c.shape-shape.ensures k, c.equipped.ensures.value k)) (c.in-Ok-open.ensures.is_new told new))
    (c.in-Err-replay.ensures.looks told)))

pub returns-in-Err-replay-clause-passing : goal.returns-in-Err-replay-clause-passing
returns-in-Err-replay-clause-passing g c told test begin =
    let a = g.D.Disk.state c.args.disk in
    let j = c.in-Ok-open.journal in
    subst (λ (e : OpenFault g.row.D.Denot). LeavesOnly a (g.D.Disk.state (disk_of_fault e)) (Passing c.args.shelf.now.shape test)) (sym c.failed.ensures)
    (unread_disk c.in-Err-replay.fault c.replay.new.journal.0 (λ d. LeavesOnly a (g.D.Disk.state d) (Passing c.args.shelf.now.shape test)) (looked_on a (g.D.Disk.state j.0) (g.D.Disk.state c.replay.new.journal.0) (Passing c.args.shelf.now.shape test) (g.met.D.Disk.is_disk j.0 told)
    (passing_as c.shape-shape.result c.args.shelf.now.shape test a (g.D.Disk.state j.0) c.shape-shape.ensures (c.in-Ok-open.ensures.passing told test) begin) (c.in-Err-replay.ensures.looks told)))

pub returns-in-Err-replay-clause-room : goal.returns-in-Err-replay-clause-room
returns-in-Err-replay-clause-room g c =
    let a = g.D.Disk.state c.args.disk in
    let j = c.in-Ok-open.journal in
    subst (λ (e : OpenFault g.row.D.Denot). Spends 131_081 a (g.D.Disk.state (disk_of_fault e))) (sym c.failed.ensures)
    (unread_disk c.in-Err-replay.fault c.replay.new.journal.0 (λ d. Spends 131_081 a (g.D.Disk.state d)) (replay_room 65_545 a (g.D.Disk.state j.0) (g.D.Disk.state c.replay.new.journal.0) j.1 c.in-Ok-open.ensures.whole.0 c.in-Ok-open.ensures.room c.in-Err-replay.ensures.room))

pub returns-in-Err-replay-clause-cause : goal.returns-in-Err-replay-clause-cause
returns-in-Err-replay-clause-cause g c =
    let j = c.in-Ok-open.journal in
    subst (λ (e : OpenFault g.row.D.Denot). HasCause (g.D.Disk.state c.args.disk).faults (g.D.Disk.state (disk_of_fault e)).faults (IsDiskFault e)) (sym c.failed.ensures)
    (unread_cause g.D.Disk.state c.in-Err-replay.fault c.replay.new.journal.0 (g.D.Disk.state c.args.disk).faults (g.D.Disk.state j.0).faults c.in-Ok-open.ensures.cause.later c.in-Err-replay.ensures.cause.later c.in-Err-replay.ensures.cause.cause)

pub returns-in-Err-replay-clause-sound : goal.returns-in-Err-replay-clause-sound
returns-in-Err-replay-clause-sound g c = λ sound.
    let j = c.in-Ok-open.journal in
    subst (λ (e : OpenFault g.row.D.Denot). IsDiskFault e → ⊥) (sym c.failed.ensures)
    (unread_sound c.in-Err-replay.fault c.replay.new.journal.0 (c.in-Err-replay.ensures.sound (replay_sound 65_545 (g.D.Disk.state c.args.disk) (g.D.Disk.state j.0) j.1 c.in-Ok-open.ensures.whole.0 c.in-Ok-open.ensures.cause.later c.in-Ok-open.ensures.room sound)))

pub returns-in-Err-replay-clause-unstopped : goal.returns-in-Err-replay-clause-unstopped
returns-in-Err-replay-clause-unstopped g c = subst (λ (e : OpenFault g.row.D.Denot). IsStopFault e → ⊥) (sym c.failed.ensures) (unread_unstopped c.in-Err-replay.fault c.replay.new.journal.0)

-- before the journal was opened the disk is as it was
pub returns-in_default-clause-any_moment : goal.returns-in_default-clause-any_moment
returns-in_default-clause-any_moment g c told =
    let a = g.D.Disk.state c.args.disk in
    none_opened c.args.shelf.now a (g.met.D.Disk.is_disk c.args.disk told)

pub returns-in_default-clause-passing : goal.returns-in_default-clause-passing
returns-in_default-clause-passing g c told test begin =
    let a = g.D.Disk.state c.args.disk in
    none_only a (Passing c.args.shelf.now.shape test) (g.met.D.Disk.is_disk c.args.disk told) begin

pub returns-in_default-clause-room : goal.returns-in_default-clause-room
returns-in_default-clause-room g c = spends_none 131_081 (g.D.Disk.state c.args.disk)

pub returns-in_default-clause-cause : goal.returns-in_default-clause-cause
returns-in_default-clause-cause g c = none_counted (g.D.Disk.state c.args.disk)

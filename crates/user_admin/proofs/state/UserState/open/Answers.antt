use Rattle.std.proofs.Common.{ℕ, ◌≤◌, Err, Ok, sym, ◌∙◌, ap, subst, arith}
use Rattle.std.specs.FinMap.{len}
use Rattle.dxc_causes.specs.Causes.{HasCause}
use Rattle.std.specs.declared.snapshot.Snapshot.{Snapshot}
use Rattle.dxc_disk.specs.Disks.{Spends, files}
use Rattle.dxc_disk.proofs.DiskSteps.{spends_more, spends_none}
use Rattle.dxc_disk.proofs.LookSteps.{looks_same}
use Rattle.dxc_num.specs.Dimensions.{Dimensions}
use Rattle.journal_core.specs.Books.{listed}
use Rattle.journal_core.specs.Opens.{IsRefused, OpensNew, OpensOld, made_head}
use Rattle.user_admin.specs.declared.fault.UserOpenFault.{UserOpenFault}
use Rattle.user_admin.specs.declared.state.Lists.{Lists}
use Rattle.user_admin.specs.Users.{Users, shelf_users}
use Rattle.user_admin.specs.Changes.{most_users}
use Rattle.user_admin.specs.Files.{FoldsTo}
use Rattle.user_admin.specs.Journals.{Replays}
use Rattle.user_admin.specs.Openings.{Fails, IsDiskErr, LeavesOpened, disk_left}
use Rattle.user_admin.proofs.Described.{few_described}
use Rattle.user_admin.proofs.FromFile.{described_users}
use Rattle.user_admin.proofs.Opened.{bad_header, fold_room, fold_sound, leaves_opened, none_opened, opened}
use Rattle.user_admin.proofs.Unread.{as_opened, as_taken, unread_cause, unread_disk, unread_fails, unread_sound}
use Rattle.user_admin.proofs.state.UserState.open.Goals as goal

pub fold-requires : goal.fold-requires
fold-requires g c =
    let e = c.deref_mut.ensures.value in
    ap (λ (l : Lists). l.users) e ∙ (c.in-Ok.ensures.users ∙ (sym c.in-Ok.ensures.described ∙ sym (ap (λ (l : Lists). l.described) e)))

pub returns-in-Err-clause-fails : goal.returns-in-Err-clause-fails
returns-in-Err-clause-fails g c told bytes is =
    let a = g.D.Disk.state c.args.disk in
    let b = g.D.Disk.state c.in-Err.fault.disk in
    let refused = bad_header c.shape.result (made_head c.equipped.result) a b c.in-Err.fault.why bytes is (c.in-Err.ensures.old told) (c.in-Err.ensures.is_new told) in
    (refused.0, subst (λ (d : Dimensions). IsRefused d a b bytes) c.shape.ensures refused.1)

pub returns-in-Err-clause-any_moment : goal.returns-in-Err-clause-any_moment
returns-in-Err-clause-any_moment g c told =
    let a = g.D.Disk.state c.args.disk in
    let b = g.D.Disk.state c.in-Err.fault.disk in
    leaves_opened c.args.shelf.now a b b (Err c.in-Err.fault.why) (g.met.D.Disk.is_disk c.in-Err.fault.disk told)
    (λ old. subst (λ (d : Dimensions). OpensOld d a b (Err c.in-Err.fault.why)) c.shape.ensures (c.in-Err.ensures.old told old))
    (λ new. subst (λ (w : Dimensions × ℕ). OpensNew w.0 (made_head w.1) a b (Err c.in-Err.fault.why)) (λ k. (c.shape.ensures k, c.equipped.ensures.value k)) (c.in-Err.ensures.is_new told new))
    (looks_same b)

pub returns-in-Err-clause-room : goal.returns-in-Err-clause-room
returns-in-Err-clause-room g c = spends_more 65_545 131_081 (g.D.Disk.state c.args.disk) (g.D.Disk.state c.in-Err.fault.disk) (omega arith) c.in-Err.ensures.room

pub returns-in-Err-clause-sound : goal.returns-in-Err-clause-sound
returns-in-Err-clause-sound g c = λ sound is. c.in-Err.ensures.sound (record { margin = sound.margin; enough = omega (arith, sound.enough) }) is

pub returns-in-Err-fold-clause-fails : goal.returns-in-Err-fold-clause-fails
returns-in-Err-fold-clause-fails g c told =
    let shelf = c.args.shelf.now in
    let a = g.D.Disk.state c.args.disk in
    let j = c.in-Ok-open.journal in
    let b = g.D.Disk.state j.0 in
    let described = ap (λ (l : Lists). l.described) c.deref_mut.ensures.value ∙ c.in-Ok.ensures.described in
    subst (λ (e : UserOpenFault g.row.D.Denot). Fails g.D.Disk.state a shelf e) (sym c.unread.ensures)
    (unread_fails g.D.Disk.state shelf (made_head c.equipped.result) a b j.1 c.fold.new.lists.users c.fold.new.journal.0 (c.fold.ensures.looks told).same (g.met.D.Disk.is_disk j.0 told) c.in-Ok-open.ensures.whole.0 c.in-Ok-open.ensures.whole.2 c.in-Ok-open.ensures.whole.3
    (λ old. subst (λ (d : Dimensions). OpensOld d a b (Ok j.1)) c.shape.ensures (c.in-Ok-open.ensures.old told old))
    (λ new. subst (λ (d : Dimensions). OpensNew d (made_head c.equipped.result) a b (Ok j.1)) c.shape.ensures (c.in-Ok-open.ensures.is_new told new))
    c.in-Err-fold.fault (subst (λ (u : Users). Replays u (listed j.1 b.reads_as) (as_taken c.in-Err-fold.fault) c.fold.new.lists.users) described (c.in-Err-fold.ensures.told told)))

pub returns-in-Err-fold-clause-any_moment : goal.returns-in-Err-fold-clause-any_moment
returns-in-Err-fold-clause-any_moment g c told =
    let a = g.D.Disk.state c.args.disk in
    let j = c.in-Ok-open.journal in
    let b = g.D.Disk.state j.0 in
    subst (λ (e : UserOpenFault g.row.D.Denot). LeavesOpened c.args.shelf.now a (g.D.Disk.state (disk_left (as_opened e)))) (sym c.unread.ensures)
    (unread_disk c.in-Err-fold.fault c.fold.new.journal.0 (λ d. LeavesOpened c.args.shelf.now a (g.D.Disk.state d)) (leaves_opened c.args.shelf.now a b (g.D.Disk.state c.fold.new.journal.0) (Ok j.1) (g.met.D.Disk.is_disk j.0 told)
    (λ old. subst (λ (d : Dimensions). OpensOld d a b (Ok j.1)) c.shape.ensures (c.in-Ok-open.ensures.old told old))
    (λ new. subst (λ (w : Dimensions × ℕ). OpensNew w.0 (made_head w.1) a b (Ok j.1)) (λ k. (c.shape.ensures k, c.equipped.ensures.value k)) (c.in-Ok-open.ensures.is_new told new))
    (c.fold.ensures.looks told)))

pub returns-in-Err-fold-clause-room : goal.returns-in-Err-fold-clause-room
returns-in-Err-fold-clause-room g c =
    let a = g.D.Disk.state c.args.disk in
    let j = c.in-Ok-open.journal in
    subst (λ (e : UserOpenFault g.row.D.Denot). Spends 131_081 a (g.D.Disk.state (disk_left (as_opened e)))) (sym c.unread.ensures)
    (unread_disk c.in-Err-fold.fault c.fold.new.journal.0 (λ d. Spends 131_081 a (g.D.Disk.state d)) (fold_room 65_545 a (g.D.Disk.state j.0) (g.D.Disk.state c.fold.new.journal.0) j.1 c.in-Ok-open.ensures.whole.0 c.in-Ok-open.ensures.room c.fold.ensures.room))

pub returns-in-Err-fold-clause-sound : goal.returns-in-Err-fold-clause-sound
returns-in-Err-fold-clause-sound g c = λ sound.
    let j = c.in-Ok-open.journal in
    subst (λ (e : UserOpenFault g.row.D.Denot). IsDiskErr (as_opened e) → ⊥) (sym c.unread.ensures)
    (unread_sound c.in-Err-fold.fault c.fold.new.journal.0 (c.in-Err-fold.ensures.sound (fold_sound 65_545 (g.D.Disk.state c.args.disk) (g.D.Disk.state j.0) j.1 c.in-Ok-open.ensures.whole.0 c.in-Ok-open.ensures.cause.later c.in-Ok-open.ensures.room sound)))

pub returns-in-Err-fold-clause-cause : goal.returns-in-Err-fold-clause-cause
returns-in-Err-fold-clause-cause g c =
    subst (λ (e : UserOpenFault g.row.D.Denot). HasCause (g.D.Disk.state c.args.disk).faults (g.D.Disk.state (disk_left (as_opened e))).faults (IsDiskErr (as_opened e))) (sym c.unread.ensures)
    (unread_cause g.D.Disk.state c.in-Err-fold.fault c.fold.new.journal.0 (g.D.Disk.state c.args.disk).faults (g.D.Disk.state c.in-Ok-open.journal.0).faults c.in-Ok-open.ensures.cause.later c.in-Err-fold.ensures.cause.later c.in-Err-fold.ensures.cause.cause)

pub returns-clause-ok : goal.returns-clause-ok
returns-clause-ok g c =
    let shelf = c.args.shelf.now in
    let a = g.D.Disk.state c.args.disk in
    let j = c.in-Ok-open.journal in
    let b = g.D.Disk.state j.0 in
    let n = c.fold.new.journal in
    let described = ap (λ (l : Lists). l.described) c.deref_mut.ensures.value ∙ c.in-Ok.ensures.described in
    let read = c.in-Ok-fold.ensures.read in
    let size = few_described shelf.users in
    let count = c.users-few.ensures.count in
    let most = c.users-few.ensures.few in
    let few : len (shelf_users shelf) ≤ most_users = omega (arith, size, count, most) in
    opened g.D.Disk.told g.D.Disk.state shelf a b j.1 _ read.0 c.of-origin.ensures.shelf (ap (λ (d : Snapshot g.row.D.Denot). (g.D.Disk.state d.value).readings) c.of-origin.ensures.disk ∙ ap (λ (d : g.row.D.Denot). (g.D.Disk.state d).readings) c.of-handed.ensures) (c.of-origin.ensures.users ∙ ap (λ (l : Lists). l.users) c.deref.ensures) c.of-origin.ensures.journal
    (c.copy_of-sid.ensures ∙ c.sid.ensures) (c.fold.ensures.described ∙ described) few (described_users shelf c.users-few.ensures.described)
    (λ told old. subst (λ (d : Dimensions). OpensOld d a b (Ok j.1)) c.shape.ensures (c.in-Ok-open.ensures.old told old))
    (λ told new. subst (λ (w : Dimensions × ℕ). OpensNew w.0 (made_head w.1) a b (Ok j.1)) (λ k. (c.shape.ensures k, c.equipped.ensures.value k)) (c.in-Ok-open.ensures.is_new told new))
    (g.met.D.Disk.is_disk c.args.disk) (g.met.D.Disk.is_disk j.0) (g.met.D.Disk.is_disk n.0) (g.met.D.Disk.counts_on n.0)
    c.in-Ok-open.ensures.whole.0 (c.in-Ok-open.ensures.whole.1 ∙ c.shape.ensures) c.in-Ok-open.ensures.whole.2 c.in-Ok-open.ensures.whole.3
    c.fold.ensures.same c.fold.ensures.looks c.fold.ensures.no_more c.fold.ensures.kept read.1 read.2 (subst (λ (m : Users). FoldsTo m read.0 c.fold.new.lists.users) described read.3)

pub returns-clause-handed : goal.returns-clause-handed
returns-clause-handed g c = ap (λ (d : Snapshot g.row.D.Denot). files (g.D.Disk.state d.value).readings) c.of-origin.ensures.disk ∙ ap (λ (d : g.row.D.Denot). files (g.D.Disk.state d).readings) c.of-handed.ensures

pub returns-clause-any_moment : goal.returns-clause-any_moment
returns-clause-any_moment g c told =
    let a = g.D.Disk.state c.args.disk in
    let j = c.in-Ok-open.journal in
    let b = g.D.Disk.state j.0 in
    leaves_opened c.args.shelf.now a b (g.D.Disk.state c.fold.new.journal.0) (Ok j.1) (g.met.D.Disk.is_disk j.0 told)
    (λ old. subst (λ (d : Dimensions). OpensOld d a b (Ok j.1)) c.shape.ensures (c.in-Ok-open.ensures.old told old))
    (λ new. subst (λ (w : Dimensions × ℕ). OpensNew w.0 (made_head w.1) a b (Ok j.1)) (λ k. (c.shape.ensures k, c.equipped.ensures.value k)) (c.in-Ok-open.ensures.is_new told new))
    (c.fold.ensures.looks told)

pub returns-clause-room : goal.returns-clause-room
returns-clause-room g c =
    let j = c.in-Ok-open.journal in
    fold_room 65_545 (g.D.Disk.state c.args.disk) (g.D.Disk.state j.0) (g.D.Disk.state c.fold.new.journal.0) j.1 c.in-Ok-open.ensures.whole.0 c.in-Ok-open.ensures.room c.fold.ensures.room

-- before the journal was opened the disk is as it was
pub returns-in_default-clause-any_moment : goal.returns-in_default-clause-any_moment
returns-in_default-clause-any_moment g c told = none_opened c.args.shelf.now (g.D.Disk.state c.args.disk) (g.met.D.Disk.is_disk c.args.disk told)

pub returns-in_default-clause-room : goal.returns-in_default-clause-room
returns-in_default-clause-room g c = spends_none 131_081 (g.D.Disk.state c.args.disk)

pub returns-in_default-clause-cause : goal.returns-in_default-clause-cause
returns-in_default-clause-cause g c = record { later = omega arith; cause = λ failed. absurd failed }

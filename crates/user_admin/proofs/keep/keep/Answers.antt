use Rattle.std.proofs.Common.{inl, ℕ, List, slice_index, ◌∙◌, sym, ap, subst}
use Rattle.dxc_num.specs.Dimensions.{Dimensions}
use Rattle.dxc_disk.specs.Disks.{LeavesOnly, Spends}
use Rattle.dxc_disk.proofs.DiskSteps.{spends_none}
use Rattle.journal_core.specs.declared.book.Book.{Book}
use Rattle.journal_core.proofs.KeepSteps.{only_on}
use Rattle.user_admin.specs.Files.{IsOldOrOneMore}
use Rattle.user_admin.specs.Records.{has_long_salt}
use Rattle.user_admin.proofs.Keeping.{append_called, append_equipped, append_failed, append_kept, append_shape, more_left}
use Rattle.user_admin.proofs.Checkpointing.{row_sealed}
use Rattle.user_admin.proofs.keep.keep.Goals as goal

pub returns-in-Err-clause-failed : goal.returns-in-Err-clause-failed
returns-in-Err-clause-failed g c = λ doubt home. inl (c.make_ready.ensures.home doubt home)

pub returns-in-Err-clause-any_moment : goal.returns-in-Err-clause-any_moment
returns-in-Err-clause-any_moment g c = λ told doubt home. more_left (g.D.Disk.state c.args.journal.now.0) (g.D.Disk.state c.make_ready.new.journal.0) c.args.journal.now.1.shape c.args.described.now c.args.users.now doubt c.args.change.now (c.make_ready.ensures.any_moment told doubt home)

pub append-requires-clause-sealed : goal.append-requires-clause-sealed
append-requires-clause-sealed g c = ap (λ (bs : List ℕ). slice_index bs 0) c.record_of.ensures ∙ row_sealed c.args.change.now

pub append-requires-clause-none_in_doubt : goal.append-requires-clause-none_in_doubt
append-requires-clause-none_in_doubt g c = c.in-Ok.ensures.ready.1

pub append-requires-clause-ready : goal.append-requires-clause-ready
append-requires-clause-ready g c = c.in-Ok.ensures.ready.0

pub returns-clause-kept : goal.returns-clause-kept
returns-clause-kept g c =
    let a = c.args.journal.now in
    let m = c.make_ready.new.journal in
    let n = c.append.new.self in
    let ch = c.args.change.now in
    append_kept g.D.Disk.told (g.D.Disk.state a.0) (g.D.Disk.state m.0) (g.D.Disk.state n.0) a.1 m.1 n.1 c.args.described.now c.args.users.now ch c.record_of.result (has_long_salt ch, c.requires.meant, c.record_of.ensures) c.requires.fits c.in-Ok.ensures.ready c.make_ready.ensures.book c.make_ready.ensures.home
    c.append.result c.append.ensures.appends c.append.ensures.ok

pub returns-clause-failed : goal.returns-clause-failed
returns-clause-failed g c =
    let a = c.args.journal.now in
    let m = c.make_ready.new.journal in
    let n = c.append.new.self in
    let ch = c.args.change.now in
    append_failed g.D.Disk.told (g.D.Disk.state a.0) (g.D.Disk.state m.0) (g.D.Disk.state n.0) a.1 m.1 n.1 c.args.described.now c.args.users.now ch c.record_of.result (has_long_salt ch, c.requires.meant, c.record_of.ensures) c.requires.fits c.in-Ok.ensures.ready c.make_ready.ensures.book c.make_ready.ensures.home
    c.append.result c.append.ensures.appends c.append.ensures.err

pub returns-clause-synced : goal.returns-clause-synced
returns-clause-synced g c = λ told. (c.append.ensures.appends told).synced

pub returns-clause-shape : goal.returns-clause-shape
returns-clause-shape g c = append_shape c.append.result c.make_ready.new.journal.1 c.append.new.self.1 c.append.ensures.ok c.append.ensures.err ∙ c.make_ready.ensures.shape

pub returns-clause-equipped : goal.returns-clause-equipped
returns-clause-equipped g c = append_equipped c.append.result c.make_ready.new.journal.1 c.append.new.self.1 c.append.ensures.ok c.append.ensures.err ∙ c.make_ready.ensures.equipped

pub returns-clause-any_moment : goal.returns-clause-any_moment
returns-clause-any_moment g c = λ told doubt home.
    let a = c.args.journal.now in
    let m = c.make_ready.new.journal in
    let n = c.append.new.self in
    let ch = c.args.change.now in
    let d = c.args.described.now in
    let u = c.args.users.now in
    only_on (g.D.Disk.state a.0) (g.D.Disk.state m.0) (g.D.Disk.state n.0) (IsOldOrOneMore a.1.shape d u doubt ch)
    (more_left (g.D.Disk.state a.0) (g.D.Disk.state m.0) a.1.shape d u doubt ch (c.make_ready.ensures.any_moment told doubt home))
    (subst (λ (x : Dimensions). LeavesOnly (g.D.Disk.state m.0) (g.D.Disk.state n.0) (IsOldOrOneMore x d u doubt ch)) c.make_ready.ensures.shape
    (append_called g.D.Disk.told (g.D.Disk.state m.0) m.1 d u doubt (c.make_ready.ensures.home doubt home) told ch c.record_of.result (g.D.Disk.state n.0) (has_long_salt ch, c.requires.meant, c.record_of.ensures) c.requires.fits (c.append.ensures.appends told).any_moment))

pub returns-in-Err-clause-short : goal.returns-in-Err-clause-short
returns-in-Err-clause-short g c = λ ready.
    let s = g.D.Disk.state c.args.journal.now.0 in
    subst (λ (j : g.row.D.Denot × Book). Spends 69 s (g.D.Disk.state j.0)) (sym (c.make_ready.ensures.still ready)) (spends_none 69 s)

pub returns-clause-short : goal.returns-clause-short
returns-clause-short g c = λ ready. subst (λ (j : g.row.D.Denot × Book). Spends 69 (g.D.Disk.state j.0) (g.D.Disk.state c.append.new.self.0)) (c.make_ready.ensures.still ready) c.append.ensures.room

use Rattle.std.proofs.Common.{◌≡◌, ◌∙◌, true, false, sym, ap, subst}
use Rattle.journal_core.specs.declared.book.Book.{Book}
use Rattle.journal_core.specs.Books.{IsReady}
use Rattle.user_admin.proofs.Keeping.{left_on, may_called, mend_home}
use Rattle.user_admin.proofs.Checkpointing.{both_ok}
use Rattle.user_admin.proofs.keep.make_ready.Goals as goal

pub returns-in-Err-clause-home : goal.returns-in-Err-clause-home
returns-in-Err-clause-home g c = λ doubt home.
    let a = c.args.journal.now in
    let m = c.mend.new.self in
    mend_home g.D.Disk.told (g.D.Disk.state a.0) (g.D.Disk.state m.0) a.1 m.1 c.args.described.now c.args.users.now doubt home c.mend.result c.mend.ensures.mends c.mend.ensures.ok c.mend.ensures.err

pub returns-in-Err-clause-any_moment : goal.returns-in-Err-clause-any_moment
returns-in-Err-clause-any_moment g c = λ told doubt home.
    let a = c.args.journal.now in
    may_called g.D.Disk.told (g.D.Disk.state a.0) a.1 c.args.described.now c.args.users.now doubt home told (g.D.Disk.state c.mend.new.self.0) (c.mend.ensures.mends told).any_moment

pub returns-then-not-due-clause-home : goal.returns-then-not-due-clause-home
returns-then-not-due-clause-home g c = λ doubt home.
    let a = c.args.journal.now in
    let m = c.mend.new.self in
    mend_home g.D.Disk.told (g.D.Disk.state a.0) (g.D.Disk.state m.0) a.1 m.1 c.args.described.now c.args.users.now doubt home c.mend.result c.mend.ensures.mends c.mend.ensures.ok c.mend.ensures.err

pub returns-then-not-due-clause-any_moment : goal.returns-then-not-due-clause-any_moment
returns-then-not-due-clause-any_moment g c = λ told doubt home.
    let a = c.args.journal.now in
    may_called g.D.Disk.told (g.D.Disk.state a.0) a.1 c.args.described.now c.args.users.now doubt home told (g.D.Disk.state c.mend.new.self.0) (c.mend.ensures.mends told).any_moment

pub returns-clause-home : goal.returns-clause-home
returns-clause-home g c = λ doubt home.
    let a = c.args.journal.now in
    let m = c.mend.new.self in
    c.write_checkpoint.ensures.home doubt (mend_home g.D.Disk.told (g.D.Disk.state a.0) (g.D.Disk.state m.0) a.1 m.1 c.args.described.now c.args.users.now doubt home c.mend.result c.mend.ensures.mends c.mend.ensures.ok c.mend.ensures.err)

pub returns-clause-any_moment : goal.returns-clause-any_moment
returns-clause-any_moment g c = λ told doubt home.
    let a = c.args.journal.now in
    let m = c.mend.new.self in
    let d = c.args.described.now in
    let u = c.args.users.now in
    left_on (g.D.Disk.state a.0) (g.D.Disk.state m.0) (g.D.Disk.state c.write_checkpoint.new.journal.0) a.1.shape m.1.shape d u doubt (ap (λ (x : Book). x.shape) c.in-Ok.ensures.ok)
    (may_called g.D.Disk.told (g.D.Disk.state a.0) a.1 d u doubt home told (g.D.Disk.state m.0) (c.mend.ensures.mends told).any_moment)
    (c.write_checkpoint.ensures.any_moment told doubt (mend_home g.D.Disk.told (g.D.Disk.state a.0) (g.D.Disk.state m.0) a.1 m.1 d u doubt home c.mend.result c.mend.ensures.mends c.mend.ensures.ok c.mend.ensures.err))

pub returns-clause-ready : goal.returns-clause-ready
returns-clause-ready g c = both_ok _ _ c.write_checkpoint.result c.write_checkpoint.ensures.ready (c.write_checkpoint.ensures.whole (ap (λ (x : Book). x.to_mend) c.in-Ok.ensures.ok))

pub returns-in-Err-clause-still : goal.returns-in-Err-clause-still
returns-in-Err-clause-still g c = λ ready. (c.mend.ensures.none ready.1).1

pub returns-then-not-due-clause-still : goal.returns-then-not-due-clause-still
returns-then-not-due-clause-still g c = λ ready. (c.mend.ensures.none ready.1).1

-- no checkpoint was due
pub returns-clause-still : goal.returns-clause-still
returns-clause-still g c = λ ready.
    let same = (c.mend.ensures.none ready.1).1 in
    absurd (let e : true ≡ false = c.if-not-due.ensures.1 (subst (λ (j : g.row.D.Denot × Book). IsReady j.1) (sym same) ready.0) in cc)

pub returns-in-Err-clause-equipped : goal.returns-in-Err-clause-equipped
returns-in-Err-clause-equipped g c = ap (λ (x : Book). x.head.equipped) c.in-Err.ensures.err

pub returns-then-not-due-clause-equipped : goal.returns-then-not-due-clause-equipped
returns-then-not-due-clause-equipped g c = ap (λ (x : Book). x.head.equipped) c.in-Ok.ensures.ok

pub returns-clause-equipped : goal.returns-clause-equipped
returns-clause-equipped g c = c.write_checkpoint.ensures.equipped ∙ ap (λ (x : Book). x.head.equipped) c.in-Ok.ensures.ok

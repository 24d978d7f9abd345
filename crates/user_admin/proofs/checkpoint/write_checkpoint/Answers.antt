use Rattle.std.proofs.Common.{◌≡◌, ℕ, List, length, Option, ◌∙◌, sym, ap, subst, arith}
use Rattle.dxc_disk.specs.Disks.{LeavesOnly}
use Rattle.dxc_model.specs.Equipment.{IsEquipment}
use Rattle.journal_core.specs.declared.book.Book.{Book}
use Rattle.journal_core.specs.Books.{draft_of, is_drafted, rows}
use Rattle.user_admin.specs.declared.op.UserChange.{UserChange}
use Rattle.user_admin.specs.Checkpoints.{rows as rows_of}
use Rattle.user_admin.specs.Files.{FoldsTo, IsOldOrDoubted}
use Rattle.user_admin.specs.Journals.{IsAtHome}
use Rattle.user_admin.proofs.Keeping.{left_on}
use Rattle.user_admin.proofs.Checkpointing.{draft_home, draft_left, rows_fold, turn_equipped, turn_home, turn_left, turn_ready, undrafted_home}
use Rattle.user_admin.proofs.checkpoint.write_checkpoint.Given as given
use Rattle.user_admin.proofs.checkpoint.write_checkpoint.Goals as goal
use Rattle.user_admin.proofs.checkpoint.write_checkpoint.Goals.{After-add_all, After-turn}

pub begin_area-requires : goal.begin_area-requires
begin_area-requires g c = record { equipment = subst (λ (n : ℕ). IsEquipment c.args.journal.now.1.shape n) (sym c.equipped.ensures) c.count-count.ensures.whole.fits.equipment }

pub add_all-requires-clause-drafted : goal.add_all-requires-clause-drafted
add_all-requires-clause-drafted g c = ap (λ (x : Book). is_drafted x.spare) c.in-Ok.ensures.ok

pub add_all-requires-clause-none : goal.add_all-requires-clause-none
add_all-requires-clause-none g c = ap (λ (x : Book). (draft_of x.spare).rows) c.in-Ok.ensures.ok

pub add_all-requires-clause-empty : goal.add_all-requires-clause-empty
add_all-requires-clause-empty g c told = (c.in-Ok.ensures.drafts told).ok

pub turn-requires : goal.turn-requires
turn-requires g c = record { drafted = ap (λ (x : Book). is_drafted x.spare) c.in-Ok-add_all.ensures.ok }

pub returns-in-Err-clause-home : goal.returns-in-Err-clause-home
returns-in-Err-clause-home g c = λ doubt home.
    let a = c.args.journal.now in
    let m = c.begin_area.new.self in
    undrafted_home g.D.Disk.told (g.D.Disk.state a.0) (g.D.Disk.state m.0) a.1 m.1 c.args.described.now c.args.users.now doubt home (ap (λ (x : Book). x.to_mend) c.in-Err.ensures.err) _ _ c.in-Err.ensures.drafts

pub returns-in-Err-clause-any_moment : goal.returns-in-Err-clause-any_moment
returns-in-Err-clause-any_moment g c = λ told doubt home.
    let a = c.args.journal.now in
    let m = c.begin_area.new.self in
    draft_left g.D.Disk.told (g.D.Disk.state a.0) (g.D.Disk.state m.0) a.1 m.1 c.args.described.now c.args.users.now doubt home told _ _ (c.in-Err.ensures.drafts told)

-- the area is begun
begun : (g : given.Over) (c : After-add_all g) (doubt : Option UserChange) → IsAtHome g.D.Disk.told (g.D.Disk.state c.args.journal.now.0) c.args.journal.now.1 c.args.described.now c.args.users.now doubt
    → IsAtHome g.D.Disk.told (g.D.Disk.state c.begin_area.new.self.0) c.begin_area.new.self.1 c.args.described.now c.args.users.now doubt
begun g c doubt home =
    let a = c.args.journal.now in
    let m = c.begin_area.new.self in
    let book = c.in-Ok.ensures.ok in
    draft_home g.D.Disk.told (g.D.Disk.state a.0) (g.D.Disk.state m.0) a.1 m.1 c.args.described.now c.args.users.now doubt home (ap (λ (x : Book). x.to_mend) book) _ _ c.in-Ok.ensures.drafts (ap (λ (x : Book). is_drafted x.spare) book)

-- and the rows were added, or some of them
begun_left : (g : given.Over) (c : After-add_all g) → g.D.Disk.told → (doubt : Option UserChange) → IsAtHome g.D.Disk.told (g.D.Disk.state c.args.journal.now.0) c.args.journal.now.1 c.args.described.now c.args.users.now doubt
    → LeavesOnly (g.D.Disk.state c.args.journal.now.0) (g.D.Disk.state c.add_all.new.journal.0) (IsOldOrDoubted c.args.journal.now.1.shape c.args.described.now c.args.users.now doubt)
begun_left g c told doubt home =
    let a = c.args.journal.now in
    let m = c.begin_area.new.self in
    left_on (g.D.Disk.state a.0) (g.D.Disk.state m.0) (g.D.Disk.state c.add_all.new.journal.0) a.1.shape m.1.shape c.args.described.now c.args.users.now doubt (ap (λ (x : Book). x.shape) c.in-Ok.ensures.ok)
    (draft_left g.D.Disk.told (g.D.Disk.state a.0) (g.D.Disk.state m.0) a.1 m.1 c.args.described.now c.args.users.now doubt home told _ _ (c.in-Ok.ensures.drafts told))
    (c.add_all.ensures.any_moment told c.args.described.now c.args.users.now doubt (begun g c doubt home))

pub returns-in-Err-add_all-clause-home : goal.returns-in-Err-add_all-clause-home
returns-in-Err-add_all-clause-home g c = λ doubt home. c.add_all.ensures.home c.args.described.now c.args.users.now doubt (begun g c.before doubt home)

pub returns-in-Err-add_all-clause-any_moment : goal.returns-in-Err-add_all-clause-any_moment
returns-in-Err-add_all-clause-any_moment g c = λ told doubt home. begun_left g c.before told doubt home

-- the rows lead to the users
stand : (g : given.Over) (c : After-turn g) → g.D.Disk.told → FoldsTo c.args.described.now (rows c.add_all.new.journal.1 (g.D.Disk.state c.add_all.new.journal.0).reads_as) c.args.users.now
stand g c told =
    let d = c.args.described.now in
    let u = c.args.users.now in
    let r = c.requires in
    subst (λ (l : List (List ℕ)). FoldsTo d l u) (sym (c.in-Ok-add_all.ensures.rows told)) (rows_fold d u r.spelled.0 r.spelled.1 r.named.0 r.named.1 r.few)

pub returns-clause-home : goal.returns-clause-home
returns-clause-home g c = λ doubt home.
    let r = c.add_all.new.journal in
    let n = c.turn.new.self in
    let d = c.args.described.now in
    let u = c.args.users.now in
    turn_home g.D.Disk.told (g.D.Disk.state r.0) (g.D.Disk.state n.0) r.1 n.1 d u doubt (c.add_all.ensures.home d u doubt (begun g c.before.before.before doubt home)) (stand g c) c.turn.result c.turn.ensures.turns c.turn.ensures.ok c.turn.ensures.err

pub returns-clause-any_moment : goal.returns-clause-any_moment
returns-clause-any_moment g c = λ told doubt home.
    let r = c.add_all.new.journal in
    let n = c.turn.new.self in
    let d = c.args.described.now in
    let u = c.args.users.now in
    left_on (g.D.Disk.state c.args.journal.now.0) (g.D.Disk.state r.0) (g.D.Disk.state n.0) c.args.journal.now.1.shape r.1.shape d u doubt (ap (λ (x : Book). x.shape) c.in-Ok-add_all.ensures.ok ∙ ap (λ (x : Book). x.shape) c.in-Ok.ensures.ok) (begun_left g c.before.before.before told doubt home)
    (turn_left g.D.Disk.told (g.D.Disk.state r.0) (g.D.Disk.state n.0) r.1 n.1 d u doubt (c.add_all.ensures.home d u doubt (begun g c.before.before.before doubt home)) (stand g c) told c.turn.result (c.turn.ensures.turns told))

pub returns-clause-ready : goal.returns-clause-ready
returns-clause-ready g c =
    let few = c.in-Ok-add_all.ensures.few in
    let number : (draft_of c.add_all.new.journal.1.spare).rows ≡ length (rows_of c.args.described.now c.args.users.now) = ap (λ (x : Book). (draft_of x.spare).rows) c.in-Ok-add_all.ensures.ok in
    turn_ready c.turn.result c.add_all.new.journal.1 c.turn.new.self.1 (omega (arith, few, number)) c.turn.ensures.ok

pub returns-in-Err-clause-equipped : goal.returns-in-Err-clause-equipped
returns-in-Err-clause-equipped g c = ap (λ (x : Book). x.head.equipped) c.in-Err.ensures.err

pub returns-in-Err-add_all-clause-equipped : goal.returns-in-Err-add_all-clause-equipped
returns-in-Err-add_all-clause-equipped g c = ap (λ (x : Book). x.head.equipped) c.in-Err-add_all.ensures.err ∙ ap (λ (x : Book). x.head.equipped) c.in-Ok.ensures.ok

-- the draft names the modules of the header before
pub returns-clause-equipped : goal.returns-clause-equipped
returns-clause-equipped g c =
    let begun = c.in-Ok.ensures.ok in
    let added = c.in-Ok-add_all.ensures.ok in
    turn_equipped c.turn.result c.add_all.new.journal.1 c.turn.new.self.1 c.args.journal.now.1.head.equipped
    (ap (λ (x : Book). x.head.equipped) added ∙ ap (λ (x : Book). x.head.equipped) begun)
    (ap (λ (x : Book). (draft_of x.spare).equipped) added ∙ (ap (λ (x : Book). (draft_of x.spare).equipped) begun ∙ c.equipped.ensures))
    c.turn.ensures.ok c.turn.ensures.err

use Rattle.std.proofs.Common.{◌≡◌, length, Option, ◌∙◌, sym, ap, subst, arith}
use Rattle.dxc_num.specs.Dimensions.{Dimensions}
use Rattle.dxc_disk.specs.Disks.{LeavesOnly}
use Rattle.dxc_model.specs.declared.op.Op.{Op}
use Rattle.dxc_model.specs.Equipment.{IsEquipment, modules_in}
use Rattle.dxc_model.specs.Tables.{Board}
use Rattle.journal_core.specs.declared.book.Book.{Book}
use Rattle.journal_core.specs.Books.{draft_of, is_drafted, is_tried, listed, next_head, rows}
use Rattle.journal_core.proofs.KeepSteps.{only_on}
use Rattle.xc_recovery.specs.Rows.{checkpoint}
use Rattle.xc_core.specs.Reckonings.{IsTable, Past}
use Rattle.xc_core.specs.Journals.{IsAtHome, IsCounted, IsOldOrDoubted, IsSoFar}
use Rattle.xc_core.proofs.Checkpointing.{draft_home, draft_left, rows_few, rows_so_far, turn_home, turn_left, turn_ready, undrafted_home}
use Rattle.xc_core.proofs.Counting.{counted_on, counts_same, keeps_counted, turn_counted, turn_counts}
use Rattle.xc_core.proofs.checkpoint.write_checkpoint.Given as given
use Rattle.xc_core.proofs.checkpoint.write_checkpoint.Goals as goal
use Rattle.xc_core.proofs.checkpoint.write_checkpoint.Goals.{After-add_rows, After-turn}

pub begin_area-requires : goal.begin_area-requires
begin_area-requires g c = record { equipment = subst (λ (d : Dimensions). IsEquipment d c.checkpoint_equipment.result) c.requires.shape c.checkpoint_equipment.ensures.fits }

pub add_rows-requires-clause-few : goal.add_rows-requires-clause-few
add_rows-requires-clause-few g c = rows_few c.args.table.now c.args.matrix.now c.requires.of_shape.1 c.requires.placed c.requires.of_shape.0

pub add_rows-requires-clause-shape : goal.add_rows-requires-clause-shape
add_rows-requires-clause-shape g c = c.requires.shape ∙ sym (ap (λ (x : Book). x.shape) c.in-Ok.ensures.ok)

pub add_rows-requires-clause-drafted : goal.add_rows-requires-clause-drafted
add_rows-requires-clause-drafted g c = ap (λ (x : Book). is_drafted x.spare) c.in-Ok.ensures.ok

pub add_rows-requires-clause-none : goal.add_rows-requires-clause-none
add_rows-requires-clause-none g c = ap (λ (x : Book). (draft_of x.spare).rows) c.in-Ok.ensures.ok

pub add_rows-requires-clause-empty : goal.add_rows-requires-clause-empty
add_rows-requires-clause-empty g c told = (c.in-Ok.ensures.drafts told).ok

pub turn-requires : goal.turn-requires
turn-requires g c = record { drafted = ap (λ (x : Book). is_drafted x.spare) c.in-Ok-add_rows.ensures.ok }

pub returns-in-Err-clause-home : goal.returns-in-Err-clause-home
returns-in-Err-clause-home g c = λ b doubt home same.
    let a = c.args.journal.now in
    let m = c.begin_area.new.self in
    let book = c.in-Err.ensures.err in
    undrafted_home g.D.Disk.told (g.D.Disk.state a.0) (g.D.Disk.state m.0) a.1 m.1 b doubt home (ap (λ (x : Book). x.head) book) (ap (λ (x : Book). x.to_mend) book) _ _ c.in-Err.ensures.drafts

pub returns-in-Err-clause-any_moment : goal.returns-in-Err-clause-any_moment
returns-in-Err-clause-any_moment g c = λ told b doubt home same.
    let a = c.args.journal.now in
    let m = c.begin_area.new.self in
    draft_left g.D.Disk.told (g.D.Disk.state a.0) (g.D.Disk.state m.0) a.1 m.1 b doubt (sym c.requires.shape ∙ ap (λ (x : Board). x.shape) same.0) home told _ _ (c.in-Err.ensures.drafts told)

-- the area is begun
begun : (g : given.Over) (c : After-add_rows g) (b : Past) (doubt : Option Op) → IsAtHome g.D.Disk.told (g.D.Disk.state c.args.journal.now.0) c.args.journal.now.1 b doubt → IsAtHome g.D.Disk.told (g.D.Disk.state c.begin_area.new.self.0) c.begin_area.new.self.1 b doubt
begun g c b doubt home =
    let a = c.args.journal.now in
    let m = c.begin_area.new.self in
    let book = c.in-Ok.ensures.ok in
    draft_home g.D.Disk.told (g.D.Disk.state a.0) (g.D.Disk.state m.0) a.1 m.1 b doubt home (ap (λ (x : Book). x.head) book) (ap (λ (x : Book). x.to_mend) book) _ _ c.in-Ok.ensures.drafts (ap (λ (x : Book). is_drafted x.spare) book)

-- and the rows were added, or some of them
begun_left : (g : given.Over) (c : After-add_rows g) → g.D.Disk.told → (b : Past) (doubt : Option Op) → IsAtHome g.D.Disk.told (g.D.Disk.state c.args.journal.now.0) c.args.journal.now.1 b doubt → IsTable b c.args.table.now c.args.matrix.now
    → LeavesOnly (g.D.Disk.state c.args.journal.now.0) (g.D.Disk.state c.add_rows.new.journal.0) (IsOldOrDoubted b doubt)
begun_left g c told b doubt home same =
    let a = c.args.journal.now in
    let m = c.begin_area.new.self in
    only_on (g.D.Disk.state a.0) (g.D.Disk.state m.0) (g.D.Disk.state c.add_rows.new.journal.0) (IsOldOrDoubted b doubt)
    (draft_left g.D.Disk.told (g.D.Disk.state a.0) (g.D.Disk.state m.0) a.1 m.1 b doubt (sym c.requires.shape ∙ ap (λ (x : Board). x.shape) same.0) home told _ _ (c.in-Ok.ensures.drafts told))
    (c.add_rows.ensures.any_moment told b doubt (begun g c b doubt home) same)

pub returns-in-Err-add_rows-clause-home : goal.returns-in-Err-add_rows-clause-home
returns-in-Err-add_rows-clause-home g c = λ b doubt home same. c.add_rows.ensures.home b doubt (begun g c.before b doubt home)

pub returns-in-Err-add_rows-clause-any_moment : goal.returns-in-Err-add_rows-clause-any_moment
returns-in-Err-add_rows-clause-any_moment g c = λ told b doubt home same. begun_left g c.before told b doubt home same

-- the rows stand for the table and its legs
stand : (g : given.Over) (c : After-turn g) (b : Past) → IsTable b c.args.table.now c.args.matrix.now → g.D.Disk.told → IsSoFar b (next_head c.add_rows.new.journal.1) (rows c.add_rows.new.journal.1 (g.D.Disk.state c.add_rows.new.journal.0).reads_as)
stand g c b same told =
    let t = c.args.table.now in
    let equipped : (draft_of c.add_rows.new.journal.1.spare).equipped ≡ c.checkpoint_equipment.result = ap (λ (x : Book). (draft_of x.spare).equipped) c.in-Ok-add_rows.ensures.ok ∙ ap (λ (x : Book). (draft_of x.spare).equipped) c.in-Ok.ensures.ok in
    rows_so_far b t c.args.matrix.now c.add_rows.new.journal.1 _ same c.requires.placed c.requires.of_shape.0 c.requires.spelled (ap (modules_in t.shape) equipped ∙ c.checkpoint_equipment.ensures.same) (c.in-Ok-add_rows.ensures.rows told)

pub returns-clause-home : goal.returns-clause-home
returns-clause-home g c = λ b doubt home same.
    let r = c.add_rows.new.journal in
    let d = c.turn.new.self in
    turn_home g.D.Disk.told (g.D.Disk.state r.0) (g.D.Disk.state d.0) r.1 d.1 b doubt (c.add_rows.ensures.home b doubt (begun g c.before.before.before b doubt home)) (stand g c b same) c.turn.result c.turn.ensures.turns c.turn.ensures.ok c.turn.ensures.err

pub returns-clause-any_moment : goal.returns-clause-any_moment
returns-clause-any_moment g c = λ told b doubt home same.
    let r = c.add_rows.new.journal in
    let d = c.turn.new.self in
    let shape : r.1.shape ≡ b.fold.table.shape = ap (λ (x : Book). x.shape) c.in-Ok-add_rows.ensures.ok ∙ ap (λ (x : Book). x.shape) c.in-Ok.ensures.ok ∙ sym c.requires.shape ∙ ap (λ (x : Board). x.shape) same.0 in
    only_on (g.D.Disk.state c.args.journal.now.0) (g.D.Disk.state r.0) (g.D.Disk.state d.0) (IsOldOrDoubted b doubt) (begun_left g c.before.before.before told b doubt home same)
    (turn_left g.D.Disk.told (g.D.Disk.state r.0) (g.D.Disk.state d.0) r.1 d.1 b doubt (c.add_rows.ensures.home b doubt (begun g c.before.before.before b doubt home)) (stand g c b same) shape told c.turn.result (c.turn.ensures.turns told))

pub returns-in-Err-clause-acknowledged : goal.returns-in-Err-clause-acknowledged
returns-in-Err-clause-acknowledged g c = λ told b doubt home.
    keeps_counted (g.D.Disk.state c.args.journal.now.0) c.args.journal.now.1 c.args.table.now c.args.matrix.now (g.D.Disk.state c.begin_area.new.self.0) (c.in-Err.ensures.drafts told).acknowledged

-- what was counted is there while rows are added
begun_counted : (g : given.Over) (c : After-add_rows g) → g.D.Disk.told → (b : Past) (doubt : Option Op) → IsAtHome g.D.Disk.told (g.D.Disk.state c.args.journal.now.0) c.args.journal.now.1 b doubt
    → LeavesOnly (g.D.Disk.state c.args.journal.now.0) (g.D.Disk.state c.add_rows.new.journal.0) (IsCounted (g.D.Disk.state c.args.journal.now.0) c.args.journal.now.1 c.args.table.now c.args.matrix.now)
begun_counted g c told b doubt home =
    let a = c.args.journal.now in
    let m = c.begin_area.new.self in
    let s = g.D.Disk.state a.0 in
    let book = c.in-Ok.ensures.ok in
    let drafts = c.in-Ok.ensures.drafts told in
    only_on s (g.D.Disk.state m.0) (g.D.Disk.state c.add_rows.new.journal.0) (IsCounted s a.1 c.args.table.now c.args.matrix.now)
    (keeps_counted s a.1 c.args.table.now c.args.matrix.now (g.D.Disk.state m.0) drafts.acknowledged)
    (counted_on s a.1 c.args.table.now c.args.matrix.now (g.D.Disk.state m.0) (g.D.Disk.state c.add_rows.new.journal.0) m.1
    (counts_same s a.1 c.args.table.now c.args.matrix.now (g.D.Disk.state m.0) m.1 (ap (λ (x : Book). x.shape) book) (ap (λ (x : Book). x.head) book) drafts.same) (ap (λ (x : Book). is_tried x.spare) book) (c.add_rows.ensures.acknowledged told b doubt (begun g c b doubt home)))

pub returns-in-Err-add_rows-clause-acknowledged : goal.returns-in-Err-add_rows-clause-acknowledged
returns-in-Err-add_rows-clause-acknowledged g c = λ told b doubt home. begun_counted g c.before told b doubt home

-- the list before the turn is the one before the checkpoint
same_list : (g : given.Over) (c : After-turn g) → g.D.Disk.told → listed c.add_rows.new.journal.1 (g.D.Disk.state c.add_rows.new.journal.0).reads_as ≡ listed c.args.journal.now.1 (g.D.Disk.state c.args.journal.now.0).reads_as
same_list g c told = c.add_rows.ensures.same told ∙ (c.in-Ok.ensures.drafts told).same

same_shape : (g : given.Over) (c : After-turn g) → c.add_rows.new.journal.1.shape ≡ c.args.journal.now.1.shape
same_shape g c = ap (λ (x : Book). x.shape) c.in-Ok-add_rows.ensures.ok ∙ ap (λ (x : Book). x.shape) c.in-Ok.ensures.ok

same_head : (g : given.Over) (c : After-turn g) → c.add_rows.new.journal.1.head ≡ c.args.journal.now.1.head
same_head g c = ap (λ (x : Book). x.head) c.in-Ok-add_rows.ensures.ok ∙ ap (λ (x : Book). x.head) c.in-Ok.ensures.ok

equipment_is : (g : given.Over) (c : After-turn g) → modules_in c.args.table.now.shape (draft_of c.add_rows.new.journal.1.spare).equipped ≡ c.args.table.now.equipped
equipment_is g c =
    ap (modules_in c.args.table.now.shape) (ap (λ (x : Book). (draft_of x.spare).equipped) c.in-Ok-add_rows.ensures.ok ∙ ap (λ (x : Book). (draft_of x.spare).equipped) c.in-Ok.ensures.ok) ∙ c.checkpoint_equipment.ensures.same

pub returns-clause-acknowledged : goal.returns-clause-acknowledged
returns-clause-acknowledged g c = λ told b doubt home.
    let a = c.args.journal.now in
    let r = c.add_rows.new.journal in
    let s = g.D.Disk.state a.0 in
    only_on s (g.D.Disk.state r.0) (g.D.Disk.state c.turn.new.self.0) (IsCounted s a.1 c.args.table.now c.args.matrix.now) (begun_counted g c.before.before.before told b doubt home)
    (turn_counted s a.1 c.args.table.now c.args.matrix.now (g.D.Disk.state r.0) r.1 (same_shape g c) (same_head g c) (same_list g c told) (equipment_is g c) (c.in-Ok-add_rows.ensures.rows told) (g.D.Disk.state c.turn.new.self.0) (c.turn.ensures.turns told).acknowledged)

pub returns-clause-counts : goal.returns-clause-counts
returns-clause-counts g c = λ told.
    let a = c.args.journal.now in
    let r = c.add_rows.new.journal in
    let d = c.turn.new.self in
    turn_counts (g.D.Disk.state a.0) a.1 c.args.table.now c.args.matrix.now (g.D.Disk.state r.0) r.1 (same_shape g c) (same_head g c) (same_list g c told) (equipment_is g c) (c.in-Ok-add_rows.ensures.rows told) (g.D.Disk.state d.0) d.1 c.turn.result (c.turn.ensures.turns told) c.turn.ensures.ok

pub returns-clause-ready : goal.returns-clause-ready
returns-clause-ready g c =
    let few = rows_few c.args.table.now c.args.matrix.now c.requires.of_shape.1 c.requires.placed c.requires.of_shape.0 in
    let number : (draft_of c.add_rows.new.journal.1.spare).rows ≡ length (checkpoint c.args.table.now c.args.matrix.now) = ap (λ (x : Book). (draft_of x.spare).rows) c.in-Ok-add_rows.ensures.ok in
    turn_ready c.turn.result c.add_rows.new.journal.1 c.turn.new.self.1 (omega (arith, few, number)) c.turn.ensures.ok

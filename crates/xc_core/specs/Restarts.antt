-- The Provisioner after a stop, and on its way home.
use Rattle.std.specs.Prelude.{◌≡◌, ◌⊎◌, ◌≤◌, ◌^◌, ℕ, ◌+◌, List, [], length, true, false, Option, Some, None}
use Rattle.dxc_disk.specs.Disks.{DiskState}
use Rattle.dxc_num.specs.declared.register.RegWrite.{RegWrite}
use Rattle.dxc_model.specs.declared.op.Op.{Op}
use Rattle.dxc_model.specs.declared.op.Change.{Change}
use Rattle.dxc_model.specs.Verdicts.{Grants}
use Rattle.journal_core.specs.declared.book.Book.{Book}
use Rattle.journal_core.specs.declared.head.Head.{Head}
use Rattle.journal_core.specs.Books.{listed}
use Rattle.paull_matrix.specs.Colourings.{Colouring}
use Rattle.paull_chain.specs.Works.{after_ops}
use Rattle.roll_plan.specs.declared.op.LegOp.{LegOp}
use Rattle.roll_plan.specs.Works.{switches_in}
use Rattle.roll_engine.specs.declared.rolling.Behind.TheVariants.{Nothing}
use Rattle.roll_engine.specs.Rollings.{RollingAt, rest_of}
use Rattle.roll_engine.specs.UnderWay.{IsUnderWay}
use Rattle.roll_engine.specs.Cold.{IsCold, left_of}
use Rattle.roll_engine.specs.Leading.{IsLeading}
use Rattle.xc_recovery.specs.Replays.{ComesTo}
use Rattle.xc_core.specs.declared.provisioner.Provisioner.{Provisioner}
use Rattle.xc_core.specs.Journals.{IsAtHome, IsJournalled, IsOneMore, IsSoFar, KeepsList}
use Rattle.xc_core.specs.Reckonings.{HasWork, Past, changed}
use Rattle.xc_core.specs.Provisioners.{KeepsPast}

-- what there is after a recovery took up a change that the table lacks, which is that of the operation in doubt, or none
abbrev pub TakesUp : Past → Option Op → Option Change → Past → Type 0
TakesUp b doubt None g = g ≡ b
TakesUp b doubt (Some c) g = (op : Op) × (doubt ≡ Some op) × Grants b.fold.table op c × (met : HasWork b c None) × (g ≡ changed b c met.ops)

-- what its journal comes to: the changes so far, with the one that is taken up if there is one
abbrev pub IsListOf : Past → Option Op → Option Change → Head → List (List ℕ) → Type 0
IsListOf b doubt None head records = IsSoFar b head records
IsListOf b doubt (Some c) head records = (op : Op) × (doubt ≡ Some op) × IsOneMore b op head records

-- so many changes, and one more if there is one
abbrev pub number_with : ℕ → Option Change → ℕ
number_with n None = n
number_with n (Some c) = n + 1

-- the registers are at a stage of a work that leads from one colouring to these legs, and so many switches will then have been made
pub record IsOnWay {D : Type 0} (p : Provisioner D) (before : Colouring) (g : Past) (r : RollingAt) : Type 0 where
  pub under_way : IsUnderWay p.mover.fabric.size before r p.mover.mover
  pub leads : after_ops r.work.ops.items before ≡ g.fold.colours
  pub switches : length p.mover.mover.log + switches_in (rest_of r) ≡ g.fold.switches
  pub alone : r.behind ≡ Nothing

-- such a work leads to the legs of the changes so far, or to those of the one in doubt besides
pub record HasWay {D : Type 0} (b : Past) (p : Provisioner D) : Type 0 where
  pub lacking : Option Change
  pub past : Past
  pub before : Colouring
  pub rolling : RollingAt
  pub taken : TakesUp b p.doubt lacking past
  pub on_way : IsOnWay p before past rolling

-- a journal's list comes to the changes so far by this last work, and no record of it is in doubt
pub record LastIs (s : DiskState) (book : Book) (b : Past) (ops : List LegOp) : Type 0 where
  pub whole : book.to_mend ≡ false
  pub still : book.turning ≡ false
  pub comes : ComesTo b.fold.table.shape book.head (listed book s.reads_as) b.fold.table b.fold.colours ops

-- nothing is to be made, or it is the last work of what the journal lists; or it is the planned work of the change in doubt
abbrev pub IsOwnWay : DiskState → Book → Past → Option Change → Colouring → Past → RollingAt → Type 0
IsOwnWay s book b None before g r = (rest_of r ≡ []) ⊎ LastIs s book b r.work.ops.items
IsOwnWay s book b (Some c) before g r = (r.work.ops.items ≡ g.fold.work) × (before ≡ b.fold.colours)

module _ {D : Type 0} (told : Type 0) (state : D → DiskState) where
  -- the journal stands for the changes so far, and maybe for the one in doubt besides; or it stands for that one too
  abbrev pub Lists : Past → Provisioner D → Option Change → Type 0
  Lists b p None = IsAtHome told (state p.journal.0) p.journal.1 b p.doubt
  Lists b p (Some c) = KeepsList told (state p.journal.0) p.journal.1 (IsListOf b p.doubt (Some c)) × (p.journal.1.to_mend ≡ false) × (p.journal.1.turning ≡ false)

  -- of a disk that tells its content: the work is that of the records which the journal lists
  pub record IsKnown (b : Past) (p : Provisioner D) : Type 0 where
    pub way : HasWay b p
    pub own : IsOwnWay (state p.journal.0) p.journal.1 b way.lacking way.before way.past way.rolling
    pub journal : Lists b p way.lacking

  -- home and halted: it keeps what there is after the changes so far, and the registers are at a stage of the last work of what the journal lists
  pub record IsHalted (b : Past) (p : Provisioner D) : Type 0 where
    pub halted : p.halted ≡ true
    pub past : KeepsPast b p
    pub way : HasWay b p
    pub known : told → IsKnown b p

  -- halted, but its recovery goes on: g is what there is once the rolling is made
  pub record Resumes (b : Past) (lacking : Option Change) (g : Past) (p : Provisioner D) (r : RollingAt) : Type 0 where
    pub halted : p.halted ≡ true
    pub past : KeepsPast b p
    pub taken : TakesUp b p.doubt lacking g
    pub before : Colouring
    pub on_way : IsOnWay p before g r
    pub own : told → IsOwnWay (state p.journal.0) p.journal.1 b lacking before g r
    pub journalled : IsJournalled told (state p.journal.0) p.journal.1 (IsListOf b p.doubt lacking)
    pub matrix : p.replayed.matrix ≡ g.fold.colours
    pub lacks : p.replayed.lacking ≡ lacking

-- all that a recovery reads is found: g is what there is once its rolling is made
pub record IsFound {D : Type 0} (told : Type 0) (state : D → DiskState) (b : Past) (lacking : Option Change) (g : Past) (p : Provisioner D) : Type 0 where
  pub halted : p.halted ≡ true
  pub past : KeepsPast b p
  pub taken : TakesUp b p.doubt lacking g
  pub journalled : IsJournalled told (state p.journal.0) p.journal.1 (IsListOf b p.doubt lacking)
  pub matrix : p.replayed.matrix ≡ g.fold.colours
  pub lacks : p.replayed.lacking ≡ lacking

-- the writes that a cold rolling has left for this Provisioner
abbrev pub writes_left : {D : Type 0} → Provisioner D → RollingAt → List RegWrite
writes_left p r = left_of p.replayed.matrix p.mover.mover r

-- there are switch numbers for the joins that it has left
abbrev pub HasNumbers : {D : Type 0} → Provisioner D → RollingAt → Type 0
HasNumbers p r = length p.mover.mover.log + switches_in (writes_left p r) ≤ 2 ^ 48

-- halted, but a cold recovery goes on: what its rolling has left leads to the legs of g, from wherever the registers are
pub record Rejoins {D : Type 0} (told : Type 0) (state : D → DiskState) (b : Past) (lacking : Option Change) (g : Past) (p : Provisioner D) (r : RollingAt) : Type 0 where
  pub found : IsFound told state b lacking g p
  pub cold : IsCold r
  pub leading : IsLeading p.mover.fabric.size p.replayed.matrix (writes_left p r) p.mover.mover

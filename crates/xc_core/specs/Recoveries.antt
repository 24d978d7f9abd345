-- What a recovery answers.
use Rattle.std.specs.Prelude.{◌≡◌, ◌≢◌, ◌⊎◌, ℕ, ◌+◌, ◌≤◌, List, length, drop, false, Option, Some, None, Result, Ok, Err}
use Rattle.dxc_disk.specs.Disks.{DiskState}
use Rattle.dxc_model.specs.declared.op.Op.{Op}
use Rattle.dxc_model.specs.declared.op.Change.{Change}
use Rattle.dxc_model.specs.Tables.{Board}
use Rattle.fabric_core.specs.declared.size.Size.{Size}
use Rattle.fabric_core.specs.declared.mover.Mover.{Mover}
use Rattle.fabric_core.specs.declared.phase.Phase.{Phase}
use Rattle.journal_core.specs.Books.{listed}
use Rattle.paull_matrix.specs.Colourings.{Colouring}
use Rattle.roll_plan.specs.declared.work.Work.{Work}
use Rattle.roll_plan.specs.declared.op.LegOp.{LegOp}
use Rattle.roll_plan.specs.Works.{ops_writes, switches_in, writes_of}
use Rattle.roll_engine.specs.declared.rolling.Behind.TheVariants.{Nothing}
use Rattle.roll_engine.specs.Rollings.{RollingAt, rest_of}
use Rattle.roll_engine.specs.Cold.{IsColdFrom}
use Rattle.roll_engine.specs.Stages.{IsMidway}
use Rattle.xc_recovery.specs.declared.fault.ReplayFault.{ReplayFault}
use Rattle.xc_recovery.specs.declared.fault.ReplayFault.TheVariants.{BadRecord, Disk}
use Rattle.xc_recovery.specs.Replays.{ComesTo, Reaches, Replays}
use Rattle.xc_recovery.specs.Stages.{IsLastWork}
use Rattle.xc_core.specs.declared.provisioner.Provisioner.{Provisioner}
use Rattle.xc_core.specs.declared.recovery.Recovered.{Recovered}
use Rattle.xc_core.specs.declared.recovery.Recovered.TheVariants as recovered
use Rattle.xc_core.specs.declared.replayed.Given.{Given}
use Rattle.xc_core.specs.Reckonings.{IsTable, Past}
use Rattle.xc_core.specs.Journals.{IsJournalled}
use Rattle.xc_core.specs.Restarts.{IsHalted, IsKnown, IsListOf, TakesUp}

-- they are neither those of the changes so far, nor these with the change in doubt made
abbrev pub IsNeither : Past → Option Op → Board → Colouring → Type 0
IsNeither b doubt t c = (lacking : Option Change) (g : Past) → TakesUp b doubt lacking g → ¬ IsTable g t c

-- what table and legs give, beside the changes so far
abbrev pub GivenIs : Past → Option Op → Board → Colouring → Option Given → Type 0
GivenIs b doubt t c None = IsNeither b doubt t c
GivenIs b doubt t c (Some x) = (g : Past) × TakesUp b doubt x.lacking g × IsTable g t c × (x.switches ≡ g.fold.switches)

-- the registers are at this stage of the last work, and the rest of it makes the switches that are still to come
pub record IsWarm (z : Size) (m : Mover) (ops : List LegOp) (c : Colouring) (switches : ℕ) (r : RollingAt) : Type 0 where
  pub work : r.work.ops.items ≡ ops
  pub alone : r.behind ≡ Nothing
  pub low : r.step ≤ length (ops_writes ops)
  pub midway : (before : Colouring) → IsLastWork before ops c → IsMidway z before (ops_writes ops) r.step m
  pub switched : length m.log + switches_in (rest_of r) ≡ switches

-- or at none that does
abbrev pub IsCold : Size → Mover → List LegOp → Colouring → ℕ → Type 0
IsCold z m ops c switches = (before : Colouring) (s : ℕ) → IsLastWork before ops c → s ≤ length (ops_writes ops) → IsMidway z before (ops_writes ops) s m → length m.log + switches_in (drop s (ops_writes ops)) ≢ switches

module _ {D : Type 0} (told : Type 0) (state : D → DiskState) where
  -- what the journal lists is what there is after a way on which the registers are, and no crash takes anything back
  pub record IsListed (b : Past) (p : Provisioner D) : Type 0 where
    pub known : IsKnown told state b p
    pub journalled : IsJournalled told (state p.journal.0) p.journal.1 (IsListOf b p.doubt known.way.lacking)

  -- so many records were read, those that the journal lists, and come to the replayed matrix and table by this last work
  pub record Reads (b : Past) (p : Provisioner D) (ops : List LegOp) : Type 0 where
    pub halted : IsHalted told state b p
    pub whole : p.journal.1.to_mend ≡ false
    pub still : p.journal.1.turning ≡ false
    pub listed_is : told → IsListed b p
    pub records : List (List ℕ)
    pub number : length records ≡ p.journal.1.count
    pub records_are : told → records ≡ listed p.journal.1 (state p.journal.0).reads_as
    pub comes : ComesTo p.journal.1.shape p.journal.1.head records p.replayed.table p.replayed.matrix ops

  -- they give what there is then
  pub record Finds (b : Past) (p : Provisioner D) (lacking : Option Change) (g : Past) (ops : List LegOp) : Type 0 where
    pub records : List (List ℕ)
    pub number : length records ≡ p.journal.1.count
    pub records_are : told → records ≡ listed p.journal.1 (state p.journal.0).reads_as
    pub comes : ComesTo p.journal.1.shape p.journal.1.head records p.replayed.table p.replayed.matrix ops
    pub taken : TakesUp b p.doubt lacking g
    pub given : IsTable g p.replayed.table p.replayed.matrix

  -- the record of this number is the first bad one of those that were read; or so many give neither
  pub record IsAstray (b : Past) (p : Provisioner D) (i : ℕ) : Type 0 where
    pub records : List (List ℕ)
    pub number : length records ≡ p.journal.1.count
    pub astray : Replays p.journal.1.shape p.journal.1.head records (Err (BadRecord i)) p.replayed.table p.replayed.matrix
        ⊎ ((i ≡ length records) × Reaches p.journal.1.shape p.journal.1.head records p.replayed.table p.replayed.matrix × IsNeither b p.doubt p.replayed.table p.replayed.matrix)

  -- Ok: the records were read. A bad one: it is the first.
  abbrev pub ReadIs : Past → Provisioner D → Result Work ReplayFault → Type 0
  ReadIs b p (Ok work) = Reads b p work.ops.items
  ReadIs b p (Err (BadRecord i)) = IsAstray b p i
  ReadIs b p (Err Disk) = Unit {0}

  abbrev pub RecoveredIs : Past → Provisioner D → Recovered → Type 0
  RecoveredIs b new (recovered.Warm r) = (lacking : Option Change) × (g : Past) × (ops : List LegOp) × Finds b new lacking g ops × IsWarm new.mover.fabric.size new.mover.mover ops g.fold.colours g.fold.switches r
  RecoveredIs b new (recovered.Cold r) = (lacking : Option Change) × (g : Past) × (ops : List LegOp) × Finds b new lacking g ops × IsCold new.mover.fabric.size new.mover.mover ops g.fold.colours g.fold.switches × IsColdFrom new.mover.mover.phase r
  RecoveredIs b new (recovered.Astray i) = IsAstray b new i
  RecoveredIs b new recovered.Fault = Unit {0}

-- what is found of a last work
abbrev pub ResumedIs : Size → Mover → List LegOp → Colouring → ℕ → Recovered → Type 0
ResumedIs z m ops c switches (recovered.Warm r) = IsWarm z m ops c switches r
ResumedIs z m ops c switches (recovered.Cold r) = IsCold z m ops c switches × IsColdFrom m.phase r
ResumedIs z m ops c switches (recovered.Astray i) = ⊥
ResumedIs z m ops c switches recovered.Fault = ⊥

-- the rest of a work after so many writes, if so many switches will have been made; or a cold rolling, from this phase on
abbrev pub RestIs : Work → ℕ → Phase → ℕ → ℕ → Recovered → Type 0
RestIs w made phase now switches (recovered.Warm r) = (r ≡ record { work = w; step = made; behind = Nothing }) × (now + switches_in (drop made (writes_of w)) ≡ switches)
RestIs w made phase now switches (recovered.Cold r) = (now + switches_in (drop made (writes_of w)) ≢ switches) × IsColdFrom phase r
RestIs w made phase now switches (recovered.Astray i) = ⊥
RestIs w made phase now switches recovered.Fault = ⊥

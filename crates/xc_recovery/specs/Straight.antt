-- A record, a change or a task that is made on the colouring, where its work isn't asked for.
use Rattle.std.specs.Prelude.{◌≡◌, ℕ, Bool, true, false, List, Option}
use Rattle.dxc_num.specs.declared.port.Middle.{Middle}
use Rattle.dxc_model.specs.declared.op.Change.{Change}
use Rattle.dxc_model.specs.Tables.{Board}
use Rattle.dxc_model.specs.Verdicts.{effect}
use Rattle.roll_plan.specs.declared.op.Choice.{Choice}
use Rattle.roll_plan.specs.declared.op.LegOp.{LegOp}
use Rattle.paull_matrix.specs.Colourings.{Colouring}
use Rattle.paull_chain.specs.Works.{after_op, after_ops}
use Rattle.xc_recovery.specs.declared.leg_task.LegTask.{LegTask}
use Rattle.xc_recovery.specs.ChangeWorks.{ChangesBy, DoesBy}
use Rattle.xc_recovery.specs.Folds.{IsBad, Makes}

-- a task that is to be done by a choice, while this middle is out or none
pub record Trial : Type 0 where
  pub out : Option Middle
  pub task : LegTask
  pub choice : Choice

abbrev pub tried_by : Option Middle → LegTask → Choice → Trial
tried_by out task choice = record { out = out; task = task; choice = choice }

-- done: some op does the task by this choice, and the colouring is the one after it. Not done: none does, and the colouring stays.
abbrev pub IsTried : Bool → Trial → (old new : Colouring) → Type 0
IsTried true t c d = (o : LegOp) × DoesBy t.out c t.task t.choice o × (d ≡ after_op o c)
IsTried false t c d = ((o : LegOp) → ¬ DoesBy t.out c t.task t.choice o) × (d ≡ c)

-- a change, and the choices of its legs
pub record Chosen : Type 0 where
  pub change : Change
  pub choices : List Choice

abbrev pub by_choices : Change → List Choice → Chosen
by_choices change hs = record { change = change; choices = hs }

-- the same of a change of the table by these choices
abbrev pub IsMade : Bool → Board → Chosen → (old new : Colouring) → Type 0
IsMade true t h c d = (ops : List LegOp) × ChangesBy t c h.change h.choices ops × (d ≡ after_ops ops c)
IsMade false t h c d = ((ops : List LegOp) → ¬ ChangesBy t c h.change h.choices ops) × (d ≡ c)

-- a record's bytes, in the spelling of this version
pub record Spelled : Type 0 where
  pub version : ℕ
  pub bytes : List ℕ

abbrev pub spelled_in : ℕ → List ℕ → Spelled
spelled_in version bytes = record { version = version; bytes = bytes }

-- connections and legs
pub record Network : Type 0 where
  pub table : Board
  pub colours : Colouring

abbrev pub network_of : Board → Colouring → Network
network_of t c = record { table = t; colours = c }

-- a record makes a change by its work
abbrev pub MakesBy : Spelled → Network → Change → List LegOp → Type 0
MakesBy r at change ops = Makes r.version at.table at.colours r.bytes change ops

-- the same of a record, with the table after it
abbrev pub IsTaken : Bool → Spelled → (old new : Network) → Type 0
IsTaken true r old new = (change : Change) × (ops : List LegOp) × MakesBy r old change ops × (new.table ≡ effect old.table change) × (new.colours ≡ after_ops ops old.colours)
IsTaken false r old new = IsBad r.version old.table old.colours r.bytes × (new.table ≡ old.table) × (new.colours ≡ old.colours)

-- whether a record is the last one, and the ops that were kept of it
pub record Kept : Type 0 where
  pub is_last : Bool
  pub work : List LegOp

abbrev pub kept_of : Bool → List LegOp → Kept
kept_of is_last work = record { is_last = is_last; work = work }

-- the same, and of the last record these are the ops of its work
abbrev pub IsNext : Bool → Spelled → (old new : Network) → Kept → Type 0
IsNext true r old new k = (change : Change) × (ops : List LegOp) × MakesBy r old change ops × (new.table ≡ effect old.table change)
    × (new.colours ≡ after_ops ops old.colours) × (k.is_last ≡ true → ops ≡ k.work)
IsNext false r old new k = IsBad r.version old.table old.colours r.bytes × (new.table ≡ old.table) × (new.colours ≡ old.colours)

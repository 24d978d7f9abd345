-- What the calls say, with what belongs together as one, and a disk by all members of its trait.
use Rattle.std.specs.Prelude.{◌≡◌, ℕ, List, Option, Result, Ok, Err}
use Rattle.dxc_disk.specs.declared.disk.Disk.{Ghosts as DiskOf}
use Rattle.dxc_model.specs.declared.entry.Entry.{Entry}
use Rattle.dxc_model.specs.declared.op.Op.{Op}
use Rattle.dxc_model.specs.declared.op.Change.{Change}
use Rattle.dxc_model.specs.Tables.{Board}
use Rattle.dxc_outside.specs.declared.stopped.Stopped.{Stopped}
use Rattle.fabric_core.specs.declared.size.Size.{Size}
use Rattle.fabric_core.specs.declared.mover.Mover.{Mover}
use Rattle.fabric_core.specs.declared.phase.Phase.{Phase}
use Rattle.journal_core.specs.Turns.{JournalAt}
use Rattle.paull_matrix.specs.Colourings.{Colouring}
use Rattle.roll_plan.specs.declared.op.LegOp.{LegOp}
use Rattle.roll_plan.specs.declared.work.Work.{Work}
use Rattle.roll_engine.specs.Rollings.{RollingAt}
use Rattle.xc_core.specs.declared.noting.Noted.{Noted}
use Rattle.xc_core.specs.declared.provisioner.Driver.{Driver}
use Rattle.xc_core.specs.declared.provisioner.Provisioner.{Provisioner}
use Rattle.xc_core.specs.declared.recovery.Recovered.{Recovered}
use Rattle.xc_core.specs.declared.replayed.Replayed.{Replayed}
use Rattle.xc_core.specs.Begins.{NotedIs, Plan}
use Rattle.xc_core.specs.Beside.{IsBeside}
use Rattle.xc_core.specs.Drives.{Recovers}
use Rattle.xc_core.specs.Endings.{Ends}
use Rattle.xc_core.specs.Finishes.{Finishes}
use Rattle.xc_core.specs.Journals.{StillCounts}
use Rattle.xc_core.specs.Provisioners.{Rolls}
use Rattle.xc_core.specs.Reckonings.{Past}
use Rattle.xc_core.specs.Recoveries.{RecoveredIs, RestIs, ResumedIs}
use Rattle.xc_core.specs.Restarts.{Rejoins, Resumes}
use Rattle.xc_core.specs.Seeing.{HasRestart, HasTaken}
use Rattle.xc_core.specs.States.{Opening}

-- an operation, the change that it is granted, and what there is after the changes before it
pub record Grant : Type 0 where
  pub before : Past
  pub op : Op
  pub change : Change

abbrev pub grant_of : Past → Op → Change → Grant
grant_of b op c = record { before = b; op = op; change = c }

-- a change that was driven by this rolling, and what there is after the changes before it
pub record Driven : Type 0 where
  pub before : Past
  pub change : Change
  pub rolling : RollingAt

abbrev pub driven_by : Past → Change → RollingAt → Driven
driven_by b c r = record { before = b; change = c; rolling = r }

-- what a recovery takes up: what there is after the changes so far, the change that the table lacks, if it lacks one, and what there is after that
pub record TakenUp : Type 0 where
  pub before : Past
  pub lacking : Option Change
  pub behind : Past

abbrev pub taken_up : Past → Option Change → Past → TakenUp
taken_up b lacking g = record { before = b; lacking = lacking; behind = g }

-- a plan, and what there is after the changes before it
pub record Planned : Type 0 where
  pub before : Past
  pub plan : Plan

abbrev pub planned_after : Past → Plan → Planned
planned_after b plan = record { before = b; plan = plan }

-- an outing of the Provisioner: the opening, the place's number, the history so far, and the operation that it is out for
pub record Outing : Type 0 where
  pub opening : Opening
  pub own : ℕ
  pub history : List Entry
  pub op : Op

abbrev pub outing_of : Opening → ℕ → List Entry → Op → Outing
outing_of o own h op = record { opening = o; own = own; history = h; op = op }

module _ {D : Type 0} (g : DiskOf D) where
  abbrev pub RollsFor : Grant → Provisioner D → RollingAt → Type 0
  RollsFor w p r = Rolls g.told g.state w.before w.op w.change p r

  abbrev pub FinishesFor : Driven → Board → Provisioner D → Change → Type 0
  FinishesFor w table p answer = Finishes g.told g.state w.before w.change w.rolling table p answer

  abbrev pub ResumesFor : TakenUp → Provisioner D → RollingAt → Type 0
  ResumesFor w p r = Resumes g.told g.state w.before w.lacking w.behind p r

  abbrev pub RejoinsFor : TakenUp → Provisioner D → RollingAt → Type 0
  RejoinsFor w p r = Rejoins g.told g.state w.before w.lacking w.behind p r

  abbrev pub RecoversFor : TakenUp → Provisioner D → RollingAt → Type 0
  RecoversFor w p r = Recovers g.told g.state w.before w.lacking w.behind p r

  abbrev pub EndsFor : TakenUp → Board → Provisioner D → Option Change → Type 0
  EndsFor w table p answer = Ends g.told g.state w.before w.lacking w.behind table p answer

  -- A stop: nothing was read.
  abbrev pub RecoveredAs : Past → (old new : Provisioner D) → Result Recovered Stopped → Type 0
  RecoveredAs b old new (Ok answer) = RecoveredIs g.told g.state b new answer
  RecoveredAs b old new (Err stopped) = new ≡ old

  abbrev pub NotedAs : Planned → (old new : Provisioner D) → Result Noted Stopped → Type 0
  NotedAs w old new answer = NotedIs g.told g.state w.before old new w.plan answer

  -- the Provisioner is out for a change, by the one and the rolling that it drives
  abbrev pub IsOutForChange : Outing → Driver D → Type 0
  IsOutForChange w d = HasTaken g.told g.state w.opening w.own w.op w.history d.p d.rolling

  -- or for a restart
  abbrev pub IsOutForRestart : Outing → Driver D → Type 0
  IsOutForRestart w d = HasRestart g.told g.state w.opening w.own w.op w.history d.p d.rolling

-- what was counted in the one journal is so in the other, or they have the rows of this table's checkpoint
abbrev pub StillCountsIn : (old new : JournalAt) → Board → Colouring → Type 0
StillCountsIn old new t c = StillCounts old.disk old.book new.disk new.book t c

-- a Provisioner's replayed table and matrix, beside what there is after the changes
abbrev pub IsReplayed : Past → Replayed → Colouring → Option Op → ℕ → Type 0
IsReplayed b replayed m doubt spent = IsBeside b replayed m replayed.expected doubt spent

-- a journal's last work, the colouring that it led to, and how many switches there are after it
pub record LastWork : Type 0 where
  pub ops : List LegOp
  pub colours : Colouring
  pub switches : ℕ

abbrev pub last_work : List LegOp → Colouring → ℕ → LastWork
last_work ops c switches = record { ops = ops; colours = c; switches = switches }

abbrev pub ResumedAs : Size → Mover → LastWork → Recovered → Type 0
ResumedAs z m w answer = ResumedIs z m w.ops w.colours w.switches answer

-- a work of which so many writes are made
pub record HalfMade : Type 0 where
  pub work : Work
  pub made : ℕ

abbrev pub half_made : Work → ℕ → HalfMade
half_made work made = record { work = work; made = made }

-- how many switches are made, and how many are to be
pub record SwitchesDue : Type 0 where
  pub now : ℕ
  pub due : ℕ

abbrev pub switches_due : ℕ → ℕ → SwitchesDue
switches_due now due = record { now = now; due = due }

abbrev pub RestAs : HalfMade → Phase → SwitchesDue → Recovered → Type 0
RestAs w phase s answer = RestIs w.work w.made phase s.now s.due answer

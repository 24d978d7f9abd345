use Rattle.std.proofs.Common.{List}
use Rattle.user_admin.specs.declared.op.UserEntry.{UserEntry}
use Rattle.user_admin.specs.Histories.{Opening}
use Rattle.user_admin.specs.States.{StandsFor}
use Rattle.worked_disks.proofs.opening.steps_fault.Given as goal

abbrev pub invariant-loop-line : goal.invariant-loop-line
invariant-loop-line g l = (o : Opening) × (h : List UserEntry) × StandsFor g.D.Disk.told g.D.Disk.state o l.state h

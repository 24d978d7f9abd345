use Rattle.dxc_disk.specs.Disks.{bytes_at}
use Rattle.standby_link.specs.declared.line.Line.{Line}
use Rattle.standby_link.specs.Lines.{line_at}
use Rattle.standby_link.specs.Moves.{mirrored, TellsWrite, StepsByWrite}
use Rattle.standby_link.proofs.MoveSteps.{both_then, steps_by_write}
use Rattle.standby_link.proofs.mirror_disk.MirrorDiskDisk.write_at.Goals as goal

pub returns-clause-steps : goal.returns-clause-steps
returns-clause-steps g c =
    let at = line_at g.K.Link.state in
    let old = g.D.Disk.state c.args.self.now.disk.disk in
    let new = g.D.Disk.state c.write_at-written.new.self.disk in
    both_then c.args.self.now.line c.tell_write.new.line
    (λ (l : Line g.row.K.Denot) (m : Line g.row.K.Denot). TellsWrite g.K.Link.told (at l) (at m) (bytes_at c.args.at c.args.from.now) c.write_at-written.result)
    (λ (l : Line g.row.K.Denot) (m : Line g.row.K.Denot). StepsByWrite g.D.Disk.told (mirrored old (at l)) (mirrored new (at m)) (bytes_at c.args.at c.args.from.now) c.write_at-written.result)
    (λ l m tells. steps_by_write g.D.Disk.told g.K.Link.told old new (at l) (at m) c.args.at c.args.from.now c.write_at-written.result c.write_at-written.ensures.write.writes tells)
    c.tell_write.ensures.tells

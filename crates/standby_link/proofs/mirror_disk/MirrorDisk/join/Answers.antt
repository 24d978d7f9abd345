use Rattle.std.proofs.Common.{◌+◌, ◌^◌, ◌<◌, length, subst, None}
use Rattle.standby_link.specs.Acts.{pieces}
use Rattle.standby_link.specs.Lines.{IsHungUp, line_at}
use Rattle.standby_link.specs.Mirrors.{joining}
use Rattle.standby_link.specs.Moves.{IsSmall, Joins, TookHaves, first_line, mirrored}
use Rattle.standby_link.proofs.mirror_disk.MirrorDisk.join.Goals as goal

pub returns-clause-line : goal.returns-clause-line
returns-clause-line g c =
    let new = g.D.Disk.state c.join_file.new.disk.disk in
    let line = line_at g.K.Link.state c.join_file.new.line in
    subst (λ (d : g.row.D.Denot). Joins g.D.Disk.told g.K.Link.told (g.D.Disk.state d) new (g.K.Link.state c.args.link) line) c.new-disk.ensures
    (subst (λ (k : g.row.K.Denot). Joins g.D.Disk.told g.K.Link.told (g.D.Disk.state c.new-disk.result.disk) new (g.K.Link.state k) line) c.new-line.ensures.link c.join_file.ensures.line)

pub returns-clause-step : goal.returns-clause-step
returns-clause-step g c =
    let new = mirrored (g.D.Disk.state c.join_file.new.disk.disk) (line_at g.K.Link.state c.join_file.new.line) in
    subst (λ (d : g.row.D.Denot). g.D.Disk.told → IsSmall 0 0 (g.D.Disk.state d).reads_as → length (pieces 0 (g.D.Disk.state d).reads_as) + 1 < 2 ^ 64 → TookHaves g.D.Disk.told g.K.Link.told (first_line (g.K.Link.state c.args.link)) new (joining (g.D.Disk.state d).reads_as)) c.new-disk.ensures
    (λ t small few. subst (λ (k : g.row.K.Denot). TookHaves g.D.Disk.told g.K.Link.told (first_line (g.K.Link.state k)) new (joining (g.D.Disk.state c.new-disk.result.disk).reads_as)) c.new-line.ensures.link (c.join_file.ensures.step t small few))

pub returns-clause-hung_up : goal.returns-clause-hung_up
returns-clause-hung_up g c = subst (λ (k : g.row.K.Denot). IsHungUp None c.join_file.new.line.lost (g.K.Link.hung_up k) (g.K.Link.hung_up c.join_file.new.line.link)) c.new-line.ensures.link c.join_file.ensures.hung_up

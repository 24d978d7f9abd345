use Rattle.dxc_jobs.specs.Offices.{office}
use Rattle.serve_laws.specs.Jobs.{means, world}
use Rattle.serve_laws.proofs.Standbys.{StandbyLaws}
use Rattle.serve_laws.proofs.Whole.{headline}
use Rattle.serve_laws.proofs.headline.Goals as goal

pub returns : goal.returns
returns g c = λ old new site s o p j e.
    let laws : StandbyLaws g.D.Disk.told g.D.Disk.state = record {
      synced = c.standbys_are_adopted.ensures.synced;
      adopted = c.standbys_are_adopted.ensures.adopted;
      readings = c.readings_stand_for_operations.ensures;
      crashes = c.crashes_stand_for_operations.ensures;
      users = c.standbys_stand_for_users.ensures.copies;
      users_crashes = c.crashes_stand_for_users.ensures;
      copies = c.copies_are_readings.ensures.copies;
      joined = c.copies_are_readings.ensures.joined;
      current = c.copies_are_readings.ensures.current;
    } in
    headline c.own_bytes.ensures (world (office g.O.Opener g.O.Journal.Disk g.O.Listener.Listener g.O.Listener.Link.Link) g.D.Disk (means g.O.Lines.Lines g.O.Clock.Timestamps g.O.Gate.Gate) g.O.LetGo.gone) laws (g.P.Spawner.handed old new) site s o p j e

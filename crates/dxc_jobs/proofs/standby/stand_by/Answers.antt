use Rattle.dxc_jobs.proofs.StandingBy.{no_disk_fault}
use Rattle.dxc_jobs.proofs.standby.stand_by.Goals as goal

pub returns-clause-ran : goal.returns-clause-ran
returns-clause-ran g c =
    let e = c.serve_standby.ensures in
    record {
      ends = e.served;
      not_empty = e.not_empty;
      empty = e.empty;
      ended = e.end;
      read_fault = e.read_fault;
      no_read_fault = e.no_read_fault;
      write_fault = e.write_fault;
      no_write_fault = e.no_write_fault;
      disk_fault = e.disk_fault;
      spent = e.spent;
      sound_link = e.sound_link;
      sound_disk = λ fault sound. no_disk_fault g.D.Disk.told g.K.Link.told _ _ _ _ _ e.served (g.met.D.Disk.counts_on c.args.disk.now) sound (e.disk_fault fault);
    }

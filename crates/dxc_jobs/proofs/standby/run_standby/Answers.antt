use Rattle.dxc_jobs.proofs.StandingBy.{asked_by}
use Rattle.dxc_jobs.proofs.standby.run_standby.Goals as goal

pub returns-clause-stands_by : goal.returns-clause-stands_by
returns-clause-stands_by g c = record {
  stood = c.meet_primary-stood.result;
  status_is = c.status-status.ensures;
  stands = c.meet_primary-stood.ensures.stands;
  let_go = c.let_go.ensures;
  asked_for = c.meet_primary-stood.ensures.asked;
}

pub returns-clause-asked : goal.returns-clause-asked
returns-clause-asked g c = asked_by g.O.Opener.told g.O.Journal.Disk.told g.O.Listener.Listener.told g.O.Listener.Link.Link.told g.O.Journal.Disk.state g.O.Listener.Listener.state g.O.Listener.Link.Link.state g.O.Listener.Link.Link.begun g.O.Listener.Link.Link.hung_up (g.O.Opener.journal_at c.args.opener.now) (g.O.Opener.listener_at c.args.opener.now) _ _ c.args.journal.now c.args.address.now (g.O.Opener.asked c.args.opener.now c.meet_primary-stood.new.opener) c.status-status.result c.meet_primary-stood.result c.status-status.ensures c.meet_primary-stood.ensures.stands c.meet_primary-stood.ensures.asked

use Rattle.dxc_element.proofs.opening.start.Goals as goal

pub returns-in-Err-clause-started : goal.returns-in-Err-clause-started
returns-in-Err-clause-started g c = record { fault = c.in-Err.fault; is = c.not_started-status.ensures; fails = c.in-Err.ensures.started; let_go = c.let_go.ensures }

use Rattle.dxc_element.proofs.opening.start_users.Goals as goal

pub returns-in-Err : goal.returns-in-Err
returns-in-Err g c = record { fault = c.in-Err.fault; is = c.users_not_started-status.ensures; fails = c.in-Err.ensures; let_go = c.let_go.ensures }

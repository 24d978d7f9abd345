use denote.Exit as Exit
use denote.Param.{param}
use denote.Param.Send as Send
use Rattle.turnstile.proofs.Crossing.{pass_send, turn_send, turnstile_send, turnstile_sync}
use Rattle.turnstile.proofs.tests.all.Goals as goal

pub crosses-requires-send-T : goal.crosses-requires-send-T
crosses-requires-send-T g c κs within = Send.param_send 0 _ (Send.arg_send _ Exit.no _ (turn_send (param 0 g.row.S) (param 1 g.row.S-Entry) g.S.Sequential c.type_bounds.send-S))

pub crosses-requires-2-send-T : goal.crosses-requires-2-send-T
crosses-requires-2-send-T g c κs within = Send.param_send 0 _ (Send.arg_send _ Exit.no _ (turnstile_send (param 0 g.row.S) (param 1 g.row.S-Entry) g.S.Sequential c.type_bounds.send-S))

pub shared-requires-sync-T : goal.shared-requires-sync-T
shared-requires-sync-T g c κs within = Send.param_sync 0 _ (Send.arg_sync _ Exit.no _ (turnstile_sync (param 0 g.row.S) (param 1 g.row.S-Entry) g.S.Sequential c.type_bounds.send-S))

pub crosses-requires-3-send-T : goal.crosses-requires-3-send-T
crosses-requires-3-send-T g c κs = Send.param_send 0 _ (Send.arg_send _ Exit.no _ pass_send)

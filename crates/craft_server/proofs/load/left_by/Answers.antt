use Rattle.std.proofs.Common.{sym, subst}
use Rattle.turnstile.specs.Passing.{TurnstileView}
use Rattle.xc_core.specs.declared.state.State.{State}
use Rattle.xc_core.specs.Turns.{HasPass}
use Rattle.craft_server.proofs.Loading.{left_given, room_given}
use Rattle.craft_server.proofs.load.left_by.Goals as goal

pub stock_of-requires-clause-pass : goal.stock_of-requires-clause-pass
stock_of-requires-clause-pass g c = subst (λ (t : TurnstileView (State g.row.D.Denot)). HasPass t c.into_pass-pass.result.0) (sym c.deref.ensures) c.into_pass-pass.ensures.pass

pub stock_of-requires-clause-room : goal.stock_of-requires-clause-room
stock_of-requires-clause-room g c = room_given g.D.Disk.state c.into_pass-pass.result.0 _ _ _ c.deref.ensures c.into_pass-pass.ensures.seat _ c.requires

pub returns : goal.returns
returns g c = left_given g.D.Disk.state c.into_pass-pass.result.0 _ _ _ c.deref.ensures c.into_pass-pass.ensures.seat _ c.stock_of.ensures.left

use Rattle.turnstile.proofs.Together.{one_order}
use Rattle.turnstile.proofs.laws.have_one_order.Goals as goal

pub returns : goal.returns
returns g c = one_order g.S.Sequential g.T.Sequential

use Rattle.std.proofs.Common.{◌≡◌, ◌++◌, drop}
use Rattle.paull_chain.proofs.exchange.push_seconds.Given as goal
use Rattle.paull_chain.specs.Exchanges.{each_second, shifts}

-- what is left to move gives with what was moved the whole
abbrev pub invariant-loop-leg : goal.invariant-loop-leg
invariant-loop-leg l = l.moves.items ++ shifts (each_second l.is_moved (drop l.leg-index l.legs)) l.from.0 l.to.0 ≡ l.fn.moves.items ++ shifts (each_second l.fn.first l.fn.legs) l.fn.from.0 l.fn.to.0

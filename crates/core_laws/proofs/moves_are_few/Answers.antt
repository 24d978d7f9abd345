use Rattle.xc_core.proofs.Moves.{middles_few, moves_few}
use Rattle.core_laws.proofs.moves_are_few.Goals as goal

pub returns-clause-legs : goal.returns-clause-legs
returns-clause-legs c = moves_few

pub returns-clause-middles : goal.returns-clause-middles
returns-clause-middles c = middles_few

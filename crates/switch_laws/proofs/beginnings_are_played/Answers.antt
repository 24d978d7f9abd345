use Rattle.std.specs.Prelude.{IsTrue}
use Rattle.xc_core.specs.States.{rules_of}
use Rattle.switch_laws.proofs.Onward.{passed}
use Rattle.switch_laws.proofs.beginnings_are_played.Goals as goal

pub returns : goal.returns
returns c = λ l excused o past h all legal excuses pos within lives beyond. passed l (rules_of o) (λ q. IsTrue (excused q)) past all h pos (legal, excuses, within) lives beyond

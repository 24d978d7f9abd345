use Rattle.craft_session.proofs.FreshPlaces.{next_fresh}
use Rattle.worked_restarts.proofs.places.next_pass.Goals as goal

pub returns-clause-next : goal.returns-clause-next
returns-clause-next c = λ id n all. next_fresh id n _ _ c.remove.result _ all c.requires.some c.remove.ensures.value c.remove.ensures.by_index.2

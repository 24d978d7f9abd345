use Rattle.std.proofs.Common.{sym, subst}
use Rattle.turnstile.specs.Passing.{TurnstileView}
use Rattle.craft_session.specs.Places.{AreFresh}
use Rattle.craft_session.proofs.FreshPlaces.{all_fresh}
use Rattle.worked_restarts.proofs.places.turns_of.Goals as goal

pub returns-clause-fresh : goal.returns-clause-fresh
returns-clause-fresh g c =
    let ps = c.in_ok-turns.passes.items in
    subst (λ (t : TurnstileView g.row.S.Denot). AreFresh t.id 0 ps) (sym c.in-Ok.ensures.ok) (all_fresh _ _ ps c.in_ok-turns.ensures.opened.2)

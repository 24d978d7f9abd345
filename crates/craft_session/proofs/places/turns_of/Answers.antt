use Rattle.std.proofs.Common.{◌∙◌, ap, sym, subst}
use Rattle.turnstile.specs.Passing.{TurnstileView}
use Rattle.craft_session.specs.Places.{AreFresh}
use Rattle.craft_session.proofs.FreshPlaces.{all_fresh}
use Rattle.craft_session.proofs.places.turns_of.Goals as goal

pub returns-clause-turns : goal.returns-clause-turns
returns-clause-turns g c =
    let t = c.in-Ok.ensures.ok in
    let made = c.in_ok-turns.ensures.opened in
    (ap (λ (x : TurnstileView g.row.S.Denot). x.first) t ∙ made.0, ap (λ (x : TurnstileView g.row.S.Denot). x.passes) t ∙ made.1)

pub returns-clause-made : goal.returns-clause-made
returns-clause-made g c =
    let t = c.in-Ok.ensures.ok in
    let made = c.in_ok-turns.ensures.made in
    (ap (λ (x : TurnstileView g.row.S.Denot). x.id.first) t ∙ made.0, ap (λ (x : TurnstileView g.row.S.Denot). x.id.passes) t ∙ made.1)

pub returns-clause-each : goal.returns-clause-each
returns-clause-each g c = c.in_ok-turns.ensures.opened.2.0

pub returns-clause-fresh : goal.returns-clause-fresh
returns-clause-fresh g c =
    let ps = c.in_ok-turns.passes.items in
    subst (λ (t : TurnstileView g.row.S.Denot). AreFresh t.id 0 ps) (sym c.in-Ok.ensures.ok) (all_fresh _ _ ps c.in_ok-turns.ensures.opened.2)

use Rattle.std.proofs.Common.{◌<◌, ◌∙◌, arith, ap}
use Rattle.std.specs.Arc.{arc_value}
use Rattle.turnstile.specs.Passing.{TurnstileView}
use Rattle.xc_core.specs.declared.state.State.{State}
use Rattle.xc_core.specs.States.{opening_of}
use Rattle.craft_session.proofs.FreshPlaces.{seated}
use Rattle.worked_restarts.proofs.element.seat_all.Goals as goal

pub new-audit-requires-clause-seated : goal.new-audit-requires-clause-seated
new-audit-requires-clause-seated g c =
    let t : TurnstileView (State g.row.D.Denot) = arc_value c.in-Ok.turns in
    let own = (c.next_pass-pass.ensures.next t.id c.min-count.result c.in-Ok-places_of.ensures.fresh).0 in
    let first = c.in-Ok.ensures.turns.0 in
    let within : c.min-count.result < t.passes = omega (arith, c.in-Ok.ensures.turns.1) in
    let fabric = ap (λ (s : State g.row.D.Denot). (opening_of g.D.Disk.state s).site.fabric) first ∙ c.requires.opening.fabric in
    seated g.D.Disk.told g.D.Disk.state c.next_pass-pass.result t (arc_value c.args.ground.fabric) c.min-count.result own within fabric

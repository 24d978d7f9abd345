use Rattle.std.proofs.Common.{◌≡◌, ◌∙◌, [], ◌∷◌, Ok, Err, sym, subst}
use Rattle.dxc_causes.specs.Stops.{RoseOnlyFor}
use Rattle.fabric_core.specs.declared.size.Size.{Size}
use Rattle.fabric_core.specs.declared.mover.Mover.{Mover}
use Rattle.fabric_words.specs.Seats.{FabricId}
use Rattle.roll_engine.specs.declared.halt.Halt.TheVariants.{Stopped}
use Rattle.roll_engine.specs.Rollings.{at_step}
use Rattle.roll_engine.specs.Courses.{IsReady}
use Rattle.roll_engine.specs.Answers.{Answer, StepIs, asked_at_step}
use Rattle.roll_engine.specs.Walks.{Walks}
use Rattle.roll_engine.proofs.Going.{ready_step}
use Rattle.roll_engine.proofs.Walking.{handed_on, not_stopped, walks_halted, walks_made}
use Rattle.roll_engine.proofs.several.write_on.Goals as goal

pub step_on-requires-clause-ready : goal.step_on-requires-clause-ready
step_on-requires-clause-ready g c = let r = at_step c.args.made.now c.args.rolling.now in let w = c.args.write in let m : Mover = c.args.mover.now.mover in
    subst (λ (f : FabricId). IsReady f.size (w ∷ []) m) (sym c.requires.own) (ready_step c.args.fabric.now.size r w m c.requires.next c.requires.ready)

pub returns-clause-walks : goal.returns-clause-walks
returns-clause-walks g c =
    let z : Size = c.args.fabric.now.size in let r = at_step c.args.made.now c.args.rolling.now in let w = c.args.write in
    let m : Mover = c.args.mover.now.mover in let m' : Mover = c.step_on.new.mover.mover in
    let is : c.step_on.result ≡ Ok tt = c.in_ok-step_on.was in
    let h : StepIs z w m m' (Ok tt) = subst (λ (p : FabricId × Answer). StepIs p.0.size w m m' p.1) (λ i. (c.requires.own i, is i)) c.step_on.ensures.step in
    walks_made g.G.Gate.stops g.G.Gate.asked z r w m m' c.args.gate.now c.step_on.new.gate c.requires.next c.requires.ready h.0 h.1 h.2 h.3
    (c.step_on.ensures.stopped.only (λ e. not_stopped (sym is ∙ e))) (subst (λ (a : Answer). g.G.Gate.asked c.args.gate.now c.step_on.new.gate (asked_at_step a)) is c.step_on.ensures.asked)

pub returns-in_err-step_on-clause-walks : goal.returns-in_err-step_on-clause-walks
returns-in_err-step_on-clause-walks g c =
    let z : Size = c.args.fabric.now.size in let r = at_step c.args.made.now c.args.rolling.now in let w = c.args.write in
    let m : Mover = c.args.mover.now.mover in let m' : Mover = c.step_on.new.mover.mover in
    let h = c.in_err-step_on.field-0.0 in let is : c.step_on.result ≡ Err h = c.in_err-step_on.was in
    let step : StepIs z w m m' (Err h) = subst (λ (p : FabricId × Answer). StepIs p.0.size w m m' p.1) (λ i. (c.requires.own i, is i)) c.step_on.ensures.step in
    subst (λ (a : Answer). Walks g.G.Gate.stops g.G.Gate.asked z r r m m' c.args.gate.now c.step_on.new.gate a) (sym is ∙ handed_on c.step_on.result c.from_residual.result h is c.from_residual.ensures.1)
    (walks_halted g.G.Gate.stops g.G.Gate.asked z r w m m' c.args.gate.now c.step_on.new.gate c.requires.next c.requires.ready h step
    (subst (λ (a : Answer). RoseOnlyFor (g.G.Gate.stops c.args.gate.now) (g.G.Gate.stops c.step_on.new.gate) (a ≡ Err Stopped)) is c.step_on.ensures.stopped)
    (subst (λ (a : Answer). g.G.Gate.asked c.args.gate.now c.step_on.new.gate (asked_at_step a)) is c.step_on.ensures.asked))

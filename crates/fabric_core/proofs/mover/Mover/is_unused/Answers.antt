use Rattle.std.proofs.Common.{sym, arith, ap, ◌∙◌}
use native.Mathlib.Decide.{ℕ_discrete}
use mathlib.Core.Logic.{dite}
use Rattle.dxc_num.specs.Dimensions.{leg}
use Rattle.dxc_num.specs.declared.port.Route.{Route}
use Rattle.fabric_core.specs.State.{leg_at}
use Rattle.fabric_core.specs.Moving.{IsEstablished}
use Rattle.fabric_core.proofs.Cells.{port_of_number}
use Rattle.fabric_core.proofs.mover.Mover.is_unused.Goals as goal

pub returns-then-goes_from : goal.returns-then-goes_from
returns-then-goes_from c = let found : (w : Route) × IsEstablished c.args.self.now (leg c.args.input.0 c.loop-output.output) w = c.goes_from.ensures.0 c.if-goes_from.true in (
  (λ e. absurd (cc)),
  (λ unused. absurd (unused (record { 0 = c.loop-output.output }) found.0 found.1.here found.1.same)),
)

pub loop-output-preserved : goal.loop-output-preserved
loop-output-preserved c = λ y w low at same. dite (ℕ_discrete y.0 c.loop-output.output)
    (λ e. let found = c.goes_from.ensures.1 (w, record { here = ap (leg_at c.args.self.now) (sym (port_of_number y (record { 0 = c.loop-output.output }) e)) ∙ at; same = same }) in let none = c.if-goes_from.false in absurd (cc))
    (λ other. c.loop-output.invariant y w (omega arith) at same)

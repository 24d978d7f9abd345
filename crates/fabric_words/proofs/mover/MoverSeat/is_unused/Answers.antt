use Rattle.std.proofs.Common.{sym, arith, ap, ◌∙◌, subst}
use native.Mathlib.Decide.{ℕ_discrete}
use mathlib.Core.Logic.{dite}
use Rattle.dxc_num.specs.Dimensions.{leg}
use Rattle.dxc_num.specs.declared.port.Route.{Route}
use Rattle.fabric_core.specs.State.{leg_at}
use Rattle.fabric_core.specs.Moving.{IsEstablished}
use Rattle.fabric_core.proofs.Cells.{port_of_number}
use Rattle.fabric_words.specs.Seats.{MoverAt}
use Rattle.fabric_words.proofs.mover.MoverSeat.is_unused.Goals as goal

pub returns-then-is_established-clause-unused : goal.returns-then-is_established-clause-unused
returns-then-is_established-clause-unused c =
    let l = leg c.args.input.0 c.loop-output.output in
    let found = subst (λ (s : MoverAt). (w : Route) × IsEstablished s.mover l w) c.loop-output.invariant.same (c.is_established.ensures.established.0 c.if-is_established.true) in (
      (λ e. absurd (cc)),
      (λ unused. absurd (unused (record { 0 = c.loop-output.output }) found.0 found.1.here found.1.same)),
    )

pub loop-output-preserved : goal.loop-output-preserved
loop-output-preserved c = record {
  same = c.is_established.ensures.same ∙ c.loop-output.invariant.same;
  unused = λ y w low at same. dite (ℕ_discrete y.0 c.loop-output.output)
      (λ e.
      let l = leg c.args.input.0 c.loop-output.output in
      let there = ap (leg_at c.args.self.now.mover) (sym (port_of_number y (record { 0 = c.loop-output.output }) e)) ∙ at in
      let found = c.is_established.ensures.established.1 (subst (λ (s : MoverAt). (v : Route) × IsEstablished s.mover l v) (sym c.loop-output.invariant.same) (w, record { here = there; same = same })) in
      let none = c.if-is_established.false in absurd (cc))
      (λ other. c.loop-output.invariant.unused y w (omega arith) at same);
}

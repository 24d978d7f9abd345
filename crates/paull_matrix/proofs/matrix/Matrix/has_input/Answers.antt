use Rattle.std.proofs.Common.{◌≡◌, ◌<◌, ◌∙◌, ℕ, sym, subst, refl, rules, arith, true≢false}
use Rattle.paull_matrix.specs.declared.side.Side.TheVariants.{Row}
use Rattle.dxc_num.specs.Dimensions.{IsInside}
use Rattle.paull_matrix.specs.Colourings.{Colouring, colouring_of, IsHeld}
use Rattle.paull_matrix.proofs.Legs.{module_low}
use Rattle.paull_matrix.proofs.Indexed.{held_in, no_input}
use Rattle.paull_matrix.proofs.matrix.Matrix.has_input.Goals as goal

pub returns-then-eq : goal.returns-then-eq
returns-then-eq c =
    let b : Colouring = colouring_of c.self.inside.shape c.self.inside.routes.items in
    let e : c.args.self.now ≡ b = search rules in
    let z = c.loop-middle-test.true in let n = c.slots-middle-end.ensures.value in
    let low : c.module_of-module.result < b.shape.modules = subst (λ (m : ℕ). m < b.shape.modules) (sym c.module_of-module.ensures) (module_low b.shape Row c.args.leg (subst (λ (a : Colouring). IsInside a.shape c.args.leg) e c.requires)) in
    ((λ h. (c.in-Some.other, subst (λ (a : Colouring). IsHeld a c.in-Some.other) (sym e) (held_in b Row c.self.inside.rows c.module_of-module.result c.loop-middle.middle c.in-Some.other c.self.invariant.rows_are low (omega arith) (sym c.get.ensures ∙ c.in-Some.is)), search rules)), λ h. refl)

pub returns : goal.returns
returns c =
    let b : Colouring = colouring_of c.self.inside.shape c.self.inside.routes.items in
    let e : c.args.self.now ≡ b = search rules in
    let z = c.loop-middle-test.false in let n = c.slots-middle-end.ensures.value in (
      (λ h. absurd (true≢false (sym h))),
      λ h. absurd (no_input b c.args.leg c.self.inside.rows c.module_of-module.result c.self.invariant.proper c.self.invariant.rows_are c.module_of-module.ensures
          (λ k v le is. c.loop-middle.invariant k v (omega arith) is) h.0 (subst (λ (a : Colouring). IsHeld a h.0) e h.1) h.2),
    )

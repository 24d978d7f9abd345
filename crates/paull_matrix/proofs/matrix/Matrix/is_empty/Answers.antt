use Rattle.std.proofs.Common.{arith, rules, ◌≡◌, ◌≤◌, ◌<◌, ℕ, ◌∙◌, Option, sym, refl, ap, subst, true≢false, is_some, true}
use Rattle.dxc_num.specs.declared.port.Leg.{Leg}
use Rattle.paull_matrix.specs.declared.side.Side.TheVariants.{Row}
use Rattle.paull_matrix.specs.Colourings.{Colouring, colouring_of, IsEmpty}
use Rattle.paull_matrix.specs.Indexes.{leg_in}
use Rattle.paull_matrix.proofs.Indexed.{cell_held, none_there}
use Rattle.paull_matrix.proofs.matrix.Matrix.is_empty.Goals as goal

pub returns-then-is_some : goal.returns-then-is_some
returns-then-is_some c =
    let b : Colouring = colouring_of c.self.inside.shape c.self.inside.routes.items in
    let e : c.args.self.now ≡ b = search rules in
    let set : is_some (leg_in c.self.inside.rows c.loop-module.module c.args.middle.0) ≡ true = ap (λ (o : Option Leg). is_some o) (sym c.get.ensures) ∙ (sym c.is_some.ensures ∙ c.if-is_some.true) in
    ((λ h. absurd (true≢false (sym h))), λ h. absurd (cell_held b Row c.self.inside.rows c.loop-module.module c.args.middle.0 c.self.invariant.rows_are (subst (λ (n : ℕ). c.loop-module.module < n) c.modules-module-end.ensures.value c.loop-module-test.true) (subst (λ (d : Colouring). c.args.middle.0 ≤ d.shape.slots) e c.requires) set (subst (λ (d : Colouring). IsEmpty d c.args.middle.0) e h)))

pub returns : goal.returns
returns c =
    let b : Colouring = colouring_of c.self.inside.shape c.self.inside.routes.items in
    let e : c.args.self.now ≡ b = search rules in
    let end = c.loop-module-test.false in let n = c.modules-module-end.ensures.value in
    ((λ h. subst (λ (d : Colouring). IsEmpty d c.args.middle.0) (sym e) (none_there b Row c.self.inside.rows c.args.middle.0 c.self.invariant.proper c.self.invariant.rows_are (λ m lt. c.loop-module.invariant m (omega arith)))), λ h. refl)

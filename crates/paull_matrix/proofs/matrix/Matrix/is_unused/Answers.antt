use Rattle.std.proofs.Common.{◌≡◌, ◌∙◌, Option, is_some, None, true, true≢false, sym, ap, subst, rules}
use Rattle.dxc_num.specs.declared.port.Route.{Route}
use Rattle.dxc_num.specs.Dimensions.{IsInside}
use Rattle.paull_matrix.specs.Colourings.{Colouring, colouring_of, IsUnused, route_at}
use Rattle.paull_matrix.proofs.Legs.{out_low}
use Rattle.paull_matrix.proofs.Indexed.{any_default, used_route}
use Rattle.paull_matrix.proofs.matrix.Matrix.is_unused.Goals as goal

pub returns-else-is_none : goal.returns-else-is_none
returns-else-is_none c =
    let b : Colouring = colouring_of c.self.inside.shape c.self.inside.routes.items in
    let e : c.args.self.now ≡ b = search rules in
    let l = c.args.leg in
    let low = out_low b l c.self.invariant.proper (subst (λ (a : Colouring). IsInside a.shape l) e c.requires) in
    let found : route_at b l.output.0 ≡ c.index.result.now = any_default c.self.inside.routes.items l.output.0 None c.index.result.now low ∙ sym c.index.ensures in
    let set : is_some (route_at b l.output.0) ≡ true = ap (λ (o : Option Route). is_some o) found ∙ c.if-is_none.ensures in
    ((λ h. absurd (true≢false (sym h ∙ c.if-is_none.false))), λ u. absurd (used_route b l set (subst (λ (a : Colouring). IsUnused a l) e u)))

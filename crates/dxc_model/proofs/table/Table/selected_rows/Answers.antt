use Rattle.std.proofs.Common.{◌≡◌, ℕ, arith, ap, sym, subst}
use Rattle.dxc_num.specs.Dimensions.{ports}
use Rattle.dxc_model.specs.Order.{IsListed}
use Rattle.dxc_model.specs.Tables.{Board, is_selected}
use Rattle.dxc_model.proofs.Scanning.{listed_end, listed_first}
use Rattle.dxc_model.proofs.Taking.{kept_as}
use Rattle.dxc_model.proofs.table.Table.selected_rows.Goals as goal

pub loop-port-init : goal.loop-port-init
loop-port-init c = (listed_first (is_selected c.args.self.now.shape c.args.selection) c.args.self.now.conns _ c.clear.ensures.items, c.clear.ensures.capacity)

pub returns-clause-rows : goal.returns-clause-rows
returns-clause-rows c =
    let q = is_selected c.args.self.now.shape c.args.selection in
    let shape = ap (λ (t : Board). ports t.shape) c.self.view_is in
    let value = c.ports-port-end.ensures.value in
    let end : c.loop-port.port ≡ ports c.args.self.now.shape = omega (arith, shape, value) in
    listed_end q c.args.self.now c.self.inside.sides c.loop-port.into.items (kept_as c.args.self.now _ c.self.inside.sides (sym c.self.view_is) c.self.invariant)
    (subst (λ (n : ℕ). IsListed q c.args.self.now.conns c.loop-port.into.items n) end c.loop-port.invariant.0)

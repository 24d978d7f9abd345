use Rattle.std.proofs.Common.{rules, sym, ap, ◌∙◌, ◌+◌, List, option_map, subst}
use Rattle.dxc_num.specs.Dimensions.{Dimensions}
use Rattle.dxc_model.specs.declared.conn.Conn.{Conn}
use Rattle.dxc_model.specs.Keeping.{IsKept}
use Rattle.dxc_model.specs.Order.{IsListed}
use Rattle.dxc_model.specs.Tables.{is_selected}
use Rattle.dxc_model.proofs.Scanning.{listed_none, listed_other, listed_some, room_left, start_first}
use Rattle.dxc_model.proofs.Taking.{kept_as}
use Rattle.dxc_model.proofs.table.Table.add_start.Goals as goal

pub push_reserved-requires : goal.push_reserved-requires
push_reserved-requires c =
    let k : IsKept c.args.self.now c.self.inside.sides = kept_as c.args.self.now _ c.self.inside.sides (sym c.self.view_is) c.self.invariant in
    let f = start_first c.args.self.now c.self.inside.sides c.args.port.0 c.in-Some.conn.now k (sym c.start_at.ensures ∙ ap (λ o. option_map (λ r. r.now) o) c.in-Some.is) in
    let low = room_left (is_selected c.args.self.now.shape c.args.selection) c.args.self.now c.self.inside.sides c.args.into.now.items c.args.port.0 c.in-Some.conn.now k f.0
    (ap (λ (d : Dimensions). is_selected d c.args.selection c.in-Some.conn.now) (sym c.requires.shape) ∙ (sym c.is_selected.ensures ∙ c.if-is_selected.true)) c.requires.listed in
    search (rules, low)

pub returns-then-is_selected-clause-listed : goal.returns-then-is_selected-clause-listed
returns-then-is_selected-clause-listed c =
    let k : IsKept c.args.self.now c.self.inside.sides = kept_as c.args.self.now _ c.self.inside.sides (sym c.self.view_is) c.self.invariant in
    let q = is_selected c.args.self.now.shape c.args.selection in
    subst (λ (xs : List Conn). IsListed q c.args.self.now.conns xs (c.args.port.0 + 1)) (sym c.push_reserved.ensures.items)
    (listed_some q c.args.self.now c.self.inside.sides c.args.into.now.items c.args.port.0 c.in-Some.conn.now k (sym c.start_at.ensures ∙ ap (λ o. option_map (λ r. r.now) o) c.in-Some.is)
    (ap (λ (d : Dimensions). is_selected d c.args.selection c.in-Some.conn.now) (sym c.requires.shape) ∙ (sym c.is_selected.ensures ∙ c.if-is_selected.true)) c.requires.listed)

pub returns-else-is_selected-clause-listed : goal.returns-else-is_selected-clause-listed
returns-else-is_selected-clause-listed c =
    let k : IsKept c.args.self.now c.self.inside.sides = kept_as c.args.self.now _ c.self.inside.sides (sym c.self.view_is) c.self.invariant in
    listed_other (is_selected c.args.self.now.shape c.args.selection) c.args.self.now c.self.inside.sides c.args.into.now.items c.args.port.0 c.in-Some.conn.now k (sym c.start_at.ensures ∙ ap (λ o. option_map (λ r. r.now) o) c.in-Some.is)
    (ap (λ (d : Dimensions). is_selected d c.args.selection c.in-Some.conn.now) (sym c.requires.shape) ∙ (sym c.is_selected.ensures ∙ c.if-is_selected.false)) c.requires.listed

pub returns-in_default-clause-listed : goal.returns-in_default-clause-listed
returns-in_default-clause-listed c =
    let k : IsKept c.args.self.now c.self.inside.sides = kept_as c.args.self.now _ c.self.inside.sides (sym c.self.view_is) c.self.invariant in
    listed_none (is_selected c.args.self.now.shape c.args.selection) c.args.self.now c.self.inside.sides c.args.into.now.items c.args.port.0 k (sym c.start_at.ensures ∙ ap (λ o. option_map (λ r. r.now) o) c.in_default.is) c.requires.listed

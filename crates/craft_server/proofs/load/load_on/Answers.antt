use Rattle.std.proofs.Common.{◌≡◌, ◌≤◌, ◌∙◌, ℕ, Err, Result, ap, arith, inl, refl, sym, subst}
use Rattle.std.specs.Prelude.{vec_capacity}
use Rattle.std.specs.Arc.{arc_value}
use Rattle.dxc_num.specs.Dimensions.{ports}
use Rattle.dxc_outside.specs.Links.{LinkState}
use Rattle.fabric_core.specs.declared.size.Size.{Size}
use Rattle.shelf_file.specs.Contents.{Contents}
use Rattle.craft_session.specs.Seats.{PlaceAt}
use Rattle.dxc_load.specs.Script.{load_shape}
use Rattle.dxc_load.specs.Sending.{link_state}
use Rattle.dxc_args.specs.declared.status.Status.{Status}
use Rattle.dxc_args.specs.declared.status.Status.TheVariants.{NoMemory}
use Rattle.dxc_element.specs.declared.opening.Element.{Element}
use Rattle.dxc_element.specs.Loads.{IsLoadElement}
use Rattle.craft_server.specs.Loads.{LoadsOn, load_told}
use Rattle.craft_server.proofs.Loading.{loaded_on, on_started}
use Rattle.craft_server.proofs.Starting.{opened_at}
use Rattle.craft_server.proofs.load.load_on.Goals as goal

pub lone_place-requires-clause-begins : goal.lone_place-requires-clause-begins
lone_place-requires-clause-begins g c = let el = on_started (IsLoadElement g.D.Disk.told g.U.Disk.told g.D.Disk.state g.U.Disk.state) c.args.opened c.in-Ok.element c.in-Ok.is c.requires.element in el.started.begins

pub lone_place-requires-clause-users_begin : goal.lone_place-requires-clause-users_begin
lone_place-requires-clause-users_begin g c = let el = on_started (IsLoadElement g.D.Disk.told g.U.Disk.told g.D.Disk.state g.U.Disk.state) c.args.opened c.in-Ok.element c.in-Ok.is c.requires.element in el.users_started.begins

pub lone_place-requires-clause-opening : goal.lone_place-requires-clause-opening
lone_place-requires-clause-opening g c = let el = on_started (IsLoadElement g.D.Disk.told g.U.Disk.told g.D.Disk.state g.U.Disk.state) c.args.opened c.in-Ok.element c.in-Ok.is c.requires.element in opened_at g.D.Disk.told g.D.Disk.state el.disk el.shelf 1 c.in-Ok.element.controller el.started

pub load_link-link-requires-clause-shape : goal.load_link-link-requires-clause-shape
load_link-link-requires-clause-shape g c = let el = on_started (IsLoadElement g.D.Disk.told g.U.Disk.told g.D.Disk.state g.U.Disk.state) c.args.opened c.in-Ok.element c.in-Ok.is c.requires.element in ap (λ (z : Size). z.shape) el.started.size ∙ el.is_shelf.shape

pub load_link-link-requires-clause-seats : goal.load_link-link-requires-clause-seats
load_link-link-requires-clause-seats g c = let el = on_started (IsLoadElement g.D.Disk.told g.U.Disk.told g.D.Disk.state g.U.Disk.state) c.args.opened c.in-Ok.element c.in-Ok.is c.requires.element in el.started.seats

pub load_link-link-requires-clause-one : goal.load_link-link-requires-clause-one
load_link-link-requires-clause-one g c = let el = on_started (IsLoadElement g.D.Disk.told g.U.Disk.told g.D.Disk.state g.U.Disk.state) c.args.opened c.in-Ok.element c.in-Ok.is c.requires.element in el.started.each

pub summed-requires-clause-unread : goal.summed-requires-clause-unread
summed-requires-clause-unread g c = ap (λ (m : LinkState). m.reads) c.load_link-link.ensures

pub load_link-link-requires-clause-room : goal.load_link-link-requires-clause-room
load_link-link-requires-clause-room g c = c.requires.written

pub summed-requires-clause-room : goal.summed-requires-clause-room
summed-requires-clause-room g c =
    let el = on_started (IsLoadElement g.D.Disk.told g.U.Disk.told g.D.Disk.state g.U.Disk.state) c.args.opened c.in-Ok.element c.in-Ok.is c.requires.element in
    let x = c.in-Ok.element.controller in
    let at = opened_at g.D.Disk.told g.D.Disk.state el.disk el.shelf 1 x el.started in
    let shape : (arc_value x.shelf).shape ≡ load_shape = ap (λ (y : Contents). y.shape) el.started.shelf ∙ el.is_shelf.shape in
    let size : ports c.in-Ok-lone_place.place.seat.opening.first.fold.table.shape ≡ ports load_shape = ap (λ (q : PlaceAt). ports q.seat.opening.first.fold.table.shape) c.in-Ok-lone_place.ensures.place ∙ ap ports (at.shape ∙ shape) in
    subst (λ (n : ℕ). n ≤ vec_capacity c.args.rows.now) (sym size) c.requires.rows

pub returns-in_default : goal.returns-in_default
returns-in_default g c = let stops = g.G.Gate.stops c.args.gate.now in subst (λ (x : Result (Element g.row.D.Denot g.row.U.Denot) Status). LoadsOn (load_told g.D.Disk g.U.Disk c.args.number) x stops stops (Err NoMemory)) (sym c.in-Ok.is) (inl refl, omega arith)

pub returns-in-Err : goal.returns-in-Err
returns-in-Err g c = let stops = g.G.Gate.stops c.args.gate.now in subst (λ (x : Result (Element g.row.D.Denot g.row.U.Denot) Status). LoadsOn (load_told g.D.Disk g.U.Disk c.args.number) x stops stops (Err c.in-Err.status)) (sym c.in-Err.is) (refl, refl)

pub returns : goal.returns
returns g c =
    let el = on_started (IsLoadElement g.D.Disk.told g.U.Disk.told g.D.Disk.state g.U.Disk.state) c.args.opened c.in-Ok.element c.in-Ok.is c.requires.element in
    let stops = g.G.Gate.stops c.args.gate.now in
    let later = g.G.Gate.stops c.summed.new.gate in
    subst (λ (x : Result (Element g.row.D.Denot g.row.U.Denot) Status). LoadsOn (load_told g.D.Disk g.U.Disk c.args.number) x stops later c.summed.result) (sym c.in-Ok.is)
    (loaded_on g.D.Disk.told g.U.Disk.told g.D.Disk.state g.U.Disk.state c.args.number c.in-Ok.element el c.in-Ok-lone_place.place (link_state c.load_link-link.result) stops later c.summed.result c.in-Ok-lone_place.ensures c.load_link-link.ensures c.summed.ensures.summed, c.summed.ensures.unstopped)

use Rattle.std.proofs.Common.{List, refl, ◌∙◌, ap, subst}
use Rattle.std.specs.Arc.{arc_value}
use Rattle.turnstile.specs.Passing.{TurnstileView}
use Rattle.dxc_model.specs.declared.op.Op.TheVariants.{Look}
use Rattle.dxc_model.specs.declared.entry.Outcome.TheVariants.{Answered}
use Rattle.dxc_model.specs.declared.entry.Entry.{Entry}
use Rattle.xc_core.specs.declared.state.State.{State}
use Rattle.xc_core.specs.States.{opening_of}
use Rattle.xc_core.specs.Seeing.{Saw, entry}
use Rattle.xc_core.specs.Turns.{InventoryIs, IsInventoryOf}
use Rattle.craft_session.specs.Seats.{SeatAt, SeatGoesOn, seat_at}
use Rattle.craft_session.proofs.Keeping.{seat_goes}
use Rattle.craft_session.proofs.Seating.{saw_there, seated_on, turned_ended}
use Rattle.craft_session.proofs.seat.Seat.inventory.Goals as goal

pub invariant_of-self : goal.invariant_of-self
invariant_of-self g c =
    let t = arc_value c.self.inside.turns in
    let p = c.self.inside.pass in
    let w = c.self.invariant.2 in
    let o = opening_of g.D.Disk.state c.deref.result.now.first in
    let turn = c.read_inventory.ensures.inventory w.0 (saw_there g.D.Disk.told g.D.Disk.state p t c.deref.result.now w.0 c.deref.ensures w.1) in
    seated_on g.D.Disk.told g.D.Disk.state p c.read_inventory.new.pass t c.deref.result.now (arc_value c.self.inside.fabric) c.deref.ensures c.self.invariant c.read_inventory.ensures.pass.has c.read_inventory.ensures.pass.goes.same.0
    (turned_ended o p.number w.0 (entry p.number (Look turn.0) Answered) c.read_inventory.new.pass.seen refl (λ is. cc) turn.1.0) c.read_inventory.ensures.astray

pub returns-clause-inventory : goal.returns-clause-inventory
returns-clause-inventory g c =
    let eq = ap (λ (t : TurnstileView (State g.row.D.Denot)). seat_at g.D.Disk.state c.self.inside.pass t) c.deref.ensures ∙ c.self.view_is in
    subst (λ (s : SeatAt). (h : List Entry) → Saw s.opening s.seen h → InventoryIs s.opening s.place h c.read_inventory.new.pass.seen c.read_inventory.result) eq c.read_inventory.ensures.inventory

pub returns-clause-of_shape : goal.returns-clause-of_shape
returns-clause-of_shape g c =
    let eq = ap (λ (t : TurnstileView (State g.row.D.Denot)). seat_at g.D.Disk.state c.self.inside.pass t) c.deref.ensures ∙ c.self.view_is in
    subst (λ (s : SeatAt). IsInventoryOf s.opening.first.fold.table.shape c.read_inventory.result) eq c.read_inventory.ensures.of_shape

pub returns-clause-goes : goal.returns-clause-goes
returns-clause-goes g c =
    let t = arc_value c.self.inside.turns in
    let eq = ap (λ (x : TurnstileView (State g.row.D.Denot)). seat_at g.D.Disk.state c.self.inside.pass x) c.deref.ensures ∙ c.self.view_is in
    subst (λ (s : SeatAt). SeatGoesOn s (seat_at g.D.Disk.state c.read_inventory.new.pass t)) eq (seat_goes g.D.Disk.state c.self.inside.pass c.read_inventory.new.pass t c.deref.result.now c.read_inventory.ensures.pass)

use Rattle.std.proofs.Common.{List, refl, sym, ◌∙◌, ap, subst}
use Rattle.std.specs.Arc.{arc_value}
use Rattle.turnstile.specs.Passing.{TurnstileView}
use Rattle.dxc_model.specs.declared.op.Op.TheVariants.{Rows}
use Rattle.dxc_model.specs.declared.entry.Outcome.TheVariants.{Answered}
use Rattle.dxc_model.specs.declared.entry.Entry.{Entry}
use Rattle.xc_core.specs.declared.state.State.{State}
use Rattle.xc_core.specs.States.{opening_of}
use Rattle.xc_core.specs.Seeing.{Saw, entry}
use Rattle.xc_core.specs.Turns.{RowsAre}
use Rattle.craft_session.specs.Seats.{SeatAt, SeatGoesOn, seat_at}
use Rattle.craft_session.proofs.Keeping.{seat_goes}
use Rattle.craft_session.proofs.Seating.{saw_there, seated_on, turned_ended}
use Rattle.std.specs.List.{AllByRecursion}
use Rattle.dxc_num.specs.Dimensions.{Dimensions}
use Rattle.dxc_model.specs.declared.conn.Conn.{Conn}
use Rattle.tl1_answer.specs.Texts.{IsOfShape}
use Rattle.craft_session.proofs.Listing.{listed}
use Rattle.craft_session.proofs.seat.Seat.rows.Goals as goal

pub invariant_of-self : goal.invariant_of-self
invariant_of-self g c =
    let t = arc_value c.self.inside.turns in
    let p = c.self.inside.pass in
    let w = c.self.invariant.2 in
    let o = opening_of g.D.Disk.state c.deref.result.now.first in
    let turn = c.rows.ensures.rows w.0 (saw_there g.D.Disk.told g.D.Disk.state p t c.deref.result.now w.0 c.deref.ensures w.1) in
    seated_on g.D.Disk.told g.D.Disk.state p c.rows.new.pass t c.deref.result.now (arc_value c.self.inside.fabric) c.deref.ensures c.self.invariant c.rows.ensures.pass.has c.rows.ensures.pass.goes.same.0
    (turned_ended o p.number w.0 (entry p.number (Rows c.args.selection) Answered) c.rows.new.pass.seen refl (λ is. cc) turn.0) c.rows.ensures.astray

pub returns-clause-rows : goal.returns-clause-rows
returns-clause-rows g c =
    let eq = ap (λ (t : TurnstileView (State g.row.D.Denot)). seat_at g.D.Disk.state c.self.inside.pass t) c.deref.ensures ∙ c.self.view_is in
    subst (λ (s : SeatAt). (h : List Entry) → Saw s.opening s.seen h → RowsAre s.opening s.place h c.args.selection c.rows.new.pass.seen c.rows.new.into.items) eq c.rows.ensures.rows

pub returns-clause-of_shape : goal.returns-clause-of_shape
returns-clause-of_shape g c =
    let eq = ap (λ (t : TurnstileView (State g.row.D.Denot)). seat_at g.D.Disk.state c.self.inside.pass t) c.deref.ensures ∙ c.self.view_is in
    let t = c.rows.ensures.table in
    subst (λ (d : Dimensions). AllByRecursion (IsOfShape d) c.rows.new.into.items) (t.2 ∙ ap (λ (s : SeatAt). s.opening.first.fold.table.shape) eq)
    (subst (λ (l : List Conn). AllByRecursion (IsOfShape t.0.shape) l) (sym {A = List Conn} t.3) (listed t.0.shape _ t.0.conns t.1.ports))

pub returns-clause-goes : goal.returns-clause-goes
returns-clause-goes g c =
    let t = arc_value c.self.inside.turns in
    let eq = ap (λ (x : TurnstileView (State g.row.D.Denot)). seat_at g.D.Disk.state c.self.inside.pass x) c.deref.ensures ∙ c.self.view_is in
    subst (λ (s : SeatAt). SeatGoesOn s (seat_at g.D.Disk.state c.rows.new.pass t)) eq (seat_goes g.D.Disk.state c.self.inside.pass c.rows.new.pass t c.deref.result.now c.rows.ensures.pass)

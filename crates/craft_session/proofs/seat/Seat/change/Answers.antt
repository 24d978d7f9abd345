use Rattle.std.proofs.Common.{false, List, ◌∙◌, ap, subst}
use Rattle.std.specs.Arc.{arc_value}
use Rattle.turnstile.specs.Passing.{TurnstileView}
use Rattle.dxc_model.specs.declared.entry.Entry.{Entry}
use Rattle.xc_core.specs.declared.state.State.{State}
use Rattle.xc_core.specs.Seeing.{Saw}
use Rattle.craft_session.specs.Changing.{ChangedIs}
use Rattle.craft_session.specs.Gated.{Entered}
use Rattle.craft_session.specs.Seats.{SeatAt, SeatGoesOn, seat_at}
use Rattle.xc_core.specs.States.{opening_of}
use Rattle.craft_session.proofs.Keeping.{seat_goes}
use Rattle.craft_session.proofs.Seating.{changed_ended, saw_there, seated_on}
use Rattle.craft_session.proofs.seat.Seat.change.Goals as goal

pub invariant_of-self : goal.invariant_of-self
invariant_of-self g c =
    let t = arc_value c.self.inside.turns in
    let p = c.self.inside.pass in
    let w = c.self.invariant.2 in
    let o = opening_of g.D.Disk.state c.deref-turns.result.now.first in
    let turn = c.change_in_line.ensures.changed w.0 (saw_there g.D.Disk.told g.D.Disk.state p t c.deref-turns.result.now w.0 c.deref-turns.ensures w.1) in
    seated_on g.D.Disk.told g.D.Disk.state p c.change_in_line.new.pass t c.deref-turns.result.now (arc_value c.self.inside.fabric) c.deref-turns.ensures c.self.invariant c.change_in_line.ensures.pass.has c.change_in_line.ensures.pass.goes.same.0
    (changed_ended o p.number w.0 c.args.op.now c.change_in_line.new.pass.seen c.change_in_line.result turn) c.change_in_line.ensures.astray

pub returns-clause-changed : goal.returns-clause-changed
returns-clause-changed g c =
    let eq = ap (λ (t : TurnstileView (State g.row.D.Denot)). seat_at g.D.Disk.state c.self.inside.pass t) c.deref-turns.ensures ∙ c.self.view_is in
    subst (λ (s : SeatAt). (h : List Entry) → Saw s.opening s.seen h → ChangedIs s.opening s.place h c.args.op.now c.change_in_line.new.pass.seen c.change_in_line.result) eq c.change_in_line.ensures.changed

pub returns-clause-entered : goal.returns-clause-entered
returns-clause-entered g c =
    let eq = ap (λ (t : TurnstileView (State g.row.D.Denot)). seat_at g.D.Disk.state c.self.inside.pass t) c.deref-turns.ensures ∙ c.self.view_is in
    subst (λ (s : SeatAt). (h : List Entry) → Saw s.opening s.seen h → Entered s.opening s.place (g.G.Gate.asked c.args.gate.now c.change_in_line.new.gate) false false h c.change_in_line.new.pass.seen) eq c.change_in_line.ensures.entered

pub returns-clause-goes : goal.returns-clause-goes
returns-clause-goes g c =
    let t = arc_value c.self.inside.turns in
    let eq = ap (λ (x : TurnstileView (State g.row.D.Denot)). seat_at g.D.Disk.state c.self.inside.pass x) c.deref-turns.ensures ∙ c.self.view_is in
    subst (λ (s : SeatAt). SeatGoesOn s (seat_at g.D.Disk.state c.change_in_line.new.pass t)) eq (seat_goes g.D.Disk.state c.self.inside.pass c.change_in_line.new.pass t c.deref-turns.result.now c.change_in_line.ensures.pass)

use Rattle.std.specs.Prelude.{IfOk, is_err}
use Rattle.std.proofs.Common.{◌≡◌, ℕ, Bool, true, [], false, Some, Result, Ok, refl, sym, ◌∙◌, ap, subst}
use Rattle.dxc_causes.specs.Stops.{RoseOnlyFor}
use Rattle.dxc_outside.specs.declared.stopped.Stopped.{Stopped}
use Rattle.craft_session.specs.declared.ask.Acted.{Acted}
use Rattle.craft_session.specs.declared.change.Changed.{Changed}
use Rattle.craft_session.specs.declared.ask.Ask.TheVariants.{Allows}
use Rattle.craft_session.specs.Acting.{ActedIs, Acts}
use Rattle.craft_session.specs.Asks.{IsAptActed, completed, user_after}
use Rattle.craft_session.specs.Gated.{answers}
use Rattle.craft_session.proofs.Acted.{acts_nothing, acts_listed, acts_marked, acts_shown, acts_cut, acts_done, acts_refused, acts_restarted, acts_stopped, acts_unrestarted}
use Rattle.craft_session.proofs.Ends.{by_stop, never, still}
use Rattle.craft_session.proofs.Gated.{entered_at, entered_none}
use Rattle.craft_session.proofs.Keeping.{seat_stays}
use Rattle.craft_session.proofs.act.act.Goals as goal

pub returns-in-Refused : goal.returns-in-Refused
returns-in-Refused g c = record {
  same = (refl, refl, refl, refl);
  goes = seat_stays _;
  acts = λ h saw. rw c.in-Refused.is (acts_nothing _ _ h _ _ _ _ _ saw (refl, refl) refl);
  of_shape = tt;
  user = sym (ap (user_after c.args.attending.now.user) c.in-Refused.is);
  room = refl;
  stopped = still _ _ refl;
  entered = λ h saw. entered_none c.args.seat.now.opening c.args.seat.now.place (g.G.Gate.asked c.args.gate.now c.args.gate.now) h c.args.seat.now.seen (g.G.Gate.unasked c.args.gate.now) saw;
}

pub returns-in-LogsIn : goal.returns-in-LogsIn
returns-in-LogsIn g c = record {
  same = (refl, refl, refl, refl);
  goes = seat_stays _;
  acts = λ h saw. rw c.in-LogsIn.is (acts_nothing _ _ h _ _ _ _ _ saw (refl, refl) refl);
  of_shape = tt;
  user = sym (ap (user_after c.args.attending.now.user) c.in-LogsIn.is);
  room = refl;
  stopped = still _ _ refl;
  entered = λ h saw. entered_none c.args.seat.now.opening c.args.seat.now.place (g.G.Gate.asked c.args.gate.now c.args.gate.now) h c.args.seat.now.seen (g.G.Gate.unasked c.args.gate.now) saw;
}

pub returns-in-LogsOut : goal.returns-in-LogsOut
returns-in-LogsOut g c = record {
  same = (refl, refl, refl, refl);
  goes = seat_stays _;
  acts = λ h saw. rw c.in-LogsOut.is (acts_nothing _ _ h _ _ _ _ _ saw (refl, refl) refl);
  of_shape = tt;
  user = sym (ap (user_after c.args.attending.now.user) c.in-LogsOut.is);
  room = refl;
  stopped = still _ _ refl;
  entered = λ h saw. entered_none c.args.seat.now.opening c.args.seat.now.place (g.G.Gate.asked c.args.gate.now c.args.gate.now) h c.args.seat.now.seen (g.G.Gate.unasked c.args.gate.now) saw;
}

pub returns-in-Completes : goal.returns-in-Completes
returns-in-Completes g c = record {
  same = (refl, refl, refl, refl);
  goes = seat_stays _;
  acts = λ h saw. rw c.in-Completes.is (acts_nothing _ _ h _ _ _ _ _ saw (refl, refl) refl);
  of_shape = tt;
  user = sym (ap (user_after c.args.attending.now.user) c.in-Completes.is);
  room = refl;
  stopped = still _ _ refl;
  entered = λ h saw. entered_none c.args.seat.now.opening c.args.seat.now.place (g.G.Gate.asked c.args.gate.now c.args.gate.now) h c.args.seat.now.seen (g.G.Gate.unasked c.args.gate.now) saw;
}

pub returns-in-Allows : goal.returns-in-Allows
returns-in-Allows g c = record {
  same = c.mark-newest.ensures.same;
  goes = c.mark-newest.ensures.goes;
  acts = λ h saw.
      let s = c.args.attending.now in
      let z = subst (λ (k : ℕ). Acts c.args.seat.now.opening c.args.seat.now.place h s Allows completed (record { user = s.user; watch = Some k }) c.mark-newest.new.self.seen) (sym c.cursor.ensures) (acts_marked c.args.seat.now.opening c.args.seat.now.place h s c.mark-newest.result c.mark-newest.new.self.seen (c.mark-newest.ensures.mark h saw)) in
      rw c.in-Allows.is z;
  of_shape = tt;
  user = sym (ap (user_after c.args.attending.now.user) c.in-Allows.is);
  room = refl;
  stopped = still _ _ refl;
  entered = λ h saw. entered_at c.args.seat.now.opening c.args.seat.now.place (g.G.Gate.asked c.args.gate.now c.args.gate.now) h c.mark-newest.new.self.seen false false _ [] (λ k. answers k _) (g.G.Gate.unasked c.args.gate.now) (c.mark-newest.ensures.mark h saw).0;
}

pub returns-in-Inhibits : goal.returns-in-Inhibits
returns-in-Inhibits g c = record {
  same = (refl, refl, refl, refl);
  goes = seat_stays _;
  acts = λ h saw. rw c.in-Inhibits.is (acts_nothing _ _ h _ _ _ _ _ saw (refl, refl) refl);
  of_shape = tt;
  user = sym (ap (user_after c.args.attending.now.user) c.in-Inhibits.is);
  room = refl;
  stopped = still _ _ refl;
  entered = λ h saw. entered_none c.args.seat.now.opening c.args.seat.now.place (g.G.Gate.asked c.args.gate.now c.args.gate.now) h c.args.seat.now.seen (g.G.Gate.unasked c.args.gate.now) saw;
}

pub returns-in-Lists : goal.returns-in-Lists
returns-in-Lists g c = record {
  same = c.rows.ensures.same;
  goes = c.rows.ensures.goes;
  acts = λ h saw. rw c.in-Lists.is (acts_listed _ _ h _ c.in-Lists.selection _ _ (c.rows.ensures.rows h saw));
  of_shape = c.rows.ensures.of_shape;
  user = sym (ap (user_after c.args.attending.now.user) c.in-Lists.is);
  room = c.rows.ensures.room;
  stopped = still _ _ refl;
  entered = λ h saw. entered_at c.args.seat.now.opening c.args.seat.now.place (g.G.Gate.asked c.args.gate.now c.args.gate.now) h c.rows.new.self.seen false false _ [] (λ k. answers k _) (g.G.Gate.unasked c.args.gate.now) (c.rows.ensures.rows h saw).0;
}

pub returns-in-Shows : goal.returns-in-Shows
returns-in-Shows g c = record {
  same = c.inventory-inventory.ensures.same;
  goes = c.inventory-inventory.ensures.goes;
  acts = λ h saw. rw c.in-Shows.is (acts_shown _ _ h _ c.in-Shows.subject c.inventory-inventory.result _ (c.inventory-inventory.ensures.inventory h saw));
  of_shape = c.inventory-inventory.ensures.of_shape;
  user = sym (ap (user_after c.args.attending.now.user) c.in-Shows.is);
  room = refl;
  stopped = still _ _ refl;
  entered = λ h saw. entered_at c.args.seat.now.opening c.args.seat.now.place (g.G.Gate.asked c.args.gate.now c.args.gate.now) h c.inventory-inventory.new.self.seen false false _ [] (λ k. answers k _) (g.G.Gate.unasked c.args.gate.now) (c.inventory-inventory.ensures.inventory h saw).1.0;
}

pub returns-in-Done : goal.returns-in-Done
returns-in-Done g c = record {
  same = c.restart.ensures.same;
  goes = c.restart.ensures.goes;
  acts = λ h saw. rw c.in-Restarts.is (acts_restarted _ _ h _ _ _ (c.restart.ensures.restarted h saw) (c.in_ok-restart-in-Restarts.was ∙ ap (λ (p : Changed). Ok p) c.in-Done.is));
  of_shape = tt;
  user = sym (ap (user_after c.args.attending.now.user) c.in-Restarts.is);
  room = refl;
  stopped = still _ _ (c.in_ok-restart-in-Restarts.ensures.stopped.only (λ e. never e));
  entered = c.restart.ensures.entered;
}

pub returns-in-Denied : goal.returns-in-Denied
returns-in-Denied g c = record {
  same = c.restart.ensures.same;
  goes = c.restart.ensures.goes;
  acts = λ h saw. rw c.in-Restarts.is (acts_unrestarted _ _ h _ _ _ (c.restart.ensures.restarted h saw) c.in-Denied.cause (c.in_ok-restart-in-Restarts.was ∙ ap (λ (p : Changed). Ok p) c.in-Denied.is));
  of_shape = tt;
  user = sym (ap (user_after c.args.attending.now.user) c.in-Restarts.is);
  room = refl;
  stopped = still _ _ (c.in_ok-restart-in-Restarts.ensures.stopped.only (λ e. never e));
  entered = c.restart.ensures.entered;
}

pub returns-in_err-restart-in-Restarts : goal.returns-in_err-restart-in-Restarts
returns-in_err-restart-in-Restarts g c =
    let seat = c.args.seat.now in
    let stop = c.from_residual.ensures.0 in
    record {
      same = c.restart.ensures.same;
      goes = c.restart.ensures.goes;
      acts = λ h saw.
          by_stop (λ (r : Result Acted Stopped). ActedIs seat.opening seat.place h c.args.attending.now c.args.ask.now r c.args.rows.now.items c.args.attending.now c.restart.new.self.seen) c.from_residual.result stop
          (rw c.in-Restarts.is (acts_cut _ _ h _ _ _ (c.restart.ensures.restarted h saw) c.in_err-restart-in-Restarts.was));
      of_shape = by_stop (λ (r : Result Acted Stopped). IfOk r (IsAptActed seat.opening.first.fold.table.shape c.args.rows.now.items)) c.from_residual.result stop tt;
      user = sym (ap (user_after c.args.attending.now.user) c.in-Restarts.is);
      room = refl;
      stopped = subst (λ (b : Bool). RoseOnlyFor (g.G.Gate.stops c.args.gate.now) (g.G.Gate.stops c.restart.new.gate) (b ≡ true)) (ap is_err c.in_err-restart-in-Restarts.was ∙ sym stop) c.restart.ensures.stopped;
      entered = c.restart.ensures.entered;
    }

pub returns-in-Done-2 : goal.returns-in-Done-2
returns-in-Done-2 g c = record {
  same = c.change.ensures.same;
  goes = c.change.ensures.goes;
  acts = λ h saw. rw c.in-Changes.is (acts_done _ _ h _ c.in-Changes.op _ _ (c.change.ensures.changed h saw) (c.in_ok-change-in-Changes.was ∙ ap (λ (p : Changed). Ok p) c.in-Done-2.is));
  of_shape = tt;
  user = sym (ap (user_after c.args.attending.now.user) c.in-Changes.is);
  room = refl;
  stopped = still _ _ (c.in_ok-change-in-Changes.ensures.stopped.only (λ e. never e));
  entered = c.change.ensures.entered;
}

pub returns-in-Denied-2 : goal.returns-in-Denied-2
returns-in-Denied-2 g c = record {
  same = c.change.ensures.same;
  goes = c.change.ensures.goes;
  acts = λ h saw. rw c.in-Changes.is (acts_refused _ _ h _ c.in-Changes.op _ _ (c.change.ensures.changed h saw) c.in-Denied-2.cause (c.in_ok-change-in-Changes.was ∙ ap (λ (p : Changed). Ok p) c.in-Denied-2.is));
  of_shape = tt;
  user = sym (ap (user_after c.args.attending.now.user) c.in-Changes.is);
  room = refl;
  stopped = still _ _ (c.in_ok-change-in-Changes.ensures.stopped.only (λ e. never e));
  entered = c.change.ensures.entered;
}

pub returns-in_err-change-in-Changes : goal.returns-in_err-change-in-Changes
returns-in_err-change-in-Changes g c =
    let seat = c.args.seat.now in
    let stop = c.from_residual-in_err-change-in-Changes.ensures.0 in
    record {
      same = c.change.ensures.same;
      goes = c.change.ensures.goes;
      acts = λ h saw.
          by_stop (λ (r : Result Acted Stopped). ActedIs seat.opening seat.place h c.args.attending.now c.args.ask.now r c.args.rows.now.items c.args.attending.now c.change.new.self.seen) c.from_residual-in_err-change-in-Changes.result stop
          (rw c.in-Changes.is (acts_stopped _ _ h _ c.in-Changes.op _ _ (c.change.ensures.changed h saw) c.in_err-change-in-Changes.was));
      of_shape = by_stop (λ (r : Result Acted Stopped). IfOk r (IsAptActed seat.opening.first.fold.table.shape c.args.rows.now.items)) c.from_residual-in_err-change-in-Changes.result stop tt;
      user = sym (ap (user_after c.args.attending.now.user) c.in-Changes.is);
      room = refl;
      stopped = subst (λ (b : Bool). RoseOnlyFor (g.G.Gate.stops c.args.gate.now) (g.G.Gate.stops c.change.new.gate) (b ≡ true)) (ap is_err c.in_err-change-in-Changes.was ∙ sym stop) c.change.ensures.stopped;
      entered = c.change.ensures.entered;
    }

use Rattle.std.proofs.Common.{◌<◌, ◌+◌, arith, length, take, drop, List, [], ◌∷◌, inl, inr, refl, sym, ◌∙◌, ap, subst}
use Rattle.std.specs.Prelude.{slice_index_or}
use Rattle.std.specs.Arc.{arc_value}
use Rattle.std.specs.List.{AllByRecursion}
use Rattle.dxc_outside.specs.declared.send.Sent.{Sent}
use Rattle.dxc_outside.specs.declared.send.Sent.TheVariants.{Whole, Cut}
use Rattle.dxc_model.specs.declared.op.Change.{Change}
use Rattle.dxc_model.specs.declared.op.Change.TheVariants.{EnterModule}
use Rattle.shelf_file.specs.Contents.{Contents}
use Rattle.tl1_answer.specs.Texts.{IsChangeOf}
use Rattle.craft_session.specs.Meanings.{language}
use Rattle.craft_session.specs.Notices.{Notice, change, numbered}
use Rattle.craft_session.specs.Seats.{SeatAt}
use Rattle.craft_session.specs.Sessions.{AreTold, IsReported}
use Rattle.craft_session.proofs.Telling.{numbered_more, numbered_rest, told_missing, told_more, told_none, told_one}
use Rattle.craft_session.specs.declared.users.UserDesk.{UserDesk}
use Rattle.craft_session.specs.Stamps.{stamp_at}
use Rattle.craft_session.proofs.Timely.{stamped_more}
use Rattle.craft_session.proofs.reports.tell_changes.Goals as goal

pub loop-at-init : goal.loop-at-init
loop-at-init g c = record { hung_up = refl; shelf = refl; seat = refl; users = refl; attending = refl; reader = refl; changes = refl; stamped = inl (refl, refl); told = told_none (language (arc_value c.args.desk.now.shelf)) g.K.Link.told g.C.Timestamps.told (g.K.Link.state c.args.link.now) (g.C.Timestamps.coming c.args.clock.now) }

pub tell_change-requires-clause-of_shape : goal.tell_change-requires-clause-of_shape
tell_change-requires-clause-of_shape g c = subst (λ (w : SeatAt × List Change). AllByRecursion (IsChangeOf w.0.opening.first.fold.table.shape) w.1) (λ i. (sym c.loop-at.invariant.seat i, (sym c.loop-at.invariant.changes i).items)) c.requires.of_shape

pub loop-at-preserved : goal.loop-at-preserved
loop-at-preserved g c =
    let raw = subst (λ (w : Contents × List Change). IsReported g.K.Link.told g.C.Timestamps.told (g.K.Link.state c.loop-at.link) (g.K.Link.state c.tell_change.new.link) (g.C.Timestamps.coming c.loop-at.clock) (g.C.Timestamps.coming c.tell_change.new.clock) c.tell_change.result (λ m. (language w.0).report m (change (c.args.before + c.loop-at.at + 1) (slice_index_or w.1 c.loop-at.at (EnterModule 0)))))
    (λ i. (arc_value (c.loop-at.invariant.shelf i), (c.loop-at.invariant.changes i).items)) (c.tell_change.ensures.told (EnterModule 0)) in
    let within : c.loop-at.at < length c.args.desk.now.changes.items = let e = ap length c.as_slice-at-end.ensures.value in let t = c.loop-at-test.true in omega (arith, e, t) in
    let one = subst (λ (s : Sent). IsReported g.K.Link.told g.C.Timestamps.told (g.K.Link.state c.loop-at.link) (g.K.Link.state c.tell_change.new.link) (g.C.Timestamps.coming c.loop-at.clock) (g.C.Timestamps.coming c.tell_change.new.clock) s (λ m. (language (arc_value c.args.desk.now.shelf)).report m (change (c.args.before + c.loop-at.at + 1) (slice_index_or c.args.desk.now.changes.items c.loop-at.at (EnterModule 0))))) c.in-Whole.is raw in
    record {
      shelf = c.tell_change.ensures.shelf ∙ c.loop-at.invariant.shelf;
      seat = c.tell_change.ensures.seat ∙ c.loop-at.invariant.seat;
      users = c.tell_change.ensures.users ∙ c.loop-at.invariant.users;
      attending = c.tell_change.ensures.attending ∙ c.loop-at.invariant.attending;
      reader = c.tell_change.ensures.reader ∙ c.loop-at.invariant.reader;
      hung_up = c.tell_change.ensures.hung_up ∙ c.loop-at.invariant.hung_up;
      changes = c.tell_change.ensures.changes ∙ c.loop-at.invariant.changes;
      stamped = stamped_more g.C.Timestamps.stamped (stamp_at (g.C.Timestamps.coming c.args.clock.now) (g.K.Link.state c.args.link.now) c.args.desk.now.seat c.args.desk.now.users.seat) c.loop-at.desk.seat c.loop-at.desk.users.seat (g.K.Link.state c.loop-at.link) (g.K.Link.state c.tell_change.new.link) (g.C.Timestamps.coming c.loop-at.clock) (g.C.Timestamps.coming c.tell_change.new.clock) c.loop-at.invariant.seat (ap (λ (u : UserDesk g.row.U.Denot). u.seat) c.loop-at.invariant.users) c.loop-at.invariant.stamped (inr c.tell_change.ensures.stamped);
      told = subst (λ (ns : List Notice). AreTold (language (arc_value c.args.desk.now.shelf)) g.K.Link.told g.C.Timestamps.told (g.K.Link.state c.args.link.now) (g.K.Link.state c.tell_change.new.link) (g.C.Timestamps.coming c.args.clock.now) (g.C.Timestamps.coming c.tell_change.new.clock) Whole ns) (sym (numbered_more c.args.before c.args.desk.now.changes.items c.loop-at.at (EnterModule 0) within))
          (told_more (language (arc_value c.args.desk.now.shelf)) g.K.Link.told g.C.Timestamps.told (g.K.Link.state c.args.link.now) (g.C.Timestamps.coming c.args.clock.now) (g.K.Link.state c.loop-at.link) (g.C.Timestamps.coming c.loop-at.clock) (numbered c.args.before (take c.loop-at.at c.args.desk.now.changes.items)) c.loop-at.invariant.told (g.K.Link.state c.tell_change.new.link) (g.C.Timestamps.coming c.tell_change.new.clock) Whole ((change (c.args.before + c.loop-at.at + 1) (slice_index_or c.args.desk.now.changes.items c.loop-at.at (EnterModule 0))) ∷ []) (told_one (language (arc_value c.args.desk.now.shelf)) g.K.Link.told g.C.Timestamps.told (g.K.Link.state c.loop-at.link) (g.C.Timestamps.coming c.loop-at.clock) (g.K.Link.state c.tell_change.new.link) (g.C.Timestamps.coming c.tell_change.new.clock) Whole (change (c.args.before + c.loop-at.at + 1) (slice_index_or c.args.desk.now.changes.items c.loop-at.at (EnterModule 0))) one));
    }

pub returns-in-Cut : goal.returns-in-Cut
returns-in-Cut g c =
    let k = c.loop-at.invariant in
    let t = c.tell_change.ensures in
    record {
      shelf = t.shelf ∙ k.shelf;
      seat = t.seat ∙ k.seat;
      users = t.users ∙ k.users;
      attending = t.attending ∙ k.attending;
      reader = t.reader ∙ k.reader;
      stamped = stamped_more g.C.Timestamps.stamped (stamp_at (g.C.Timestamps.coming c.args.clock.now) (g.K.Link.state c.args.link.now) c.args.desk.now.seat c.args.desk.now.users.seat) c.loop-at.desk.seat c.loop-at.desk.users.seat (g.K.Link.state c.loop-at.link) (g.K.Link.state c.tell_change.new.link) (g.C.Timestamps.coming c.loop-at.clock) (g.C.Timestamps.coming c.tell_change.new.clock) c.loop-at.invariant.seat (ap (λ (u : UserDesk g.row.U.Denot). u.seat) c.loop-at.invariant.users) c.loop-at.invariant.stamped (inr c.tell_change.ensures.stamped);
      hung_up = t.hung_up ∙ k.hung_up;
      told =
          let raw = subst (λ (w : Contents × List Change). IsReported g.K.Link.told g.C.Timestamps.told (g.K.Link.state c.loop-at.link) (g.K.Link.state c.tell_change.new.link) (g.C.Timestamps.coming c.loop-at.clock) (g.C.Timestamps.coming c.tell_change.new.clock) c.tell_change.result (λ m. (language w.0).report m (change (c.args.before + c.loop-at.at + 1) (slice_index_or w.1 c.loop-at.at (EnterModule 0)))))
          (λ i. (arc_value (c.loop-at.invariant.shelf i), (c.loop-at.invariant.changes i).items)) (c.tell_change.ensures.told (EnterModule 0)) in
          let within : c.loop-at.at < length c.args.desk.now.changes.items = let e = ap length c.as_slice-at-end.ensures.value in let t = c.loop-at-test.true in omega (arith, e, t) in
          let one = subst (λ (s : Sent). IsReported g.K.Link.told g.C.Timestamps.told (g.K.Link.state c.loop-at.link) (g.K.Link.state c.tell_change.new.link) (g.C.Timestamps.coming c.loop-at.clock) (g.C.Timestamps.coming c.tell_change.new.clock) s (λ m. (language (arc_value c.args.desk.now.shelf)).report m (change (c.args.before + c.loop-at.at + 1) (slice_index_or c.args.desk.now.changes.items c.loop-at.at (EnterModule 0))))) c.in-Cut.is raw in
          let so_far = subst (λ (ns : List Notice). AreTold (language (arc_value c.args.desk.now.shelf)) g.K.Link.told g.C.Timestamps.told (g.K.Link.state c.args.link.now) (g.K.Link.state c.tell_change.new.link) (g.C.Timestamps.coming c.args.clock.now) (g.C.Timestamps.coming c.tell_change.new.clock) Cut ns) (sym (numbered_more c.args.before c.args.desk.now.changes.items c.loop-at.at (EnterModule 0) within))
          (told_more (language (arc_value c.args.desk.now.shelf)) g.K.Link.told g.C.Timestamps.told (g.K.Link.state c.args.link.now) (g.C.Timestamps.coming c.args.clock.now) (g.K.Link.state c.loop-at.link) (g.C.Timestamps.coming c.loop-at.clock) (numbered c.args.before (take c.loop-at.at c.args.desk.now.changes.items)) c.loop-at.invariant.told (g.K.Link.state c.tell_change.new.link) (g.C.Timestamps.coming c.tell_change.new.clock) Cut ((change (c.args.before + c.loop-at.at + 1) (slice_index_or c.args.desk.now.changes.items c.loop-at.at (EnterModule 0))) ∷ []) (told_one (language (arc_value c.args.desk.now.shelf)) g.K.Link.told g.C.Timestamps.told (g.K.Link.state c.loop-at.link) (g.C.Timestamps.coming c.loop-at.clock) (g.K.Link.state c.tell_change.new.link) (g.C.Timestamps.coming c.tell_change.new.clock) Cut (change (c.args.before + c.loop-at.at + 1) (slice_index_or c.args.desk.now.changes.items c.loop-at.at (EnterModule 0))) one)) in
          subst (λ (ns : List Notice). AreTold (language (arc_value c.args.desk.now.shelf)) g.K.Link.told g.C.Timestamps.told (g.K.Link.state c.args.link.now) (g.K.Link.state c.tell_change.new.link) (g.C.Timestamps.coming c.args.clock.now) (g.C.Timestamps.coming c.tell_change.new.clock) Cut ns) (sym (numbered_rest c.args.before c.args.desk.now.changes.items (c.loop-at.at + 1)))
          (told_missing (language (arc_value c.args.desk.now.shelf)) g.K.Link.told g.C.Timestamps.told (g.K.Link.state c.args.link.now) (g.C.Timestamps.coming c.args.clock.now) (g.K.Link.state c.tell_change.new.link) (g.C.Timestamps.coming c.tell_change.new.clock) (numbered c.args.before (take (c.loop-at.at + 1) c.args.desk.now.changes.items)) (numbered (c.args.before + length (take (c.loop-at.at + 1) c.args.desk.now.changes.items)) (drop (c.loop-at.at + 1) c.args.desk.now.changes.items)) one.moment so_far);
    }

pub returns-clause-shelf : goal.returns-clause-shelf
returns-clause-shelf g c = c.loop-at.invariant.shelf

pub returns-clause-seat : goal.returns-clause-seat
returns-clause-seat g c = c.loop-at.invariant.seat

pub returns-clause-users : goal.returns-clause-users
returns-clause-users g c = c.loop-at.invariant.users

pub returns-clause-attending : goal.returns-clause-attending
returns-clause-attending g c = c.loop-at.invariant.attending

pub returns-clause-reader : goal.returns-clause-reader
returns-clause-reader g c = c.loop-at.invariant.reader

pub returns-clause-stamped : goal.returns-clause-stamped
returns-clause-stamped g c = c.loop-at.invariant.stamped

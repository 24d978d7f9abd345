use Rattle.std.specs.Prelude.{IsErr, IsOk}
use Rattle.std.proofs.Common.{◌≡◌, Result, Ok, Err, refl, sym, ap, ◌∙◌, subst}
use Rattle.std.specs.Arc.{arc_value}
use Rattle.dxc_causes.specs.Stops.{RoseOnlyFor}
use Rattle.dxc_outside.specs.declared.stopped.Stopped.{Stopped}
use Rattle.dxc_outside.specs.Stops.{the_stop}
use Rattle.craft_session.specs.declared.end.Progress.{Progress}
use Rattle.craft_session.specs.declared.end.Progress.TheVariants.{On, Cut}
use Rattle.craft_session.specs.declared.users.UserDesk.{UserDesk}
use Rattle.craft_session.specs.Desks.{now, input_of, IsAnswered}
use Rattle.craft_session.specs.Meanings.{language_for}
use Rattle.craft_session.specs.Noted.{stood}
use Rattle.craft_session.specs.Gathered.{GoesInTime, desk_at, to_report}
use Rattle.craft_session.specs.Sessions.{IsAt}
use Rattle.craft_session.specs.Timely.{starting, telling}
use Rattle.craft_session.proofs.Done.{table_turned, users_turned}
use Rattle.craft_session.proofs.Answering.{answered, input_ended}
use Rattle.craft_session.proofs.Ends.{by_stop, is_stop, no_stop, stayed_ok}
use Rattle.craft_session.proofs.Gated.{are_entered_beside}
use Rattle.craft_session.proofs.Noted.{beside_reports, noted_beside}
use Rattle.craft_session.proofs.SessionSteps.{writes_more}
use Rattle.craft_session.proofs.Timely.{goes_then, looked_to, moved_goes}
use Rattle.craft_session.proofs.unit.attend.Goals as goal

pub returns-in-On : goal.returns-in-On
returns-in-On g c =
    let first = c.answer.ensures in
    let next = c.report.ensures in
    let on : c.answer.result ≡ Ok On = c.in_ok-answer.was ∙ ap (λ (p : Progress). Ok p) c.in-On.is in
    record {
      shelf = next.shelf ∙ first.shelf;
      seat = (next.seat.0 ∙ first.seat.0, next.seat.1 ∙ first.seat.1, next.seat.2 ∙ first.seat.2, next.seat.3 ∙ first.seat.3);
      users = (ap (λ (u : UserDesk g.row.U.Denot). u.seat.opening) next.users ∙ first.users.0, ap (λ (u : UserDesk g.row.U.Denot). u.seat.place) next.users ∙ first.users.1, ap (λ (u : UserDesk g.row.U.Denot). u.seat.places) next.users ∙ first.users.2, ap (λ (u : UserDesk g.row.U.Denot). u.seat.turnstile) next.users ∙ first.users.3);
      reader = next.reader ∙ first.reader;
      link = writes_more _ _ _ _ first.link next.link;
      hung_up = next.hung_up ∙ first.hung_up;
      goes = λ ahead user k c1 b at s.
          let desk = c.args.desk.now in
          let l = language_for user (arc_value desk.shelf) in
          let t = telling g.K.Link.told g.C.Timestamps.told g.C.Timestamps.stamped in
          let ended = input_ended l g.K.Link.told g.C.Timestamps.told k (g.K.Link.state c.args.link.now) c1 (g.C.Timestamps.coming c.args.clock.now) b (now desk) desk.reader ahead c.args.kind s c.requires.ended in
          let was = subst (λ (y : Result Progress Stopped). IsAnswered (arc_value desk.shelf) g.K.Link.told g.C.Timestamps.told (g.K.Link.state c.args.link.now) (g.K.Link.state c.answer.new.link) (g.C.Timestamps.coming c.args.clock.now) (g.C.Timestamps.coming c.answer.new.clock) (input_of c.args.kind desk.reader) desk.seat desk.users.seat (now desk) (now c.answer.new.desk) y) on first.answered in
          let at2 : IsAt b c.answer.new.desk.seat c.answer.new.desk.users.seat = (first.seat.0 ∙ at.0, first.seat.1 ∙ at.1, first.users.0 ∙ at.2, first.users.1 ∙ at.3) in
          let so = answered (arc_value desk.shelf) user g.K.Link.told g.C.Timestamps.told k (g.K.Link.state c.args.link.now) c1 (g.C.Timestamps.coming c.args.clock.now) b (now desk) c.args.kind desk.reader ahead s desk.seat desk.users.seat at (g.K.Link.state c.answer.new.link) (g.C.Timestamps.coming c.answer.new.clock) (now c.answer.new.desk) refl (users_turned b desk.seat c.answer.new.desk.seat desk.users.seat c.answer.new.desk.users.seat at (now desk) (now c.answer.new.desk) refl refl refl refl refl first.users_in_turn, table_turned b desk.seat c.answer.new.desk.seat desk.users.seat c.answer.new.desk.users.seat at (now desk) (now c.answer.new.desk) refl refl refl refl refl first.in_turn) (input_of c.args.kind desk.reader) ended
          g.C.Timestamps.stamped c.answer.new.desk.seat c.answer.new.desk.users.seat (first.seat.0 ∙ at.0, first.seat.1 ∙ at.1, first.users.0 ∙ at.2, first.users.1 ∙ at.3) refl refl refl refl (Ok On) was (λ _. first.stamped (subst (λ (r : Result Progress Stopped). IsOk r) (sym on) refl)) in
          let old = desk_at (g.K.Link.state c.args.link.now) (g.C.Timestamps.coming c.args.clock.now) desk in
          let mid = desk_at (g.K.Link.state c.answer.new.link) (g.C.Timestamps.coming c.answer.new.clock) c.answer.new.desk in
          let new = desk_at (g.K.Link.state c.report.new.link) (g.C.Timestamps.coming c.report.new.clock) c.report.new.desk in
          goes_then t old mid new l (starting k c1 b) s.past.walk so.goes.past.walk (Ok c.report.result) desk.reader ahead so.ran_on so.timely
          (moved_goes t mid new (to_report c.answer.new.desk.attending desk.reader ahead) desk.reader ahead (Ok c.report.result) (arc_value desk.shelf) c.answer.new.desk.seat c.answer.new.desk.users.seat (ap arc_value first.shelf) (refl, refl, refl, refl) (refl, refl, refl, refl) (next.goes desk.reader ahead) user k c1 b at2 so.goes)
          (looked_to g.K.Link.told b (g.K.Link.state c.answer.new.link) (g.K.Link.state c.report.new.link) c.answer.new.desk.seat c.answer.new.desk.users.seat at2 next.link _ _ (ap (λ (u : UserDesk g.row.U.Denot). u.seat.seen) next.users) next.entered);
      stopped = no_stop c.report.result _ _ (stayed_ok On c.answer.result _ _ on first.stopped);
      asked = are_entered_beside g.G.Gate.asked g.G.Gate.asked_on g.G.Gate.unasked c.args.desk.now.seat c.answer.new.desk.seat c.args.desk.now.users.seat c.args.gate.now c.answer.new.gate _ _ _ _ first.asked refl first.seat (ap (λ (u : UserDesk g.row.U.Denot). u.seat.seen) next.users) next.entered;
      noted = noted_beside (arc_value c.args.desk.now.shelf) (telling g.K.Link.told g.C.Timestamps.told g.C.Timestamps.stamped) (stood (g.K.Link.state c.args.link.now) (g.C.Timestamps.coming c.args.clock.now) c.args.desk.now.seat c.args.desk.now.users.seat c.args.desk.now.attending) (stood (g.K.Link.state c.answer.new.link) (g.C.Timestamps.coming c.answer.new.clock) c.answer.new.desk.seat c.answer.new.desk.users.seat c.answer.new.desk.attending) (stood (g.K.Link.state c.report.new.link) (g.C.Timestamps.coming c.report.new.clock) c.report.new.desk.seat c.report.new.desk.users.seat c.report.new.desk.attending) (g.N.Notes.noted c.args.notes.now c.answer.new.notes) first.noted
          (beside_reports g.K.Link.told (stood (g.K.Link.state c.answer.new.link) (g.C.Timestamps.coming c.answer.new.clock) c.answer.new.desk.seat c.answer.new.desk.users.seat c.answer.new.desk.attending) (stood (g.K.Link.state c.report.new.link) (g.C.Timestamps.coming c.report.new.clock) c.report.new.desk.seat c.report.new.desk.users.seat c.report.new.desk.attending) next.link next.seat (ap (λ (u : UserDesk g.row.U.Denot). u.seat) next.users) next.looked next.user);
    }

pub returns-in_err-answer : goal.returns-in_err-answer
returns-in_err-answer g c =
    let first = c.answer.ensures in
    let desk = c.args.desk.now in
    record {
      shelf = first.shelf;
      seat = first.seat;
      users = first.users;
      reader = first.reader;
      link = first.link;
      hung_up = first.hung_up;
      goes = λ ahead user k c1 b at stands.
          let l = language_for user (arc_value desk.shelf) in
          let old = desk_at (g.K.Link.state c.args.link.now) (g.C.Timestamps.coming c.args.clock.now) desk in
          let new = desk_at (g.K.Link.state c.answer.new.link) (g.C.Timestamps.coming c.answer.new.clock) c.answer.new.desk in
          let ended = input_ended l g.K.Link.told g.C.Timestamps.told k (g.K.Link.state c.args.link.now) c1 (g.C.Timestamps.coming c.args.clock.now) b (now desk) desk.reader ahead c.args.kind stands c.requires.ended in
          let so = answered (arc_value desk.shelf) user g.K.Link.told g.C.Timestamps.told k (g.K.Link.state c.args.link.now) c1 (g.C.Timestamps.coming c.args.clock.now) b (now desk) c.args.kind desk.reader ahead stands desk.seat desk.users.seat at (g.K.Link.state c.answer.new.link) (g.C.Timestamps.coming c.answer.new.clock) (now c.answer.new.desk) refl (users_turned b desk.seat c.answer.new.desk.seat desk.users.seat c.answer.new.desk.users.seat at (now desk) (now c.answer.new.desk) refl refl refl refl refl first.users_in_turn, table_turned b desk.seat c.answer.new.desk.seat desk.users.seat c.answer.new.desk.users.seat at (now desk) (now c.answer.new.desk) refl refl refl refl refl first.in_turn) (input_of c.args.kind desk.reader) ended
          g.C.Timestamps.stamped c.answer.new.desk.seat c.answer.new.desk.users.seat (first.seat.0 ∙ at.0, first.seat.1 ∙ at.1, first.users.0 ∙ at.2, first.users.1 ∙ at.3) refl refl refl refl (Err the_stop) (subst (λ (y : Result Progress Stopped). IsAnswered (arc_value desk.shelf) g.K.Link.told g.C.Timestamps.told (g.K.Link.state c.args.link.now) (g.K.Link.state c.answer.new.link) (g.C.Timestamps.coming c.args.clock.now) (g.C.Timestamps.coming c.answer.new.clock) (input_of c.args.kind desk.reader) desk.seat desk.users.seat (now desk) (now c.answer.new.desk) y) c.in_err-answer.was first.answered) (λ ok. absurd cc) in
          by_stop (λ (r : Result Progress Stopped). GoesInTime (telling g.K.Link.told g.C.Timestamps.told g.C.Timestamps.stamped) old new l (starting k c1 b) stands.past.walk r desk.reader ahead) c.from_residual.result c.from_residual.ensures.0
          (record { goes = so.goes; ran_on = so.ran_on; timely = so.timely });
      stopped = subst (λ (r : Result Progress Stopped). RoseOnlyFor (g.G.Gate.stops c.args.gate.now) (g.G.Gate.stops c.answer.new.gate) (IsErr r)) (c.in_err-answer.was ∙ sym (is_stop c.from_residual.result c.from_residual.ensures.0)) first.stopped;
      asked = first.asked;
      noted = first.noted;
    }

pub returns-in-Cut : goal.returns-in-Cut
returns-in-Cut g c =
    let first = c.answer.ensures in
    let cut : c.answer.result ≡ Ok Cut = c.in_ok-answer.was ∙ ap (λ (p : Progress). Ok p) c.in-Cut.is in
    let desk = c.args.desk.now in
    record {
      shelf = first.shelf;
      seat = first.seat;
      users = first.users;
      reader = first.reader;
      link = first.link;
      hung_up = first.hung_up;
      goes = λ ahead user k c1 b at stands.
          let l = language_for user (arc_value desk.shelf) in
          let ended = input_ended l g.K.Link.told g.C.Timestamps.told k (g.K.Link.state c.args.link.now) c1 (g.C.Timestamps.coming c.args.clock.now) b (now desk) desk.reader ahead c.args.kind stands c.requires.ended in
          let so = answered (arc_value desk.shelf) user g.K.Link.told g.C.Timestamps.told k (g.K.Link.state c.args.link.now) c1 (g.C.Timestamps.coming c.args.clock.now) b (now desk) c.args.kind desk.reader ahead stands desk.seat desk.users.seat at (g.K.Link.state c.answer.new.link) (g.C.Timestamps.coming c.answer.new.clock) (now c.answer.new.desk) refl (users_turned b desk.seat c.answer.new.desk.seat desk.users.seat c.answer.new.desk.users.seat at (now desk) (now c.answer.new.desk) refl refl refl refl refl first.users_in_turn, table_turned b desk.seat c.answer.new.desk.seat desk.users.seat c.answer.new.desk.users.seat at (now desk) (now c.answer.new.desk) refl refl refl refl refl first.in_turn) (input_of c.args.kind desk.reader) ended
          g.C.Timestamps.stamped c.answer.new.desk.seat c.answer.new.desk.users.seat (first.seat.0 ∙ at.0, first.seat.1 ∙ at.1, first.users.0 ∙ at.2, first.users.1 ∙ at.3) refl refl refl refl (Ok Cut) (subst (λ (y : Result Progress Stopped). IsAnswered (arc_value desk.shelf) g.K.Link.told g.C.Timestamps.told (g.K.Link.state c.args.link.now) (g.K.Link.state c.answer.new.link) (g.C.Timestamps.coming c.args.clock.now) (g.C.Timestamps.coming c.answer.new.clock) (input_of c.args.kind desk.reader) desk.seat desk.users.seat (now desk) (now c.answer.new.desk) y) cut first.answered) (λ _. first.stamped (subst (λ (r : Result Progress Stopped). IsOk r) (sym cut) refl)) in
          record { goes = so.goes; ran_on = so.ran_on; timely = so.timely };
      stopped = no_stop Cut _ _ (stayed_ok Cut c.answer.result _ _ cut first.stopped);
      asked = first.asked;
      noted = first.noted;
    }

use Rattle.std.proofs.Common.{false, ℕ, List, [], Ok, inr, refl, sym, ◌∙◌, ap, subst}
use Rattle.std.specs.Arc.{arc_value}
use base.Stored.{Gv}
use Rattle.dxc_model.specs.declared.entry.Entry.{Entry}
use Rattle.dxc_model.specs.declared.entry.Outcome.TheVariants.{Answered}
use Rattle.dxc_model.specs.declared.op.Op.TheVariants.{Look}
use Rattle.xc_core.specs.States.{Opening}
use Rattle.xc_core.specs.Seeing.{Saw, Turned, entry}
use Rattle.xc_core.specs.Turns.{LookIs}
use Rattle.craft_session.specs.declared.attending.Attending.{Attending}
use Rattle.craft_session.specs.Gated.{Entered, NothingAsked, answers}
use Rattle.craft_session.specs.Meanings.{language_for}
use Rattle.craft_session.specs.Sessions.{now_of}
use Rattle.craft_session.specs.Turns.{Finds}
use Rattle.craft_session.proofs.Done.{table_turned}
use Rattle.craft_session.proofs.Gated.{entered_at}
use Rattle.craft_session.proofs.Keeping.{in_turn}
use Rattle.craft_session.proofs.SessionSteps.{goes_told}
use Rattle.craft_session.proofs.Reporting.{told_for}
use Rattle.craft_session.specs.Gathered.{GoesInTime, desk_at}
use Rattle.craft_session.specs.Seats.{IsSameSeat, SeatAt, UserSeatAt}
use Rattle.craft_session.specs.Timely.{starting, telling}
use Rattle.craft_session.proofs.reports.report_since.Goals as goal

pub returns : goal.returns
returns g c =
    let looked = c.look-looked.ensures in
    let said = c.tell.ensures in
    let desk = c.args.desk.now in
    let is = c.hear.ensures.heard in
    let finds = subst (λ (s : SeatAt). Finds s c.args.cursor c.look-looked.new.self.seen c.look-looked.result c.look-looked.new.into.items) is looked.look in
    let same : IsSameSeat desk.seat c.look-looked.new.self = (looked.same.0 ∙ ap (λ (s : SeatAt). s.opening) is, looked.same.1 ∙ ap (λ (s : SeatAt). s.place) is, looked.same.2 ∙ ap (λ (s : SeatAt). s.places) is, looked.same.3 ∙ ap (λ (s : SeatAt). s.turnstile) is) in
    let turned = in_turn desk.seat c.hear.new.self c.look-looked.new.self desk.users.seat is c.hear.ensures.as_many.0 looked.goes in
    record {
      shelf = said.shelf;
      seat = (ap (λ (s : SeatAt). s.opening) said.seat ∙ same.0, ap (λ (s : SeatAt). s.place) said.seat ∙ same.1, ap (λ (s : SeatAt). s.places) said.seat ∙ same.2, ap (λ (s : SeatAt). s.turnstile) said.seat ∙ same.3);
      users = said.users;
      reader = said.reader;
      link = record { out = said.told.wrote.part; wrote = said.told.wrote.wrote };
      hung_up = said.hung_up;
      goes = λ r ahead user k c1 b at s.
          let seat = c.args.desk.now.seat in
          let l = language_for user (arc_value c.args.desk.now.shelf) in
          let look = subst (λ (w : Opening × ℕ). (h : List Entry) → Saw w.0 seat.seen h → LookIs w.0 w.1 h c.args.cursor c.look-looked.new.self.seen c.look-looked.result c.look-looked.new.into.items) (λ i. (at.0 i, at.1 i)) finds in
          let x = goes_told l g.K.Link.told g.C.Timestamps.told k c1 b (g.K.Link.state c.args.link.now) (g.C.Timestamps.coming c.args.clock.now) (now_of seat desk.users.seat desk.attending) r ahead c.args.cursor c.requires.watched s c.look-looked.result c.look-looked.new.into.items c.look-looked.new.self.seen c.look-looked.new.self.stamps (table_turned b seat c.look-looked.new.self desk.users.seat desk.users.seat at _ _ refl refl refl refl refl turned) look (g.K.Link.state c.tell.new.link) (g.C.Timestamps.coming c.tell.new.clock)
          g.C.Timestamps.stamped c.look-looked.new.self c.args.desk.now.users.seat (same.0 ∙ at.0, same.1 ∙ at.1, at.2, at.3) refl refl refl refl c.tell.ensures.stamped c.tell.result c.of.result c.of.ensures (told_for user (arc_value c.args.desk.now.shelf) _ _ _ _ _ _ _ _ c.tell.ensures.told) in
          let old = desk_at (g.K.Link.state c.args.link.now) (g.C.Timestamps.coming c.args.clock.now) c.args.desk.now in
          let new = desk_at (g.K.Link.state c.tell.new.link) (g.C.Timestamps.coming c.tell.new.clock) c.tell.new.desk in
          subst (λ (w : SeatAt × (UserSeatAt × Attending)). GoesInTime (telling g.K.Link.told g.C.Timestamps.told g.C.Timestamps.stamped) old (record new { seat = w.0; users = w.1.0; attending = w.1.1 }) l (starting k c1 b) s.past.walk (Ok c.of.result) r ahead) (sym (λ i. (c.tell.ensures.seat i, ((c.tell.ensures.users i).seat, c.tell.ensures.attending i))))
          (record { goes = x.goes; ran_on = x.ran_on; timely = x.timely });
      entered = λ h saw.
          let seat = c.args.desk.now.seat in
          subst (λ (seen : List Gv). Entered seat.opening seat.place NothingAsked false false h seen) (sym (ap (λ (s : SeatAt). s.seen) said.seat)) (entered_at seat.opening seat.place NothingAsked h c.look-looked.new.self.seen false false _ [] (λ k. answers k _) refl (finds h saw).0);
      looked = inr (λ h saw.
          let seat = c.args.desk.now.seat in
          (c.args.cursor, subst (λ (seen : List Gv). Turned seat.opening seat.place h (entry seat.place (Look c.args.cursor) Answered) seen) (sym (ap (λ (s : SeatAt). s.seen) said.seat)) (finds h saw).0));
      user = ap (λ (a : Attending). a.user) said.attending;
    }

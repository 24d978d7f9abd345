use Rattle.std.proofs.Common.{◌≡◌, ◌∙◌, ap, rules, subst}
use Rattle.std.specs.Arc.{arc_value}
use Rattle.dxc_model.specs.declared.user.SessionUser.{SessionUser}
use Rattle.shelf_file.specs.Contents.{Contents}
use Rattle.craft_session.specs.declared.attending.Attending.{Attending}
use Rattle.craft_session.specs.declared.end.SessionEnd.TheVariants.{Unattended, Idle}
use Rattle.craft_session.specs.declared.patience.Patience.TheVariants.{Limited}
use Rattle.craft_session.specs.declared.users.UserDesk.{UserDesk}
use Rattle.craft_session.specs.Cancelling.{Heeds}
use Rattle.craft_session.specs.Gated.{AreEntered}
use Rattle.craft_session.specs.Meanings.{language_for}
use Rattle.craft_session.specs.Noted.{HasNoted, stood}
use Rattle.craft_session.specs.Seats.{SeatAt, UserSeatAt, PlaceAt}
use Rattle.craft_session.specs.Sessions.{IsPrompt, IsServed}
use Rattle.craft_session.specs.Stamps.{stamp_at}
use Rattle.craft_session.specs.Timely.{WasTimely, telling}
use Rattle.craft_session.specs.Idling.{WasAwake, WasIdle}
use Rattle.craft_session.specs.Waiting.{IsLetGoBy, WasUnattended}
use Rattle.craft_session.proofs.Ends.{no_write_fault}
use Rattle.craft_session.proofs.serving.serve_at.Goals as goal

pub serve-end-requires-clause-vacant : goal.serve-end-requires-clause-vacant
serve-end-requires-clause-vacant g c = λ limits. ap (λ (a : Attending). a.user) c.begin.ensures.attending ∙ c.requires.vacant limits

pub returns : goal.returns
returns g c =
    let shelf_is : arc_value c.begin.new.self.shelf ≡ c.args.place.now.shelf = ap arc_value c.begin.ensures.shelf ∙ ap (λ (p : PlaceAt). p.shelf) c.place.view_is in
    let seat_is : c.begin.new.self.seat ≡ c.args.place.now.seat = c.begin.ensures.seat ∙ ap (λ (p : PlaceAt). p.seat) c.place.view_is in
    let users_is : c.begin.new.self.users.seat ≡ c.args.place.now.users = ap (λ (u : UserDesk g.row.U.Denot). u.seat) c.begin.ensures.users ∙ ap (λ (p : PlaceAt). p.users) c.place.view_is in
    let user_is : c.begin.new.self.attending.user ≡ c.args.first = ap (λ (a : Attending). a.user) c.begin.ensures.attending in
    record {
      served = record {
        place = record { shelf = search rules; seat = search rules; users = search rules; numbers = search rules; users_numbers = search rules; users_rest = search rules; astray = search rules };
        session = subst (λ (w : (Contents × SessionUser) × (SeatAt × UserSeatAt)). IsServed (language_for w.0.1 w.0.0) g.K.Link.told g.C.Timestamps.told (g.K.Link.state c.args.link.now) (g.K.Link.state c.serve-end.new.link) (g.C.Timestamps.coming c.args.clock.now) (g.C.Timestamps.coming c.serve-end.new.clock) w.1.0 c.serve-end.new.desk.seat w.1.1 c.serve-end.new.desk.users.seat c.serve-end.result) (λ i. ((shelf_is i, user_is i), (seat_is i, users_is i)))
            c.serve-end.ensures.session;
        prompt = subst (λ (w : (Contents × SessionUser) × (SeatAt × UserSeatAt)). IsPrompt (language_for w.0.1 w.0.0) g.K.Link.begun g.K.Link.told g.C.Timestamps.told (g.K.Link.state c.args.link.now) (g.K.Link.state c.serve-end.new.link) (g.C.Timestamps.coming c.args.clock.now) w.1.0 w.1.1) (λ i. ((shelf_is i, user_is i), (seat_is i, users_is i)))
            c.serve-end.ensures.prompt;
        timely = subst (λ (w : (Contents × SessionUser) × (SeatAt × UserSeatAt)). WasTimely (language_for w.0.1 w.0.0) (telling g.K.Link.told g.C.Timestamps.told g.C.Timestamps.stamped) (stamp_at (g.C.Timestamps.coming c.args.clock.now) (g.K.Link.state c.args.link.now) w.1.0 w.1.1) (stamp_at (g.C.Timestamps.coming c.serve-end.new.clock) (g.K.Link.state c.serve-end.new.link) c.serve-end.new.desk.seat c.serve-end.new.desk.users.seat) c.serve-end.result) (λ i. ((shelf_is i, user_is i), (seat_is i, users_is i)))
            c.serve-end.ensures.timely;
        asked = subst (λ (w : SeatAt × UserSeatAt). AreEntered w.0 w.1 (g.G.Gate.asked c.args.gate.now c.serve-end.new.gate) c.serve-end.new.desk.seat.seen c.serve-end.new.desk.users.seat.seen) (λ i. (seat_is i, users_is i)) c.serve-end.ensures.asked;
        unattended = subst (λ (w : (Contents × SessionUser) × (SeatAt × UserSeatAt)). c.serve-end.result ≡ Unattended → WasUnattended (language_for w.0.1 w.0.0) g.K.Link.begun g.K.Link.told g.C.Timestamps.told (g.K.Link.state c.args.link.now) (g.C.Timestamps.coming c.args.clock.now) w.1.0 w.1.1 (g.K.Link.state c.serve-end.new.link)) (λ i. ((shelf_is i, user_is i), (seat_is i, users_is i)))
            c.serve-end.ensures.unattended;
        idle = subst (λ (w : (Contents × SessionUser) × (SeatAt × UserSeatAt)). c.serve-end.result ≡ Idle → WasIdle (language_for w.0.1 w.0.0) g.K.Link.begun g.K.Link.told g.C.Timestamps.told (g.K.Link.state c.args.link.now) (g.C.Timestamps.coming c.args.clock.now) w.1.0 w.1.1 w.0.0.idle (g.K.Link.state c.serve-end.new.link)) (λ i. ((shelf_is i, user_is i), (seat_is i, users_is i)))
            c.serve-end.ensures.idle;
        why = record { ended = c.serve-end.ensures.end; all_read = c.serve-end.ensures.all_read; read_fault = c.serve-end.ensures.read_fault; no_read_fault = c.serve-end.ensures.no_read_fault; write_fault = c.serve-end.ensures.write_fault; no_write_fault = λ other. no_write_fault _ _ _ _ _ _ _ _ _ _ _ _ c.serve-end.ensures.session other; spent = c.serve-end.ensures.spent; few = c.serve-end.ensures.few };
        hung_up = c.serve-end.ensures.hung_up;
        stopped = c.serve-end.ensures.stopped;
        unstopped = c.serve-end.ensures.unstopped;
        later = c.serve-end.ensures.later;
      };
      attended = c.serve-end.ensures.attended;
      let_go = subst (λ (w : (Contents × SessionUser) × (SeatAt × UserSeatAt)). c.args.patience ≡ Limited → IsLetGoBy (language_for w.0.1 w.0.0) g.K.Link.begun g.K.Link.told g.C.Timestamps.told (g.K.Link.state c.args.link.now) (g.C.Timestamps.coming c.args.clock.now) w.1.0 w.1.1 (g.K.Link.state c.serve-end.new.link) 4800) (λ i. ((shelf_is i, user_is i), (seat_is i, users_is i)))
          c.serve-end.ensures.let_go;
      heeds = subst (λ (w : (Contents × SessionUser) × (SeatAt × UserSeatAt)). c.args.patience ≡ Limited → Heeds (language_for w.0.1 w.0.0) g.K.Link.begun g.K.Link.told g.C.Timestamps.told (g.K.Link.state c.args.link.now) (g.C.Timestamps.coming c.args.clock.now) w.1.0 w.1.1 (g.K.Link.state c.serve-end.new.link)) (λ i. ((shelf_is i, user_is i), (seat_is i, users_is i)))
          c.serve-end.ensures.heeds;
      alone = c.serve-end.ensures.alone;
      endless = c.serve-end.ensures.endless;
      awake = subst (λ (w : (Contents × SessionUser) × (SeatAt × UserSeatAt)). c.args.patience ≡ Limited → WasAwake (language_for w.0.1 w.0.0) g.K.Link.begun g.K.Link.told g.C.Timestamps.told (g.K.Link.state c.args.link.now) (g.C.Timestamps.coming c.args.clock.now) w.1.0 w.1.1 w.0.0.idle (g.K.Link.state c.serve-end.new.link)) (λ i. ((shelf_is i, user_is i), (seat_is i, users_is i)))
          c.serve-end.ensures.awake;
      noted = record {
        attending = c.serve-end.new.desk.attending;
        has = subst (λ (w : (Contents × Attending) × (SeatAt × UserSeatAt)). HasNoted w.0.0 (telling g.K.Link.told g.C.Timestamps.told g.C.Timestamps.stamped) (stood (g.K.Link.state c.args.link.now) (g.C.Timestamps.coming c.args.clock.now) w.1.0 w.1.1 w.0.1) (stood (g.K.Link.state c.serve-end.new.link) (g.C.Timestamps.coming c.serve-end.new.clock) c.serve-end.new.desk.seat c.serve-end.new.desk.users.seat c.serve-end.new.desk.attending) (g.N.Notes.noted c.args.notes.now c.serve-end.new.notes)) (λ i. ((shelf_is i, c.begin.ensures.attending i), (seat_is i, users_is i)))
            c.serve-end.ensures.noted;
      };
    }

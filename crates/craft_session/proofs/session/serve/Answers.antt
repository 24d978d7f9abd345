use Rattle.std.specs.Prelude.{IsErr}
use Rattle.std.proofs.Common.{rules, ◌≡◌, ℕ, List, false, [], ◌∷◌, Result, Ok, Err, refl, sym, ◌∙◌, ap, subst, arith}
use Rattle.std.proofs.lemmas.Grind.{common_steps}
use Rattle.std.specs.Arc.{arc_value}
use Rattle.craft_session.specs.Desks.{now}
use Rattle.craft_session.specs.declared.users.UserDesk.{UserDesk}
use Rattle.craft_session.specs.Meanings.{language_for}
use Rattle.tl1_text.specs.Reading.{Reader}
use Rattle.craft_session.specs.declared.end.Progress.{Progress}
use Rattle.craft_session.specs.declared.end.Progress.TheVariants.{On, Cut}
use Rattle.craft_session.specs.Noted.{stood}
use Rattle.craft_session.specs.Sessions.{Beginning, done_before}
use Rattle.craft_session.proofs.Ends.{bytes_came, cancelled_no, counted_none, end_came, end_no, few_here, few_more, idle_no, later_behind, quiet_came, read_no, rose_behind, rose_later, spent_no, stayed, stayed_ok, stop_no, unattended_no, unheld, write_no}
use Rattle.craft_session.proofs.Gated.{are_entered_beside, are_entered_none, are_entered_on}
use Rattle.craft_session.proofs.Noted.{beside_reports, noted_beside, noted_more, noted_moved, noted_none, noted_read}
use Rattle.craft_session.proofs.Prompt.{prompt_more, prompt_none}
use Rattle.craft_session.proofs.SessionSteps.{stands_none, stands_piece, stands_quiet, counted_more, served_nothing, served_here}
use Rattle.craft_session.specs.Gathered.{GoesTo, desk_at, to_read, to_report}
use Rattle.craft_session.specs.Runs.{begins, waits}
use Rattle.craft_session.specs.Stamps.{stamp_at}
use Rattle.craft_session.specs.Timely.{WasTimely, reached, starting, telling}
use Rattle.craft_session.specs.declared.end.SessionEnd.TheVariants.{End, ReadFault, WriteFault, Stopped as Halted}
use Rattle.craft_session.proofs.Timely.{goes_nowhere, looked_to, read_goes, timely_none, timely_read, went_to}
use Rattle.craft_session.specs.declared.patience.Patience.TheVariants.{Limited}
use Rattle.craft_session.specs.Waiting.{waited_after}
use Rattle.craft_session.proofs.Idling.{Idles, awake_behind, byte_came, idle_at, idles_heard, idles_none, idles_silent, some_silent}
use Rattle.craft_session.specs.Idling.{IsInTime, IsTooLong, silent_after}
use Rattle.shelf_file.specs.declared.idle.IdleLimits.{IdleLimits}
use Rattle.shelf_file.specs.Contents.{Contents}
use Rattle.dxc_outside.specs.declared.stopped.Stopped.{Stopped}
use Rattle.dxc_outside.specs.Stops.{the_stop}
use Rattle.dxc_outside.specs.Items.{Item, quiet}
use Rattle.craft_session.specs.declared.attending.Attending.{Attending}
use Rattle.craft_session.proofs.Cancelling.{beside_look, heeds_more, heeds_none, looked, made_one, somebody_ended}
use Rattle.craft_session.proofs.Waiting.{both_no, let_go_behind, let_go_here, some_made, unattended_at, waits_more, waits_none}
use Rattle.craft_session.proofs.session.serve.Goals as goal
use Rattle.craft_session.proofs.session.serve.Goals.{in-Bytes+in-Ok-On, in-Quiet+in-On}

pub loop-init : goal.loop-init
loop-init g c = record {
  shelf = refl;
  seat = (refl, refl, refl, refl);
  users = (refl, refl, refl, refl);
  stands = λ b at saw users first. stands_none (language_for c.args.desk.now.attending.user (arc_value c.args.desk.now.shelf)) g.K.Link.told g.C.Timestamps.told (g.K.Link.state c.args.link.now) (g.C.Timestamps.coming c.args.clock.now) b (now c.args.desk.now) c.args.desk.now.reader saw users first c.requires.begun c.requires.nothing_read;
  prompt = prompt_none (language_for c.args.desk.now.attending.user (arc_value c.args.desk.now.shelf)) g.K.Link.begun g.K.Link.told g.C.Timestamps.told (g.K.Link.state c.args.link.now) (g.C.Timestamps.coming c.args.clock.now) c.args.desk.now.seat c.args.desk.now.users.seat;
  timely = λ b at saw users first. timely_none (language_for c.args.desk.now.attending.user (arc_value c.args.desk.now.shelf)) (telling g.K.Link.told g.C.Timestamps.told g.C.Timestamps.stamped) (starting (g.K.Link.state c.args.link.now) (g.C.Timestamps.coming c.args.clock.now) b) (g.K.Link.state c.args.link.now) _ _ refl;
  gate = refl;
  counted = counted_none _;
  faults = refl;
  not_ended = λ lt. absurd (omega (arith, lt));
  hung_up = refl;
  room = c.requires.room;
  asked = are_entered_none c.args.desk.now.seat c.args.desk.now.users.seat (g.G.Gate.asked c.args.gate.now c.args.gate.now) (g.G.Gate.unasked c.args.gate.now);
  noted = noted_none (arc_value c.args.desk.now.shelf) (telling g.K.Link.told g.C.Timestamps.told g.C.Timestamps.stamped) (stood (g.K.Link.state c.args.link.now) (g.C.Timestamps.coming c.args.clock.now) c.args.desk.now.seat c.args.desk.now.users.seat c.args.desk.now.attending) (g.N.Notes.noted c.args.notes.now c.args.notes.now) (g.N.Notes.unnoted c.args.notes.now);
  waits = waits_none (c.args.patience ≡ Limited) (language_for c.args.desk.now.attending.user (arc_value c.args.desk.now.shelf)) g.K.Link.begun g.K.Link.told g.C.Timestamps.told (g.K.Link.state c.args.link.now) (g.C.Timestamps.coming c.args.clock.now) c.args.desk.now.seat c.args.desk.now.users.seat;
  idles = idles_none (c.args.patience ≡ Limited) ((arc_value c.args.desk.now.shelf).idle) (language_for c.args.desk.now.attending.user (arc_value c.args.desk.now.shelf)) g.K.Link.begun g.K.Link.told g.C.Timestamps.told (g.K.Link.state c.args.link.now) (g.C.Timestamps.coming c.args.clock.now) c.args.desk.now.seat c.args.desk.now.users.seat c.args.desk.now.attending.user;
  heeds = λ limits. heeds_none (language_for c.args.desk.now.attending.user (arc_value c.args.desk.now.shelf)) g.K.Link.begun g.K.Link.told g.C.Timestamps.told (g.K.Link.state c.args.link.now) (g.C.Timestamps.coming c.args.clock.now) c.args.desk.now.seat c.args.desk.now.users.seat;
  vacant = λ limits none. c.requires.vacant limits;
}

pub returns-in-Ok-Cut : goal.returns-in-Ok-Cut
returns-in-Ok-Cut g c =
    let moved = looked (language_for c.args.desk.now.attending.user (arc_value c.args.desk.now.shelf)) (telling g.K.Link.told g.C.Timestamps.told g.C.Timestamps.stamped) g.G.Gate.asked g.G.Gate.asked_on g.G.Gate.unasked (g.K.Link.state c.args.link.now) (g.K.Link.state c.loop.link) (g.C.Timestamps.coming c.args.clock.now) (g.C.Timestamps.coming c.loop.clock) c.args.desk.now.seat c.args.desk.now.users.seat c.args.gate.now c.loop.gate c.args.patience c.is_cancelled.result c.loop.desk.seat c.loop.desk.users.seat c.is_cancelled.new.desk.users.seat c.loop.desk.attending c.loop.desk.reader (record { seat_is = c.loop.invariant.seat; users_are = c.loop.invariant.users; stands = c.loop.invariant.stands; timely = c.loop.invariant.timely; entered = c.loop.invariant.asked }) c.is_cancelled.ensures.users c.is_cancelled.ensures.in_turn c.is_cancelled.ensures.heeded c.is_cancelled.new.desk.seat c.is_cancelled.new.desk.attending c.is_cancelled.new.desk.reader c.is_cancelled.ensures.seat c.is_cancelled.ensures.attending c.is_cancelled.ensures.reader in
    let idles_here = subst (λ (a : Attending). Idles (c.args.patience ≡ Limited) ((arc_value c.args.desk.now.shelf).idle) (language_for c.args.desk.now.attending.user (arc_value c.args.desk.now.shelf)) g.K.Link.begun g.K.Link.told g.C.Timestamps.told (g.K.Link.state c.args.link.now) (g.C.Timestamps.coming c.args.clock.now) c.args.desk.now.seat c.args.desk.now.users.seat (g.K.Link.state c.loop.link) a.user c.loop.counter c.loop.silent) (sym c.is_cancelled.ensures.attending) c.loop.invariant.idles in
    let noted_here = noted_beside (arc_value c.args.desk.now.shelf) (telling g.K.Link.told g.C.Timestamps.told g.C.Timestamps.stamped) (stood (g.K.Link.state c.args.link.now) (g.C.Timestamps.coming c.args.clock.now) c.args.desk.now.seat c.args.desk.now.users.seat c.args.desk.now.attending) (stood (g.K.Link.state c.loop.link) (g.C.Timestamps.coming c.loop.clock) c.loop.desk.seat c.loop.desk.users.seat c.loop.desk.attending) (stood (g.K.Link.state c.loop.link) (g.C.Timestamps.coming c.loop.clock) c.is_cancelled.new.desk.seat c.is_cancelled.new.desk.users.seat c.is_cancelled.new.desk.attending) (g.N.Notes.noted c.args.notes.now c.loop.notes) c.loop.invariant.noted (beside_look g.K.Link.told (g.K.Link.state c.loop.link) (g.C.Timestamps.coming c.loop.clock) c.args.patience c.is_cancelled.result c.loop.desk.seat c.is_cancelled.new.desk.seat c.loop.desk.users.seat c.is_cancelled.new.desk.users.seat c.loop.desk.attending c.is_cancelled.new.desk.attending c.is_cancelled.ensures.seat c.is_cancelled.ensures.users c.is_cancelled.ensures.heeded c.is_cancelled.ensures.attending) in
    let h = c.seen.ensures.history in
    let p = c.seen-2.ensures.history in
    let seat = c.args.desk.now.seat in
    let b : Beginning = record { opening = seat.opening; users = c.args.desk.now.users.seat.opening; place = seat.place; before = h.0; users_before = p.0; first = done_before seat c.args.desk.now.users.seat p.1.marks } in
    let s = c.serve_piece.ensures in
    let going : (g.K.Link.state c.serve_piece.new.link).ended ≡ false = s.link.wrote.ended ∙ c.in-Bytes.ensures.read.ended in
    let timely : WasTimely (language_for c.args.desk.now.attending.user (arc_value c.args.desk.now.shelf)) (telling g.K.Link.told g.C.Timestamps.told g.C.Timestamps.stamped) (stamp_at (g.C.Timestamps.coming c.args.clock.now) (g.K.Link.state c.args.link.now) c.args.desk.now.seat c.args.desk.now.users.seat) (stamp_at (g.C.Timestamps.coming c.serve_piece.new.clock) (g.K.Link.state c.serve_piece.new.link) c.serve_piece.new.desk.seat c.serve_piece.new.desk.users.seat) WriteFault = λ b at saw users first.
    let x = read_goes (telling g.K.Link.told g.C.Timestamps.told g.C.Timestamps.stamped) (desk_at (g.K.Link.state c.read.new.self) (g.C.Timestamps.coming c.loop.clock) c.is_cancelled.new.desk) (desk_at (g.K.Link.state c.serve_piece.new.link) (g.C.Timestamps.coming c.serve_piece.new.clock) c.serve_piece.new.desk) (to_read c.is_cancelled.new.desk.attending c.is_cancelled.new.desk.reader _) c.serve_piece.new.desk.reader [] c.serve_piece.result (arc_value c.args.desk.now.shelf) c.args.desk.now.seat c.args.desk.now.users.seat c.args.desk.now.attending.user (g.K.Link.state c.args.link.now) (g.K.Link.state c.loop.link) (g.C.Timestamps.coming c.args.clock.now)
    (ap arc_value (c.is_cancelled.ensures.shelf ∙ c.loop.invariant.shelf)) moved.here.seat_is moved.here.users_are c.serve_piece.ensures.goes _ _ c.in-Bytes.ensures.read (Ok Cut) (c.in-Ok-Cut.is ∙ ap (λ (p : Progress). Ok p) c.in-Ok-Cut.field-0-is) b at (moved.here.stands b at saw users first).past.walk (moved.here.timely b at saw users first)
    (went_to g.K.Link.told b _ (g.K.Link.state c.serve_piece.new.link) c.is_cancelled.new.desk.seat c.is_cancelled.new.desk.users.seat (moved.here.seat_is.0 ∙ at.0, moved.here.seat_is.1 ∙ at.1, moved.here.users_are.0 ∙ at.2, moved.here.users_are.1 ∙ at.3) c.serve_piece.ensures.link _ _ _ c.serve_piece.ensures.asked)
    (stands_piece _ _ _ _ _ _ _ _ _ _ _ _ _ _ (moved.here.stands b at saw users first) c.in-Bytes.ensures.read (grind (arith, common_steps))) begins in
    record { attending = _; session = x.goes; timely = x.timely } in
    let at_end = timely b (refl, refl, refl, c.args.desk.now.same_place) h.1 p.1 (record { stamps_are = refl; users_stamps_are = refl; codes_are = p.1.codes_are }) in
    record {
      shelf = s.shelf ∙ (c.is_cancelled.ensures.shelf ∙ c.loop.invariant.shelf);
      seat = (s.seat.0 ∙ moved.here.seat_is.0, s.seat.1 ∙ moved.here.seat_is.1, s.seat.2 ∙ moved.here.seat_is.2, s.seat.3 ∙ moved.here.seat_is.3);
      users = (s.users.0 ∙ moved.here.users_are.0, s.users.1 ∙ moved.here.users_are.1, s.users.2 ∙ moved.here.users_are.2, s.users.3 ∙ moved.here.users_are.3);
      hung_up = s.hung_up ∙ c.in-Bytes.ensures.hung_up ∙ c.loop.invariant.hung_up;
      session = record { before = h.0; users_before = p.0; saw = h.1; users_saw = p.1; attending = at_end.attending; session = at_end.session };
      prompt = prompt_more (language_for c.args.desk.now.attending.user (arc_value c.args.desk.now.shelf)) g.K.Link.begun g.K.Link.told g.C.Timestamps.told (g.K.Link.state c.args.link.now) (g.C.Timestamps.coming c.args.clock.now) c.args.desk.now.seat c.args.desk.now.users.seat (g.K.Link.state c.loop.link) (g.K.Link.state c.serve_piece.new.link) _ (g.C.Timestamps.coming c.loop.clock) (now c.is_cancelled.new.desk) c.is_cancelled.new.desk.reader c.loop.invariant.prompt c.in-Bytes.ensures.begun moved.here.stands c.in-Bytes.ensures.read.reads s.link.wrote.reads;
      heeds = λ limits. heeds_more (language_for c.args.desk.now.attending.user (arc_value c.args.desk.now.shelf)) g.K.Link.begun g.K.Link.told g.C.Timestamps.told (g.K.Link.state c.args.link.now) (g.C.Timestamps.coming c.args.clock.now) c.args.desk.now.seat c.args.desk.now.users.seat (g.K.Link.state c.loop.link) (g.K.Link.state c.serve_piece.new.link) _ (g.C.Timestamps.coming c.loop.clock) (now c.is_cancelled.new.desk) c.is_cancelled.new.desk.reader (c.loop.invariant.heeds limits) c.in-Bytes.ensures.begun (λ b at saw users first. (moved.here.stands b at saw users first, moved.unended c.if-is_cancelled.false limits b at saw users first)) c.in-Bytes.ensures.read.reads s.link.wrote.reads;
      timely = timely;
      end = ((λ is. write_no _ is refl), (λ ended. unheld _ going ended));
      all_read = λ t is. write_no _ is refl;
      read_fault = λ is. write_no _ is refl;
      no_read_fault = λ is. s.link.wrote.read_faults ∙ c.in-Bytes.ensures.read.no_fault (bytes_came _) ∙ c.loop.invariant.faults;
      write_fault = λ is. at_end.session.rose;
      stopped = λ is. write_no _ is refl;
      unstopped = λ is. stayed_ok Cut c.serve_piece.result _ _ (c.in-Ok-Cut.is ∙ ap (λ (p : Progress). Ok p) c.in-Ok-Cut.field-0-is) s.stopped ∙ c.loop.invariant.gate;
      later = later_behind _ _ _ c.loop.invariant.gate s.stopped.later;
      spent = λ is. write_no _ is refl;
      few = few_more _ _ _ _ _ _ c.loop.invariant.counted c.in-Bytes.ensures.read.reads s.link.wrote.reads c.loop-test.true;
      asked = are_entered_on g.G.Gate.asked g.G.Gate.asked_on c.args.desk.now.seat c.is_cancelled.new.desk.seat c.args.desk.now.users.seat c.is_cancelled.new.desk.users.seat c.args.gate.now c.loop.gate c.serve_piece.new.gate _ _ moved.here.entered moved.here.seat_is moved.here.users_are s.asked;
      noted = noted_more (arc_value c.args.desk.now.shelf) (telling g.K.Link.told g.C.Timestamps.told g.C.Timestamps.stamped) g.N.Notes.noted g.N.Notes.noted_on c.args.notes.now c.loop.notes c.serve_piece.new.notes (stood (g.K.Link.state c.args.link.now) (g.C.Timestamps.coming c.args.clock.now) c.args.desk.now.seat c.args.desk.now.users.seat c.args.desk.now.attending) (stood _ (g.C.Timestamps.coming c.loop.clock) c.is_cancelled.new.desk.seat c.is_cancelled.new.desk.users.seat c.is_cancelled.new.desk.attending) (stood (g.K.Link.state c.serve_piece.new.link) (g.C.Timestamps.coming c.serve_piece.new.clock) c.serve_piece.new.desk.seat c.serve_piece.new.desk.users.seat c.serve_piece.new.desk.attending) (noted_read (arc_value c.args.desk.now.shelf) (telling g.K.Link.told g.C.Timestamps.told g.C.Timestamps.stamped) (stood (g.K.Link.state c.args.link.now) (g.C.Timestamps.coming c.args.clock.now) c.args.desk.now.seat c.args.desk.now.users.seat c.args.desk.now.attending) (g.K.Link.state c.loop.link) _ (g.C.Timestamps.coming c.loop.clock) c.is_cancelled.new.desk.seat c.is_cancelled.new.desk.users.seat c.is_cancelled.new.desk.attending (g.N.Notes.noted c.args.notes.now c.loop.notes) _ _ noted_here c.in-Bytes.ensures.read) (noted_moved arc_value (telling g.K.Link.told g.C.Timestamps.told g.C.Timestamps.stamped) (stood _ (g.C.Timestamps.coming c.loop.clock) c.is_cancelled.new.desk.seat c.is_cancelled.new.desk.users.seat c.is_cancelled.new.desk.attending) (stood (g.K.Link.state c.serve_piece.new.link) (g.C.Timestamps.coming c.serve_piece.new.clock) c.serve_piece.new.desk.seat c.serve_piece.new.desk.users.seat c.serve_piece.new.desk.attending) (g.N.Notes.noted c.loop.notes c.serve_piece.new.notes) c.args.desk.now.shelf c.is_cancelled.new.desk.shelf (c.is_cancelled.ensures.shelf ∙ c.loop.invariant.shelf) c.serve_piece.ensures.noted);
      unattended = λ is. write_no _ is refl;
      attended = λ endless is. write_no _ is refl;
      alone = λ endless is. write_no _ is refl;
      idle = λ is. write_no _ is refl;
      endless = λ endless is. write_no _ is refl;
      let_go = λ limits. let_go_behind (c.args.patience ≡ Limited) (language_for c.args.desk.now.attending.user (arc_value c.args.desk.now.shelf)) g.K.Link.begun g.K.Link.told g.C.Timestamps.told (g.K.Link.state c.args.link.now) (g.C.Timestamps.coming c.args.clock.now) c.args.desk.now.seat c.args.desk.now.users.seat (g.K.Link.state c.loop.link) (g.K.Link.state c.serve_piece.new.link) _ (g.C.Timestamps.coming c.loop.clock) (now c.is_cancelled.new.desk) c.is_cancelled.new.desk.reader c.in-Bytes.ensures.begun moved.here.stands c.in-Bytes.ensures.read.reads c.serve_piece.ensures.link.wrote.reads c.loop.counter c.loop.waited (λ limits nobody. c.is_over.ensures.lasts c.if-is_over.false limits (ap (λ (a : Attending). a.user) (sym c.is_cancelled.ensures.attending) ∙ nobody)) c.loop.invariant.waits limits;
      awake = λ limits. awake_behind (c.args.patience ≡ Limited) ((arc_value c.args.desk.now.shelf).idle) (language_for c.args.desk.now.attending.user (arc_value c.args.desk.now.shelf)) g.K.Link.begun g.K.Link.told g.C.Timestamps.told (g.K.Link.state c.args.link.now) (g.C.Timestamps.coming c.args.clock.now) c.args.desk.now.seat c.args.desk.now.users.seat (g.K.Link.state c.loop.link) (g.K.Link.state c.serve_piece.new.link) _ (g.C.Timestamps.coming c.loop.clock) (now c.is_cancelled.new.desk) c.is_cancelled.new.desk.reader c.in-Bytes.ensures.begun moved.here.stands c.in-Bytes.ensures.read.reads c.serve_piece.ensures.link.wrote.reads c.loop.counter c.loop.silent (subst (λ (i : IdleLimits). IsInTime i c.is_cancelled.new.desk.attending.user c.loop.silent) (c.idle-limits.ensures ∙ ap (λ (s : Contents). s.idle) c.deref.ensures) (subst (λ (a : Attending). IsInTime c.idle-limits.result a.user c.loop.silent) (sym c.is_cancelled.ensures.attending) (c.is_idle.ensures.awake c.if-is_idle.false limits))) idles_here;
    }

pub returns-in-Err : goal.returns-in-Err
returns-in-Err g c =
    let moved = looked (language_for c.args.desk.now.attending.user (arc_value c.args.desk.now.shelf)) (telling g.K.Link.told g.C.Timestamps.told g.C.Timestamps.stamped) g.G.Gate.asked g.G.Gate.asked_on g.G.Gate.unasked (g.K.Link.state c.args.link.now) (g.K.Link.state c.loop.link) (g.C.Timestamps.coming c.args.clock.now) (g.C.Timestamps.coming c.loop.clock) c.args.desk.now.seat c.args.desk.now.users.seat c.args.gate.now c.loop.gate c.args.patience c.is_cancelled.result c.loop.desk.seat c.loop.desk.users.seat c.is_cancelled.new.desk.users.seat c.loop.desk.attending c.loop.desk.reader (record { seat_is = c.loop.invariant.seat; users_are = c.loop.invariant.users; stands = c.loop.invariant.stands; timely = c.loop.invariant.timely; entered = c.loop.invariant.asked }) c.is_cancelled.ensures.users c.is_cancelled.ensures.in_turn c.is_cancelled.ensures.heeded c.is_cancelled.new.desk.seat c.is_cancelled.new.desk.attending c.is_cancelled.new.desk.reader c.is_cancelled.ensures.seat c.is_cancelled.ensures.attending c.is_cancelled.ensures.reader in
    let idles_here = subst (λ (a : Attending). Idles (c.args.patience ≡ Limited) ((arc_value c.args.desk.now.shelf).idle) (language_for c.args.desk.now.attending.user (arc_value c.args.desk.now.shelf)) g.K.Link.begun g.K.Link.told g.C.Timestamps.told (g.K.Link.state c.args.link.now) (g.C.Timestamps.coming c.args.clock.now) c.args.desk.now.seat c.args.desk.now.users.seat (g.K.Link.state c.loop.link) a.user c.loop.counter c.loop.silent) (sym c.is_cancelled.ensures.attending) c.loop.invariant.idles in
    let noted_here = noted_beside (arc_value c.args.desk.now.shelf) (telling g.K.Link.told g.C.Timestamps.told g.C.Timestamps.stamped) (stood (g.K.Link.state c.args.link.now) (g.C.Timestamps.coming c.args.clock.now) c.args.desk.now.seat c.args.desk.now.users.seat c.args.desk.now.attending) (stood (g.K.Link.state c.loop.link) (g.C.Timestamps.coming c.loop.clock) c.loop.desk.seat c.loop.desk.users.seat c.loop.desk.attending) (stood (g.K.Link.state c.loop.link) (g.C.Timestamps.coming c.loop.clock) c.is_cancelled.new.desk.seat c.is_cancelled.new.desk.users.seat c.is_cancelled.new.desk.attending) (g.N.Notes.noted c.args.notes.now c.loop.notes) c.loop.invariant.noted (beside_look g.K.Link.told (g.K.Link.state c.loop.link) (g.C.Timestamps.coming c.loop.clock) c.args.patience c.is_cancelled.result c.loop.desk.seat c.is_cancelled.new.desk.seat c.loop.desk.users.seat c.is_cancelled.new.desk.users.seat c.loop.desk.attending c.is_cancelled.new.desk.attending c.is_cancelled.ensures.seat c.is_cancelled.ensures.users c.is_cancelled.ensures.heeded c.is_cancelled.ensures.attending) in
    let h = c.seen.ensures.history in
    let p = c.seen-2.ensures.history in
    let seat = c.args.desk.now.seat in
    let b : Beginning = record { opening = seat.opening; users = c.args.desk.now.users.seat.opening; place = seat.place; before = h.0; users_before = p.0; first = done_before seat c.args.desk.now.users.seat p.1.marks } in
    let s = c.serve_piece.ensures in
    let going : (g.K.Link.state c.serve_piece.new.link).ended ≡ false = s.link.wrote.ended ∙ c.in-Bytes.ensures.read.ended in
    let timely : WasTimely (language_for c.args.desk.now.attending.user (arc_value c.args.desk.now.shelf)) (telling g.K.Link.told g.C.Timestamps.told g.C.Timestamps.stamped) (stamp_at (g.C.Timestamps.coming c.args.clock.now) (g.K.Link.state c.args.link.now) c.args.desk.now.seat c.args.desk.now.users.seat) (stamp_at (g.C.Timestamps.coming c.serve_piece.new.clock) (g.K.Link.state c.serve_piece.new.link) c.serve_piece.new.desk.seat c.serve_piece.new.desk.users.seat) Halted = λ b at saw users first.
    let x = read_goes (telling g.K.Link.told g.C.Timestamps.told g.C.Timestamps.stamped) (desk_at (g.K.Link.state c.read.new.self) (g.C.Timestamps.coming c.loop.clock) c.is_cancelled.new.desk) (desk_at (g.K.Link.state c.serve_piece.new.link) (g.C.Timestamps.coming c.serve_piece.new.clock) c.serve_piece.new.desk) (to_read c.is_cancelled.new.desk.attending c.is_cancelled.new.desk.reader _) c.serve_piece.new.desk.reader [] c.serve_piece.result (arc_value c.args.desk.now.shelf) c.args.desk.now.seat c.args.desk.now.users.seat c.args.desk.now.attending.user (g.K.Link.state c.args.link.now) (g.K.Link.state c.loop.link) (g.C.Timestamps.coming c.args.clock.now)
    (ap arc_value (c.is_cancelled.ensures.shelf ∙ c.loop.invariant.shelf)) moved.here.seat_is moved.here.users_are c.serve_piece.ensures.goes _ _ c.in-Bytes.ensures.read (Err the_stop) c.in-Err.is b at (moved.here.stands b at saw users first).past.walk (moved.here.timely b at saw users first)
    (went_to g.K.Link.told b _ (g.K.Link.state c.serve_piece.new.link) c.is_cancelled.new.desk.seat c.is_cancelled.new.desk.users.seat (moved.here.seat_is.0 ∙ at.0, moved.here.seat_is.1 ∙ at.1, moved.here.users_are.0 ∙ at.2, moved.here.users_are.1 ∙ at.3) c.serve_piece.ensures.link _ _ _ c.serve_piece.ensures.asked)
    (stands_piece _ _ _ _ _ _ _ _ _ _ _ _ _ _ (moved.here.stands b at saw users first) c.in-Bytes.ensures.read (grind (arith, common_steps))) begins in
    record { attending = _; session = x.goes; timely = x.timely } in
    let at_end = timely b (refl, refl, refl, c.args.desk.now.same_place) h.1 p.1 (record { stamps_are = refl; users_stamps_are = refl; codes_are = p.1.codes_are }) in
    record {
      shelf = s.shelf ∙ (c.is_cancelled.ensures.shelf ∙ c.loop.invariant.shelf);
      seat = (s.seat.0 ∙ moved.here.seat_is.0, s.seat.1 ∙ moved.here.seat_is.1, s.seat.2 ∙ moved.here.seat_is.2, s.seat.3 ∙ moved.here.seat_is.3);
      users = (s.users.0 ∙ moved.here.users_are.0, s.users.1 ∙ moved.here.users_are.1, s.users.2 ∙ moved.here.users_are.2, s.users.3 ∙ moved.here.users_are.3);
      session = record { before = h.0; users_before = p.0; saw = h.1; users_saw = p.1; attending = at_end.attending; session = at_end.session };
      prompt = prompt_more (language_for c.args.desk.now.attending.user (arc_value c.args.desk.now.shelf)) g.K.Link.begun g.K.Link.told g.C.Timestamps.told (g.K.Link.state c.args.link.now) (g.C.Timestamps.coming c.args.clock.now) c.args.desk.now.seat c.args.desk.now.users.seat (g.K.Link.state c.loop.link) (g.K.Link.state c.serve_piece.new.link) _ (g.C.Timestamps.coming c.loop.clock) (now c.is_cancelled.new.desk) c.is_cancelled.new.desk.reader c.loop.invariant.prompt c.in-Bytes.ensures.begun moved.here.stands c.in-Bytes.ensures.read.reads s.link.wrote.reads;
      heeds = λ limits. heeds_more (language_for c.args.desk.now.attending.user (arc_value c.args.desk.now.shelf)) g.K.Link.begun g.K.Link.told g.C.Timestamps.told (g.K.Link.state c.args.link.now) (g.C.Timestamps.coming c.args.clock.now) c.args.desk.now.seat c.args.desk.now.users.seat (g.K.Link.state c.loop.link) (g.K.Link.state c.serve_piece.new.link) _ (g.C.Timestamps.coming c.loop.clock) (now c.is_cancelled.new.desk) c.is_cancelled.new.desk.reader (c.loop.invariant.heeds limits) c.in-Bytes.ensures.begun (λ b at saw users first. (moved.here.stands b at saw users first, moved.unended c.if-is_cancelled.false limits b at saw users first)) c.in-Bytes.ensures.read.reads s.link.wrote.reads;
      timely = timely;
      hung_up = s.hung_up ∙ c.in-Bytes.ensures.hung_up ∙ c.loop.invariant.hung_up;
      end = ((λ is. stop_no _ is refl), (λ ended. unheld _ going ended));
      all_read = λ t is. stop_no _ is refl;
      read_fault = λ is. stop_no _ is refl;
      no_read_fault = λ is. s.link.wrote.read_faults ∙ c.in-Bytes.ensures.read.no_fault (bytes_came _) ∙ c.loop.invariant.faults;
      write_fault = λ is. stop_no _ is refl;
      stopped = λ is. rose_behind _ _ _ c.loop.invariant.gate (s.stopped.cause (subst (λ (r : Result Progress Stopped). IsErr r) (sym c.in-Err.is) refl));
      unstopped = λ not. absurd (not refl);
      later = later_behind _ _ _ c.loop.invariant.gate s.stopped.later;
      spent = λ is. stop_no _ is refl;
      few = few_more _ _ _ _ _ _ c.loop.invariant.counted c.in-Bytes.ensures.read.reads s.link.wrote.reads c.loop-test.true;
      asked = are_entered_on g.G.Gate.asked g.G.Gate.asked_on c.args.desk.now.seat c.is_cancelled.new.desk.seat c.args.desk.now.users.seat c.is_cancelled.new.desk.users.seat c.args.gate.now c.loop.gate c.serve_piece.new.gate _ _ moved.here.entered moved.here.seat_is moved.here.users_are s.asked;
      noted = noted_more (arc_value c.args.desk.now.shelf) (telling g.K.Link.told g.C.Timestamps.told g.C.Timestamps.stamped) g.N.Notes.noted g.N.Notes.noted_on c.args.notes.now c.loop.notes c.serve_piece.new.notes (stood (g.K.Link.state c.args.link.now) (g.C.Timestamps.coming c.args.clock.now) c.args.desk.now.seat c.args.desk.now.users.seat c.args.desk.now.attending) (stood _ (g.C.Timestamps.coming c.loop.clock) c.is_cancelled.new.desk.seat c.is_cancelled.new.desk.users.seat c.is_cancelled.new.desk.attending) (stood (g.K.Link.state c.serve_piece.new.link) (g.C.Timestamps.coming c.serve_piece.new.clock) c.serve_piece.new.desk.seat c.serve_piece.new.desk.users.seat c.serve_piece.new.desk.attending) (noted_read (arc_value c.args.desk.now.shelf) (telling g.K.Link.told g.C.Timestamps.told g.C.Timestamps.stamped) (stood (g.K.Link.state c.args.link.now) (g.C.Timestamps.coming c.args.clock.now) c.args.desk.now.seat c.args.desk.now.users.seat c.args.desk.now.attending) (g.K.Link.state c.loop.link) _ (g.C.Timestamps.coming c.loop.clock) c.is_cancelled.new.desk.seat c.is_cancelled.new.desk.users.seat c.is_cancelled.new.desk.attending (g.N.Notes.noted c.args.notes.now c.loop.notes) _ _ noted_here c.in-Bytes.ensures.read) (noted_moved arc_value (telling g.K.Link.told g.C.Timestamps.told g.C.Timestamps.stamped) (stood _ (g.C.Timestamps.coming c.loop.clock) c.is_cancelled.new.desk.seat c.is_cancelled.new.desk.users.seat c.is_cancelled.new.desk.attending) (stood (g.K.Link.state c.serve_piece.new.link) (g.C.Timestamps.coming c.serve_piece.new.clock) c.serve_piece.new.desk.seat c.serve_piece.new.desk.users.seat c.serve_piece.new.desk.attending) (g.N.Notes.noted c.loop.notes c.serve_piece.new.notes) c.args.desk.now.shelf c.is_cancelled.new.desk.shelf (c.is_cancelled.ensures.shelf ∙ c.loop.invariant.shelf) c.serve_piece.ensures.noted);
      unattended = λ is. stop_no _ is refl;
      attended = λ endless is. stop_no _ is refl;
      alone = λ endless is. stop_no _ is refl;
      idle = λ is. stop_no _ is refl;
      endless = λ endless is. stop_no _ is refl;
      let_go = λ limits. let_go_behind (c.args.patience ≡ Limited) (language_for c.args.desk.now.attending.user (arc_value c.args.desk.now.shelf)) g.K.Link.begun g.K.Link.told g.C.Timestamps.told (g.K.Link.state c.args.link.now) (g.C.Timestamps.coming c.args.clock.now) c.args.desk.now.seat c.args.desk.now.users.seat (g.K.Link.state c.loop.link) (g.K.Link.state c.serve_piece.new.link) _ (g.C.Timestamps.coming c.loop.clock) (now c.is_cancelled.new.desk) c.is_cancelled.new.desk.reader c.in-Bytes.ensures.begun moved.here.stands c.in-Bytes.ensures.read.reads c.serve_piece.ensures.link.wrote.reads c.loop.counter c.loop.waited (λ limits nobody. c.is_over.ensures.lasts c.if-is_over.false limits (ap (λ (a : Attending). a.user) (sym c.is_cancelled.ensures.attending) ∙ nobody)) c.loop.invariant.waits limits;
      awake = λ limits. awake_behind (c.args.patience ≡ Limited) ((arc_value c.args.desk.now.shelf).idle) (language_for c.args.desk.now.attending.user (arc_value c.args.desk.now.shelf)) g.K.Link.begun g.K.Link.told g.C.Timestamps.told (g.K.Link.state c.args.link.now) (g.C.Timestamps.coming c.args.clock.now) c.args.desk.now.seat c.args.desk.now.users.seat (g.K.Link.state c.loop.link) (g.K.Link.state c.serve_piece.new.link) _ (g.C.Timestamps.coming c.loop.clock) (now c.is_cancelled.new.desk) c.is_cancelled.new.desk.reader c.in-Bytes.ensures.begun moved.here.stands c.in-Bytes.ensures.read.reads c.serve_piece.ensures.link.wrote.reads c.loop.counter c.loop.silent (subst (λ (i : IdleLimits). IsInTime i c.is_cancelled.new.desk.attending.user c.loop.silent) (c.idle-limits.ensures ∙ ap (λ (s : Contents). s.idle) c.deref.ensures) (subst (λ (a : Attending). IsInTime c.idle-limits.result a.user c.loop.silent) (sym c.is_cancelled.ensures.attending) (c.is_idle.ensures.awake c.if-is_idle.false limits))) idles_here;
    }

pub returns-in-End : goal.returns-in-End
returns-in-End g c =
    let moved = looked (language_for c.args.desk.now.attending.user (arc_value c.args.desk.now.shelf)) (telling g.K.Link.told g.C.Timestamps.told g.C.Timestamps.stamped) g.G.Gate.asked g.G.Gate.asked_on g.G.Gate.unasked (g.K.Link.state c.args.link.now) (g.K.Link.state c.loop.link) (g.C.Timestamps.coming c.args.clock.now) (g.C.Timestamps.coming c.loop.clock) c.args.desk.now.seat c.args.desk.now.users.seat c.args.gate.now c.loop.gate c.args.patience c.is_cancelled.result c.loop.desk.seat c.loop.desk.users.seat c.is_cancelled.new.desk.users.seat c.loop.desk.attending c.loop.desk.reader (record { seat_is = c.loop.invariant.seat; users_are = c.loop.invariant.users; stands = c.loop.invariant.stands; timely = c.loop.invariant.timely; entered = c.loop.invariant.asked }) c.is_cancelled.ensures.users c.is_cancelled.ensures.in_turn c.is_cancelled.ensures.heeded c.is_cancelled.new.desk.seat c.is_cancelled.new.desk.attending c.is_cancelled.new.desk.reader c.is_cancelled.ensures.seat c.is_cancelled.ensures.attending c.is_cancelled.ensures.reader in
    let idles_here = subst (λ (a : Attending). Idles (c.args.patience ≡ Limited) ((arc_value c.args.desk.now.shelf).idle) (language_for c.args.desk.now.attending.user (arc_value c.args.desk.now.shelf)) g.K.Link.begun g.K.Link.told g.C.Timestamps.told (g.K.Link.state c.args.link.now) (g.C.Timestamps.coming c.args.clock.now) c.args.desk.now.seat c.args.desk.now.users.seat (g.K.Link.state c.loop.link) a.user c.loop.counter c.loop.silent) (sym c.is_cancelled.ensures.attending) c.loop.invariant.idles in
    let noted_here = noted_beside (arc_value c.args.desk.now.shelf) (telling g.K.Link.told g.C.Timestamps.told g.C.Timestamps.stamped) (stood (g.K.Link.state c.args.link.now) (g.C.Timestamps.coming c.args.clock.now) c.args.desk.now.seat c.args.desk.now.users.seat c.args.desk.now.attending) (stood (g.K.Link.state c.loop.link) (g.C.Timestamps.coming c.loop.clock) c.loop.desk.seat c.loop.desk.users.seat c.loop.desk.attending) (stood (g.K.Link.state c.loop.link) (g.C.Timestamps.coming c.loop.clock) c.is_cancelled.new.desk.seat c.is_cancelled.new.desk.users.seat c.is_cancelled.new.desk.attending) (g.N.Notes.noted c.args.notes.now c.loop.notes) c.loop.invariant.noted (beside_look g.K.Link.told (g.K.Link.state c.loop.link) (g.C.Timestamps.coming c.loop.clock) c.args.patience c.is_cancelled.result c.loop.desk.seat c.is_cancelled.new.desk.seat c.loop.desk.users.seat c.is_cancelled.new.desk.users.seat c.loop.desk.attending c.is_cancelled.new.desk.attending c.is_cancelled.ensures.seat c.is_cancelled.ensures.users c.is_cancelled.ensures.heeded c.is_cancelled.ensures.attending) in
    let h = c.seen.ensures.history in
    let p = c.seen-2.ensures.history in
    let seat = c.args.desk.now.seat in
    let b : Beginning = record { opening = seat.opening; users = c.args.desk.now.users.seat.opening; place = seat.place; before = h.0; users_before = p.0; first = done_before seat c.args.desk.now.users.seat p.1.marks } in
    let stands = moved.here.stands b (refl, refl, refl, c.args.desk.now.same_place) h.1 p.1 (record { stamps_are = refl; users_stamps_are = refl; codes_are = p.1.codes_are }) in
    let timely : WasTimely (language_for c.args.desk.now.attending.user (arc_value c.args.desk.now.shelf)) (telling g.K.Link.told g.C.Timestamps.told g.C.Timestamps.stamped) (stamp_at (g.C.Timestamps.coming c.args.clock.now) (g.K.Link.state c.args.link.now) c.args.desk.now.seat c.args.desk.now.users.seat) (stamp_at (g.C.Timestamps.coming c.loop.clock) (g.K.Link.state c.read.new.self) c.is_cancelled.new.desk.seat c.is_cancelled.new.desk.users.seat) End = λ b at saw users first.
    let x = moved.here.stands b at saw users first in
    let f = reached (g.K.Link.state c.read.new.self).written c.is_cancelled.new.desk.seat.seen c.is_cancelled.new.desk.users.seat.seen in
    record {
      attending = c.is_cancelled.new.desk.attending;
      session = served_nothing _ _ _ _ _ _ _ _ _ _ _ _ _ x c.in-End.ensures.read refl;
      timely = timely_read (language_for c.args.desk.now.attending.user (arc_value c.args.desk.now.shelf)) (telling g.K.Link.told g.C.Timestamps.told g.C.Timestamps.stamped) (starting (g.K.Link.state c.args.link.now) (g.C.Timestamps.coming c.args.clock.now) b) (g.K.Link.state c.args.link.now) (g.K.Link.state c.loop.link) c.is_cancelled.new.desk.seat.seen c.is_cancelled.new.desk.users.seat.seen x.past.walk (moved.here.timely b at saw users first) f x.past.walk begins (g.K.Link.state c.read.new.self) _ _ c.in-End.ensures.read
          (timely_none (language_for c.args.desk.now.attending.user (arc_value c.args.desk.now.shelf)) (telling g.K.Link.told g.C.Timestamps.told g.C.Timestamps.stamped) (starting (g.K.Link.state c.args.link.now) (g.C.Timestamps.coming c.args.clock.now) b) (g.K.Link.state c.read.new.self) f x.past.walk refl) (goes_nowhere g.K.Link.told b f);
    } in
    let at_end = timely b (refl, refl, refl, c.args.desk.now.same_place) h.1 p.1 (record { stamps_are = refl; users_stamps_are = refl; codes_are = p.1.codes_are }) in
    record {
      shelf = (c.is_cancelled.ensures.shelf ∙ c.loop.invariant.shelf);
      hung_up = c.in-End.ensures.hung_up ∙ c.loop.invariant.hung_up;
      seat = moved.here.seat_is;
      users = moved.here.users_are;
      session = record { before = h.0; users_before = p.0; saw = h.1; users_saw = p.1; attending = at_end.attending; session = at_end.session };
      prompt = prompt_more (language_for c.args.desk.now.attending.user (arc_value c.args.desk.now.shelf)) g.K.Link.begun g.K.Link.told g.C.Timestamps.told (g.K.Link.state c.args.link.now) (g.C.Timestamps.coming c.args.clock.now) c.args.desk.now.seat c.args.desk.now.users.seat (g.K.Link.state c.loop.link) (g.K.Link.state c.read.new.self) _ (g.C.Timestamps.coming c.loop.clock) (now c.is_cancelled.new.desk) c.is_cancelled.new.desk.reader c.loop.invariant.prompt c.in-End.ensures.begun moved.here.stands c.in-End.ensures.read.reads refl;
      heeds = λ limits. heeds_more (language_for c.args.desk.now.attending.user (arc_value c.args.desk.now.shelf)) g.K.Link.begun g.K.Link.told g.C.Timestamps.told (g.K.Link.state c.args.link.now) (g.C.Timestamps.coming c.args.clock.now) c.args.desk.now.seat c.args.desk.now.users.seat (g.K.Link.state c.loop.link) (g.K.Link.state c.read.new.self) _ (g.C.Timestamps.coming c.loop.clock) (now c.is_cancelled.new.desk) c.is_cancelled.new.desk.reader (c.loop.invariant.heeds limits) c.in-End.ensures.begun (λ b at saw users first. (moved.here.stands b at saw users first, moved.unended c.if-is_cancelled.false limits b at saw users first)) c.in-End.ensures.read.reads refl;
      timely = timely;
      end = ((λ is. c.in-End.ensures.read.ended), (λ ended. refl));
      all_read = λ t is. c.in-End.ensures.read.end t refl;
      read_fault = λ is. end_no _ is refl;
      no_read_fault = λ is. c.in-End.ensures.read.no_fault end_came ∙ c.loop.invariant.faults;
      write_fault = λ is. end_no _ is refl;
      stopped = λ is. end_no _ is refl;
      unstopped = λ is. c.loop.invariant.gate;
      later = stayed _ _ c.loop.invariant.gate;
      spent = λ is. end_no _ is refl;
      few = few_more _ _ _ _ _ _ c.loop.invariant.counted c.in-End.ensures.read.reads refl c.loop-test.true;
      asked = moved.here.entered;
      noted = (noted_read (arc_value c.args.desk.now.shelf) (telling g.K.Link.told g.C.Timestamps.told g.C.Timestamps.stamped) (stood (g.K.Link.state c.args.link.now) (g.C.Timestamps.coming c.args.clock.now) c.args.desk.now.seat c.args.desk.now.users.seat c.args.desk.now.attending) (g.K.Link.state c.loop.link) _ (g.C.Timestamps.coming c.loop.clock) c.is_cancelled.new.desk.seat c.is_cancelled.new.desk.users.seat c.is_cancelled.new.desk.attending (g.N.Notes.noted c.args.notes.now c.loop.notes) _ _ noted_here c.in-End.ensures.read);
      unattended = λ is. end_no _ is refl;
      attended = λ endless is. end_no _ is refl;
      alone = λ endless is. end_no _ is refl;
      idle = λ is. end_no _ is refl;
      endless = λ endless is. end_no _ is refl;
      let_go = λ limits. let_go_behind (c.args.patience ≡ Limited) (language_for c.args.desk.now.attending.user (arc_value c.args.desk.now.shelf)) g.K.Link.begun g.K.Link.told g.C.Timestamps.told (g.K.Link.state c.args.link.now) (g.C.Timestamps.coming c.args.clock.now) c.args.desk.now.seat c.args.desk.now.users.seat (g.K.Link.state c.loop.link) (g.K.Link.state c.read.new.self) _ (g.C.Timestamps.coming c.loop.clock) (now c.is_cancelled.new.desk) c.is_cancelled.new.desk.reader c.in-End.ensures.begun moved.here.stands c.in-End.ensures.read.reads refl c.loop.counter c.loop.waited (λ limits nobody. c.is_over.ensures.lasts c.if-is_over.false limits (ap (λ (a : Attending). a.user) (sym c.is_cancelled.ensures.attending) ∙ nobody)) c.loop.invariant.waits limits;
      awake = λ limits. awake_behind (c.args.patience ≡ Limited) ((arc_value c.args.desk.now.shelf).idle) (language_for c.args.desk.now.attending.user (arc_value c.args.desk.now.shelf)) g.K.Link.begun g.K.Link.told g.C.Timestamps.told (g.K.Link.state c.args.link.now) (g.C.Timestamps.coming c.args.clock.now) c.args.desk.now.seat c.args.desk.now.users.seat (g.K.Link.state c.loop.link) (g.K.Link.state c.read.new.self) _ (g.C.Timestamps.coming c.loop.clock) (now c.is_cancelled.new.desk) c.is_cancelled.new.desk.reader c.in-End.ensures.begun moved.here.stands c.in-End.ensures.read.reads refl c.loop.counter c.loop.silent (subst (λ (i : IdleLimits). IsInTime i c.is_cancelled.new.desk.attending.user c.loop.silent) (c.idle-limits.ensures ∙ ap (λ (s : Contents). s.idle) c.deref.ensures) (subst (λ (a : Attending). IsInTime c.idle-limits.result a.user c.loop.silent) (sym c.is_cancelled.ensures.attending) (c.is_idle.ensures.awake c.if-is_idle.false limits))) idles_here;
    }

pub returns-in-Failed : goal.returns-in-Failed
returns-in-Failed g c =
    let moved = looked (language_for c.args.desk.now.attending.user (arc_value c.args.desk.now.shelf)) (telling g.K.Link.told g.C.Timestamps.told g.C.Timestamps.stamped) g.G.Gate.asked g.G.Gate.asked_on g.G.Gate.unasked (g.K.Link.state c.args.link.now) (g.K.Link.state c.loop.link) (g.C.Timestamps.coming c.args.clock.now) (g.C.Timestamps.coming c.loop.clock) c.args.desk.now.seat c.args.desk.now.users.seat c.args.gate.now c.loop.gate c.args.patience c.is_cancelled.result c.loop.desk.seat c.loop.desk.users.seat c.is_cancelled.new.desk.users.seat c.loop.desk.attending c.loop.desk.reader (record { seat_is = c.loop.invariant.seat; users_are = c.loop.invariant.users; stands = c.loop.invariant.stands; timely = c.loop.invariant.timely; entered = c.loop.invariant.asked }) c.is_cancelled.ensures.users c.is_cancelled.ensures.in_turn c.is_cancelled.ensures.heeded c.is_cancelled.new.desk.seat c.is_cancelled.new.desk.attending c.is_cancelled.new.desk.reader c.is_cancelled.ensures.seat c.is_cancelled.ensures.attending c.is_cancelled.ensures.reader in
    let idles_here = subst (λ (a : Attending). Idles (c.args.patience ≡ Limited) ((arc_value c.args.desk.now.shelf).idle) (language_for c.args.desk.now.attending.user (arc_value c.args.desk.now.shelf)) g.K.Link.begun g.K.Link.told g.C.Timestamps.told (g.K.Link.state c.args.link.now) (g.C.Timestamps.coming c.args.clock.now) c.args.desk.now.seat c.args.desk.now.users.seat (g.K.Link.state c.loop.link) a.user c.loop.counter c.loop.silent) (sym c.is_cancelled.ensures.attending) c.loop.invariant.idles in
    let noted_here = noted_beside (arc_value c.args.desk.now.shelf) (telling g.K.Link.told g.C.Timestamps.told g.C.Timestamps.stamped) (stood (g.K.Link.state c.args.link.now) (g.C.Timestamps.coming c.args.clock.now) c.args.desk.now.seat c.args.desk.now.users.seat c.args.desk.now.attending) (stood (g.K.Link.state c.loop.link) (g.C.Timestamps.coming c.loop.clock) c.loop.desk.seat c.loop.desk.users.seat c.loop.desk.attending) (stood (g.K.Link.state c.loop.link) (g.C.Timestamps.coming c.loop.clock) c.is_cancelled.new.desk.seat c.is_cancelled.new.desk.users.seat c.is_cancelled.new.desk.attending) (g.N.Notes.noted c.args.notes.now c.loop.notes) c.loop.invariant.noted (beside_look g.K.Link.told (g.K.Link.state c.loop.link) (g.C.Timestamps.coming c.loop.clock) c.args.patience c.is_cancelled.result c.loop.desk.seat c.is_cancelled.new.desk.seat c.loop.desk.users.seat c.is_cancelled.new.desk.users.seat c.loop.desk.attending c.is_cancelled.new.desk.attending c.is_cancelled.ensures.seat c.is_cancelled.ensures.users c.is_cancelled.ensures.heeded c.is_cancelled.ensures.attending) in
    let h = c.seen.ensures.history in
    let p = c.seen-2.ensures.history in
    let seat = c.args.desk.now.seat in
    let b : Beginning = record { opening = seat.opening; users = c.args.desk.now.users.seat.opening; place = seat.place; before = h.0; users_before = p.0; first = done_before seat c.args.desk.now.users.seat p.1.marks } in
    let stands = moved.here.stands b (refl, refl, refl, c.args.desk.now.same_place) h.1 p.1 (record { stamps_are = refl; users_stamps_are = refl; codes_are = p.1.codes_are }) in
    let timely : WasTimely (language_for c.args.desk.now.attending.user (arc_value c.args.desk.now.shelf)) (telling g.K.Link.told g.C.Timestamps.told g.C.Timestamps.stamped) (stamp_at (g.C.Timestamps.coming c.args.clock.now) (g.K.Link.state c.args.link.now) c.args.desk.now.seat c.args.desk.now.users.seat) (stamp_at (g.C.Timestamps.coming c.loop.clock) (g.K.Link.state c.read.new.self) c.is_cancelled.new.desk.seat c.is_cancelled.new.desk.users.seat) ReadFault = λ b at saw users first.
    let x = moved.here.stands b at saw users first in
    let f = reached (g.K.Link.state c.read.new.self).written c.is_cancelled.new.desk.seat.seen c.is_cancelled.new.desk.users.seat.seen in
    record {
      attending = c.is_cancelled.new.desk.attending;
      session = served_nothing _ _ _ _ _ _ _ _ _ _ _ _ _ x c.in-Failed.ensures.read refl;
      timely = timely_read (language_for c.args.desk.now.attending.user (arc_value c.args.desk.now.shelf)) (telling g.K.Link.told g.C.Timestamps.told g.C.Timestamps.stamped) (starting (g.K.Link.state c.args.link.now) (g.C.Timestamps.coming c.args.clock.now) b) (g.K.Link.state c.args.link.now) (g.K.Link.state c.loop.link) c.is_cancelled.new.desk.seat.seen c.is_cancelled.new.desk.users.seat.seen x.past.walk (moved.here.timely b at saw users first) f x.past.walk begins (g.K.Link.state c.read.new.self) _ _ c.in-Failed.ensures.read
          (timely_none (language_for c.args.desk.now.attending.user (arc_value c.args.desk.now.shelf)) (telling g.K.Link.told g.C.Timestamps.told g.C.Timestamps.stamped) (starting (g.K.Link.state c.args.link.now) (g.C.Timestamps.coming c.args.clock.now) b) (g.K.Link.state c.read.new.self) f x.past.walk refl) (goes_nowhere g.K.Link.told b f);
    } in
    let at_end = timely b (refl, refl, refl, c.args.desk.now.same_place) h.1 p.1 (record { stamps_are = refl; users_stamps_are = refl; codes_are = p.1.codes_are }) in
    record {
      shelf = (c.is_cancelled.ensures.shelf ∙ c.loop.invariant.shelf);
      hung_up = c.in-Failed.ensures.hung_up ∙ c.loop.invariant.hung_up;
      seat = moved.here.seat_is;
      users = moved.here.users_are;
      session = record { before = h.0; users_before = p.0; saw = h.1; users_saw = p.1; attending = at_end.attending; session = at_end.session };
      prompt = prompt_more (language_for c.args.desk.now.attending.user (arc_value c.args.desk.now.shelf)) g.K.Link.begun g.K.Link.told g.C.Timestamps.told (g.K.Link.state c.args.link.now) (g.C.Timestamps.coming c.args.clock.now) c.args.desk.now.seat c.args.desk.now.users.seat (g.K.Link.state c.loop.link) (g.K.Link.state c.read.new.self) _ (g.C.Timestamps.coming c.loop.clock) (now c.is_cancelled.new.desk) c.is_cancelled.new.desk.reader c.loop.invariant.prompt c.in-Failed.ensures.begun moved.here.stands c.in-Failed.ensures.read.reads refl;
      heeds = λ limits. heeds_more (language_for c.args.desk.now.attending.user (arc_value c.args.desk.now.shelf)) g.K.Link.begun g.K.Link.told g.C.Timestamps.told (g.K.Link.state c.args.link.now) (g.C.Timestamps.coming c.args.clock.now) c.args.desk.now.seat c.args.desk.now.users.seat (g.K.Link.state c.loop.link) (g.K.Link.state c.read.new.self) _ (g.C.Timestamps.coming c.loop.clock) (now c.is_cancelled.new.desk) c.is_cancelled.new.desk.reader (c.loop.invariant.heeds limits) c.in-Failed.ensures.begun (λ b at saw users first. (moved.here.stands b at saw users first, moved.unended c.if-is_cancelled.false limits b at saw users first)) c.in-Failed.ensures.read.reads refl;
      timely = timely;
      end = ((λ is. read_no _ is refl), (λ ended. unheld _ c.in-Failed.ensures.read.ended ended));
      all_read = λ t is. read_no _ is refl;
      read_fault = λ is. rose_later _ _ _ stands.exchanged.read_later (c.in-Failed.ensures.read.cause.cause refl);
      no_read_fault = λ not. absurd (not refl);
      write_fault = λ is. read_no _ is refl;
      stopped = λ is. read_no _ is refl;
      unstopped = λ is. c.loop.invariant.gate;
      later = stayed _ _ c.loop.invariant.gate;
      spent = λ is. read_no _ is refl;
      few = few_more _ _ _ _ _ _ c.loop.invariant.counted c.in-Failed.ensures.read.reads refl c.loop-test.true;
      asked = moved.here.entered;
      noted = (noted_read (arc_value c.args.desk.now.shelf) (telling g.K.Link.told g.C.Timestamps.told g.C.Timestamps.stamped) (stood (g.K.Link.state c.args.link.now) (g.C.Timestamps.coming c.args.clock.now) c.args.desk.now.seat c.args.desk.now.users.seat c.args.desk.now.attending) (g.K.Link.state c.loop.link) _ (g.C.Timestamps.coming c.loop.clock) c.is_cancelled.new.desk.seat c.is_cancelled.new.desk.users.seat c.is_cancelled.new.desk.attending (g.N.Notes.noted c.args.notes.now c.loop.notes) _ _ noted_here c.in-Failed.ensures.read);
      unattended = λ is. read_no _ is refl;
      attended = λ endless is. read_no _ is refl;
      alone = λ endless is. read_no _ is refl;
      idle = λ is. read_no _ is refl;
      endless = λ endless is. read_no _ is refl;
      let_go = λ limits. let_go_behind (c.args.patience ≡ Limited) (language_for c.args.desk.now.attending.user (arc_value c.args.desk.now.shelf)) g.K.Link.begun g.K.Link.told g.C.Timestamps.told (g.K.Link.state c.args.link.now) (g.C.Timestamps.coming c.args.clock.now) c.args.desk.now.seat c.args.desk.now.users.seat (g.K.Link.state c.loop.link) (g.K.Link.state c.read.new.self) _ (g.C.Timestamps.coming c.loop.clock) (now c.is_cancelled.new.desk) c.is_cancelled.new.desk.reader c.in-Failed.ensures.begun moved.here.stands c.in-Failed.ensures.read.reads refl c.loop.counter c.loop.waited (λ limits nobody. c.is_over.ensures.lasts c.if-is_over.false limits (ap (λ (a : Attending). a.user) (sym c.is_cancelled.ensures.attending) ∙ nobody)) c.loop.invariant.waits limits;
      awake = λ limits. awake_behind (c.args.patience ≡ Limited) ((arc_value c.args.desk.now.shelf).idle) (language_for c.args.desk.now.attending.user (arc_value c.args.desk.now.shelf)) g.K.Link.begun g.K.Link.told g.C.Timestamps.told (g.K.Link.state c.args.link.now) (g.C.Timestamps.coming c.args.clock.now) c.args.desk.now.seat c.args.desk.now.users.seat (g.K.Link.state c.loop.link) (g.K.Link.state c.read.new.self) _ (g.C.Timestamps.coming c.loop.clock) (now c.is_cancelled.new.desk) c.is_cancelled.new.desk.reader c.in-Failed.ensures.begun moved.here.stands c.in-Failed.ensures.read.reads refl c.loop.counter c.loop.silent (subst (λ (i : IdleLimits). IsInTime i c.is_cancelled.new.desk.attending.user c.loop.silent) (c.idle-limits.ensures ∙ ap (λ (s : Contents). s.idle) c.deref.ensures) (subst (λ (a : Attending). IsInTime c.idle-limits.result a.user c.loop.silent) (sym c.is_cancelled.ensures.attending) (c.is_idle.ensures.awake c.if-is_idle.false limits))) idles_here;
    }

pub returns-clause-session : goal.returns-clause-session
returns-clause-session g c =
    let h = c.seen.ensures.history in
    let p = c.seen-2.ensures.history in
    let seat = c.args.desk.now.seat in
    let b : Beginning = record { opening = seat.opening; users = c.args.desk.now.users.seat.opening; place = seat.place; before = h.0; users_before = p.0; first = done_before seat c.args.desk.now.users.seat p.1.marks } in
    record { before = h.0; users_before = p.0; saw = h.1; users_saw = p.1; attending = _; session = served_here _ _ _ _ _ _ _ _ _ _ (c.loop.invariant.stands b (refl, refl, refl, c.args.desk.now.same_place) h.1 p.1 (record { stamps_are = refl; users_stamps_are = refl; codes_are = p.1.codes_are })) }

pub loop-preserved : goal.loop-preserved
loop-preserved g c =
    let moved = looked (language_for c.args.desk.now.attending.user (arc_value c.args.desk.now.shelf)) (telling g.K.Link.told g.C.Timestamps.told g.C.Timestamps.stamped) g.G.Gate.asked g.G.Gate.asked_on g.G.Gate.unasked (g.K.Link.state c.args.link.now) (g.K.Link.state c.loop.link) (g.C.Timestamps.coming c.args.clock.now) (g.C.Timestamps.coming c.loop.clock) c.args.desk.now.seat c.args.desk.now.users.seat c.args.gate.now c.loop.gate c.args.patience c.is_cancelled.result c.loop.desk.seat c.loop.desk.users.seat c.is_cancelled.new.desk.users.seat c.loop.desk.attending c.loop.desk.reader (record { seat_is = c.loop.invariant.seat; users_are = c.loop.invariant.users; stands = c.loop.invariant.stands; timely = c.loop.invariant.timely; entered = c.loop.invariant.asked }) c.is_cancelled.ensures.users c.is_cancelled.ensures.in_turn c.is_cancelled.ensures.heeded c.is_cancelled.new.desk.seat c.is_cancelled.new.desk.attending c.is_cancelled.new.desk.reader c.is_cancelled.ensures.seat c.is_cancelled.ensures.attending c.is_cancelled.ensures.reader in
    let idles_here = subst (λ (a : Attending). Idles (c.args.patience ≡ Limited) ((arc_value c.args.desk.now.shelf).idle) (language_for c.args.desk.now.attending.user (arc_value c.args.desk.now.shelf)) g.K.Link.begun g.K.Link.told g.C.Timestamps.told (g.K.Link.state c.args.link.now) (g.C.Timestamps.coming c.args.clock.now) c.args.desk.now.seat c.args.desk.now.users.seat (g.K.Link.state c.loop.link) a.user c.loop.counter c.loop.silent) (sym c.is_cancelled.ensures.attending) c.loop.invariant.idles in
    let noted_here = noted_beside (arc_value c.args.desk.now.shelf) (telling g.K.Link.told g.C.Timestamps.told g.C.Timestamps.stamped) (stood (g.K.Link.state c.args.link.now) (g.C.Timestamps.coming c.args.clock.now) c.args.desk.now.seat c.args.desk.now.users.seat c.args.desk.now.attending) (stood (g.K.Link.state c.loop.link) (g.C.Timestamps.coming c.loop.clock) c.loop.desk.seat c.loop.desk.users.seat c.loop.desk.attending) (stood (g.K.Link.state c.loop.link) (g.C.Timestamps.coming c.loop.clock) c.is_cancelled.new.desk.seat c.is_cancelled.new.desk.users.seat c.is_cancelled.new.desk.attending) (g.N.Notes.noted c.args.notes.now c.loop.notes) c.loop.invariant.noted (beside_look g.K.Link.told (g.K.Link.state c.loop.link) (g.C.Timestamps.coming c.loop.clock) c.args.patience c.is_cancelled.result c.loop.desk.seat c.is_cancelled.new.desk.seat c.loop.desk.users.seat c.is_cancelled.new.desk.users.seat c.loop.desk.attending c.is_cancelled.new.desk.attending c.is_cancelled.ensures.seat c.is_cancelled.ensures.users c.is_cancelled.ensures.heeded c.is_cancelled.ensures.attending) in
    elim c.match-read.branch [
      | in-Bytes+in-Ok-On w ↦ rw (w.desk-is, w.link-is, w.clock-is, w.gate-is, w.notes-is) (record {
        shelf = w.serve_piece.ensures.shelf ∙ (c.is_cancelled.ensures.shelf ∙ c.loop.invariant.shelf);
        seat = (w.serve_piece.ensures.seat.0 ∙ moved.here.seat_is.0, w.serve_piece.ensures.seat.1 ∙ moved.here.seat_is.1, w.serve_piece.ensures.seat.2 ∙ moved.here.seat_is.2, w.serve_piece.ensures.seat.3 ∙ moved.here.seat_is.3);
        users = (w.serve_piece.ensures.users.0 ∙ moved.here.users_are.0, w.serve_piece.ensures.users.1 ∙ moved.here.users_are.1, w.serve_piece.ensures.users.2 ∙ moved.here.users_are.2, w.serve_piece.ensures.users.3 ∙ moved.here.users_are.3);
        stands = λ b at saw users first. (read_goes (telling g.K.Link.told g.C.Timestamps.told g.C.Timestamps.stamped) (desk_at (g.K.Link.state c.read.new.self) (g.C.Timestamps.coming c.loop.clock) c.is_cancelled.new.desk) (desk_at (g.K.Link.state w.serve_piece.new.link) (g.C.Timestamps.coming w.serve_piece.new.clock) w.serve_piece.new.desk) (to_read c.is_cancelled.new.desk.attending c.is_cancelled.new.desk.reader _) w.serve_piece.new.desk.reader [] w.serve_piece.result (arc_value c.args.desk.now.shelf) c.args.desk.now.seat c.args.desk.now.users.seat c.args.desk.now.attending.user (g.K.Link.state c.args.link.now) (g.K.Link.state c.loop.link) (g.C.Timestamps.coming c.args.clock.now)
            (ap arc_value (c.is_cancelled.ensures.shelf ∙ c.loop.invariant.shelf)) moved.here.seat_is moved.here.users_are w.serve_piece.ensures.goes _ _ w.in-Bytes.ensures.read (Ok On) (w.in-Ok-On.is ∙ ap (λ (p : Progress). Ok p) w.in-Ok-On.field-0-is) b at (moved.here.stands b at saw users first).past.walk (moved.here.timely b at saw users first)
            (went_to g.K.Link.told b _ (g.K.Link.state w.serve_piece.new.link) c.is_cancelled.new.desk.seat c.is_cancelled.new.desk.users.seat (moved.here.seat_is.0 ∙ at.0, moved.here.seat_is.1 ∙ at.1, moved.here.users_are.0 ∙ at.2, moved.here.users_are.1 ∙ at.3) w.serve_piece.ensures.link _ _ _ w.serve_piece.ensures.asked)
            (stands_piece _ _ _ _ _ _ _ _ _ _ _ _ _ _ (moved.here.stands b at saw users first) w.in-Bytes.ensures.read (grind (arith, common_steps))) begins).goes;
        prompt = prompt_more (language_for c.args.desk.now.attending.user (arc_value c.args.desk.now.shelf)) g.K.Link.begun g.K.Link.told g.C.Timestamps.told (g.K.Link.state c.args.link.now) (g.C.Timestamps.coming c.args.clock.now) c.args.desk.now.seat c.args.desk.now.users.seat (g.K.Link.state c.loop.link) (g.K.Link.state w.serve_piece.new.link) _ (g.C.Timestamps.coming c.loop.clock) (now c.is_cancelled.new.desk) c.is_cancelled.new.desk.reader c.loop.invariant.prompt w.in-Bytes.ensures.begun moved.here.stands w.in-Bytes.ensures.read.reads w.serve_piece.ensures.link.wrote.reads;
        heeds = λ limits. heeds_more (language_for c.args.desk.now.attending.user (arc_value c.args.desk.now.shelf)) g.K.Link.begun g.K.Link.told g.C.Timestamps.told (g.K.Link.state c.args.link.now) (g.C.Timestamps.coming c.args.clock.now) c.args.desk.now.seat c.args.desk.now.users.seat (g.K.Link.state c.loop.link) (g.K.Link.state w.serve_piece.new.link) _ (g.C.Timestamps.coming c.loop.clock) (now c.is_cancelled.new.desk) c.is_cancelled.new.desk.reader (c.loop.invariant.heeds limits) w.in-Bytes.ensures.begun (λ b at saw users first. (moved.here.stands b at saw users first, moved.unended c.if-is_cancelled.false limits b at saw users first)) w.in-Bytes.ensures.read.reads w.serve_piece.ensures.link.wrote.reads;
        timely = λ b at saw users first. (read_goes (telling g.K.Link.told g.C.Timestamps.told g.C.Timestamps.stamped) (desk_at (g.K.Link.state c.read.new.self) (g.C.Timestamps.coming c.loop.clock) c.is_cancelled.new.desk) (desk_at (g.K.Link.state w.serve_piece.new.link) (g.C.Timestamps.coming w.serve_piece.new.clock) w.serve_piece.new.desk) (to_read c.is_cancelled.new.desk.attending c.is_cancelled.new.desk.reader _) w.serve_piece.new.desk.reader [] w.serve_piece.result (arc_value c.args.desk.now.shelf) c.args.desk.now.seat c.args.desk.now.users.seat c.args.desk.now.attending.user (g.K.Link.state c.args.link.now) (g.K.Link.state c.loop.link) (g.C.Timestamps.coming c.args.clock.now)
            (ap arc_value (c.is_cancelled.ensures.shelf ∙ c.loop.invariant.shelf)) moved.here.seat_is moved.here.users_are w.serve_piece.ensures.goes _ _ w.in-Bytes.ensures.read (Ok On) (w.in-Ok-On.is ∙ ap (λ (p : Progress). Ok p) w.in-Ok-On.field-0-is) b at (moved.here.stands b at saw users first).past.walk (moved.here.timely b at saw users first)
            (went_to g.K.Link.told b _ (g.K.Link.state w.serve_piece.new.link) c.is_cancelled.new.desk.seat c.is_cancelled.new.desk.users.seat (moved.here.seat_is.0 ∙ at.0, moved.here.seat_is.1 ∙ at.1, moved.here.users_are.0 ∙ at.2, moved.here.users_are.1 ∙ at.3) w.serve_piece.ensures.link _ _ _ w.serve_piece.ensures.asked)
            (stands_piece _ _ _ _ _ _ _ _ _ _ _ _ _ _ (moved.here.stands b at saw users first) w.in-Bytes.ensures.read (grind (arith, common_steps))) begins).timely;
        gate = stayed_ok On w.serve_piece.result _ _ (w.in-Ok-On.is ∙ ap (λ (p : Progress). Ok p) w.in-Ok-On.field-0-is) w.serve_piece.ensures.stopped ∙ c.loop.invariant.gate;
        counted = rw w.serve_piece.ensures.link.wrote.reads (counted_more _ _ _ _ c.loop.invariant.counted w.in-Bytes.ensures.read.reads);
        faults = w.serve_piece.ensures.link.wrote.read_faults ∙ w.in-Bytes.ensures.read.no_fault (bytes_came _) ∙ c.loop.invariant.faults;
        not_ended = λ _. w.serve_piece.ensures.link.wrote.ended ∙ w.in-Bytes.ensures.read.ended;
        hung_up = w.serve_piece.ensures.hung_up ∙ w.in-Bytes.ensures.hung_up ∙ c.loop.invariant.hung_up;
        room = search rules;
        asked = are_entered_on g.G.Gate.asked g.G.Gate.asked_on c.args.desk.now.seat c.is_cancelled.new.desk.seat c.args.desk.now.users.seat c.is_cancelled.new.desk.users.seat c.args.gate.now c.loop.gate w.serve_piece.new.gate _ _ moved.here.entered moved.here.seat_is moved.here.users_are w.serve_piece.ensures.asked;
        noted = noted_more (arc_value c.args.desk.now.shelf) (telling g.K.Link.told g.C.Timestamps.told g.C.Timestamps.stamped) g.N.Notes.noted g.N.Notes.noted_on c.args.notes.now c.loop.notes w.serve_piece.new.notes (stood (g.K.Link.state c.args.link.now) (g.C.Timestamps.coming c.args.clock.now) c.args.desk.now.seat c.args.desk.now.users.seat c.args.desk.now.attending) (stood _ (g.C.Timestamps.coming c.loop.clock) c.is_cancelled.new.desk.seat c.is_cancelled.new.desk.users.seat c.is_cancelled.new.desk.attending) (stood (g.K.Link.state w.serve_piece.new.link) (g.C.Timestamps.coming w.serve_piece.new.clock) w.serve_piece.new.desk.seat w.serve_piece.new.desk.users.seat w.serve_piece.new.desk.attending) (noted_read (arc_value c.args.desk.now.shelf) (telling g.K.Link.told g.C.Timestamps.told g.C.Timestamps.stamped) (stood (g.K.Link.state c.args.link.now) (g.C.Timestamps.coming c.args.clock.now) c.args.desk.now.seat c.args.desk.now.users.seat c.args.desk.now.attending) (g.K.Link.state c.loop.link) _ (g.C.Timestamps.coming c.loop.clock) c.is_cancelled.new.desk.seat c.is_cancelled.new.desk.users.seat c.is_cancelled.new.desk.attending (g.N.Notes.noted c.args.notes.now c.loop.notes) _ _ noted_here w.in-Bytes.ensures.read) (noted_moved arc_value (telling g.K.Link.told g.C.Timestamps.told g.C.Timestamps.stamped) (stood _ (g.C.Timestamps.coming c.loop.clock) c.is_cancelled.new.desk.seat c.is_cancelled.new.desk.users.seat c.is_cancelled.new.desk.attending) (stood (g.K.Link.state w.serve_piece.new.link) (g.C.Timestamps.coming w.serve_piece.new.clock) w.serve_piece.new.desk.seat w.serve_piece.new.desk.users.seat w.serve_piece.new.desk.attending) (g.N.Notes.noted c.loop.notes w.serve_piece.new.notes) c.args.desk.now.shelf c.is_cancelled.new.desk.shelf (c.is_cancelled.ensures.shelf ∙ c.loop.invariant.shelf) w.serve_piece.ensures.noted);
        vacant = λ limits none. absurd (omega (arith, none));
        waits = waits_more (c.args.patience ≡ Limited) (language_for c.args.desk.now.attending.user (arc_value c.args.desk.now.shelf)) g.K.Link.begun g.K.Link.told g.C.Timestamps.told (g.K.Link.state c.args.link.now) (g.C.Timestamps.coming c.args.clock.now) c.args.desk.now.seat c.args.desk.now.users.seat (g.K.Link.state c.loop.link) (g.K.Link.state w.serve_piece.new.link) _ (g.C.Timestamps.coming c.loop.clock) (now c.is_cancelled.new.desk) c.is_cancelled.new.desk.reader w.in-Bytes.ensures.begun moved.here.stands w.in-Bytes.ensures.read.reads w.serve_piece.ensures.link.wrote.reads c.loop.counter c.loop.waited 1 c.waited_after-waited.result (c.waited_after-waited.ensures ∙ ap (λ (n : ℕ). waited_after c.is_cancelled.new.desk.attending.user c.loop.waited n) w.read-is) (λ limits nobody. c.is_over.ensures.lasts c.if-is_over.false limits (ap (λ (a : Attending). a.user) (sym c.is_cancelled.ensures.attending) ∙ nobody)) (omega arith) (omega arith) c.loop.invariant.waits;
        idles = idles_heard (c.args.patience ≡ Limited) ((arc_value c.args.desk.now.shelf).idle) (language_for c.args.desk.now.attending.user (arc_value c.args.desk.now.shelf)) g.K.Link.begun g.K.Link.told g.C.Timestamps.told (g.K.Link.state c.args.link.now) (g.C.Timestamps.coming c.args.clock.now) c.args.desk.now.seat c.args.desk.now.users.seat (g.K.Link.state c.loop.link) (g.K.Link.state w.serve_piece.new.link) _ (g.C.Timestamps.coming c.loop.clock) (now c.is_cancelled.new.desk) c.is_cancelled.new.desk.reader w.in-Bytes.ensures.begun moved.here.stands w.in-Bytes.ensures.read.reads w.serve_piece.ensures.link.wrote.reads w.serve_piece.new.desk.attending.user c.loop.counter c.loop.silent c.silent_after-silent.result (λ t. byte_came _ _ _ _ w.in-Bytes.ensures.read.fits (w.in-Bytes.ensures.read.left t)) (c.silent_after-silent.ensures ∙ ap (λ (n : ℕ). silent_after c.loop.silent n) w.read-is) (λ limits. subst (λ (i : IdleLimits). IsInTime i c.is_cancelled.new.desk.attending.user c.loop.silent) (c.idle-limits.ensures ∙ ap (λ (s : Contents). s.idle) c.deref.ensures) (subst (λ (a : Attending). IsInTime c.idle-limits.result a.user c.loop.silent) (sym c.is_cancelled.ensures.attending) (c.is_idle.ensures.awake c.if-is_idle.false limits))) idles_here;
      })
      | in-Quiet+in-On w ↦ rw (w.desk-is, w.link-is, w.clock-is, w.gate-is, w.notes-is) (record {
        shelf = w.report.ensures.shelf ∙ (c.is_cancelled.ensures.shelf ∙ c.loop.invariant.shelf);
        seat = (w.report.ensures.seat.0 ∙ moved.here.seat_is.0, w.report.ensures.seat.1 ∙ moved.here.seat_is.1, w.report.ensures.seat.2 ∙ moved.here.seat_is.2, w.report.ensures.seat.3 ∙ moved.here.seat_is.3);
        users = (ap (λ (u : UserDesk g.row.U.Denot). u.seat.opening) w.report.ensures.users ∙ moved.here.users_are.0, ap (λ (u : UserDesk g.row.U.Denot). u.seat.place) w.report.ensures.users ∙ moved.here.users_are.1, ap (λ (u : UserDesk g.row.U.Denot). u.seat.places) w.report.ensures.users ∙ moved.here.users_are.2, ap (λ (u : UserDesk g.row.U.Denot). u.seat.turnstile) w.report.ensures.users ∙ moved.here.users_are.3);
        stands = λ b at saw users first. (read_goes (telling g.K.Link.told g.C.Timestamps.told g.C.Timestamps.stamped) (desk_at (g.K.Link.state c.read.new.self) (g.C.Timestamps.coming c.loop.clock) c.is_cancelled.new.desk) (desk_at (g.K.Link.state w.report.new.link) (g.C.Timestamps.coming w.report.new.clock) w.report.new.desk) (to_report c.is_cancelled.new.desk.attending c.is_cancelled.new.desk.reader []) w.report.new.desk.reader [] (Ok w.report.result) (arc_value c.args.desk.now.shelf) c.args.desk.now.seat c.args.desk.now.users.seat c.args.desk.now.attending.user (g.K.Link.state c.args.link.now) (g.K.Link.state c.loop.link) (g.C.Timestamps.coming c.args.clock.now)
            (ap arc_value (c.is_cancelled.ensures.shelf ∙ c.loop.invariant.shelf)) moved.here.seat_is moved.here.users_are (subst (λ (r : Reader). GoesTo (telling g.K.Link.told g.C.Timestamps.told g.C.Timestamps.stamped) (desk_at (g.K.Link.state c.read.new.self) (g.C.Timestamps.coming c.loop.clock) c.is_cancelled.new.desk) (desk_at (g.K.Link.state w.report.new.link) (g.C.Timestamps.coming w.report.new.clock) w.report.new.desk) (to_report c.is_cancelled.new.desk.attending c.is_cancelled.new.desk.reader []) r [] (Ok w.report.result)) (sym w.report.ensures.reader) (w.report.ensures.goes c.is_cancelled.new.desk.reader [])) _ _ w.in-Quiet.ensures.read (Ok On) (ap (λ (p : Progress). Ok p) w.in-On.is) b at (moved.here.stands b at saw users first).past.walk (moved.here.timely b at saw users first)
            (looked_to g.K.Link.told b _ (g.K.Link.state w.report.new.link) c.is_cancelled.new.desk.seat c.is_cancelled.new.desk.users.seat (moved.here.seat_is.0 ∙ at.0, moved.here.seat_is.1 ∙ at.1, moved.here.users_are.0 ∙ at.2, moved.here.users_are.1 ∙ at.3) w.report.ensures.link _ _ (ap (λ (u : UserDesk g.row.U.Denot). u.seat.seen) w.report.ensures.users) w.report.ensures.entered)
            (stands_quiet _ _ _ _ _ _ _ _ _ _ _ _ (moved.here.stands b at saw users first) w.in-Quiet.ensures.read) (waits _ (moved.here.stands b at saw users first).past.looked begins)).goes;
        prompt = prompt_more (language_for c.args.desk.now.attending.user (arc_value c.args.desk.now.shelf)) g.K.Link.begun g.K.Link.told g.C.Timestamps.told (g.K.Link.state c.args.link.now) (g.C.Timestamps.coming c.args.clock.now) c.args.desk.now.seat c.args.desk.now.users.seat (g.K.Link.state c.loop.link) (g.K.Link.state w.report.new.link) _ (g.C.Timestamps.coming c.loop.clock) (now c.is_cancelled.new.desk) c.is_cancelled.new.desk.reader c.loop.invariant.prompt w.in-Quiet.ensures.begun moved.here.stands w.in-Quiet.ensures.read.reads w.report.ensures.link.wrote.reads;
        heeds = λ limits. heeds_more (language_for c.args.desk.now.attending.user (arc_value c.args.desk.now.shelf)) g.K.Link.begun g.K.Link.told g.C.Timestamps.told (g.K.Link.state c.args.link.now) (g.C.Timestamps.coming c.args.clock.now) c.args.desk.now.seat c.args.desk.now.users.seat (g.K.Link.state c.loop.link) (g.K.Link.state w.report.new.link) _ (g.C.Timestamps.coming c.loop.clock) (now c.is_cancelled.new.desk) c.is_cancelled.new.desk.reader (c.loop.invariant.heeds limits) w.in-Quiet.ensures.begun (λ b at saw users first. (moved.here.stands b at saw users first, moved.unended c.if-is_cancelled.false limits b at saw users first)) w.in-Quiet.ensures.read.reads w.report.ensures.link.wrote.reads;
        timely = λ b at saw users first. (read_goes (telling g.K.Link.told g.C.Timestamps.told g.C.Timestamps.stamped) (desk_at (g.K.Link.state c.read.new.self) (g.C.Timestamps.coming c.loop.clock) c.is_cancelled.new.desk) (desk_at (g.K.Link.state w.report.new.link) (g.C.Timestamps.coming w.report.new.clock) w.report.new.desk) (to_report c.is_cancelled.new.desk.attending c.is_cancelled.new.desk.reader []) w.report.new.desk.reader [] (Ok w.report.result) (arc_value c.args.desk.now.shelf) c.args.desk.now.seat c.args.desk.now.users.seat c.args.desk.now.attending.user (g.K.Link.state c.args.link.now) (g.K.Link.state c.loop.link) (g.C.Timestamps.coming c.args.clock.now)
            (ap arc_value (c.is_cancelled.ensures.shelf ∙ c.loop.invariant.shelf)) moved.here.seat_is moved.here.users_are (subst (λ (r : Reader). GoesTo (telling g.K.Link.told g.C.Timestamps.told g.C.Timestamps.stamped) (desk_at (g.K.Link.state c.read.new.self) (g.C.Timestamps.coming c.loop.clock) c.is_cancelled.new.desk) (desk_at (g.K.Link.state w.report.new.link) (g.C.Timestamps.coming w.report.new.clock) w.report.new.desk) (to_report c.is_cancelled.new.desk.attending c.is_cancelled.new.desk.reader []) r [] (Ok w.report.result)) (sym w.report.ensures.reader) (w.report.ensures.goes c.is_cancelled.new.desk.reader [])) _ _ w.in-Quiet.ensures.read (Ok On) (ap (λ (p : Progress). Ok p) w.in-On.is) b at (moved.here.stands b at saw users first).past.walk (moved.here.timely b at saw users first)
            (looked_to g.K.Link.told b _ (g.K.Link.state w.report.new.link) c.is_cancelled.new.desk.seat c.is_cancelled.new.desk.users.seat (moved.here.seat_is.0 ∙ at.0, moved.here.seat_is.1 ∙ at.1, moved.here.users_are.0 ∙ at.2, moved.here.users_are.1 ∙ at.3) w.report.ensures.link _ _ (ap (λ (u : UserDesk g.row.U.Denot). u.seat.seen) w.report.ensures.users) w.report.ensures.entered)
            (stands_quiet _ _ _ _ _ _ _ _ _ _ _ _ (moved.here.stands b at saw users first) w.in-Quiet.ensures.read) (waits _ (moved.here.stands b at saw users first).past.looked begins)).timely;
        gate = c.loop.invariant.gate;
        counted = rw w.report.ensures.link.wrote.reads (counted_more _ _ _ _ c.loop.invariant.counted w.in-Quiet.ensures.read.reads);
        faults = w.report.ensures.link.wrote.read_faults ∙ w.in-Quiet.ensures.read.no_fault quiet_came ∙ c.loop.invariant.faults;
        not_ended = λ _. w.report.ensures.link.wrote.ended ∙ w.in-Quiet.ensures.read.ended;
        hung_up = w.report.ensures.hung_up ∙ w.in-Quiet.ensures.hung_up ∙ c.loop.invariant.hung_up;
        room = search rules;
        asked = are_entered_beside g.G.Gate.asked g.G.Gate.asked_on g.G.Gate.unasked c.args.desk.now.seat c.is_cancelled.new.desk.seat c.args.desk.now.users.seat c.args.gate.now c.loop.gate _ _ _ _ moved.here.entered refl moved.here.seat_is (ap (λ (u : UserDesk g.row.U.Denot). u.seat.seen) w.report.ensures.users) w.report.ensures.entered;
        noted = noted_beside (arc_value c.args.desk.now.shelf) (telling g.K.Link.told g.C.Timestamps.told g.C.Timestamps.stamped) (stood (g.K.Link.state c.args.link.now) (g.C.Timestamps.coming c.args.clock.now) c.args.desk.now.seat c.args.desk.now.users.seat c.args.desk.now.attending) (stood _ (g.C.Timestamps.coming c.loop.clock) c.is_cancelled.new.desk.seat c.is_cancelled.new.desk.users.seat c.is_cancelled.new.desk.attending) (stood (g.K.Link.state w.report.new.link) (g.C.Timestamps.coming w.report.new.clock) w.report.new.desk.seat w.report.new.desk.users.seat w.report.new.desk.attending) (g.N.Notes.noted c.args.notes.now c.loop.notes) (noted_read (arc_value c.args.desk.now.shelf) (telling g.K.Link.told g.C.Timestamps.told g.C.Timestamps.stamped) (stood (g.K.Link.state c.args.link.now) (g.C.Timestamps.coming c.args.clock.now) c.args.desk.now.seat c.args.desk.now.users.seat c.args.desk.now.attending) (g.K.Link.state c.loop.link) _ (g.C.Timestamps.coming c.loop.clock) c.is_cancelled.new.desk.seat c.is_cancelled.new.desk.users.seat c.is_cancelled.new.desk.attending (g.N.Notes.noted c.args.notes.now c.loop.notes) _ _ noted_here w.in-Quiet.ensures.read) (beside_reports g.K.Link.told (stood _ (g.C.Timestamps.coming c.loop.clock) c.is_cancelled.new.desk.seat c.is_cancelled.new.desk.users.seat c.is_cancelled.new.desk.attending) (stood (g.K.Link.state w.report.new.link) (g.C.Timestamps.coming w.report.new.clock) w.report.new.desk.seat w.report.new.desk.users.seat w.report.new.desk.attending) w.report.ensures.link w.report.ensures.seat (ap (λ (u : UserDesk g.row.U.Denot). u.seat) w.report.ensures.users) w.report.ensures.looked w.report.ensures.user);
        vacant = λ limits none. absurd (omega (arith, none));
        waits = waits_more (c.args.patience ≡ Limited) (language_for c.args.desk.now.attending.user (arc_value c.args.desk.now.shelf)) g.K.Link.begun g.K.Link.told g.C.Timestamps.told (g.K.Link.state c.args.link.now) (g.C.Timestamps.coming c.args.clock.now) c.args.desk.now.seat c.args.desk.now.users.seat (g.K.Link.state c.loop.link) (g.K.Link.state w.report.new.link) _ (g.C.Timestamps.coming c.loop.clock) (now c.is_cancelled.new.desk) c.is_cancelled.new.desk.reader w.in-Quiet.ensures.begun moved.here.stands w.in-Quiet.ensures.read.reads w.report.ensures.link.wrote.reads c.loop.counter c.loop.waited 16 c.waited_after-waited.result (c.waited_after-waited.ensures ∙ ap (λ (n : ℕ). waited_after c.is_cancelled.new.desk.attending.user c.loop.waited n) w.read-is) (λ limits nobody. c.is_over.ensures.lasts c.if-is_over.false limits (ap (λ (a : Attending). a.user) (sym c.is_cancelled.ensures.attending) ∙ nobody)) (omega arith) (omega arith) c.loop.invariant.waits;
        idles = idles_silent (c.args.patience ≡ Limited) ((arc_value c.args.desk.now.shelf).idle) (language_for c.args.desk.now.attending.user (arc_value c.args.desk.now.shelf)) g.K.Link.begun g.K.Link.told g.C.Timestamps.told (g.K.Link.state c.args.link.now) (g.C.Timestamps.coming c.args.clock.now) c.args.desk.now.seat c.args.desk.now.users.seat (g.K.Link.state c.loop.link) (g.K.Link.state w.report.new.link) _ (g.C.Timestamps.coming c.loop.clock) (now c.is_cancelled.new.desk) c.is_cancelled.new.desk.reader w.in-Quiet.ensures.begun moved.here.stands w.in-Quiet.ensures.read.reads w.report.ensures.link.wrote.reads w.report.new.desk.attending.user c.loop.counter c.loop.silent c.silent_after-silent.result w.report.ensures.user (λ t. w.in-Quiet.ensures.read.left t ∙ ap (λ (items : List Item). quiet ∷ items) (sym (w.report.ensures.link.wrote.left t))) (c.silent_after-silent.ensures ∙ ap (λ (n : ℕ). silent_after c.loop.silent n) w.read-is) (λ limits. subst (λ (i : IdleLimits). IsInTime i c.is_cancelled.new.desk.attending.user c.loop.silent) (c.idle-limits.ensures ∙ ap (λ (s : Contents). s.idle) c.deref.ensures) (subst (λ (a : Attending). IsInTime c.idle-limits.result a.user c.loop.silent) (sym c.is_cancelled.ensures.attending) (c.is_idle.ensures.awake c.if-is_idle.false limits))) idles_here;
      })
    ]

pub returns-in-Cut : goal.returns-in-Cut
returns-in-Cut g c =
    let moved = looked (language_for c.args.desk.now.attending.user (arc_value c.args.desk.now.shelf)) (telling g.K.Link.told g.C.Timestamps.told g.C.Timestamps.stamped) g.G.Gate.asked g.G.Gate.asked_on g.G.Gate.unasked (g.K.Link.state c.args.link.now) (g.K.Link.state c.loop.link) (g.C.Timestamps.coming c.args.clock.now) (g.C.Timestamps.coming c.loop.clock) c.args.desk.now.seat c.args.desk.now.users.seat c.args.gate.now c.loop.gate c.args.patience c.is_cancelled.result c.loop.desk.seat c.loop.desk.users.seat c.is_cancelled.new.desk.users.seat c.loop.desk.attending c.loop.desk.reader (record { seat_is = c.loop.invariant.seat; users_are = c.loop.invariant.users; stands = c.loop.invariant.stands; timely = c.loop.invariant.timely; entered = c.loop.invariant.asked }) c.is_cancelled.ensures.users c.is_cancelled.ensures.in_turn c.is_cancelled.ensures.heeded c.is_cancelled.new.desk.seat c.is_cancelled.new.desk.attending c.is_cancelled.new.desk.reader c.is_cancelled.ensures.seat c.is_cancelled.ensures.attending c.is_cancelled.ensures.reader in
    let idles_here = subst (λ (a : Attending). Idles (c.args.patience ≡ Limited) ((arc_value c.args.desk.now.shelf).idle) (language_for c.args.desk.now.attending.user (arc_value c.args.desk.now.shelf)) g.K.Link.begun g.K.Link.told g.C.Timestamps.told (g.K.Link.state c.args.link.now) (g.C.Timestamps.coming c.args.clock.now) c.args.desk.now.seat c.args.desk.now.users.seat (g.K.Link.state c.loop.link) a.user c.loop.counter c.loop.silent) (sym c.is_cancelled.ensures.attending) c.loop.invariant.idles in
    let noted_here = noted_beside (arc_value c.args.desk.now.shelf) (telling g.K.Link.told g.C.Timestamps.told g.C.Timestamps.stamped) (stood (g.K.Link.state c.args.link.now) (g.C.Timestamps.coming c.args.clock.now) c.args.desk.now.seat c.args.desk.now.users.seat c.args.desk.now.attending) (stood (g.K.Link.state c.loop.link) (g.C.Timestamps.coming c.loop.clock) c.loop.desk.seat c.loop.desk.users.seat c.loop.desk.attending) (stood (g.K.Link.state c.loop.link) (g.C.Timestamps.coming c.loop.clock) c.is_cancelled.new.desk.seat c.is_cancelled.new.desk.users.seat c.is_cancelled.new.desk.attending) (g.N.Notes.noted c.args.notes.now c.loop.notes) c.loop.invariant.noted (beside_look g.K.Link.told (g.K.Link.state c.loop.link) (g.C.Timestamps.coming c.loop.clock) c.args.patience c.is_cancelled.result c.loop.desk.seat c.is_cancelled.new.desk.seat c.loop.desk.users.seat c.is_cancelled.new.desk.users.seat c.loop.desk.attending c.is_cancelled.new.desk.attending c.is_cancelled.ensures.seat c.is_cancelled.ensures.users c.is_cancelled.ensures.heeded c.is_cancelled.ensures.attending) in
    let h = c.seen.ensures.history in
    let p = c.seen-2.ensures.history in
    let seat = c.args.desk.now.seat in
    let b : Beginning = record { opening = seat.opening; users = c.args.desk.now.users.seat.opening; place = seat.place; before = h.0; users_before = p.0; first = done_before seat c.args.desk.now.users.seat p.1.marks } in
    let cut : ◌≡◌ {A = Result Progress Stopped} (Ok c.report.result) (Ok Cut) = ap (λ (p : Progress). Ok p) c.in-Cut.is in
    let going : (g.K.Link.state c.report.new.link).ended ≡ false = c.report.ensures.link.wrote.ended ∙ c.in-Quiet.ensures.read.ended in
    let timely : WasTimely (language_for c.args.desk.now.attending.user (arc_value c.args.desk.now.shelf)) (telling g.K.Link.told g.C.Timestamps.told g.C.Timestamps.stamped) (stamp_at (g.C.Timestamps.coming c.args.clock.now) (g.K.Link.state c.args.link.now) c.args.desk.now.seat c.args.desk.now.users.seat) (stamp_at (g.C.Timestamps.coming c.report.new.clock) (g.K.Link.state c.report.new.link) c.report.new.desk.seat c.report.new.desk.users.seat) WriteFault = λ b at saw users first.
    let x = read_goes (telling g.K.Link.told g.C.Timestamps.told g.C.Timestamps.stamped) (desk_at (g.K.Link.state c.read.new.self) (g.C.Timestamps.coming c.loop.clock) c.is_cancelled.new.desk) (desk_at (g.K.Link.state c.report.new.link) (g.C.Timestamps.coming c.report.new.clock) c.report.new.desk) (to_report c.is_cancelled.new.desk.attending c.is_cancelled.new.desk.reader []) c.is_cancelled.new.desk.reader [] (Ok c.report.result) (arc_value c.args.desk.now.shelf) c.args.desk.now.seat c.args.desk.now.users.seat c.args.desk.now.attending.user (g.K.Link.state c.args.link.now) (g.K.Link.state c.loop.link) (g.C.Timestamps.coming c.args.clock.now)
    (ap arc_value (c.is_cancelled.ensures.shelf ∙ c.loop.invariant.shelf)) moved.here.seat_is moved.here.users_are (c.report.ensures.goes c.is_cancelled.new.desk.reader []) _ _ c.in-Quiet.ensures.read (Ok Cut) cut b at (moved.here.stands b at saw users first).past.walk (moved.here.timely b at saw users first)
    (looked_to g.K.Link.told b _ (g.K.Link.state c.report.new.link) c.is_cancelled.new.desk.seat c.is_cancelled.new.desk.users.seat (moved.here.seat_is.0 ∙ at.0, moved.here.seat_is.1 ∙ at.1, moved.here.users_are.0 ∙ at.2, moved.here.users_are.1 ∙ at.3) c.report.ensures.link _ _ (ap (λ (u : UserDesk g.row.U.Denot). u.seat.seen) c.report.ensures.users) c.report.ensures.entered)
    (stands_quiet _ _ _ _ _ _ _ _ _ _ _ _ (moved.here.stands b at saw users first) c.in-Quiet.ensures.read) (waits _ (moved.here.stands b at saw users first).past.looked begins) in
    record { attending = _; session = x.goes; timely = x.timely } in
    let at_end = timely b (refl, refl, refl, c.args.desk.now.same_place) h.1 p.1 (record { stamps_are = refl; users_stamps_are = refl; codes_are = p.1.codes_are }) in
    record {
      shelf = c.report.ensures.shelf ∙ (c.is_cancelled.ensures.shelf ∙ c.loop.invariant.shelf);
      seat = (c.report.ensures.seat.0 ∙ moved.here.seat_is.0, c.report.ensures.seat.1 ∙ moved.here.seat_is.1, c.report.ensures.seat.2 ∙ moved.here.seat_is.2, c.report.ensures.seat.3 ∙ moved.here.seat_is.3);
      users = (ap (λ (u : UserDesk g.row.U.Denot). u.seat.opening) c.report.ensures.users ∙ moved.here.users_are.0, ap (λ (u : UserDesk g.row.U.Denot). u.seat.place) c.report.ensures.users ∙ moved.here.users_are.1, ap (λ (u : UserDesk g.row.U.Denot). u.seat.places) c.report.ensures.users ∙ moved.here.users_are.2, ap (λ (u : UserDesk g.row.U.Denot). u.seat.turnstile) c.report.ensures.users ∙ moved.here.users_are.3);
      hung_up = c.report.ensures.hung_up ∙ c.in-Quiet.ensures.hung_up ∙ c.loop.invariant.hung_up;
      session = record { before = h.0; users_before = p.0; saw = h.1; users_saw = p.1; attending = at_end.attending; session = at_end.session };
      prompt = prompt_more (language_for c.args.desk.now.attending.user (arc_value c.args.desk.now.shelf)) g.K.Link.begun g.K.Link.told g.C.Timestamps.told (g.K.Link.state c.args.link.now) (g.C.Timestamps.coming c.args.clock.now) c.args.desk.now.seat c.args.desk.now.users.seat (g.K.Link.state c.loop.link) (g.K.Link.state c.report.new.link) _ (g.C.Timestamps.coming c.loop.clock) (now c.is_cancelled.new.desk) c.is_cancelled.new.desk.reader c.loop.invariant.prompt c.in-Quiet.ensures.begun moved.here.stands c.in-Quiet.ensures.read.reads c.report.ensures.link.wrote.reads;
      heeds = λ limits. heeds_more (language_for c.args.desk.now.attending.user (arc_value c.args.desk.now.shelf)) g.K.Link.begun g.K.Link.told g.C.Timestamps.told (g.K.Link.state c.args.link.now) (g.C.Timestamps.coming c.args.clock.now) c.args.desk.now.seat c.args.desk.now.users.seat (g.K.Link.state c.loop.link) (g.K.Link.state c.report.new.link) _ (g.C.Timestamps.coming c.loop.clock) (now c.is_cancelled.new.desk) c.is_cancelled.new.desk.reader (c.loop.invariant.heeds limits) c.in-Quiet.ensures.begun (λ b at saw users first. (moved.here.stands b at saw users first, moved.unended c.if-is_cancelled.false limits b at saw users first)) c.in-Quiet.ensures.read.reads c.report.ensures.link.wrote.reads;
      timely = timely;
      end = ((λ is. write_no _ is refl), (λ ended. unheld _ going ended));
      all_read = λ t is. write_no _ is refl;
      read_fault = λ is. write_no _ is refl;
      no_read_fault = λ is. c.report.ensures.link.wrote.read_faults ∙ c.in-Quiet.ensures.read.no_fault quiet_came ∙ c.loop.invariant.faults;
      write_fault = λ is. at_end.session.rose;
      stopped = λ is. write_no _ is refl;
      unstopped = λ is. c.loop.invariant.gate;
      later = stayed _ _ c.loop.invariant.gate;
      spent = λ is. write_no _ is refl;
      few = few_more _ _ _ _ _ _ c.loop.invariant.counted c.in-Quiet.ensures.read.reads c.report.ensures.link.wrote.reads c.loop-test.true;
      asked = are_entered_beside g.G.Gate.asked g.G.Gate.asked_on g.G.Gate.unasked c.args.desk.now.seat c.is_cancelled.new.desk.seat c.args.desk.now.users.seat c.args.gate.now c.loop.gate _ _ _ _ moved.here.entered refl moved.here.seat_is (ap (λ (u : UserDesk g.row.U.Denot). u.seat.seen) c.report.ensures.users) c.report.ensures.entered;
      noted = noted_beside (arc_value c.args.desk.now.shelf) (telling g.K.Link.told g.C.Timestamps.told g.C.Timestamps.stamped) (stood (g.K.Link.state c.args.link.now) (g.C.Timestamps.coming c.args.clock.now) c.args.desk.now.seat c.args.desk.now.users.seat c.args.desk.now.attending) (stood _ (g.C.Timestamps.coming c.loop.clock) c.is_cancelled.new.desk.seat c.is_cancelled.new.desk.users.seat c.is_cancelled.new.desk.attending) (stood (g.K.Link.state c.report.new.link) (g.C.Timestamps.coming c.report.new.clock) c.report.new.desk.seat c.report.new.desk.users.seat c.report.new.desk.attending) (g.N.Notes.noted c.args.notes.now c.loop.notes) (noted_read (arc_value c.args.desk.now.shelf) (telling g.K.Link.told g.C.Timestamps.told g.C.Timestamps.stamped) (stood (g.K.Link.state c.args.link.now) (g.C.Timestamps.coming c.args.clock.now) c.args.desk.now.seat c.args.desk.now.users.seat c.args.desk.now.attending) (g.K.Link.state c.loop.link) _ (g.C.Timestamps.coming c.loop.clock) c.is_cancelled.new.desk.seat c.is_cancelled.new.desk.users.seat c.is_cancelled.new.desk.attending (g.N.Notes.noted c.args.notes.now c.loop.notes) _ _ noted_here c.in-Quiet.ensures.read) (beside_reports g.K.Link.told (stood _ (g.C.Timestamps.coming c.loop.clock) c.is_cancelled.new.desk.seat c.is_cancelled.new.desk.users.seat c.is_cancelled.new.desk.attending) (stood (g.K.Link.state c.report.new.link) (g.C.Timestamps.coming c.report.new.clock) c.report.new.desk.seat c.report.new.desk.users.seat c.report.new.desk.attending) c.report.ensures.link c.report.ensures.seat (ap (λ (u : UserDesk g.row.U.Denot). u.seat) c.report.ensures.users) c.report.ensures.looked c.report.ensures.user);
      unattended = λ is. write_no _ is refl;
      attended = λ endless is. write_no _ is refl;
      alone = λ endless is. write_no _ is refl;
      idle = λ is. write_no _ is refl;
      endless = λ endless is. write_no _ is refl;
      let_go = λ limits. let_go_behind (c.args.patience ≡ Limited) (language_for c.args.desk.now.attending.user (arc_value c.args.desk.now.shelf)) g.K.Link.begun g.K.Link.told g.C.Timestamps.told (g.K.Link.state c.args.link.now) (g.C.Timestamps.coming c.args.clock.now) c.args.desk.now.seat c.args.desk.now.users.seat (g.K.Link.state c.loop.link) (g.K.Link.state c.report.new.link) _ (g.C.Timestamps.coming c.loop.clock) (now c.is_cancelled.new.desk) c.is_cancelled.new.desk.reader c.in-Quiet.ensures.begun moved.here.stands c.in-Quiet.ensures.read.reads c.report.ensures.link.wrote.reads c.loop.counter c.loop.waited (λ limits nobody. c.is_over.ensures.lasts c.if-is_over.false limits (ap (λ (a : Attending). a.user) (sym c.is_cancelled.ensures.attending) ∙ nobody)) c.loop.invariant.waits limits;
      awake = λ limits. awake_behind (c.args.patience ≡ Limited) ((arc_value c.args.desk.now.shelf).idle) (language_for c.args.desk.now.attending.user (arc_value c.args.desk.now.shelf)) g.K.Link.begun g.K.Link.told g.C.Timestamps.told (g.K.Link.state c.args.link.now) (g.C.Timestamps.coming c.args.clock.now) c.args.desk.now.seat c.args.desk.now.users.seat (g.K.Link.state c.loop.link) (g.K.Link.state c.report.new.link) _ (g.C.Timestamps.coming c.loop.clock) (now c.is_cancelled.new.desk) c.is_cancelled.new.desk.reader c.in-Quiet.ensures.begun moved.here.stands c.in-Quiet.ensures.read.reads c.report.ensures.link.wrote.reads c.loop.counter c.loop.silent (subst (λ (i : IdleLimits). IsInTime i c.is_cancelled.new.desk.attending.user c.loop.silent) (c.idle-limits.ensures ∙ ap (λ (s : Contents). s.idle) c.deref.ensures) (subst (λ (a : Attending). IsInTime c.idle-limits.result a.user c.loop.silent) (sym c.is_cancelled.ensures.attending) (c.is_idle.ensures.awake c.if-is_idle.false limits))) idles_here;
    }

pub returns-clause-noted : goal.returns-clause-noted
returns-clause-noted g c = c.loop.invariant.noted

pub returns-clause-asked : goal.returns-clause-asked
returns-clause-asked g c = c.loop.invariant.asked

pub returns-clause-no_read_fault : goal.returns-clause-no_read_fault
returns-clause-no_read_fault g c = λ is. c.loop.invariant.faults

pub returns-clause-prompt : goal.returns-clause-prompt
returns-clause-prompt g c = c.loop.invariant.prompt

pub returns-clause-timely : goal.returns-clause-timely
returns-clause-timely g c = λ b at saw users first. record { attending = c.loop.desk.attending; session = served_here _ _ _ _ _ _ _ _ _ _ (c.loop.invariant.stands b at saw users first); timely = c.loop.invariant.timely b at saw users first }

pub returns-then-is_over : goal.returns-then-is_over
returns-then-is_over g c =
    let h = c.seen.ensures.history in
    let p = c.seen-2.ensures.history in
    let seat = c.args.desk.now.seat in
    let b : Beginning = record { opening = seat.opening; users = c.args.desk.now.users.seat.opening; place = seat.place; before = h.0; users_before = p.0; first = done_before seat c.args.desk.now.users.seat p.1.marks } in
    let i = c.loop.invariant in
    let over = c.is_over.ensures.over c.if-is_over.true in
    record {
      shelf = i.shelf;
      hung_up = i.hung_up;
      seat = i.seat;
      users = i.users;
      session = record { before = h.0; users_before = p.0; saw = h.1; users_saw = p.1; attending = c.loop.desk.attending; session = record { served = served_here _ _ _ _ _ _ _ _ _ _ (i.stands b (refl, refl, refl, c.args.desk.now.same_place) h.1 p.1 (record { stamps_are = refl; users_stamps_are = refl; codes_are = p.1.codes_are })); nobody = over.1 } };
      prompt = i.prompt;
      timely = λ b at saw users first. record { attending = c.loop.desk.attending; session = record { served = served_here _ _ _ _ _ _ _ _ _ _ (i.stands b at saw users first); nobody = over.1 }; timely = i.timely b at saw users first };
      end = ((λ is. unattended_no _ is refl), (λ ended. unheld _ (i.not_ended (some_made c.loop.counter c.loop.waited over.2 i.waits.few)) ended));
      all_read = λ t is. unattended_no _ is refl;
      read_fault = λ is. unattended_no _ is refl;
      no_read_fault = λ is. i.faults;
      write_fault = λ is. unattended_no _ is refl;
      stopped = λ is. unattended_no _ is refl;
      unstopped = λ is. i.gate;
      later = stayed _ _ i.gate;
      spent = λ is. unattended_no _ is refl;
      few = few_here _ _ _ _ i.counted c.loop-test.true;
      asked = i.asked;
      noted = i.noted;
      unattended = λ is. unattended_at (c.args.patience ≡ Limited) (language_for c.args.desk.now.attending.user (arc_value c.args.desk.now.shelf)) g.K.Link.begun g.K.Link.told g.C.Timestamps.told (g.K.Link.state c.args.link.now) (g.C.Timestamps.coming c.args.clock.now) c.args.desk.now.seat c.args.desk.now.users.seat (g.K.Link.state c.loop.link) c.loop.counter c.loop.waited i.counted over.2 i.waits;
      attended = λ endless is. both_no (sym over.0 ∙ endless);
      idle = λ is. unattended_no _ is refl;
      endless = λ endless is. unattended_no _ is refl;
      awake = i.idles.awake;
      let_go = λ limits. let_go_here (c.args.patience ≡ Limited) (language_for c.args.desk.now.attending.user (arc_value c.args.desk.now.shelf)) g.K.Link.begun g.K.Link.told g.C.Timestamps.told (g.K.Link.state c.args.link.now) (g.C.Timestamps.coming c.args.clock.now) c.args.desk.now.seat c.args.desk.now.users.seat (g.K.Link.state c.loop.link) c.loop.counter c.loop.waited i.waits limits;
      heeds = i.heeds;
      alone = λ endless is. unattended_no _ is refl;
    }

pub returns-then-is_idle : goal.returns-then-is_idle
returns-then-is_idle g c =
    let h = c.seen.ensures.history in
    let p = c.seen-2.ensures.history in
    let seat = c.args.desk.now.seat in
    let b : Beginning = record { opening = seat.opening; users = c.args.desk.now.users.seat.opening; place = seat.place; before = h.0; users_before = p.0; first = done_before seat c.args.desk.now.users.seat p.1.marks } in
    let i = c.loop.invariant in
    let idle = c.is_idle.ensures.idle c.if-is_idle.true in
    let long = subst (λ (l : IdleLimits). IsTooLong l c.loop.desk.attending.user c.loop.silent) (c.idle-limits.ensures ∙ ap (λ (s : Contents). s.idle) c.deref.ensures) idle.1 in
    record {
      shelf = i.shelf;
      hung_up = i.hung_up;
      seat = i.seat;
      users = i.users;
      session = record { before = h.0; users_before = p.0; saw = h.1; users_saw = p.1; attending = c.loop.desk.attending; session = served_here _ _ _ _ _ _ _ _ _ _ (i.stands b (refl, refl, refl, c.args.desk.now.same_place) h.1 p.1 (record { stamps_are = refl; users_stamps_are = refl; codes_are = p.1.codes_are })) };
      prompt = i.prompt;
      timely = λ b at saw users first. record { attending = c.loop.desk.attending; session = served_here _ _ _ _ _ _ _ _ _ _ (i.stands b at saw users first); timely = i.timely b at saw users first };
      end = ((λ is. idle_no _ is refl), (λ ended. unheld _ (i.not_ended (some_silent ((arc_value c.args.desk.now.shelf).idle) c.loop.desk.attending.user c.loop.counter c.loop.silent long i.idles.few)) ended));
      all_read = λ t is. idle_no _ is refl;
      read_fault = λ is. idle_no _ is refl;
      no_read_fault = λ is. i.faults;
      write_fault = λ is. idle_no _ is refl;
      stopped = λ is. idle_no _ is refl;
      unstopped = λ is. i.gate;
      later = stayed _ _ i.gate;
      spent = λ is. idle_no _ is refl;
      few = few_here _ _ _ _ i.counted c.loop-test.true;
      asked = i.asked;
      noted = i.noted;
      unattended = λ is. idle_no _ is refl;
      attended = λ endless is. idle_no _ is refl;
      idle = λ is. idle_at (c.args.patience ≡ Limited) ((arc_value c.args.desk.now.shelf).idle) (language_for c.args.desk.now.attending.user (arc_value c.args.desk.now.shelf)) g.K.Link.begun g.K.Link.told g.C.Timestamps.told (g.K.Link.state c.args.link.now) (g.C.Timestamps.coming c.args.clock.now) c.args.desk.now.seat c.args.desk.now.users.seat (g.K.Link.state c.loop.link) c.loop.desk.attending.user c.loop.counter c.loop.silent long i.idles;
      awake = i.idles.awake;
      endless = λ endless is. both_no (sym idle.0 ∙ endless);
      let_go = λ limits. let_go_here (c.args.patience ≡ Limited) (language_for c.args.desk.now.attending.user (arc_value c.args.desk.now.shelf)) g.K.Link.begun g.K.Link.told g.C.Timestamps.told (g.K.Link.state c.args.link.now) (g.C.Timestamps.coming c.args.clock.now) c.args.desk.now.seat c.args.desk.now.users.seat (g.K.Link.state c.loop.link) c.loop.counter c.loop.waited i.waits limits;
      heeds = i.heeds;
      alone = λ endless is. idle_no _ is refl;
    }

pub returns-clause-unattended : goal.returns-clause-unattended
returns-clause-unattended g c = λ is. spent_no _ is refl

pub returns-clause-attended : goal.returns-clause-attended
returns-clause-attended g c = λ endless is. spent_no _ is refl

pub returns-clause-let_go : goal.returns-clause-let_go
returns-clause-let_go g c = λ limits. let_go_here (c.args.patience ≡ Limited) (language_for c.args.desk.now.attending.user (arc_value c.args.desk.now.shelf)) g.K.Link.begun g.K.Link.told g.C.Timestamps.told (g.K.Link.state c.args.link.now) (g.C.Timestamps.coming c.args.clock.now) c.args.desk.now.seat c.args.desk.now.users.seat (g.K.Link.state c.loop.link) c.loop.counter c.loop.waited c.loop.invariant.waits limits

pub returns-clause-idle : goal.returns-clause-idle
returns-clause-idle g c = λ is. spent_no _ is refl

pub returns-clause-endless : goal.returns-clause-endless
returns-clause-endless g c = λ endless is. spent_no _ is refl

pub returns-clause-awake : goal.returns-clause-awake
returns-clause-awake g c = c.loop.invariant.idles.awake

pub returns-then-is_cancelled : goal.returns-then-is_cancelled
returns-then-is_cancelled g c =
    let h = c.seen.ensures.history in
    let p = c.seen-2.ensures.history in
    let seat = c.args.desk.now.seat in
    let b : Beginning = record { opening = seat.opening; users = c.args.desk.now.users.seat.opening; place = seat.place; before = h.0; users_before = p.0; first = done_before seat c.args.desk.now.users.seat p.1.marks } in
    let i = c.loop.invariant in
    let moved = looked (language_for c.args.desk.now.attending.user (arc_value c.args.desk.now.shelf)) (telling g.K.Link.told g.C.Timestamps.told g.C.Timestamps.stamped) g.G.Gate.asked g.G.Gate.asked_on g.G.Gate.unasked (g.K.Link.state c.args.link.now) (g.K.Link.state c.loop.link) (g.C.Timestamps.coming c.args.clock.now) (g.C.Timestamps.coming c.loop.clock) c.args.desk.now.seat c.args.desk.now.users.seat c.args.gate.now c.loop.gate c.args.patience c.is_cancelled.result c.loop.desk.seat c.loop.desk.users.seat c.is_cancelled.new.desk.users.seat c.loop.desk.attending c.loop.desk.reader (record { seat_is = c.loop.invariant.seat; users_are = c.loop.invariant.users; stands = c.loop.invariant.stands; timely = c.loop.invariant.timely; entered = c.loop.invariant.asked }) c.is_cancelled.ensures.users c.is_cancelled.ensures.in_turn c.is_cancelled.ensures.heeded c.is_cancelled.new.desk.seat c.is_cancelled.new.desk.attending c.is_cancelled.new.desk.reader c.is_cancelled.ensures.seat c.is_cancelled.ensures.attending c.is_cancelled.ensures.reader in
    let noted_here = noted_beside (arc_value c.args.desk.now.shelf) (telling g.K.Link.told g.C.Timestamps.told g.C.Timestamps.stamped) (stood (g.K.Link.state c.args.link.now) (g.C.Timestamps.coming c.args.clock.now) c.args.desk.now.seat c.args.desk.now.users.seat c.args.desk.now.attending) (stood (g.K.Link.state c.loop.link) (g.C.Timestamps.coming c.loop.clock) c.loop.desk.seat c.loop.desk.users.seat c.loop.desk.attending) (stood (g.K.Link.state c.loop.link) (g.C.Timestamps.coming c.loop.clock) c.is_cancelled.new.desk.seat c.is_cancelled.new.desk.users.seat c.is_cancelled.new.desk.attending) (g.N.Notes.noted c.args.notes.now c.loop.notes) c.loop.invariant.noted (beside_look g.K.Link.told (g.K.Link.state c.loop.link) (g.C.Timestamps.coming c.loop.clock) c.args.patience c.is_cancelled.result c.loop.desk.seat c.is_cancelled.new.desk.seat c.loop.desk.users.seat c.is_cancelled.new.desk.users.seat c.loop.desk.attending c.is_cancelled.new.desk.attending c.is_cancelled.ensures.seat c.is_cancelled.ensures.users c.is_cancelled.ensures.heeded c.is_cancelled.ensures.attending) in
    record {
      shelf = c.is_cancelled.ensures.shelf ∙ i.shelf;
      hung_up = i.hung_up;
      seat = moved.here.seat_is;
      users = moved.here.users_are;
      session = record { before = h.0; users_before = p.0; saw = h.1; users_saw = p.1; attending = c.is_cancelled.new.desk.attending; session = record { served = served_here _ _ _ _ _ _ _ _ _ _ (moved.here.stands b (refl, refl, refl, c.args.desk.now.same_place) h.1 p.1 (record { stamps_are = refl; users_stamps_are = refl; codes_are = p.1.codes_are })); ended = moved.ended c.if-is_cancelled.true b (refl, refl, refl, c.args.desk.now.same_place) h.1 p.1 (record { stamps_are = refl; users_stamps_are = refl; codes_are = p.1.codes_are }) } };
      prompt = i.prompt;
      timely = λ b at saw users first. record { attending = c.is_cancelled.new.desk.attending; session = record { served = served_here _ _ _ _ _ _ _ _ _ _ (moved.here.stands b at saw users first); ended = moved.ended c.if-is_cancelled.true b at saw users first }; timely = moved.here.timely b at saw users first };
      end = ((λ is. cancelled_no _ is refl), (λ ended. unheld _ (made_one c.loop.counter (λ none. somebody_ended b.place c.is_cancelled.new.desk.attending.user _ (moved.ended c.if-is_cancelled.true b (refl, refl, refl, c.args.desk.now.same_place) h.1 p.1 (record { stamps_are = refl; users_stamps_are = refl; codes_are = p.1.codes_are })) (ap (λ (a : Attending). a.user) c.is_cancelled.ensures.attending ∙ i.vacant (c.is_cancelled.ensures.limited c.if-is_cancelled.true) none)) i.not_ended) ended));
      all_read = λ t is. cancelled_no _ is refl;
      read_fault = λ is. cancelled_no _ is refl;
      no_read_fault = λ is. i.faults;
      write_fault = λ is. cancelled_no _ is refl;
      stopped = λ is. cancelled_no _ is refl;
      unstopped = λ is. i.gate;
      later = stayed _ _ i.gate;
      spent = λ is. cancelled_no _ is refl;
      few = few_here _ _ _ _ i.counted c.loop-test.true;
      asked = moved.here.entered;
      noted = noted_here;
      unattended = λ is. cancelled_no _ is refl;
      attended = λ endless is. cancelled_no _ is refl;
      alone = λ endless is. both_no (sym (c.is_cancelled.ensures.limited c.if-is_cancelled.true) ∙ endless);
      heeds = i.heeds;
      idle = λ is. cancelled_no _ is refl;
      endless = λ endless is. cancelled_no _ is refl;
      awake = i.idles.awake;
      let_go = λ limits. let_go_here (c.args.patience ≡ Limited) (language_for c.args.desk.now.attending.user (arc_value c.args.desk.now.shelf)) g.K.Link.begun g.K.Link.told g.C.Timestamps.told (g.K.Link.state c.args.link.now) (g.C.Timestamps.coming c.args.clock.now) c.args.desk.now.seat c.args.desk.now.users.seat (g.K.Link.state c.loop.link) c.loop.counter c.loop.waited i.waits limits;
    }

pub returns-clause-heeds : goal.returns-clause-heeds
returns-clause-heeds g c = c.loop.invariant.heeds

pub returns-clause-alone : goal.returns-clause-alone
returns-clause-alone g c = λ endless is. spent_no _ is refl

use Rattle.std.proofs.Common.{◌≡◌, ◌+◌, false, ℕ, List, [], drop, length, length-drop, Result, Ok, ap, refl, sym, ◌∙◌, arith, subst}
use Rattle.std.specs.Prelude.{IsErr}
use Rattle.std.proofs.lemmas.List.{drop_all, take_rest}
use Rattle.std.specs.Arc.{arc_value}
use Rattle.dxc_causes.specs.Stops.{RoseOnlyFor}
use Rattle.dxc_outside.specs.declared.stopped.Stopped.{Stopped}
use Rattle.tl1_text.specs.Reading.{Reader}
use Rattle.craft_session.specs.declared.end.Progress.{Progress}
use Rattle.craft_session.specs.declared.end.Progress.TheVariants.{On, Cut}
use Rattle.craft_session.specs.Desks.{now}
use Rattle.craft_session.specs.Meanings.{language_for}
use Rattle.craft_session.specs.Noted.{stood}
use Rattle.craft_session.specs.Gathered.{GoesInTime, desk_at}
use Rattle.craft_session.specs.Runs.{begins}
use Rattle.craft_session.specs.Sessions.{IsAt}
use Rattle.craft_session.specs.Timely.{in_hand, starting, telling}
use Rattle.craft_session.proofs.Ends.{by_stop, is_stop, no_stop, rose_after, stayed_ok}
use Rattle.craft_session.proofs.Gated.{are_entered_none, are_entered_on}
use Rattle.craft_session.proofs.Noted.{noted_more, noted_moved, noted_none}
use Rattle.craft_session.proofs.SessionSteps.{stands_on, writes_none, writes_more}
use Rattle.craft_session.proofs.Timely.{goes_then, moved_goes, timely_none, went_to}
use Rattle.craft_session.proofs.session.serve_units.Goals as goal

pub loop-at-init : goal.loop-at-init
loop-at-init g c = record { hung_up = refl; shelf = refl; seat = (refl, refl, refl, refl); users = (refl, refl, refl, refl); link = writes_none _ _; gate = refl; within = omega arith; asked = are_entered_none c.args.desk.now.seat c.args.desk.now.users.seat (g.G.Gate.asked c.args.gate.now c.args.gate.now) (g.G.Gate.unasked c.args.gate.now); noted = noted_none (arc_value c.args.desk.now.shelf) (telling g.K.Link.told g.C.Timestamps.told g.C.Timestamps.stamped) (stood (g.K.Link.state c.args.link.now) (g.C.Timestamps.coming c.args.clock.now) c.args.desk.now.seat c.args.desk.now.users.seat c.args.desk.now.attending) (g.N.Notes.noted c.args.notes.now c.args.notes.now) (g.N.Notes.unnoted c.args.notes.now); goes = λ user k c1 b at s. record { goes = s; ran_on = begins; timely = timely_none (language_for user (arc_value c.args.desk.now.shelf)) (telling g.K.Link.told g.C.Timestamps.told g.C.Timestamps.stamped) (starting k c1 b) (g.K.Link.state c.args.link.now) _ s.past.walk refl } }

pub loop-at-preserved : goal.loop-at-preserved
loop-at-preserved g c =
    let piece : List ℕ = c.args.piece.now in
    let offer = take_rest piece c.loop-at.at in
    let on : c.serve_unit.result ≡ Ok On = c.in_ok-serve_unit.was ∙ ap (λ (p : Progress). Ok p) c.in-On.is in
    record {
      shelf = c.serve_unit.ensures.shelf ∙ c.loop-at.invariant.shelf;
      seat = (c.serve_unit.ensures.seat.0 ∙ c.loop-at.invariant.seat.0, c.serve_unit.ensures.seat.1 ∙ c.loop-at.invariant.seat.1, c.serve_unit.ensures.seat.2 ∙ c.loop-at.invariant.seat.2, c.serve_unit.ensures.seat.3 ∙ c.loop-at.invariant.seat.3);
      users = (c.serve_unit.ensures.users.0 ∙ c.loop-at.invariant.users.0, c.serve_unit.ensures.users.1 ∙ c.loop-at.invariant.users.1, c.serve_unit.ensures.users.2 ∙ c.loop-at.invariant.users.2, c.serve_unit.ensures.users.3 ∙ c.loop-at.invariant.users.3);
      link = writes_more _ _ _ _ c.loop-at.invariant.link c.serve_unit.ensures.link;
      hung_up = c.serve_unit.ensures.hung_up ∙ c.loop-at.invariant.hung_up;
      gate = stayed_ok On c.serve_unit.result _ _ on c.serve_unit.ensures.stopped ∙ c.loop-at.invariant.gate;
      within = omega (arith, c.feed-fed.ensures.within, ap length offer, length-drop c.loop-at.at piece, c.loop-at.invariant.within);
      asked = are_entered_on g.G.Gate.asked g.G.Gate.asked_on c.args.desk.now.seat c.loop-at.desk.seat c.args.desk.now.users.seat c.loop-at.desk.users.seat c.args.gate.now c.loop-at.gate c.serve_unit.new.gate _ _ c.loop-at.invariant.asked c.loop-at.invariant.seat c.loop-at.invariant.users c.serve_unit.ensures.asked;
      noted = noted_more (arc_value c.args.desk.now.shelf) (telling g.K.Link.told g.C.Timestamps.told g.C.Timestamps.stamped) g.N.Notes.noted g.N.Notes.noted_on c.args.notes.now c.loop-at.notes c.serve_unit.new.notes (stood (g.K.Link.state c.args.link.now) (g.C.Timestamps.coming c.args.clock.now) c.args.desk.now.seat c.args.desk.now.users.seat c.args.desk.now.attending) (stood (g.K.Link.state c.loop-at.link) (g.C.Timestamps.coming c.loop-at.clock) c.loop-at.desk.seat c.loop-at.desk.users.seat c.loop-at.desk.attending) (stood (g.K.Link.state c.serve_unit.new.link) (g.C.Timestamps.coming c.serve_unit.new.clock) c.serve_unit.new.desk.seat c.serve_unit.new.desk.users.seat c.serve_unit.new.desk.attending) c.loop-at.invariant.noted
          (noted_moved arc_value (telling g.K.Link.told g.C.Timestamps.told g.C.Timestamps.stamped) (stood (g.K.Link.state c.loop-at.link) (g.C.Timestamps.coming c.loop-at.clock) c.loop-at.desk.seat c.loop-at.desk.users.seat c.loop-at.desk.attending) (stood (g.K.Link.state c.serve_unit.new.link) (g.C.Timestamps.coming c.serve_unit.new.clock) c.serve_unit.new.desk.seat c.serve_unit.new.desk.users.seat c.serve_unit.new.desk.attending) (g.N.Notes.noted c.loop-at.notes c.serve_unit.new.notes) c.args.desk.now.shelf c.loop-at.desk.shelf c.loop-at.invariant.shelf c.serve_unit.ensures.noted);
      goes = λ user k c1 b at s.
          let l = language_for user (arc_value c.args.desk.now.shelf) in
          let t = telling g.K.Link.told g.C.Timestamps.told g.C.Timestamps.stamped in
          let old = desk_at (g.K.Link.state c.args.link.now) (g.C.Timestamps.coming c.args.clock.now) c.args.desk.now in
          let mid = record (desk_at (g.K.Link.state c.loop-at.link) (g.C.Timestamps.coming c.loop-at.clock) c.loop-at.desk) { reader = c.feed-fed.new.self } in
          let new = desk_at (g.K.Link.state c.serve_unit.new.link) (g.C.Timestamps.coming c.serve_unit.new.clock) c.serve_unit.new.desk in
          let rest = drop (c.loop-at.at + c.feed-fed.result.taken) c.args.piece.now in
          let at_mid : IsAt b c.loop-at.desk.seat c.loop-at.desk.users.seat = (c.loop-at.invariant.seat.0 ∙ at.0, c.loop-at.invariant.seat.1 ∙ at.1, c.loop-at.invariant.users.0 ∙ at.2, c.loop-at.invariant.users.1 ∙ at.3) in
          let so = c.loop-at.invariant.goes user k c1 b at s in
          let fed = stands_on l g.K.Link.told g.C.Timestamps.told k c1 b (g.K.Link.state c.loop-at.link) (g.C.Timestamps.coming c.loop-at.clock) (now c.loop-at.desk) c.loop-at.desk.reader c.args.piece.now _ c.loop-at.at c.feed-fed.result c.feed-fed.new.self so.goes (take_rest c.args.piece.now c.loop-at.at) c.feed-fed.ensures.fed in
          let next = moved_goes t mid new (in_hand c.loop-at.desk.attending false c.feed-fed.result.unit c.feed-fed.new.self rest) c.feed-fed.new.self rest c.serve_unit.result (arc_value c.args.desk.now.shelf) c.args.desk.now.seat c.args.desk.now.users.seat (ap arc_value c.loop-at.invariant.shelf) c.loop-at.invariant.seat c.loop-at.invariant.users (c.serve_unit.ensures.goes rest) user k c1 b at fed in
          let on_then = goes_then t old mid new l (starting k c1 b) s.past.walk so.goes.past.walk c.serve_unit.result c.feed-fed.new.self rest so.ran_on so.timely next
          (went_to g.K.Link.told b (g.K.Link.state c.loop-at.link) (g.K.Link.state c.serve_unit.new.link) c.loop-at.desk.seat c.loop-at.desk.users.seat at_mid c.serve_unit.ensures.link _ _ _ c.serve_unit.ensures.asked) in
          subst (λ (y : Result Progress Stopped × Reader). GoesInTime t old new l (starting k c1 b) s.past.walk y.0 y.1 rest) (λ i. (on i, sym c.serve_unit.ensures.reader i)) on_then;
    }

pub returns-clause-goes : goal.returns-clause-goes
returns-clause-goes g c = λ user k c1 b at s.
    subst (λ (rest : List ℕ). GoesInTime (telling g.K.Link.told g.C.Timestamps.told g.C.Timestamps.stamped) (desk_at (g.K.Link.state c.args.link.now) (g.C.Timestamps.coming c.args.clock.now) c.args.desk.now) (desk_at (g.K.Link.state c.loop-at.link) (g.C.Timestamps.coming c.loop-at.clock) c.loop-at.desk) (language_for user (arc_value c.args.desk.now.shelf)) (starting k c1 b) s.past.walk (Ok On) c.loop-at.desk.reader rest)
    (drop_all c.loop-at.at c.args.piece.now (omega (arith, c.loop-at-test.false))) (c.loop-at.invariant.goes user k c1 b at s)

pub returns-in-Cut : goal.returns-in-Cut
returns-in-Cut g c =
    let k = c.loop-at.invariant in
    let u = c.serve_unit.ensures in
    let cut : c.serve_unit.result ≡ Ok Cut = c.in_ok-serve_unit.was ∙ ap (λ (p : Progress). Ok p) c.in-Cut.is in
    record {
      shelf = u.shelf ∙ k.shelf;
      seat = (u.seat.0 ∙ k.seat.0, u.seat.1 ∙ k.seat.1, u.seat.2 ∙ k.seat.2, u.seat.3 ∙ k.seat.3);
      users = (u.users.0 ∙ k.users.0, u.users.1 ∙ k.users.1, u.users.2 ∙ k.users.2, u.users.3 ∙ k.users.3);
      link = writes_more _ _ _ _ k.link u.link;
      hung_up = u.hung_up ∙ k.hung_up;
      stopped = no_stop Cut _ _ (stayed_ok Cut c.serve_unit.result _ _ cut u.stopped ∙ k.gate);
      asked = are_entered_on g.G.Gate.asked g.G.Gate.asked_on c.args.desk.now.seat c.loop-at.desk.seat c.args.desk.now.users.seat c.loop-at.desk.users.seat c.args.gate.now c.loop-at.gate c.serve_unit.new.gate _ _ c.loop-at.invariant.asked c.loop-at.invariant.seat c.loop-at.invariant.users c.serve_unit.ensures.asked;
      noted = noted_more (arc_value c.args.desk.now.shelf) (telling g.K.Link.told g.C.Timestamps.told g.C.Timestamps.stamped) g.N.Notes.noted g.N.Notes.noted_on c.args.notes.now c.loop-at.notes c.serve_unit.new.notes (stood (g.K.Link.state c.args.link.now) (g.C.Timestamps.coming c.args.clock.now) c.args.desk.now.seat c.args.desk.now.users.seat c.args.desk.now.attending) (stood (g.K.Link.state c.loop-at.link) (g.C.Timestamps.coming c.loop-at.clock) c.loop-at.desk.seat c.loop-at.desk.users.seat c.loop-at.desk.attending) (stood (g.K.Link.state c.serve_unit.new.link) (g.C.Timestamps.coming c.serve_unit.new.clock) c.serve_unit.new.desk.seat c.serve_unit.new.desk.users.seat c.serve_unit.new.desk.attending) c.loop-at.invariant.noted
          (noted_moved arc_value (telling g.K.Link.told g.C.Timestamps.told g.C.Timestamps.stamped) (stood (g.K.Link.state c.loop-at.link) (g.C.Timestamps.coming c.loop-at.clock) c.loop-at.desk.seat c.loop-at.desk.users.seat c.loop-at.desk.attending) (stood (g.K.Link.state c.serve_unit.new.link) (g.C.Timestamps.coming c.serve_unit.new.clock) c.serve_unit.new.desk.seat c.serve_unit.new.desk.users.seat c.serve_unit.new.desk.attending) (g.N.Notes.noted c.loop-at.notes c.serve_unit.new.notes) c.args.desk.now.shelf c.loop-at.desk.shelf c.loop-at.invariant.shelf c.serve_unit.ensures.noted);
      goes = λ user k c1 b at s.
          let l = language_for user (arc_value c.args.desk.now.shelf) in
          let t = telling g.K.Link.told g.C.Timestamps.told g.C.Timestamps.stamped in
          let old = desk_at (g.K.Link.state c.args.link.now) (g.C.Timestamps.coming c.args.clock.now) c.args.desk.now in
          let mid = record (desk_at (g.K.Link.state c.loop-at.link) (g.C.Timestamps.coming c.loop-at.clock) c.loop-at.desk) { reader = c.feed-fed.new.self } in
          let new = desk_at (g.K.Link.state c.serve_unit.new.link) (g.C.Timestamps.coming c.serve_unit.new.clock) c.serve_unit.new.desk in
          let rest = drop (c.loop-at.at + c.feed-fed.result.taken) c.args.piece.now in
          let at_mid : IsAt b c.loop-at.desk.seat c.loop-at.desk.users.seat = (c.loop-at.invariant.seat.0 ∙ at.0, c.loop-at.invariant.seat.1 ∙ at.1, c.loop-at.invariant.users.0 ∙ at.2, c.loop-at.invariant.users.1 ∙ at.3) in
          let so = c.loop-at.invariant.goes user k c1 b at s in
          let fed = stands_on l g.K.Link.told g.C.Timestamps.told k c1 b (g.K.Link.state c.loop-at.link) (g.C.Timestamps.coming c.loop-at.clock) (now c.loop-at.desk) c.loop-at.desk.reader c.args.piece.now _ c.loop-at.at c.feed-fed.result c.feed-fed.new.self so.goes (take_rest c.args.piece.now c.loop-at.at) c.feed-fed.ensures.fed in
          let next = moved_goes t mid new (in_hand c.loop-at.desk.attending false c.feed-fed.result.unit c.feed-fed.new.self rest) c.feed-fed.new.self rest c.serve_unit.result (arc_value c.args.desk.now.shelf) c.args.desk.now.seat c.args.desk.now.users.seat (ap arc_value c.loop-at.invariant.shelf) c.loop-at.invariant.seat c.loop-at.invariant.users (c.serve_unit.ensures.goes rest) user k c1 b at fed in
          let on_then = goes_then t old mid new l (starting k c1 b) s.past.walk so.goes.past.walk c.serve_unit.result c.feed-fed.new.self rest so.ran_on so.timely next
          (went_to g.K.Link.told b (g.K.Link.state c.loop-at.link) (g.K.Link.state c.serve_unit.new.link) c.loop-at.desk.seat c.loop-at.desk.users.seat at_mid c.serve_unit.ensures.link _ _ _ c.serve_unit.ensures.asked) in
          let cut_then = subst (λ (y : Result Progress Stopped). GoesInTime t old new l (starting k c1 b) s.past.walk y c.feed-fed.new.self rest) cut on_then in
          record { goes = cut_then.goes; ran_on = cut_then.ran_on; timely = cut_then.timely };
    }

pub returns-in_err-serve_unit : goal.returns-in_err-serve_unit
returns-in_err-serve_unit g c =
    let k = c.loop-at.invariant in
    let u = c.serve_unit.ensures in
    record {
      shelf = u.shelf ∙ k.shelf;
      seat = (u.seat.0 ∙ k.seat.0, u.seat.1 ∙ k.seat.1, u.seat.2 ∙ k.seat.2, u.seat.3 ∙ k.seat.3);
      users = (u.users.0 ∙ k.users.0, u.users.1 ∙ k.users.1, u.users.2 ∙ k.users.2, u.users.3 ∙ k.users.3);
      link = writes_more _ _ _ _ k.link u.link;
      hung_up = u.hung_up ∙ k.hung_up;
      stopped = subst (λ (r : Result Progress Stopped). RoseOnlyFor (g.G.Gate.stops c.args.gate.now) (g.G.Gate.stops c.serve_unit.new.gate) (IsErr r)) (c.in_err-serve_unit.was ∙ sym (is_stop c.from_residual.result c.from_residual.ensures.0)) (rose_after _ _ _ _ k.gate u.stopped);
      asked = are_entered_on g.G.Gate.asked g.G.Gate.asked_on c.args.desk.now.seat c.loop-at.desk.seat c.args.desk.now.users.seat c.loop-at.desk.users.seat c.args.gate.now c.loop-at.gate c.serve_unit.new.gate _ _ c.loop-at.invariant.asked c.loop-at.invariant.seat c.loop-at.invariant.users c.serve_unit.ensures.asked;
      noted = noted_more (arc_value c.args.desk.now.shelf) (telling g.K.Link.told g.C.Timestamps.told g.C.Timestamps.stamped) g.N.Notes.noted g.N.Notes.noted_on c.args.notes.now c.loop-at.notes c.serve_unit.new.notes (stood (g.K.Link.state c.args.link.now) (g.C.Timestamps.coming c.args.clock.now) c.args.desk.now.seat c.args.desk.now.users.seat c.args.desk.now.attending) (stood (g.K.Link.state c.loop-at.link) (g.C.Timestamps.coming c.loop-at.clock) c.loop-at.desk.seat c.loop-at.desk.users.seat c.loop-at.desk.attending) (stood (g.K.Link.state c.serve_unit.new.link) (g.C.Timestamps.coming c.serve_unit.new.clock) c.serve_unit.new.desk.seat c.serve_unit.new.desk.users.seat c.serve_unit.new.desk.attending) c.loop-at.invariant.noted
          (noted_moved arc_value (telling g.K.Link.told g.C.Timestamps.told g.C.Timestamps.stamped) (stood (g.K.Link.state c.loop-at.link) (g.C.Timestamps.coming c.loop-at.clock) c.loop-at.desk.seat c.loop-at.desk.users.seat c.loop-at.desk.attending) (stood (g.K.Link.state c.serve_unit.new.link) (g.C.Timestamps.coming c.serve_unit.new.clock) c.serve_unit.new.desk.seat c.serve_unit.new.desk.users.seat c.serve_unit.new.desk.attending) (g.N.Notes.noted c.loop-at.notes c.serve_unit.new.notes) c.args.desk.now.shelf c.loop-at.desk.shelf c.loop-at.invariant.shelf c.serve_unit.ensures.noted);
      goes = λ user k c1 b at s.
          let l = language_for user (arc_value c.args.desk.now.shelf) in
          let t = telling g.K.Link.told g.C.Timestamps.told g.C.Timestamps.stamped in
          let old = desk_at (g.K.Link.state c.args.link.now) (g.C.Timestamps.coming c.args.clock.now) c.args.desk.now in
          let mid = record (desk_at (g.K.Link.state c.loop-at.link) (g.C.Timestamps.coming c.loop-at.clock) c.loop-at.desk) { reader = c.feed-fed.new.self } in
          let new = desk_at (g.K.Link.state c.serve_unit.new.link) (g.C.Timestamps.coming c.serve_unit.new.clock) c.serve_unit.new.desk in
          let rest = drop (c.loop-at.at + c.feed-fed.result.taken) c.args.piece.now in
          let at_mid : IsAt b c.loop-at.desk.seat c.loop-at.desk.users.seat = (c.loop-at.invariant.seat.0 ∙ at.0, c.loop-at.invariant.seat.1 ∙ at.1, c.loop-at.invariant.users.0 ∙ at.2, c.loop-at.invariant.users.1 ∙ at.3) in
          let so = c.loop-at.invariant.goes user k c1 b at s in
          let fed = stands_on l g.K.Link.told g.C.Timestamps.told k c1 b (g.K.Link.state c.loop-at.link) (g.C.Timestamps.coming c.loop-at.clock) (now c.loop-at.desk) c.loop-at.desk.reader c.args.piece.now _ c.loop-at.at c.feed-fed.result c.feed-fed.new.self so.goes (take_rest c.args.piece.now c.loop-at.at) c.feed-fed.ensures.fed in
          let next = moved_goes t mid new (in_hand c.loop-at.desk.attending false c.feed-fed.result.unit c.feed-fed.new.self rest) c.feed-fed.new.self rest c.serve_unit.result (arc_value c.args.desk.now.shelf) c.args.desk.now.seat c.args.desk.now.users.seat (ap arc_value c.loop-at.invariant.shelf) c.loop-at.invariant.seat c.loop-at.invariant.users (c.serve_unit.ensures.goes rest) user k c1 b at fed in
          let on_then = goes_then t old mid new l (starting k c1 b) s.past.walk so.goes.past.walk c.serve_unit.result c.feed-fed.new.self rest so.ran_on so.timely next
          (went_to g.K.Link.told b (g.K.Link.state c.loop-at.link) (g.K.Link.state c.serve_unit.new.link) c.loop-at.desk.seat c.loop-at.desk.users.seat at_mid c.serve_unit.ensures.link _ _ _ c.serve_unit.ensures.asked) in
          let stopped_then = subst (λ (y : Result Progress Stopped). GoesInTime t old new l (starting k c1 b) s.past.walk y c.feed-fed.new.self rest) c.in_err-serve_unit.was on_then in
          by_stop (λ (r : Result Progress Stopped). GoesInTime t old new l (starting k c1 b) s.past.walk r c.serve_unit.new.desk.reader []) c.from_residual.result c.from_residual.ensures.0 (record { goes = stopped_then.goes; ran_on = stopped_then.ran_on; timely = stopped_then.timely });
    }

use Rattle.std.proofs.Common.{◌∙◌, ℕ, List, [], subst, take, arith}
use Rattle.std.proofs.lemmas.Grind.{common_steps}
use Rattle.std.specs.Arc.{arc_value}
use Rattle.craft_session.specs.Gathered.{GoesTo, desk_at, to_read}
use Rattle.craft_session.specs.Meanings.{language_for}
use Rattle.craft_session.specs.Timely.{starting, telling}
use Rattle.craft_session.proofs.Forgetting.{goes_forgot}
use Rattle.craft_session.proofs.session.serve_piece.Goals as goal

pub returns : goal.returns
returns g c =
    let s = c.serve_units-progress.ensures in
    rw (c.forget.ensures.seat, c.forget.ensures.users, c.forget.ensures.attending) (record {
      length = c.forget.ensures.length;
      shelf = c.forget.ensures.shelf ∙ s.shelf;
      seat = s.seat;
      users = s.users;
      link = s.link;
      hung_up = s.hung_up;
      goes = λ first k c1 b at stands.
          let l = language_for first (arc_value c.args.desk.now.shelf) in
          let old = desk_at (g.K.Link.state c.args.link.now) (g.C.Timestamps.coming c.args.clock.now) c.args.desk.now in
          let new = desk_at (g.K.Link.state c.serve_units-progress.new.link) (g.C.Timestamps.coming c.serve_units-progress.new.clock) c.serve_units-progress.new.desk in
          let fed : GoesTo (telling g.K.Link.told g.C.Timestamps.told g.C.Timestamps.stamped) old new (to_read c.args.desk.now.attending c.args.desk.now.reader (take c.args.count c.args.piece.now)) c.serve_units-progress.new.desk.reader [] c.serve_units-progress.result = subst (λ (p : List ℕ). GoesTo (telling g.K.Link.told g.C.Timestamps.told g.C.Timestamps.stamped) old new (to_read c.args.desk.now.attending c.args.desk.now.reader p) c.serve_units-progress.new.desk.reader [] c.serve_units-progress.result) (grind (arith, common_steps)) s.goes in
          goes_forgot (telling g.K.Link.told g.C.Timestamps.told g.C.Timestamps.stamped) old new (arc_value c.forget.new.self.shelf) c.forget.new.self.reader l (starting k c1 b) stands.past.walk _ _ [] c.forget.ensures.hand c.serve_units-progress.result (fed first k c1 b at stands);
      stopped = s.stopped;
      asked = s.asked;
      noted = s.noted;
    })

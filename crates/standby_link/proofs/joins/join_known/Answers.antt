use Rattle.std.proofs.Common.{ℕ, take, ap, refl, ◌∙◌}
use Rattle.standby_link.specs.declared.ear.Ear.{Ear}
use Rattle.standby_link.specs.declared.line.Line.{Line}
use Rattle.standby_link.specs.Lines.{line_at}
use Rattle.standby_link.proofs.JoinSteps.{known_sent}
use Rattle.standby_link.proofs.MoveSteps.{join_step}
use Rattle.standby_link.proofs.joins.join_known.Goals as goal

pub returns-clause-line : goal.returns-clause-line
returns-clause-line g c =
    let link = g.K.Link.state in
    let line = c.write.new.self in
    record {
      mid = line_at link line;
      none = ap (λ (e : Ear). take e.held e.inbox) c.write.ensures.ear ∙ ap (λ (n : ℕ). take n c.args.new_line.now.ear.inbox) c.requires.none_held;
      sends = λ t small. known_sent g.K.Link.told (g.D.Disk.state c.args.disk.now.disk) (link c.args.new_line.now.link) (line_at link line) c.args.new_line.now.number c.front.result.now c.requires.first (c.front.ensures ∙ c.requires.file t) (λ few short. c.write.ensures.sends c.requires.here few short) small;
      syncs = λ here few. c.sync.ensures.syncs here few;
      gone = λ some. (ap (λ (l : Line g.row.K.Denot). l.lost) (c.sync.ensures.gone some), ap (λ (l : Line g.row.K.Denot). link l.link) (c.sync.ensures.gone some));
    }

pub returns-clause-step : goal.returns-clause-step
returns-clause-step g c = λ t small few. join_step _ _ _ _ _ _ t refl small few (returns-clause-line g c)

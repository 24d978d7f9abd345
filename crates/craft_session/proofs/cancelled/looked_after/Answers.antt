use Rattle.std.proofs.Common.{sym, ◌∙◌}
use Rattle.user_admin.proofs.Turning.{turned_none}
use Rattle.craft_session.proofs.Cancelling.{ended_by, never_ended, nobody_unended, unended_by}
use Rattle.craft_session.proofs.Keeping.{user_seat_stays}
use Rattle.craft_session.proofs.Waiting.{both_no}
use Rattle.craft_session.proofs.cancelled.looked_after.Goals as goal

pub returns-in-Endless-clause-heeded : goal.returns-in-Endless-clause-heeded
returns-in-Endless-clause-heeded g c = λ h saw. record {
  back = turned_none c.args.seat.now.opening c.args.seat.now.place h c.args.seat.now.seen saw;
  ended = λ is. never_ended is;
  goes_on = λ is limits. both_no (sym limits ∙ c.in-Endless.is);
}

pub returns-in-Nobody-clause-heeded : goal.returns-in-Nobody-clause-heeded
returns-in-Nobody-clause-heeded g c = λ h saw. record {
  back = turned_none c.args.seat.now.opening c.args.seat.now.place h c.args.seat.now.seen saw;
  ended = λ is. never_ended is;
  goes_on = λ is limits. nobody_unended c.args.seat.now.place c.args.user _ c.in-Nobody.is;
}

pub returns-in-User-clause-heeded : goal.returns-in-User-clause-heeded
returns-in-User-clause-heeded g c = λ h saw.
    let x = c.is_cancelled.ensures.looked h saw in
    record {
      back = x.0;
      ended = λ is. ended_by c.args.seat.now.place c.args.user _ (λ nobody. let no = sym c.in-User.is ∙ nobody in cc) (sym x.1 ∙ is);
      goes_on = λ is limits. unended_by c.args.seat.now.place c.args.user _ (sym x.1 ∙ is);
    }

pub returns-in-Endless-clause-goes : goal.returns-in-Endless-clause-goes
returns-in-Endless-clause-goes g c = user_seat_stays _

pub returns-in-Nobody-clause-goes : goal.returns-in-Nobody-clause-goes
returns-in-Nobody-clause-goes g c = user_seat_stays _

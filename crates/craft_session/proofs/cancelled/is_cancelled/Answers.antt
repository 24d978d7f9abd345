use Rattle.std.proofs.Common.{List, ◌∙◌, ap, subst}
use Rattle.user_admin.specs.declared.op.UserEntry.{UserEntry}
use Rattle.user_admin.specs.Turns.{Saw}
use Rattle.craft_session.specs.Cancelling.{Heeded, looking}
use Rattle.craft_session.specs.Seats.{UserSeatAt}
use Rattle.craft_session.proofs.Keeping.{users_in_turn}
use Rattle.craft_session.proofs.cancelled.is_cancelled.Goals as goal

pub returns-clause-users : goal.returns-clause-users
returns-clause-users g c =
    let is = c.hear.ensures.heard in
    let same = c.looked_after.ensures.same in
    (same.0 ∙ ap (λ (s : UserSeatAt). s.opening) is, same.1 ∙ ap (λ (s : UserSeatAt). s.place) is, same.2 ∙ ap (λ (s : UserSeatAt). s.places) is, same.3 ∙ ap (λ (s : UserSeatAt). s.turnstile) is)

pub returns-clause-in_turn : goal.returns-clause-in_turn
returns-clause-in_turn g c = users_in_turn _ c.hear.new.self c.looked_after.new.seat _ c.hear.ensures.heard c.hear.ensures.as_many.0 c.looked_after.ensures.goes

pub returns-clause-heeded : goal.returns-clause-heeded
returns-clause-heeded g c = λ h saw.
    let heeded = subst (λ (s : UserSeatAt). (h : List UserEntry) → Saw s.opening s.seen h → Heeded (looking c.args.patience c.args.desk.now.attending.user s) h c.looked_after.new.seat.seen c.looked_after.result) c.hear.ensures.heard c.looked_after.ensures.heeded h saw in
    record { back = heeded.back; ended = heeded.ended; goes_on = heeded.goes_on }

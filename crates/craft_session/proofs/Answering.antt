-- A unit was answered in the shelf's language.
use Rattle.std.specs.Prelude.{is_some, IsOk}
use Rattle.std.proofs.Common.{◌≡◌, ◌≢◌, ◌++◌, ℕ, true, false, List, [], Option, Some, None, Result, Ok, Err, ap, inl, inr, refl, sym, subst}
use base.Stored.{Gv}
use Rattle.dxc_outside.specs.declared.clock.Moment.{Moment}
use Rattle.dxc_outside.specs.declared.gate.GatePlace.{GatePlace}
use Rattle.dxc_outside.specs.declared.send.Sent.{Sent}
use Rattle.dxc_outside.specs.declared.send.Sent.TheVariants.{Whole, Cut as Sent_cut}
use Rattle.dxc_outside.specs.declared.stopped.Stopped.{Stopped}
use Rattle.dxc_outside.specs.Links.{LinkState}
use Rattle.dxc_model.specs.declared.entry.Entry.{Entry}
use Rattle.dxc_model.specs.declared.user.SessionUser.{SessionUser}
use Rattle.tl1_text.specs.declared.reader.UnitKind.{UnitKind}
use Rattle.tl1_text.specs.declared.reader.UnitKind.TheVariants.{Whole as WholeUnit, TooLong as TooLongUnit, More}
use Rattle.tl1_text.specs.Reading.{Reader, hand}
use Rattle.tl1_text.specs.Units.{Input, IsUnit}
use Rattle.dxc_notes.specs.declared.standing.Standing.{Standing}
use Rattle.user_admin.specs.declared.op.UserEntry.{UserEntry}
use Rattle.user_admin.specs.declared.op.UserRow.{UserRow}
use Rattle.user_admin.specs.Histories.{Opening as UsersOpening}
use Rattle.user_admin.specs.Turns.{Saw as SawUsers, TurnedBack}
use Rattle.shelf_file.specs.Contents.{Contents}
use Rattle.xc_core.specs.States.{Opening}
use Rattle.xc_core.specs.Seeing.{Saw}
use Rattle.craft_session.specs.declared.ask.Ask.{Ask}
use Rattle.craft_session.specs.declared.end.Progress.{Progress}
use Rattle.craft_session.specs.declared.end.Progress.TheVariants.{On, Cut}
use Rattle.craft_session.specs.Acting.{Acts, Stops}
use Rattle.craft_session.specs.Asks.{Language, Reply, asks_program, is_told_as}
use Rattle.craft_session.specs.Happenings.{Request}
use Rattle.craft_session.specs.Hearing.{Heard, HeardBehind, IsAsked, IsHeard, IsUnasked, Wanted, rows_heard, unasked}
use Rattle.craft_session.specs.Progresses.{progress_of}
use Rattle.craft_session.specs.Responses.{beside}
use Rattle.craft_session.specs.Desks.{IsReplied, IsSaidOf, IsStoppedAt, IsAnswered, input_of}
use Rattle.craft_session.specs.Meanings.{asks, tag_of, language_for, wants}
use Rattle.craft_session.specs.Seats.{SeatAt, UserSeatAt}
use Rattle.craft_session.specs.Sessions.{Now, Beginning, IsAt, IsSaid, Stands, Goes, walk_after}
use Rattle.craft_session.specs.Stamps.{Stamp, stamp_at}
use Rattle.craft_session.specs.Timely.{reached}
use Rattle.craft_session.proofs.Consulted.{Learns}
use Rattle.craft_session.proofs.Done.{UnitTurned}
use Rattle.craft_session.proofs.Learning.{cut_untold, given, given_as, replied_given, tells, tells_asked}
use Rattle.craft_session.proofs.SessionSteps.{Gone, goes_on, goes_cut, goes_stopped, goes_unheard, whole_ended, long_ended}

module _ (s : Contents) (first : SessionUser) (told clock_told : Type 0) (k j : LinkState) (c d : List Moment) (b : Beginning) (now : Now) (kind : UnitKind) (r : Reader) (ahead : List ℕ) (stands : Stands (language_for first s) told clock_told k j c d b now false kind r ahead)
    (seat : SeatAt) (users : UserSeatAt) (at : IsAt b seat users) (j2 : LinkState) (d2 : List Moment) (after : Now) (users_seen : users.seen ≡ now.users) (turned : UnitTurned b.place now after) where
  said : (sent : Sent) (u : Request) (reply : Reply) → IsReplied s told clock_told j j2 d d2 sent (tag_of u.input) (beside (rows_heard u.heard) u.stands) reply → IsSaid (language_for first s) told clock_told j j2 d d2 sent u reply
  said sent u reply x = record { moment = x.moment; wrote = x.wrote; now = x.now; later = x.later }

  -- the place of the seats is that of the beginning
  here : (P : (o : Opening) → ℕ → Type 0) → P seat.opening seat.place → P b.opening b.place
  here P x = subst (λ (w : Opening × ℕ). P w.0 w.1) (λ k. (at.0 k, at.1 k)) x

  there : (P : (o : UsersOpening) → ℕ → List Gv → Type 0) → P users.opening users.place users.seen → P b.users b.place now.users
  there P x = subst (λ (w : UsersOpening × (ℕ × List Gv)). P w.0 w.1.0 w.1.1) (λ k. (at.2 k, (at.3 k, users_seen k))) x

  hears : (w : Wanted) (x : Heard) → IsHeard users w x after.users → (h : List UserEntry) → SawUsers b.users now.users h → HeardBehind b.users b.place h w x after.users
  hears w x behind = there (λ o n seen. (h : List UserEntry) → SawUsers o seen h → HeardBehind o n h w x after.users) behind

  acts : (a : Ask) (reply : Reply) → ((h : List Entry) → Saw seat.opening now.seen h → Acts seat.opening seat.place h now.attending a reply after.attending after.seen) → (h : List Entry) → Saw b.opening now.seen h → Acts b.opening b.place h now.attending a reply after.attending after.seen
  acts a reply x = here (λ o n. (h : List Entry) → Saw o now.seen h → Acts o n h now.attending a reply after.attending after.seen) x

  stops : (a : Ask) → ((h : List Entry) → Saw seat.opening now.seen h → Stops seat.opening seat.place h now.attending a after.attending after.seen) → (h : List Entry) → Saw b.opening now.seen h → Stops b.opening b.place h now.attending a after.attending after.seen
  stops a x = here (λ o n. (h : List Entry) → Saw o now.seen h → Stops o n h now.attending a after.attending after.seen) x

  module _ (u : Input) (ended : IsUnit stands.rest u × (hand r ≡ [])) where
    -- the unit, with what it heard and was told
    module _ (heard : Heard) where
      abbrev asked : Ask
      asked = asks s now.attending.user heard u

      abbrev unit_told : Standing → Request
      unit_told standing = record { input = u; heard = heard; stands = given (asks_program asked) standing }

      learns_told : (standing : Standing) → IsHeard users (wants s now.attending.user u) heard after.users → Learns (language_for first s) b now.users now.attending.user (unit_told standing) after.users
      learns_told standing behind = (given_as (asks_program asked) standing, hears (wants s now.attending.user u) heard behind)

      abbrev unit_untold : Request
      unit_untold = record { input = u; heard = heard; stands = None }

      -- a stop cut nothing that is told
      untold : ((h : List Entry) → Saw seat.opening now.seen h → Stops seat.opening seat.place h now.attending asked after.attending after.seen) → is_told_as (asks_program asked) None ≡ true
      untold x =
          let here = stops asked x stands.past.walk.history stands.past.saw in
          cut_untold (stands.past.walk.history ++ here.front) asked here.op here.cuts

      -- the reply tells it just where that was asked
      told_so : (reply : Reply) → ((h : List Entry) → Saw seat.opening now.seen h → Acts seat.opening seat.place h now.attending asked reply after.attending after.seen) → tells reply ≡ asks_program asked
      told_so reply x =
          let here = acts asked reply x stands.past.walk.history stands.past.saw in
          tells_asked b.place b.opening.first.fold.table (stands.past.walk.history ++ here.passed) asked here.entries reply here.serves

    said_on : (sent : Sent) (x : IsSaidOf s told clock_told j j2 d d2 sent u seat users now after) → IsSaid (language_for first s) told clock_told j j2 d d2 sent (unit_told x.heard x.standing) x.reply
    said_on sent x =
        said sent (unit_told x.heard x.standing) x.reply
        (replied_given s told clock_told j j2 d d2 sent (tag_of u) (rows_heard x.heard) x.reply (asks_program (asked x.heard)) x.standing (told_so x.heard x.reply x.acts) x.said)

    -- how the session goes then, by seats that have seen what is seen then
    module _ (stamped : Stamp → Type 0) (seat2 : SeatAt) (users2 : UserSeatAt) (at2 : IsAt b seat2 users2) (seen2 : seat2.seen ≡ after.seen) (users_seen2 : users2.seen ≡ after.users) (stamps2 : seat2.stamps ≡ after.stamps) (users_stamps2 : users2.stamps ≡ after.users_stamps) where
      abbrev l : Language Request Moment
      l = language_for first s

      abbrev pub Goes_so : Result Progress Stopped → Type 0
      Goes_so how = Gone l told clock_told k c b stamped j (reached j2.written seat2.seen users2.seen) stands.past.walk (Goes l told clock_told k j2 c d2 b after how (is_some after.attending.watch) r ahead) (walk_after l told clock_told k j2 c d2 b after how (is_some after.attending.watch) r ahead)

      answered_by_stop : (e : Stopped) → IsStoppedAt s j j2 d d2 u seat users now after → Goes_so (Err e)
      answered_by_stop e x =
          let end = reached j2.written seat2.seen users2.seen in
          let none = ap (λ (y : LinkState). y.written) x.link in
          elim x.stopped [
            | inl t ↦ goes_stopped l told clock_told k c b j d now r kind ahead stands (unit_untold t.heard) ended stamped end none j2 d2 after turned x.link x.clock (untold t.heard t.stops, hears (wants s now.attending.user u) t.heard t.behind) (stops (asks s now.attending.user t.heard u) t.stops)
            | inr t ↦ goes_unheard l told clock_told k c b j d now r kind ahead stands (unit_untold unasked) ended stamped end none j2 d2 after turned.0 t.stamps t.unasked.op x.link x.clock t.unasked.wanted t.unasked.changing
                (there (λ o n seen. (h : List UserEntry) → SawUsers o seen h → TurnedBack o n h after.users) t.unasked.behind) t.seen t.attending
          ]

      pub answered : (how : Result Progress Stopped) → IsAnswered s told clock_told j j2 d d2 u seat users now after how → (IsOk how → stamped (stamp_at d j seat2 users2)) → Goes_so how
      answered (Ok On) x was = goes_on l told clock_told k c b j d now r kind ahead stands (unit_told x.heard x.standing) j2 d2 ended.0 x.reply after turned (learns_told x.heard x.standing x.behind) (acts (asks s now.attending.user x.heard u) x.reply x.acts) stamped seat2 users2 at2 seen2 users_seen2 stamps2 users_stamps2 (was refl) ended.1 (said_on Whole x)
      answered (Ok Cut) x was = goes_cut l told clock_told k c b j d now r kind ahead stands (unit_told x.heard x.standing) j2 d2 ended.0 x.reply after turned (learns_told x.heard x.standing x.behind) (acts (asks s now.attending.user x.heard u) x.reply x.acts) stamped seat2 users2 at2 seen2 users_seen2 stamps2 users_stamps2 (was refl) (said_on Sent_cut x)
      answered (Err e) x was = answered_by_stop e x

-- a unit that ended, whole or too long
pub input_ended : (l : Language Request Moment) (told clock_told : Type 0) (k j : LinkState) (c d : List Moment) (b : Beginning) (now : Now) (r : Reader) (ahead : List ℕ) (kind : UnitKind) (s : Stands l told clock_told k j c d b now false kind r ahead) → kind ≢ More → IsUnit s.rest (input_of kind r) × (hand r ≡ [])
input_ended l told clock_told k j c d b now r ahead WholeUnit s ended = whole_ended l told clock_told k c b j d now r WholeUnit ahead s refl
input_ended l told clock_told k j c d b now r ahead TooLongUnit s ended = long_ended l told clock_told k c b j d now r TooLongUnit ahead s refl
input_ended l told clock_told k j c d b now r ahead More s ended = absurd (ended refl)

-- a response was written, or a part of it
pub answered_by : (s : Contents) (told clock_told : Type 0) (k j : LinkState) (c d : List Moment) (u : Input) (seat : SeatAt) (users : UserSeatAt) (before after : Now) (sent : Sent) (how : Progress) → how ≡ progress_of sent
    → IsSaidOf s told clock_told k j c d sent u seat users before after → IsAnswered s told clock_told k j c d u seat users before after (Ok how)
answered_by s told clock_told k j c d u seat users before after Whole how is x = subst (λ (y : Progress). IsAnswered s told clock_told k j c d u seat users before after (Ok y)) (sym is) x
answered_by s told clock_told k j c d u seat users before after Sent_cut how is x = subst (λ (y : Progress). IsAnswered s told clock_told k j c d u seat users before after (Ok y)) (sym is) x

module _ (s : Contents) (told clock_told : Type 0) (k j : LinkState) (c d : List Moment) (u : Input) (seat : SeatAt) (users : UserSeatAt) (before after : Now) (a : Ask) (rows : List UserRow)
    (gate : List GatePlace → Type 0) (x : IsAsked users (wants s before.attending.user u) (λ y. asks s before.attending.user y u) a rows after.users gate) where
  -- the reply to what was asked after what was heard
  pub said_of : (sent : Sent) (tag : Option (List ℕ)) (reply : Reply) (standing : Standing) → tag ≡ tag_of u → IsReplied s told clock_told k j c d sent tag (beside rows (Some standing)) reply
      → ((h : List Entry) → Saw seat.opening before.seen h → Acts seat.opening seat.place h before.attending a reply after.attending after.seen) → IsSaidOf s told clock_told k j c d sent u seat users before after
  said_of sent tag reply standing tag_is said acts = record {
    heard = x.heard;
    behind = x.behind;
    reply = reply;
    standing = standing;
    said = subst (λ (w : Option (List ℕ) × List UserRow). IsReplied s told clock_told k j c d sent w.0 (beside w.1 (Some standing)) reply) (λ i. (tag_is i, x.rows_are i)) said;
    acts = subst (λ (y : Ask). (h : List Entry) → Saw seat.opening before.seen h → Acts seat.opening seat.place h before.attending y reply after.attending after.seen) x.ask_is acts;
  }

  -- a stop at the table
  pub stopped_of : ((h : List Entry) → Saw seat.opening before.seen h → Stops seat.opening seat.place h before.attending a after.attending after.seen) → IsStoppedAt s k k c c u seat users before after
  stopped_of stops = record {
    link = refl;
    clock = refl;
    stopped = inl (record {
      heard = x.heard;
      behind = x.behind;
      stops = subst (λ (y : Ask). (h : List Entry) → Saw seat.opening before.seen h → Stops seat.opening seat.place h before.attending y after.attending after.seen) x.ask_is stops;
    });
  }

-- a stop at the users
pub unheard_of : (s : Contents) (k : LinkState) (c : List Moment) (u : Input) (seat : SeatAt) (users : UserSeatAt) (before after : Now) → IsUnasked users (wants s before.attending.user u) after.users → after.seen ≡ before.seen → after.stamps ≡ before.stamps → after.attending ≡ before.attending → IsStoppedAt s k k c c u seat users before after
unheard_of s k c u seat users before after x seen stamps attending = record { link = refl; clock = refl; stopped = inr (record { unasked = x; seen = seen; stamps = stamps; attending = attending }) }

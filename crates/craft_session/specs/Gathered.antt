-- How a desk stands at a moment, and what a call did from one such moment to another.
use Rattle.std.specs.Prelude.{ℕ, false, is_some, List, [], Option, Result}
use Rattle.std.specs.Arc.{arc_value}
use Rattle.dxc_notes.specs.declared.note.Note.{Note}
use Rattle.dxc_outside.specs.declared.clock.Moment.{Moment}
use Rattle.dxc_outside.specs.declared.send.Sent.{Sent}
use Rattle.dxc_outside.specs.declared.stopped.Stopped.{Stopped}
use Rattle.dxc_outside.specs.Links.{LinkState}
use Rattle.dxc_model.specs.declared.user.SessionUser.{SessionUser}
use Rattle.tl1_text.specs.declared.reader.UnitKind.TheVariants.{More}
use Rattle.tl1_text.specs.Reading.{Reader}
use Rattle.tl1_text.specs.Units.{Input}
use Rattle.shelf_file.specs.Contents.{Contents}
use Rattle.craft_session.specs.declared.attending.Attending.{Attending}
use Rattle.craft_session.specs.declared.desk.Desk.{Desk}
use Rattle.craft_session.specs.declared.end.Progress.{Progress}
use Rattle.craft_session.specs.declared.end.SessionEnd.{SessionEnd}
use Rattle.craft_session.specs.Asks.{Language, Reply}
use Rattle.craft_session.specs.Happenings.{Request}
use Rattle.craft_session.specs.Desks.{IsAnswered, IsReplied}
use Rattle.craft_session.specs.Meanings.{language, language_for}
use Rattle.craft_session.specs.Noted.{HasNoted, stood}
use Rattle.craft_session.specs.Notices.{Notice}
use Rattle.craft_session.specs.Responses.{Beside}
use Rattle.craft_session.specs.Seats.{SeatAt, UserSeatAt}
use Rattle.craft_session.specs.Runs.{RunsOn, Walk}
use Rattle.craft_session.specs.Sessions.{AreTold, Beginning, Goes, IsAt, IsPrompt, IsReported, IsServed, Now, Stands, now_of, walk_after}
use Rattle.craft_session.specs.Stamps.{Stamp, stamp_at}
use Rattle.craft_session.specs.Timely.{InHand, IsTimely, Reached, Start, Telling, in_hand, reached, starting}

-- how a desk stands, with its link and the moments still to come of its clock
pub record DeskAt : Type 0 where
  pub link : LinkState
  pub coming : List Moment
  pub shelf : Contents
  pub seat : SeatAt
  pub users : UserSeatAt
  pub attending : Attending
  pub reader : Reader

abbrev pub desk_at : {D U : Type 0} → LinkState → List Moment → Desk D U → DeskAt
desk_at link coming d = record { link = link; coming = coming; shelf = arc_value d.shelf; seat = d.seat; users = d.users.seat; attending = d.attending; reader = d.reader }

-- what its seats have seen then, and who attends
abbrev pub now_at : DeskAt → Now
now_at x = now_of x.seat x.users x.attending

-- how its session stands where it takes a moment from the clock
abbrev pub stamp_of : DeskAt → Stamp
stamp_of x = stamp_at x.coming x.link x.seat x.users

-- what its link was written by then, and what its seats have seen
abbrev pub reached_at : DeskAt → Reached
reached_at x = reached x.link.written x.seat.seen x.users.seen

-- what a session has in hand where no unit is being read: with a look due where reports are allowed, or with none due
abbrev pub to_report : Attending → Reader → List ℕ → InHand
to_report a r ahead = in_hand a (is_some a.watch) More r ahead

abbrev pub to_read : Attending → Reader → List ℕ → InHand
to_read a r ahead = in_hand a false More r ahead

-- a reply, the tag of the unit that it answers, and what its response is made of besides
pub record ReplyTo : Type 0 where
  pub tag : Option (List ℕ)
  pub beside : Beside
  pub reply : Reply

abbrev pub reply_to : Option (List ℕ) → Beside → Reply → ReplyTo
reply_to tag beside reply = record { tag = tag; beside = beside; reply = reply }

module _ (t : Telling) (old new : DeskAt) where
  -- A session of such a beginning that had done this stands so now. It did more since, and each byte of that was written in its time.
  pub record GoesInTime (l : Language Request Moment) (b : Start) (before : Walk Request Moment) (how : Result Progress Stopped) (reader : Reader) (ahead : List ℕ) : Type 0 where
    pub goes : Goes l t.told t.clock_told b.link new.link b.coming new.coming b.beginning (now_at new) how false reader ahead
    pub ran_on : RunsOn l b.beginning.place b.beginning.opening.first.fold.table before (walk_after l t.told t.clock_told b.link new.link b.coming new.coming b.beginning (now_at new) how false reader ahead goes)
    pub timely : IsTimely l t b old.link (reached_at new) (walk_after l t.told t.clock_told b.link new.link b.coming new.coming b.beginning (now_at new) how false reader ahead goes)

  -- A session that stood so with this in hand goes on so with these bytes ahead, while no unit is being read and no look is due, or it ended.
  abbrev pub GoesTo : InHand → Reader → List ℕ → Result Progress Stopped → Type 0
  GoesTo x reader ahead how = (first : SessionUser) → (k : LinkState) → (c : List Moment) → (b : Beginning) → IsAt b old.seat old.users
      → (s : Stands (language_for first old.shelf) t.told t.clock_told k old.link c old.coming b (now_at old) x.due x.kind x.reader x.ahead)
      → GoesInTime (language_for first old.shelf) (starting k c b) s.past.walk how reader ahead

  -- with the same bytes ahead
  abbrev pub GoesBetween : InHand → Result Progress Stopped → Type 0
  GoesBetween x how = GoesTo x x.reader x.ahead how

  -- over a piece that was ahead
  abbrev pub GoesOver : List ℕ → Result Progress Stopped → Type 0
  GoesOver piece how = GoesTo (to_read old.attending old.reader piece) new.reader [] how

  -- so it was noted
  abbrev pub NotedBetween : (List Note → Type 0) → Type 0
  NotedBetween noted = HasNoted old.shelf t (stood old.link old.coming old.seat old.users old.attending) (stood new.link new.coming new.seat new.users new.attending) noted

  -- this unit was answered, or a stop cut it
  abbrev pub AnsweredBetween : Input → Result Progress Stopped → Type 0
  AnsweredBetween u how = IsAnswered old.shelf t.told t.clock_told old.link new.link old.coming new.coming u old.seat old.users (now_at old) (now_at new) how

  -- this reply was written, or a part of it
  abbrev pub RepliedBetween : Sent → ReplyTo → Type 0
  RepliedBetween sent r = IsReplied old.shelf t.told t.clock_told old.link new.link old.coming new.coming sent r.tag r.beside r.reply

  -- one message was written, or a part of it
  abbrev pub ReportedBetween : Sent → (Moment → List ℕ) → Type 0
  ReportedBetween sent message = IsReported t.told t.clock_told old.link new.link old.coming new.coming sent message

  -- these reports were written, or a part of them
  abbrev pub ToldBetween : Sent → List Notice → Type 0
  ToldBetween sent notices = AreTold (language old.shelf) t.told t.clock_told old.link new.link old.coming new.coming sent notices

  -- a whole session, of whoever attended at its beginning
  abbrev pub ServedBetween : SessionEnd → Type 0
  ServedBetween end = IsServed (language_for old.attending.user old.shelf) t.told t.clock_told old.link new.link old.coming new.coming old.seat new.seat old.users new.users end

  -- each of its reads that was counted began where all that was read before had been served
  abbrev pub PromptBetween : (begun : LinkState → Type 0) → Type 0
  PromptBetween begun = IsPrompt (language_for old.attending.user old.shelf) begun t.told t.clock_told old.link new.link old.coming old.seat old.users

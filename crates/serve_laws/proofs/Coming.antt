-- What one more session of a place comes to, however it ended.
use Rattle.std.proofs.Common.{◌≡◌, ℕ, List, [], ◌∷◌, ◌++◌, refl, sym, ◌∙◌, ap, subst, append-nil, append_assoc, inl, inr}
use base.Stored.{Gv}
use Rattle.turnstile.proofs.Lists.{map_once}
use Rattle.dxc_outside.specs.declared.clock.Moment.{Moment}
use Rattle.dxc_outside.specs.Items.{Item}
use Rattle.dxc_outside.specs.Links.{LinkState, Exchanged}
use Rattle.dxc_model.specs.declared.entry.Entry.{Entry}
use Rattle.user_admin.specs.declared.op.UserEntry.{UserEntry}
use Rattle.user_admin.specs.declared.op.UserMark.{UserMark}
use Rattle.user_admin.specs.Histories.{Opening as UsersOpening}
use Rattle.user_admin.specs.Marks.{entries_of}
use Rattle.user_admin.specs.Turns.{codes as user_codes}
use Rattle.user_admin.proofs.Turning.{same_marks}
use Rattle.switch_laws.specs.Users.{Hearing, Listens, consulted_on}
use Rattle.xc_core.specs.Seeing.{codes, entry_coded}
use Rattle.xc_core.specs.States.{Opening, began}
use Rattle.craft_session.specs.declared.end.SessionEnd.{SessionEnd}
use Rattle.craft_session.specs.declared.end.SessionEnd.TheVariants.{End, ReadFault, WriteFault, Stopped, Spent, Unattended, Idle, Cancelled}
use Rattle.craft_session.specs.Asks.{Language, user_after}
use Rattle.craft_session.specs.Doing.{AnyEntry, CutsOn, Doing, cut_on, heard_on}
use Rattle.craft_session.specs.Happenings.{Request, unit}
use Rattle.craft_session.specs.Sessions.{AreSeen, Beginning, Breaks, Halts, IsSession, Now, Served, walk_of}
use Rattle.craft_session.specs.Runs.{Message, Walk}
use Rattle.craft_session.specs.Stamps.{Stamp}
use Rattle.craft_session.specs.Timely.{IsTimely, reached, starting, telling}
use Rattle.switch_laws.specs.Beginnings.{HaveSaid}
use Rattle.switch_laws.specs.Element.{Session, unanswered}
use Rattle.switch_laws.specs.Orders.{GoneAlong, after}
use Rattle.switch_laws.proofs.Beside.{cut_after, cut_before, gone_on}
use Rattle.switch_laws.proofs.Parting.{Parts}
use Rattle.switch_laws.specs.Laws.{Lives, Spoken, served, session_in, spoken_in, stopped, stopped_at_users}
use Rattle.serve_laws.specs.Timing.{MomentAt, WasWrittenThen}
use Rattle.serve_laws.specs.Written.{IsHeardIn, IsWritten}
use Rattle.serve_laws.proofs.Timing.{Allows, was_written_then}

-- of what was seen of the users' turnstile these are the entries
abbrev pub Sees : List Gv → List UserEntry → Type 0
Sees seen h = (ms : List UserMark) × (seen ≡ user_codes ms) × (entries_of ms ≡ h)

pub sees_once : (seen : List Gv) (h g : List UserEntry) → Sees seen h → Sees seen g → h ≡ g
sees_once seen h g first then = sym first.2 ∙ ap entries_of (same_marks seen first.0 then.0 first.1 then.1) ∙ then.2

-- where the sessions of a place stand: the history so far, after what the opening counts as, and the newest session
pub record Came (l : Language Request Moment) (o : Opening) (own : ℕ) (told : Type 0) (stamped : Stamp → Type 0) (k j : LinkState) (now : Now) (said : List (Spoken Request Moment)) (ss : List (Session Request Moment)) (us : UsersOpening) (hs : List (Hearing Request)) : Type 1 where
  pub history : List Entry
  pub session : Session Request Moment
  pub messages : List Message
  pub lives : Lives l own o.first.fold.table (began o.due) history (said ++ spoken_in ss messages) (session ∷ ss)
  pub written : IsWritten told k j session
  pub saw : codes (began o.due) ++ now.seen ≡ codes history
  pub users_history : List UserEntry
  pub hearing : Hearing Request
  pub listens : Listens l own us users_history (hearing ∷ hs)
  pub heard_in : IsHeardIn session hearing
  pub users_saw : Sees now.users users_history
  pub doing : Doing
  pub did : AreSeen now.stamps now.users_stamps now.users doing
  pub along : GoneAlong l own o.first.fold.table us (began o.due) history doing (session ∷ ss)
  -- so much its link had been written by a moment
  pub written_then : (m : MomentAt) (g : List Entry) → Allows told stamped o own g m → HaveSaid (spoken_in ss messages) g m.sessions → (rest more : List Gv) → now.seen ++ rest ≡ m.seen ++ more → (out : List ℕ) → j.written ≡ k.written ++ out → WasWrittenThen m ss k j

module _ (l : Language Request Moment) (told clock_told : Type 0) (stamped : Stamp → Type 0) (k j : LinkState) (c d : List Moment) (b : Beginning) (now : Now) (said : List (Spoken Request Moment)) (ss : List (Session Request Moment)) (lives : Lives l b.place b.opening.first.fold.table (began b.opening.due) b.before said ss) (hs : List (Hearing Request)) (listens : Listens l b.place b.users b.users_before hs) (earlier : List AnyEntry)
    (along : GoneAlong l b.place b.opening.first.fold.table b.users (began b.opening.due) b.before (after earlier b.first) ss) (apart : Parts l) where
  abbrev Gone : Type 1
  Gone = Came l b.opening b.place told stamped k j now said ss b.users hs

  -- each byte was written in its time
  abbrev InTime : Walk Request Moment → Type 0
  InTime end = IsTimely l (telling told clock_told stamped) (starting k c b) k (reached j.written now.seen now.users) end

  then_written : (end : Walk Request Moment) → InTime end → (m : MomentAt) (g : List Entry) → Allows told stamped b.opening b.place g m → HaveSaid (spoken_in ss end.messages) g m.sessions → (rest more : List Gv) → now.seen ++ rest ≡ m.seen ++ more → (out : List ℕ) → j.written ≡ k.written ++ out → WasWrittenThen m ss k j
  then_written end timely m g a says rest more ends out all = was_written_then told clock_told stamped l k j c now.seen now.users b end ss m g a says rest more ends timely out all

  done_after : (x : Doing) → AreSeen now.stamps now.users_stamps now.users x → AreSeen now.stamps now.users_stamps now.users (after earlier x)
  done_after x y = record { stamps_are = y.stamps_are; users_stamps_are = y.users_stamps_are; codes_are = y.codes_are }

  whole : (x : Served l told clock_told k j c d b now) → InTime x.past.walk → Gone
  whole x timely =
      let p = x.past in
      record {
        history = p.walk.history;
        session = session_in p.walk;
        messages = p.walk.messages;
        written_then = then_written p.walk timely;
        lives = served b.before said ss p.walk p.run lives;
        written = record {
          items = x.items;
          ahead = [];
          rest = x.rest;
          out = x.out;
          missing = [];
          exchanged = subst (λ (is : List Item). Exchanged told k j is x.out) (sym (append-nil x.items)) x.exchanged;
          happened = p.happened;
          written = sym p.written ∙ sym (append-nil x.out);
          cut = inl refl;
        };
        saw = p.saw.codes_are;
        users_history = p.consulted.history;
        hearing = record { happenings = p.walk.happenings; user = p.walk.attending.user };
        listens = consulted_on b.users_before p.consulted.history hs p.walk.happenings p.walk.attending.user p.consulted.heard listens;
        heard_in = inl refl;
        users_saw = (p.consulted.saw.marks, p.consulted.saw.codes_are, p.consulted.saw.entries_are);
        doing = after earlier p.done.doing;
        did = done_after p.done.doing p.done.by_now;
        along = gone_on l b.place b.opening.first.fold.table b.users (began b.opening.due) earlier apart b.before b.first ss along p.walk p.done.doing p.done.does;
      }

  broken : (x : Breaks l told clock_told k j c d b now) → InTime x.past.walk → Gone
  broken x timely =
      let p = x.past in
      record {
        history = p.walk.history;
        session = session_in p.walk;
        messages = p.walk.messages;
        written_then = then_written p.walk timely;
        lives = served b.before said ss p.walk p.run lives;
        written = record {
          items = x.items;
          ahead = x.ahead;
          rest = p.rest;
          out = x.out;
          missing = p.missing;
          exchanged = x.exchanged;
          happened = p.happened;
          written = ap (λ (bs : List ℕ). p.walk.earlier ++ bs) p.split ∙ sym (append_assoc p.walk.earlier p.part p.missing) ∙ ap (λ (bs : List ℕ). bs ++ p.missing) (sym p.written);
          cut = inr x.rose;
        };
        saw = p.saw.codes_are;
        users_history = p.consulted.history;
        hearing = record { happenings = p.walk.happenings; user = p.walk.attending.user };
        listens = consulted_on b.users_before p.consulted.history hs p.walk.happenings p.walk.attending.user p.consulted.heard listens;
        heard_in = inl refl;
        users_saw = (p.consulted.saw.marks, p.consulted.saw.codes_are, p.consulted.saw.entries_are);
        doing = after earlier p.done.doing;
        did = done_after p.done.doing p.done.by_now;
        along = gone_on l b.place b.opening.first.fold.table b.users (began b.opening.due) earlier apart b.before b.first ss along p.walk p.done.doing p.done.does;
      }

  halted : (x : Halts l told clock_told k j c d b now) → InTime x.past.walk → Gone
  halted x timely =
      let p = x.past in
      let w = p.walk in
      let written : IsWritten told k j (unanswered p.last (session_in w)) = record {
        items = x.items;
        ahead = x.ahead;
        rest = [];
        out = x.out;
        missing = [];
        exchanged = x.exchanged;
        happened = p.happened;
        written = sym p.written ∙ sym (append-nil x.out);
        cut = inl refl;
      } in
      elim p.stopped [
        | inl t ↦ (
            let y = t.done in
            let cuts : CutsOn b.place w.history ((heard_on y.doing y.hears).users_stamps) (l.asks w.attending.user p.last) = record { front = t.stops.front; stands = t.stops.stands; op = t.stops.op; cuts = t.stops.cuts; stamps = y.stamps; dated = y.dated } in
            record {
              history = _;
              session = unanswered p.last (session_in w);
              messages = w.messages;
              written_then = then_written w timely;
              lives = stopped b.before said ss w p.last t.stops.front t.stops.op p.run p.looked t.stops.stands t.stops.cuts lives;
              written = written;
              saw = t.stops.saw.codes_are;
              users_history = t.consulted.history;
              hearing = record { happenings = w.happenings ++ unit p.last ∷ []; user = user_after w.attending.user (l.asks w.attending.user p.last) };
              listens = consulted_on b.users_before t.consulted.history hs (w.happenings ++ unit p.last ∷ []) (user_after w.attending.user (l.asks w.attending.user p.last)) t.consulted.heard listens;
              heard_in = inl refl;
              users_saw = (t.consulted.saw.marks, t.consulted.saw.codes_are, t.consulted.saw.entries_are);
              doing = after earlier (cut_on y.doing y.hears cuts);
              did = record { stamps_are = y.by_now.stamps_are; users_stamps_are = y.by_now.users_stamps_are; codes_are = y.by_now.codes_are };
              along = cut_after l b.place b.opening.first.fold.table b.users (began b.opening.due) earlier apart b.before b.first ss along w y.doing y.does p.looked p.last y.hears cuts;
            }
            )
        | inr t ↦ record {
          history = w.history;
          session = unanswered p.last (session_in w);
          messages = w.messages;
          written_then = then_written w timely;
          lives = stopped_at_users b.before said ss w p.last t.op p.run p.looked t.wanted t.changing lives;
          written = written;
          saw = t.saw.codes_are;
          users_history = t.consulted.history;
          hearing = record { happenings = w.happenings; user = w.attending.user };
          listens = consulted_on b.users_before t.consulted.history hs w.happenings w.attending.user t.consulted.heard listens;
          heard_in = inr (p.last, refl);
          users_saw = (t.consulted.saw.marks, t.consulted.saw.codes_are, t.consulted.saw.entries_are);
          doing = after earlier t.done.doing;
          did = done_after t.done.doing t.done.by_now;
          along = cut_before l b.place b.opening.first.fold.table b.users (began b.opening.due) earlier apart b.before b.first ss along w t.done.doing t.done.does p.looked p.last t.op t.wanted t.changing;
        }
      ]

  pub gone : (end : SessionEnd) (x : IsSession l told clock_told k j c d b now end) → InTime (walk_of l told clock_told k j c d b now end x) → Gone
  gone End x timely = whole x timely
  gone ReadFault x timely = whole x timely
  gone Spent x timely = whole x timely
  gone Unattended x timely = whole x.served timely
  gone Idle x timely = whole x timely
  gone Cancelled x timely = whole x.served timely
  gone WriteFault x timely = broken x timely
  gone Stopped x timely = halted x timely

pub same_codes : (h g : List Entry) → codes h ≡ codes g → h ≡ g
same_codes h g e = map_once entry_coded.code entry_coded.inj h g e

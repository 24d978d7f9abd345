-- How a session goes on.
use Rattle.std.specs.Prelude.{is_some, min}
use Rattle.std.proofs.Common.{◌≡◌, ℕ, ◌+◌, ◌≤◌, Bool, true, false, length, List, [], ◌∷◌, ◌++◌, Option, Some, None, Result, Ok, Err, take, drop, inl, inr, refl, sym, ◌∙◌, ap, ap₂, subst, arith, append_assoc, take-append-drop}
use Rattle.std.proofs.lemmas.List.{append-nil, map-append, drop-drop}
use base.Stored.{Gv}
use Rattle.turnstile.specs.Dating.{Stamp as DateStamp}
use Rattle.dxc_causes.specs.Causes.{Counted}
use Rattle.dxc_outside.specs.declared.link.Got.{Got}
use Rattle.dxc_outside.specs.declared.link.Got.TheVariants.{Bytes, Quiet}
use Rattle.dxc_outside.specs.declared.stopped.Stopped.{Stopped}
use Rattle.dxc_outside.specs.declared.send.Sent.{Sent}
use Rattle.dxc_outside.specs.declared.send.Sent.TheVariants.{Whole, Cut as Sent_cut}
use Rattle.dxc_outside.specs.declared.clock.Moment.{Moment}
use Rattle.dxc_outside.specs.Items.{Item, byte, bytes, taken}
use Rattle.dxc_outside.specs.Items.{quiet as quiet_item}
use Rattle.dxc_outside.specs.Links.{LinkState, IsRead, Wrote, Exchanged}
use Rattle.dxc_outside.specs.Moments.{moment_now, later_moments}
use Rattle.dxc_outside.proofs.LinkSteps.{wrote_none, wrote_more, exchanged_none, exchanged_read, exchanged_wrote}
use Rattle.dxc_model.specs.declared.entry.Entry.{Entry}
use Rattle.dxc_model.specs.declared.op.Change.{Change}
use Rattle.dxc_model.specs.Histories.{changes_of}
use Rattle.tl1_text.specs.declared.reader.UnitKind.{UnitKind}
use Rattle.tl1_text.specs.declared.reader.UnitKind.TheVariants.{Whole as WholeUnit, TooLong as TooLongUnit, More}
use Rattle.tl1_text.specs.declared.reader.Fed.{Fed}
use Rattle.tl1_text.specs.Units.{IsUnit, IsRest, whole, too_long}
use Rattle.tl1_text.specs.Reading.{Reader, Made, IsFed, hand, Holds}
use Rattle.tl1_text.proofs.Steps.{holds_none, rest_of}
use Rattle.user_admin.specs.declared.op.UserEntry.{UserEntry}
use Rattle.tl1_users.specs.declared.op.UserOp.{UserOp}
use Rattle.user_admin.specs.Turns.{Saw as SawUsers, TurnedBack}
use Rattle.user_admin.specs.Verdicts.{IsChanging}
use Rattle.dxc_model.specs.declared.user.SessionUser.{SessionUser}
use Rattle.xc_core.specs.declared.turns.Looked.{Looked}
use Rattle.xc_core.specs.Seeing.{Saw}
use Rattle.xc_core.specs.Turns.{LookIs}
use Rattle.xc_core.proofs.Turning.{changes_longer}
use Rattle.dbchg_reports.specs.Recent.{SinceIs, recent_of}
use Rattle.craft_session.specs.declared.attending.Attending.{Attending}
use Rattle.craft_session.specs.declared.end.Progress.{Progress}
use Rattle.craft_session.specs.declared.end.Progress.TheVariants.{On, Cut}
use Rattle.craft_session.specs.Acting.{Acts, Stops}
use Rattle.craft_session.specs.Asks.{Reply, Language, user_after}
use Rattle.craft_session.specs.Consulting.{consults_none}
use Rattle.craft_session.specs.Happenings.{Request, unit, nothing_read, bytes_read, quiet_read, unit_ended}
use Rattle.craft_session.specs.Hearing.{HeardBehind, to_do}
use Rattle.craft_session.specs.Moments.{Gives, gave_none, gave_next}
use Rattle.craft_session.specs.Notices.{AreReported, Notice, found_notices, notices}
use Rattle.craft_session.specs.Progresses.{progress_of}
use Rattle.craft_session.specs.Runs.{Run, RunsOn, Walk, begins, waits, looks, beginning, with_look, with_quiet, with_response}
use Rattle.craft_session.specs.Sessions.{AreTold, Beginning, Breaks, Consulted, CutPast, Goes, Halts, HasDone, IsAt, IsDoneBy, IsSaid, Now, Past, Served, Stands, StopPast, Writes, walk_after}
use Rattle.craft_session.specs.Seats.{SeatAt, UserSeatAt}
use Rattle.craft_session.specs.Stamps.{AreStamped, Stamp, stamp_at}
use Rattle.craft_session.specs.Timely.{IsTimely, Reached, reached, starting, telling}
use Rattle.craft_session.specs.Walks.{begun_by}
use Rattle.craft_session.proofs.Changing.{others_unused}
use Rattle.craft_session.proofs.Consulted.{Learns, consulted_back, consulted_on, consulted_quiet}
use Rattle.craft_session.proofs.Done.{TableTurned, UnitTurned, UsersTurned, done_back, done_cut, done_look, done_none, done_quiet, done_there, done_unit}
use Rattle.craft_session.proofs.Reporting.{found_is}
use Rattle.craft_session.proofs.Timely.{in_message, sent_to, timely_none}
use Rattle.craft_session.proofs.Walking.{cursor_within, due_some, snoc_some, passes_all, run_answered, run_more, with_history}

pub writes_none : (told : Type 0) (k : LinkState) → Writes told k k
writes_none told k = record { out = []; wrote = wrote_none told k }

pub writes_more : (told : Type 0) (k l m : LinkState) → Writes told k l → Writes told l m → Writes told k m
writes_more told k l m first next = record { out = first.out ++ next.out; wrote = wrote_more told k l m first.out next.out first.wrote next.wrote }

pub counted_more : (a b c n : ℕ) → Counted a b n → Counted b c 1 → Counted a c (n + 1)
counted_more a b c n so_far one = record { reached = omega (arith, so_far.reached, so_far.no_more, one.reached); no_more = omega (arith, so_far.no_more, one.no_more) }

pub gives_more : (c d e ms ns : List Moment) → Gives c d ms → Gives d e ns → Gives c e (ms ++ ns)
gives_more c d _ ms _ first (gave_none _) = subst (λ (x : List Moment). Gives c d x) (sym (append-nil ms)) first
gives_more c d _ ms _ first (gave_next _ e ns next) = subst (λ (x : List Moment). Gives c (later_moments e) x) (append_assoc ms ns (moment_now e ∷ [])) (gave_next c e (ms ++ ns) (gives_more c d e ms ns first next))

module _ (l : Language Request Moment) (clock_told : Type 0) (c : List Moment) (b : Beginning) where
  past_none : (now : Now) → Saw b.opening now.seen b.before → SawUsers b.users now.users b.users_before → IsDoneBy now b.first → now.attending ≡ begun_by l.first → Past l clock_told c c b now false [] [] []
  past_none now saw users done none = record { walk = beginning l b.before; happened = nothing_read; gave = λ _. gave_none c; run = begins; saw = saw; consulted = record { history = b.users_before; heard = consults_none; saw = users }; done = done_none l b now done; attending = none; looked = refl; written = refl }

  module _ (d : List Moment) (now : Now) (items : List Item) (rest out : List ℕ) where
    abbrev past_bytes : (due : Bool) → Past l clock_told c d b now due items rest out → (bs : List ℕ) → Past l clock_told c d b now due (items ++ bytes bs) (rest ++ bs) out
    past_bytes due p bs = record { walk = p.walk; happened = bytes_read items p.walk.happenings rest bs p.happened; gave = p.gave; run = p.run; saw = p.saw; consulted = p.consulted; done = p.done; attending = p.attending; looked = p.looked; written = p.written }

    module _ (p : Past l clock_told c d b now false items rest out) where
      abbrev past_quiet : IsRest rest → Past l clock_told c d b now (is_some now.attending.watch) (items ++ quiet_item ∷ []) rest out
      past_quiet alone = record {
        walk = with_quiet p.walk;
        happened = quiet_read items p.walk.happenings rest p.happened alone;
        gave = p.gave;
        run = waits p.walk p.looked p.run;
        saw = p.saw;
        consulted = consulted_quiet l b now.users now.users p.walk.happenings p.walk.attending.user p.consulted;
        done = done_quiet l b now p.walk p.done p.looked;
        attending = p.attending;
        looked = ap (λ (s : Attending). is_some s.watch) (sym p.attending);
        written = p.written ∙ sym (append-nil (p.walk.earlier ++ p.walk.latest));
      }

      -- what a unit hears from where the session stands
      abbrev Hearing : Request → List Gv → Type 0
      Hearing u then_seen = Learns l b now.users now.attending.user u then_seen

      consults_on : (u : Request) (then_seen : List Gv) → Hearing u then_seen → Consulted l b then_seen (p.walk.happenings ++ unit u ∷ []) (user_after p.walk.attending.user (l.asks p.walk.attending.user u))
      consults_on u then_seen hears = consulted_on l b now.users then_seen p.walk.happenings p.walk.attending.user p.consulted u
          (subst (λ (s : Attending). Learns l b now.users s.user u then_seen) p.attending hears)

      -- what it heard behind the users' history
      heard_behind : (u : Request) (then_seen : List Gv) → Hearing u then_seen → HeardBehind b.users b.place p.consulted.history (l.wants p.walk.attending.user u) (l.heard u) then_seen
      heard_behind u then_seen hears = (subst (λ (s : Attending). Learns l b now.users s.user u then_seen) p.attending hears).1 p.consulted.history p.consulted.saw

      past_stopped : (u : Request) → IsUnit rest u.input → (after : Now) → UnitTurned b.place now after → Hearing u after.users → ((h : List Entry) → Saw b.opening now.seen h → Stops b.opening b.place h now.attending (l.asks now.attending.user u) after.attending after.seen) → StopPast l clock_told c d b after items out
      past_stopped u is after turned hears stops =
          let cut = subst (λ (s : Attending). Stops b.opening b.place p.walk.history s (l.asks s.user u) after.attending after.seen) p.attending (stops p.walk.history p.saw) in
          record {
            walk = p.walk;
            last = u;
            happened = unit_ended items p.walk.happenings rest u p.happened is;
            gave = p.gave;
            run = p.run;
            looked = p.looked;
            history = p.saw.history;
            stopped = inl (record {
              consulted = consults_on u after.users hears;
              stops = cut;
              done = done_cut l b now p.walk p.done after turned.0 u p.consulted.history p.consulted.saw (heard_behind u after.users hears) turned.1 p.saw after.attending cut;
            });
            written = p.written;
          }

      past_unheard : (u : Request) → IsUnit rest u.input → (after : Now) → UsersTurned b.place now after → after.stamps ≡ now.stamps → (op : UserOp) → l.wants now.attending.user u ≡ to_do op → IsChanging op → ((h : List UserEntry) → SawUsers b.users now.users h → TurnedBack b.users b.place h after.users)
          → after.seen ≡ now.seen → after.attending ≡ now.attending → StopPast l clock_told c d b after items out
      past_unheard u is after turned same op wanted changing back seen attending = record {
        walk = p.walk;
        last = u;
        happened = unit_ended items p.walk.happenings rest u p.happened is;
        gave = p.gave;
        run = p.run;
        looked = p.looked;
        history = p.saw.history;
        stopped = inr (record {
          consulted = consulted_back l b now.users after.users p.walk.happenings p.walk.attending.user p.consulted back;
          done = done_back l b now p.walk p.done after turned p.consulted.history p.consulted.saw (back p.consulted.history p.consulted.saw) same;
          op = op;
          wanted = subst (λ (s : Attending). l.wants s.user u ≡ to_do op) p.attending wanted;
          changing = changing;
          saw = subst (λ (x : List Gv). Saw b.opening x p.walk.history) (sym seen) p.saw;
          attending = attending ∙ p.attending;
        });
        written = p.written;
      }

      module _ (u : Request) (is : IsUnit rest u.input) (e : List Moment) (m : Moment) (m_is : clock_told → m ≡ moment_now d) (e_is : clock_told → e ≡ later_moments d) (r : Reply) (after : Now) (turned : UnitTurned b.place now after)
          (hears : Hearing u after.users) (acts : (h : List Entry) → Saw b.opening now.seen h → Acts b.opening b.place h now.attending (l.asks now.attending.user u) r after.attending after.seen) where
        gave_one : clock_told → Gives c e (p.walk.moments ++ m ∷ [])
        gave_one ct = rw (m_is ct, e_is ct) (gave_next c d p.walk.moments (p.gave ct))

        did : Acts b.opening b.place p.walk.history p.walk.attending (l.asks p.walk.attending.user u) r after.attending after.seen
        did = subst (λ (s : Attending). Acts b.opening b.place p.walk.history s (l.asks s.user u) r after.attending after.seen) p.attending (acts p.walk.history p.saw)

        consults : Consulted l b after.users (p.walk.happenings ++ unit u ∷ []) after.attending.user
        consults = subst (λ (s : SessionUser). Consulted l b after.users (p.walk.happenings ++ unit u ∷ []) s) (sym (ap (λ (s : Attending). s.user) did.attending)) (consults_on u after.users hears)

        abbrev walk_on : List Entry → List Entry → Walk Request Moment
        walk_on passed entries = with_response u entries m (l.response m u r) after.attending (with_history (p.walk.history ++ passed) p.walk)

        done_on : HasDone l b after (walk_on did.passed did.entries)
        done_on = done_unit l b now p.walk p.done after turned.0 u p.consulted.history p.consulted.saw (heard_behind u after.users hears) turned.1 p.saw r m after.attending p.looked did

        -- it ran on to that
        abbrev walk_then : Walk Request Moment
        walk_then = walk_on did.passed did.entries

        ran_answered : RunsOn l b.place b.opening.first.fold.table p.walk walk_then
        ran_answered = run_answered l b.place b.opening.first.fold.table p.walk b.opening p.walk u m r after.attending after.seen refl p.looked did begins

        run_on : Run l b.place b.opening.first.fold.table b.before walk_then
        run_on = run_more l b.place b.opening.first.fold.table (beginning l b.before) p.walk walk_then p.run ran_answered

        past_answered : Past l clock_told c e b after (is_some after.attending.watch) items [] (out ++ l.response m u r)
        past_answered = record {
          walk = walk_on did.passed did.entries;
          happened = unit_ended items p.walk.happenings rest u p.happened is;
          gave = gave_one;
          run = run_on;
          saw = did.saw;
          consulted = consults;
          done = done_on;
          attending = refl;
          looked = refl;
          written = ap (λ (x : List ℕ). x ++ l.response m u r) p.written;
        }

        past_cut : (part missing : List ℕ) → l.response m u r ≡ part ++ missing → CutPast l clock_told c e b after items (out ++ part)
        past_cut part missing split = record {
          walk = walk_on did.passed did.entries;
          rest = [];
          happened = unit_ended items p.walk.happenings rest u p.happened is;
          some = snoc_some p.walk.happenings (unit u);
          no_unit = rest_of holds_none;
          moments = p.walk.moments ++ m ∷ [];
          untaken = [];
          taken = sym (append-nil (p.walk.moments ++ m ∷ []));
          gave = gave_one;
          run = run_on;
          saw = did.saw;
          consulted = consults;
          done = done_on;
          part = part;
          missing = missing;
          split = split;
          written = ap (λ (x : List ℕ). x ++ part) p.written;
        }

    -- a look that was due
    module _ (p : Past l clock_told c d b now true items rest out) (cursor : ℕ) (watch : now.attending.watch ≡ Some cursor) (looked : Looked) (given : List Change) (seen : List Gv) (stamps : List DateStamp) where
      abbrev after_look : Now
      after_look = record { seen = seen; users = now.users; attending = record { user = now.attending.user; watch = Some looked.newest }; stamps = stamps; users_stamps = now.users_stamps }

      watched : p.walk.attending.watch ≡ Some cursor
      watched = ap (λ (s : Attending). s.watch) (sym p.attending) ∙ watch

      pub cursor_is_within : cursor ≤ length (changes_of p.walk.history)
      cursor_is_within = cursor_within l b.place b.opening.first.fold.table b.before p.walk p.run cursor watched

      module _ (turned : TableTurned b.place now after_look) (look : LookIs b.opening b.place p.walk.history cursor seen looked given) (ms : List Moment) (said : List ℕ) (reported : AreReported l.report (notices (changes_of (p.walk.history ++ look.0.later)) cursor) ms said) where
        abbrev looked_on : Walk Request Moment
        looked_on = with_look b.place cursor ms said (with_history (p.walk.history ++ look.0.later) p.walk)

        look_ran : RunsOn l b.place b.opening.first.fold.table p.walk looked_on
        look_ran = looks (with_history (p.walk.history ++ look.0.later) p.walk) cursor ms said p.looked watched reported
            (passes_all l b.place b.opening.first.fold.table p.walk p.walk look.0.later (others_unused b.place look.0.later look.0.others) begins)

        look_run : Run l b.place b.opening.first.fold.table b.before looked_on
        look_run = run_more l b.place b.opening.first.fold.table (beginning l b.before) p.walk looked_on p.run look_ran

        look_done : HasDone l b after_look looked_on
        look_done = done_look l b now p.walk p.done after_look turned refl refl p.saw cursor ms said p.looked watched look.0.later (others_unused b.place look.0.later look.0.others) look.0.saw reported

        attends : after_look.attending ≡ looked_on.attending
        attends = ap₂ (λ (s : Attending) (n : ℕ). record { user = s.user; watch = Some n }) p.attending look.2

        past_looked : (e : List Moment) → (clock_told → Gives d e ms) → Past l clock_told c e b after_look false items rest (out ++ said)
        past_looked e gave = record {
          walk = looked_on;
          happened = p.happened;
          gave = λ ct. gives_more c d e p.walk.moments ms (p.gave ct) (gave ct);
          run = look_run;
          saw = look.0.saw;
          consulted = p.consulted;
          done = look_done;
          attending = attends;
          looked = refl;
          written = ap (λ (x : List ℕ). x ++ said) p.written ∙ append_assoc p.walk.earlier p.walk.latest said;
        }

        past_look_cut : IsRest rest → (e taken untaken : List Moment) → ms ≡ taken ++ untaken → (clock_told → Gives d e taken) → (part missing : List ℕ) → said ≡ part ++ missing → CutPast l clock_told c e b after_look items (out ++ part)
        past_look_cut no_unit e taken untaken all gave part missing split = record {
          walk = looked_on;
          rest = rest;
          happened = p.happened;
          some = due_some l b.place b.opening.first.fold.table b.before p.walk p.run p.looked;
          no_unit = no_unit;
          moments = p.walk.moments ++ taken;
          untaken = untaken;
          taken = ap (λ (x : List Moment). p.walk.moments ++ x) all ∙ sym (append_assoc p.walk.moments taken untaken);
          gave = λ ct. gives_more c d e p.walk.moments taken (p.gave ct) (gave ct);
          run = look_run;
          saw = look.0.saw;
          consulted = p.consulted;
          done = look_done;
          part = p.walk.latest ++ part;
          missing = missing;
          split = ap (λ (x : List ℕ). p.walk.latest ++ x) split ∙ sym (append_assoc p.walk.latest part missing);
          written = ap (λ (x : List ℕ). x ++ part) p.written ∙ append_assoc p.walk.earlier p.walk.latest part;
        }

module _ (l : Language Request Moment) (told clock_told : Type 0) (k : LinkState) (c : List Moment) (b : Beginning) where
  -- How a session goes that had done this and stood so: it ran on, and each byte since was written in its time.
  pub record Gone (stamped : Stamp → Type 0) (j : LinkState) (e : Reached) (v : Walk Request Moment) (G : Type 0) (walk : G → Walk Request Moment) : Type 0 where
    pub goes : G
    pub ran_on : RunsOn l b.place b.opening.first.fold.table v (walk goes)
    pub timely : IsTimely l (telling told clock_told stamped) (starting k c b) j e (walk goes)

  -- nothing has happened
  pub stands_none : (now : Now) (r : Reader) → Saw b.opening now.seen b.before → SawUsers b.users now.users b.users_before → IsDoneBy now b.first → now.attending ≡ begun_by l.first → Holds [] (hand r) → Stands l told clock_told k k c c b now false More r []
  stands_none now r saw users done none holds = record { items = []; rest = []; out = []; exchanged = exchanged_none told k; no_fault = refl; made = holds; past = past_none l clock_told c b now saw users done none }

  module _ (j : LinkState) (d : List Moment) (now : Now) (r : Reader) where
    module _ (kind : UnitKind) (ahead : List ℕ) (s : Stands l told clock_told k j c d b now false kind r ahead) (u : Request) (j2 : LinkState) (d2 : List Moment) (is : IsUnit s.rest u.input) (reply : Reply) (after : Now) (turned : UnitTurned b.place now after)
        (hears : Learns l b now.users now.attending.user u after.users) (acts : (h : List Entry) → Saw b.opening now.seen h → Acts b.opening b.place h now.attending (l.asks now.attending.user u) reply after.attending after.seen) where
      -- a unit was answered
      stands_answered : hand r ≡ [] → IsSaid l told clock_told j j2 d d2 Whole u reply → Stands l told clock_told k j2 c d2 b after (is_some after.attending.watch) More r ahead
      stands_answered none said =
          let whole : said.wrote.part ≡ l.response said.moment u reply = sym (said.wrote.split ∙ ap (λ (x : List ℕ). said.wrote.part ++ x) (said.wrote.whole refl) ∙ append-nil said.wrote.part) in
          let wrote = subst (λ (x : List ℕ). Wrote told j j2 x) whole said.wrote.wrote in
          record {
            items = s.items;
            rest = [];
            out = s.out ++ l.response said.moment u reply;
            exchanged = exchanged_wrote told k j j2 (s.items ++ bytes ahead) s.out (l.response said.moment u reply) s.exchanged wrote;
            no_fault = said.wrote.no_fault refl ∙ s.no_fault;
            made = subst (λ (h : List ℕ). Holds [] h) (sym none) holds_none;
            past = past_answered l clock_told c b d now s.items s.rest s.out s.past u is d2 said.moment said.now said.later reply after turned hears acts;
          }

      -- its answer was cut
      breaks_answered : IsSaid l told clock_told j j2 d d2 Sent_cut u reply → Breaks l told clock_told k j2 c d2 b after
      breaks_answered said = record {
        items = s.items;
        ahead = ahead;
        out = s.out ++ said.wrote.part;
        exchanged = exchanged_wrote told k j j2 (s.items ++ bytes ahead) s.out said.wrote.part s.exchanged said.wrote.wrote;
        rose = omega (arith, s.exchanged.write_later, said.wrote.cause.cause refl);
        past = past_cut l clock_told c b d now s.items s.rest s.out s.past u is d2 said.moment said.now said.later reply after turned hears acts said.wrote.part said.wrote.rest said.wrote.split;
      }

      -- what it has done then
      abbrev then_walk : (sent : Sent) → IsSaid l told clock_told j j2 d d2 sent u reply → Walk Request Moment
      then_walk sent said = walk_then l clock_told c b d now s.items s.rest s.out s.past u is d2 said.moment said.now said.later reply after turned hears acts

      -- each byte of the answer was written in its time
      module _ (stamped : Stamp → Type 0) (seat : SeatAt) (users : UserSeatAt) (at : IsAt b seat users) (seen : seat.seen ≡ after.seen) (users_seen : users.seen ≡ after.users) (stamps : seat.stamps ≡ after.stamps) (users_stamps : users.stamps ≡ after.users_stamps) (was : stamped (stamp_at d j seat users)) where
        answered_in_time : (sent : Sent) → (said : IsSaid l told clock_told j j2 d d2 sent u reply) → IsTimely l (telling told clock_told stamped) (starting k c b) j (reached j2.written seat.seen users.seen) (then_walk sent said)
        unfolding past_answered
        answered_in_time sent said t n from below =
            let p = past_answered l clock_told c b d now s.items s.rest s.out s.past u is d2 said.moment said.now said.later reply after turned hears acts in (
              stamp_at d j seat users,
              was,
              record {
                items = s.items;
                ahead = ahead;
                out = s.out;
                exchanged = s.exchanged;
                walk = p.walk;
                rest = [];
                happened = p.happened;
                run = p.run;
                ran_on = begins;
                at = at;
                saw = subst (λ (x : List Gv). Saw b.opening x p.walk.history) (sym seen) p.saw;
                consulted = subst (λ (x : List Gv). Consulted l b x p.walk.happenings p.walk.attending.user) (sym users_seen) p.consulted;
                done = done_there l b seat users after p.walk stamps users_stamps users_seen p.done;
                message = l.response said.moment u reply;
                says = inl (record { before = s.past.walk.moments; moment = said.moment; unit = u; reply = reply; all = refl; gave = λ ct. (s.past.gave ct, said.now ct); is = refl });
                written = sym p.written;
                newest = (s.past.walk.messages, refl);
                sent = said.wrote.part;
                unsent = said.wrote.rest;
                split = said.wrote.split;
                goes_on = sent_to told b j j2 seat.seen users.seen said.wrote.part said.wrote.wrote;
                follows = from;
                within = in_message told j j2 said.wrote.part said.wrote.wrote t n below;
              },
            )

        abbrev pub Goes_since : (G : Type 0) → (G → Walk Request Moment) → Type 0
        Goes_since G walk = Gone stamped j (reached j2.written seat.seen users.seen) s.past.walk G walk

        -- the unit ended, whole or too long, and was answered
        pub goes_on : hand r ≡ [] → IsSaid l told clock_told j j2 d d2 Whole u reply → Goes_since (Stands l told clock_told k j2 c d2 b after (is_some after.attending.watch) More r ahead) (λ x. x.past.walk)
        unfolding stands_answered past_answered
        goes_on none said = record {
          goes = stands_answered none said;
          ran_on = ran_answered l clock_told c b d now s.items s.rest s.out s.past u is d2 said.moment said.now said.later reply after turned hears acts;
          timely = answered_in_time Whole said;
        }

        pub goes_cut : IsSaid l told clock_told j j2 d d2 Sent_cut u reply → Goes_since (Breaks l told clock_told k j2 c d2 b after) (λ x. x.past.walk)
        unfolding breaks_answered past_cut
        goes_cut said = record {
          goes = breaks_answered said;
          ran_on = ran_answered l clock_told c b d now s.items s.rest s.out s.past u is d2 said.moment said.now said.later reply after turned hears acts;
          timely = answered_in_time Sent_cut said;
        }

    -- a unit that ended, whole or too long
    module _ (kind : UnitKind) (ahead : List ℕ) (s : Stands l told clock_told k j c d b now false kind r ahead) (u : Request) (ended : IsUnit s.rest u.input × (hand r ≡ [])) (stamped : Stamp → Type 0) (e : Reached) (none_written : e.written ≡ j.written) where
      abbrev Stopped_since : LinkState → List Moment → Now → Type 0
      Stopped_since j2 d2 after = Gone stamped j e s.past.walk (Halts l told clock_told k j2 c d2 b after) (λ x. x.past.walk)

      -- a stop came
      halts_by : (j2 : LinkState) (d2 : List Moment) (after : Now) → j2 ≡ j → d2 ≡ d → StopPast l clock_told c d b after s.items s.out → Halts l told clock_told k j2 c d2 b after
      halts_by j2 d2 after link clock past = record {
        items = s.items;
        ahead = ahead;
        out = s.out;
        exchanged = subst (λ (y : LinkState). Exchanged told k y (s.items ++ bytes ahead) s.out) (sym link) s.exchanged;
        no_fault = ap (λ (y : LinkState). y.write_faults) link ∙ s.no_fault;
        past = record {
          walk = past.walk;
          last = past.last;
          happened = past.happened;
          gave = λ ct. subst (λ (y : List Moment). Gives c y past.walk.moments) (sym clock) (past.gave ct);
          run = past.run;
          looked = past.looked;
          history = past.history;
          stopped = past.stopped;
          written = past.written;
        };
      }

      pub goes_stopped : (j2 : LinkState) (d2 : List Moment) (after : Now) → UnitTurned b.place now after → j2 ≡ j → d2 ≡ d → Learns l b now.users now.attending.user u after.users
          → ((h : List Entry) → Saw b.opening now.seen h → Stops b.opening b.place h now.attending (l.asks now.attending.user u) after.attending after.seen) → Stopped_since j2 d2 after
      unfolding halts_by past_stopped
      goes_stopped j2 d2 after turned link clock hears stops = record {
        goes = halts_by j2 d2 after link clock (past_stopped l clock_told c b d now s.items s.rest s.out s.past u ended.0 after turned hears stops);
        ran_on = begins;
        timely = timely_none l (telling told clock_told stamped) (starting k c b) j e s.past.walk none_written;
      }

      pub goes_unheard : (j2 : LinkState) (d2 : List Moment) (after : Now) → UsersTurned b.place now after → after.stamps ≡ now.stamps → (op : UserOp) → j2 ≡ j → d2 ≡ d → l.wants now.attending.user u ≡ to_do op → IsChanging op → ((h : List UserEntry) → SawUsers b.users now.users h → TurnedBack b.users b.place h after.users)
          → after.seen ≡ now.seen → after.attending ≡ now.attending → Stopped_since j2 d2 after
      unfolding halts_by past_unheard
      goes_unheard j2 d2 after turned same op link clock wanted changing back seen attending = record {
        goes = halts_by j2 d2 after link clock (past_unheard l clock_told c b d now s.items s.rest s.out s.past u ended.0 after turned same op wanted changing back seen attending);
        ran_on = begins;
        timely = timely_none l (telling told clock_told stamped) (starting k c b) j e s.past.walk none_written;
      }

    pub whole_ended : (kind : UnitKind) (ahead : List ℕ) (s : Stands l told clock_told k j c d b now false kind r ahead) → kind ≡ WholeUnit → IsUnit s.rest (whole r.kept) × (hand r ≡ [])
    whole_ended kind ahead s is = subst (λ (x : UnitKind). Made s.rest x r) is s.made

    pub long_ended : (kind : UnitKind) (ahead : List ℕ) (s : Stands l told clock_told k j c d b now false kind r ahead) → kind ≡ TooLongUnit → IsUnit s.rest too_long × (hand r ≡ [])
    long_ended kind ahead s is = subst (λ (x : UnitKind). Made s.rest x r) is s.made

    -- a read was made, and its items stand ahead
    pub exchanged_on : (j2 : LinkState) (got : Got) (buffer : List ℕ) → (s : Stands l told clock_told k j c d b now false More r []) → IsRead told j j2 got buffer → Exchanged told k j2 (s.items ++ taken got buffer) s.out
    exchanged_on j2 got buffer s read = exchanged_read told k j j2 s.items s.out got buffer (subst (λ (x : List Item). Exchanged told k j x s.out) (append-nil s.items) s.exchanged) read

    -- a piece came
    abbrev pub stands_piece : (j2 : LinkState) (n : ℕ) (buffer piece : List ℕ) → Stands l told clock_told k j c d b now false More r [] → IsRead told j j2 (Bytes n) buffer → piece ≡ take n buffer
        → Stands l told clock_told k j2 c d b now false More r piece
    stands_piece j2 n buffer piece s read is = record {
      items = s.items;
      rest = s.rest;
      out = s.out;
      exchanged = subst (λ (p : List ℕ). Exchanged told k j2 (s.items ++ bytes p) s.out) (sym is) (exchanged_on j2 (Bytes n) buffer s read);
      no_fault = read.write_faults ∙ s.no_fault;
      made = s.made;
      past = s.past;
    }

    -- nothing came
    abbrev pub stands_quiet : (j2 : LinkState) (buffer : List ℕ) → Stands l told clock_told k j c d b now false More r [] → IsRead told j j2 Quiet buffer → Stands l told clock_told k j2 c d b now (is_some now.attending.watch) More r []
    stands_quiet j2 buffer s read = record {
      items = s.items ++ quiet_item ∷ [];
      rest = s.rest;
      out = s.out;
      exchanged = subst (λ (x : List Item). Exchanged told k j2 x s.out) (sym (append-nil (s.items ++ quiet_item ∷ []))) (exchanged_on j2 Quiet buffer s read);
      no_fault = read.write_faults ∙ s.no_fault;
      made = s.made;
      past = past_quiet l clock_told c b d now s.items s.rest s.out s.past (rest_of s.made);
    }

    -- the next bytes of a piece were fed to the reader
    module _ (piece offer : List ℕ) (at : ℕ) (fed : Fed) (r2 : Reader) (s : Stands l told clock_told k j c d b now false More r (drop at piece)) where
      abbrev front : List ℕ
      front = take fed.taken (drop at piece)

      abbrev back : List ℕ
      back = drop (at + fed.taken) piece

      pub items_are : s.items ++ bytes (drop at piece) ≡ (s.items ++ bytes front) ++ bytes back
      items_are =
          let joined : bytes (drop at piece) ≡ bytes front ++ bytes (drop fed.taken (drop at piece)) = ap (λ (x : List ℕ). bytes x) (sym (take-append-drop fed.taken (drop at piece))) ∙ map-append byte front (drop fed.taken (drop at piece)) in
          ap (λ (x : List Item). s.items ++ x) (joined ∙ ap (λ (x : List ℕ). bytes front ++ bytes x) (drop-drop fed.taken at piece)) ∙ sym (append_assoc s.items (bytes front) (bytes back))

      abbrev pub stands_on : offer ≡ drop at piece → ((bs : List ℕ) → Holds bs (hand r) → IsFed bs offer fed r2) → Stands l told clock_told k j c d b now false fed.unit r2 back
      stands_on is feeds = record {
        items = s.items ++ bytes front;
        rest = s.rest ++ front;
        out = s.out;
        exchanged = subst (λ (x : List Item). Exchanged told k j x s.out) items_are s.exchanged;
        no_fault = s.no_fault;
        made = (subst (λ (x : List ℕ). IsFed s.rest x fed r2) is (feeds s.rest s.made)).made;
        past = past_bytes l clock_told c b d now s.items s.rest s.out false s.past front;
      }

    pub goes_on_is : (how : Result Progress Stopped) (ahead : List ℕ) → how ≡ Ok On → Goes l told clock_told k j c d b now how false r ahead → Stands l told clock_told k j c d b now false More r ahead
    goes_on_is how ahead is goes = subst (λ (x : Result Progress Stopped). Goes l told clock_told k j c d b now x false r ahead) is goes

    pub goes_cut_is : (how : Result Progress Stopped) (due : Bool) (ahead : List ℕ) → how ≡ Ok Cut → Goes l told clock_told k j c d b now how due r ahead → Breaks l told clock_told k j c d b now
    goes_cut_is how due ahead is goes = subst (λ (x : Result Progress Stopped). Goes l told clock_told k j c d b now x due r ahead) is goes

    pub goes_stopped_is : (how : Result Progress Stopped) (e : Stopped) (due : Bool) (ahead : List ℕ) → how ≡ Err e → Goes l told clock_told k j c d b now how due r ahead → Halts l told clock_told k j c d b now
    goes_stopped_is how e due ahead is goes = subst (λ (x : Result Progress Stopped). Goes l told clock_told k j c d b now x due r ahead) is goes

    -- a session that was ended stands so, whatever the reader holds
    pub goes_ended_is : (how : Result Progress Stopped) (due due2 : Bool) (r2 : Reader) (ahead more : List ℕ) → (how ≡ Ok On → ⊥) → Goes l told clock_told k j c d b now how due r ahead → Goes l told clock_told k j c d b now how due2 r2 more
    goes_ended_is (Ok On) due due2 r2 ahead more not goes = absurd (not refl)
    goes_ended_is (Ok Cut) due due2 r2 ahead more not goes = goes
    goes_ended_is (Err e) due due2 r2 ahead more not goes = goes

    -- the session ended here
    abbrev pub served_here : Stands l told clock_told k j c d b now false More r [] → Served l told clock_told k j c d b now
    served_here s = record {
      items = s.items;
      rest = s.rest;
      out = s.out;
      exchanged = subst (λ (x : List Item). Exchanged told k j x s.out) (append-nil s.items) s.exchanged;
      no_fault = s.no_fault;
      no_unit = rest_of s.made;
      past = s.past;
    }

    -- it ended with a read that took nothing
    abbrev pub served_nothing : (j2 : LinkState) (got : Got) (buffer : List ℕ) → Stands l told clock_told k j c d b now false More r [] → IsRead told j j2 got buffer → taken got buffer ≡ [] → Served l told clock_told k j2 c d b now
    served_nothing j2 got buffer s read none = record {
      items = s.items;
      rest = s.rest;
      out = s.out;
      exchanged = subst (λ (x : List Item). Exchanged told k j2 x s.out) (ap (λ (x : List Item). s.items ++ x) none ∙ append-nil s.items) (exchanged_on j2 got buffer s read);
      no_fault = read.write_faults ∙ s.no_fault;
      no_unit = rest_of s.made;
      past = s.past;
    }

    -- whether a look is due is so
    abbrev due_for : (ahead : List ℕ) (due : Bool) → is_some now.attending.watch ≡ due → Stands l told clock_told k j c d b now (is_some now.attending.watch) More r ahead → Stands l told clock_told k j c d b now due More r ahead
    due_for ahead due is s =
        let p = s.past in
        record {
          items = s.items;
          rest = s.rest;
          out = s.out;
          exchanged = s.exchanged;
          no_fault = s.no_fault;
          made = s.made;
          past = record { walk = p.walk; happened = p.happened; gave = p.gave; run = p.run; saw = p.saw; consulted = p.consulted; done = p.done; attending = p.attending; looked = p.looked ∙ is; written = p.written };
        }

    -- no look is due where reports are inhibited
    pub unwatched : (ahead : List ℕ) → now.attending.watch ≡ None → (s : Stands l told clock_told k j c d b now (is_some now.attending.watch) More r ahead) → (stamped : Stamp → Type 0) (e : Reached) → e.written ≡ j.written
        → Gone stamped j e s.past.walk (Stands l told clock_told k j c d b now false More r ahead) (λ x. x.past.walk)
    unwatched ahead none s stamped e none_written = record {
      goes = due_for ahead false (ap (λ (w : Option ℕ). is_some w) none) s;
      ran_on = begins;
      timely = timely_none l (telling told clock_told stamped) (starting k c b) j e s.past.walk none_written;
    }

    -- the look was made, and its reports were written, or a part of them
    module _ (ahead : List ℕ) (cursor : ℕ) (watch : now.attending.watch ≡ Some cursor) (s : Stands l told clock_told k j c d b now (is_some now.attending.watch) More r ahead)
        (looked : Looked) (given : List Change) (seen : List Gv) (stamps : List DateStamp) (turned : TableTurned b.place now (record { seen = seen; users = now.users; attending = record { user = now.attending.user; watch = Some looked.newest }; stamps = stamps; users_stamps = now.users_stamps }))
        (look : (h : List Entry) → Saw b.opening now.seen h → LookIs b.opening b.place h cursor seen looked given)
        (j2 : LinkState) (d2 : List Moment) where
      abbrev due_now : Stands l told clock_told k j c d b now true More r ahead
      due_now = due_for ahead true (ap (λ (w : Option ℕ). is_some w) watch) s

      abbrev past_now : Past l clock_told c d b now true due_now.items due_now.rest due_now.out
      past_now = due_now.past

      abbrev look_now : LookIs b.opening b.place past_now.walk.history cursor seen looked given
      look_now = look past_now.walk.history past_now.saw

      abbrev found : List Change
      found = changes_of (past_now.walk.history ++ look_now.0.later)

      notices_are : found_notices looked.since looked.newest given ≡ notices found cursor
      notices_are =
          let within = cursor_is_within l clock_told c b d now due_now.items due_now.rest due_now.out past_now cursor watch looked given seen stamps in
          let longer = changes_longer past_now.walk.history look_now.0.later in
          let le : cursor ≤ length found = omega (arith, within, longer) in
          let same : min cursor (length found) ≡ cursor = omega (arith, le) in
          found_is found given cursor looked.newest looked.since (subst (λ (n : ℕ). SinceIs (recent_of found) n looked.since given) same look_now.1) look_now.2

      abbrev looked_now : Now
      looked_now = record { seen = seen; users = now.users; attending = record { user = now.attending.user; watch = Some looked.newest }; stamps = stamps; users_stamps = now.users_stamps }

      told_here : (sent : Sent) → AreTold l told clock_told j j2 d d2 sent (found_notices looked.since looked.newest given) → AreTold l told clock_told j j2 d d2 sent (notices found cursor)
      told_here sent x = subst (λ (ns : List Notice). AreTold l told clock_told j j2 d d2 sent ns) notices_are x

      stands_told : AreTold l told clock_told j j2 d d2 Whole (notices found cursor) → Stands l told clock_told k j2 c d2 b looked_now false More r ahead
      stands_told x =
          let all : x.taken ++ x.untaken ≡ x.taken = ap (λ (ms : List Moment). x.taken ++ ms) (x.whole refl) ∙ append-nil x.taken in
          let whole : x.wrote.part ≡ x.bytes = sym (x.wrote.split ∙ ap (λ (y : List ℕ). x.wrote.part ++ y) (x.wrote.whole refl) ∙ append-nil x.wrote.part) in
          record {
            items = due_now.items;
            rest = due_now.rest;
            out = due_now.out ++ x.bytes;
            exchanged = exchanged_wrote told k j j2 (due_now.items ++ bytes ahead) due_now.out x.bytes due_now.exchanged (subst (λ (y : List ℕ). Wrote told j j2 y) whole x.wrote.wrote);
            no_fault = x.wrote.no_fault refl ∙ due_now.no_fault;
            made = due_now.made;
            past = past_looked l clock_told c b d now due_now.items due_now.rest due_now.out past_now cursor watch looked given seen stamps turned look_now (x.taken ++ x.untaken) x.bytes x.reported
                d2 (λ ct. subst (λ (ms : List Moment). Gives d d2 ms) (sym all) (x.gave ct));
          }

      breaks_told : AreTold l told clock_told j j2 d d2 Sent_cut (notices found cursor) → Breaks l told clock_told k j2 c d2 b looked_now
      breaks_told x = record {
        items = due_now.items;
        ahead = ahead;
        out = due_now.out ++ x.wrote.part;
        exchanged = exchanged_wrote told k j j2 (due_now.items ++ bytes ahead) due_now.out x.wrote.part due_now.exchanged x.wrote.wrote;
        rose = omega (arith, due_now.exchanged.write_later, x.wrote.cause.cause refl);
        past = past_look_cut l clock_told c b d now due_now.items due_now.rest due_now.out past_now cursor watch looked given seen stamps turned look_now (x.taken ++ x.untaken) x.bytes x.reported (rest_of due_now.made) d2 x.taken x.untaken refl x.gave x.wrote.part x.wrote.rest x.wrote.split;
      }

      -- each byte of the reports was written in its time
      module _ (stamped : Stamp → Type 0) (seat : SeatAt) (users : UserSeatAt) (at : IsAt b seat users) (seat_seen : seat.seen ≡ seen) (users_seen : users.seen ≡ now.users) (stamps_is : seat.stamps ≡ stamps) (users_stamps_is : users.stamps ≡ now.users_stamps) (was : AreStamped stamped (stamp_at d j seat users) j2 d2) where
        abbrev looked_walk : (sent : Sent) → AreTold l told clock_told j j2 d d2 sent (notices found cursor) → Walk Request Moment
        looked_walk sent x = looked_on l clock_told c b d now due_now.items due_now.rest due_now.out past_now cursor watch looked given seen stamps turned look_now (x.taken ++ x.untaken) x.bytes x.reported

        looked_in_time : (sent : Sent) → (x : AreTold l told clock_told j j2 d d2 sent (notices found cursor)) → IsTimely l (telling told clock_told stamped) (starting k c b) j (reached j2.written seat.seen users.seen) (looked_walk sent x)
        unfolding past_look_cut
        looked_in_time sent x t n from below =
            let p = past_look_cut l clock_told c b d now due_now.items due_now.rest due_now.out past_now cursor watch looked given seen stamps turned look_now (x.taken ++ x.untaken) x.bytes x.reported (rest_of due_now.made) d2 x.taken x.untaken refl x.gave x.wrote.part x.wrote.rest x.wrote.split in
            elim was [
              | inl none ↦ absurd (let e = ap (λ (y : LinkState). length y.written) none.0 in omega (arith, e, from, below))
              | inr there ↦ (
                stamp_at d j seat users,
                there,
                record {
                  items = due_now.items;
                  ahead = ahead;
                  out = due_now.out;
                  exchanged = due_now.exchanged;
                  walk = p.walk;
                  rest = due_now.rest;
                  happened = p.happened;
                  run = p.run;
                  ran_on = begins;
                  at = at;
                  saw = subst (λ (y : List Gv). Saw b.opening y p.walk.history) (sym seat_seen) p.saw;
                  consulted = subst (λ (y : List Gv). Consulted l b y p.walk.happenings p.walk.attending.user) (sym users_seen) p.consulted;
                  done = done_there l b seat users looked_now p.walk stamps_is users_stamps_is users_seen p.done;
                  message = x.bytes;
                  says = inr (record { notices = notices found cursor; moments = x.taken ++ x.untaken; are = x.reported });
                  written = sym (ap (λ (y : List ℕ). y ++ x.bytes) past_now.written ∙ append_assoc past_now.walk.earlier past_now.walk.latest x.bytes);
                  newest = (past_now.walk.messages, refl);
                  sent = x.wrote.part;
                  unsent = x.wrote.rest;
                  split = x.wrote.split;
                  goes_on = sent_to told b j j2 seat.seen users.seen x.wrote.part x.wrote.wrote;
                  follows = from;
                  within = in_message told j j2 x.wrote.part x.wrote.wrote t n below;
                },
              )
            ]

        abbrev Told_since : Progress → Type 0
        Told_since how = Gone stamped j (reached j2.written seat.seen users.seen) s.past.walk (Goes l told clock_told k j2 c d2 b looked_now (Ok how) false r ahead) (walk_after l told clock_told k j2 c d2 b looked_now (Ok how) false r ahead)

        ran_told : (sent : Sent) → (x : AreTold l told clock_told j j2 d d2 sent (notices found cursor)) → RunsOn l b.place b.opening.first.fold.table past_now.walk (looked_walk sent x)
        ran_told sent x = look_ran l clock_told c b d now due_now.items due_now.rest due_now.out past_now cursor watch looked given seen stamps turned look_now (x.taken ++ x.untaken) x.bytes x.reported

        told_whole : AreTold l told clock_told j j2 d d2 Whole (notices found cursor) → Told_since On
        unfolding stands_told past_looked
        told_whole x = record { goes = stands_told x; ran_on = ran_told Whole x; timely = looked_in_time Whole x }

        told_cut : AreTold l told clock_told j j2 d d2 Sent_cut (notices found cursor) → Told_since Cut
        unfolding breaks_told past_look_cut
        told_cut x = record { goes = breaks_told x; ran_on = ran_told Sent_cut x; timely = looked_in_time Sent_cut x }

        pub goes_told : (sent : Sent) (how : Progress) → how ≡ progress_of sent → AreTold l told clock_told j j2 d d2 sent (found_notices looked.since looked.newest given) → Told_since how
        goes_told Whole how is x = subst Told_since (sym is) (told_whole (told_here Whole x))
        goes_told Sent_cut how is x = subst Told_since (sym is) (told_cut (told_here Sent_cut x))

-- One place's callers, one after the other.
use Rattle.std.proofs.Common.{◌≡◌, ◌≢◌, ◌≤◌, ℕ, List, [], ◌∷◌, ◌++◌, length, refl, sym, ◌∙◌, ap, subst, append-nil, append_assoc, inl}
use Rattle.std.proofs.lemmas.List.{map-append}
use base.Stored.{Gv}
use Rattle.turnstile.specs.Orders.{no_turns}
use Rattle.turnstile.specs.Turning.{Each}
use Rattle.dxc_outside.specs.declared.clock.Moment.{Moment}
use Rattle.dxc_outside.specs.declared.gate.Gate.{Ghosts as GateOf}
use Rattle.dxc_outside.specs.declared.link.Link.{Ghosts as LinkOf}
use Rattle.dxc_model.specs.declared.entry.Entry.{Entry}
use Rattle.dxc_model.specs.Tables.{Board}
use Rattle.shelf_file.specs.Contents.{Contents}
use Rattle.user_admin.specs.declared.op.UserEntry.{UserEntry}
use Rattle.user_admin.specs.declared.op.UserMark.{UserMark}
use Rattle.user_admin.specs.Coding.{mark_coded as user_coded}
use Rattle.user_admin.specs.Histories.{Opening as UsersOpening}
use Rattle.user_admin.specs.Marks.{entries_of, place_of as user_place_of}
use Rattle.user_admin.proofs.Marking.{entries_append, others_entries}
use Rattle.user_admin.proofs.Turning.{same_marks}
use Rattle.switch_laws.specs.Users.{Hearing, Listens, nobody_asked, others_asked}
use Rattle.xc_core.specs.Seeing.{codes, entry_coded, place_of}
use Rattle.xc_core.specs.States.{Opening, began}
use Rattle.craft_session.specs.declared.attending.Attending.{Attending}
use Rattle.craft_session.specs.declared.timestamps.Timestamps.{Ghosts as ClockOf}
use Rattle.craft_session.specs.Asks.{Language}
use Rattle.craft_session.specs.Doing.{Doing}
use Rattle.craft_session.specs.Happenings.{Request}
use Rattle.craft_session.specs.Meanings.{language}
use Rattle.craft_session.specs.Seats.{PlaceAt}
use Rattle.craft_session.proofs.Changing.{others_unused}
use Rattle.craft_session.specs.Sessions.{AreSeen, Beginning, done_before, now_of}
use Rattle.craft_session.specs.Stamps.{stamp_at}
use Rattle.craft_session.specs.Timely.{SessionInTime, starting, telling}
use Rattle.switch_laws.specs.Element.{Session}
use Rattle.switch_laws.specs.Orders.{ActsAlong, GoneAlong, after, nobody_acts}
use Rattle.switch_laws.proofs.Beside.{table_on_all, users_on_all}
use Rattle.switch_laws.proofs.Parting.{parts}
use Rattle.switch_laws.specs.Beginnings.{HasSaid, HaveSaid}
use Rattle.switch_laws.specs.Laws.{Lives, Spoken, nobody_came, passed_on, spoken_in}
use Rattle.craft_server.specs.Callers.{InTurn, ServedCaller, Standing, none_yet, one_more}
use Rattle.turnstile.specs.Laws.{HasSeen}
use Rattle.serve_laws.specs.Timing.{MomentAt, WereWrittenThen}
use Rattle.serve_laws.specs.Written.{AreHeardIn, AreWritten, links_in}
use Rattle.serve_laws.proofs.Timing.{Allows, all_parts, same_rest, saw_on}
use Rattle.serve_laws.proofs.Coming.{Came, Sees, gone, same_codes, sees_once}

module _ (disk_told : Type 0) {C K G : Type 0} (clock : ClockOf C) (link : LinkOf K) (gate : GateOf G) where
  abbrev pub Step : Standing G → Standing G → K → Type 0
  Step = ServedCaller disk_told clock link gate

  -- a place of this shelf and opening, and of this number
  abbrev pub IsOf : Contents → Opening → ℕ → UsersOpening → Standing G → Type 0
  IsOf s o own us t = (t.place.shelf ≡ s) × (t.place.seat.opening ≡ o) × (t.place.seat.place ≡ own) × (t.place.users.opening ≡ us) × (t.place.users.place ≡ own)

  -- the place has seen so much of both histories
  abbrev pub HasDoneIn : PlaceAt → Doing → Type 0
  HasDoneIn p x = AreSeen p.seat.stamps p.users.stamps p.users.seen x

  -- what the callers of a place came to: its sessions along the history that it has seen, and what they heard along that of the users
  pub record Lived (s : Contents) (o : Opening) (own : ℕ) (us : UsersOpening) (first : Standing G) (came : List K) (t : Standing G) (turns : InTurn Step first came t) : Type 1 where
    pub history : List Entry
    pub sessions : List (Session Request Moment)
    pub is : IsOf s o own us t
    -- with its messages, as they came
    pub spoken : List (Spoken Request Moment)
    pub lives : Lives (language s) own o.first.fold.table (began o.due) history spoken sessions
    pub written : AreWritten link.told link.state (links_in disk_told clock link gate first came t turns) sessions
    pub saw : codes (began o.due) ++ t.place.seat.seen ≡ codes history
    pub users_history : List UserEntry
    pub hearings : List (Hearing Request)
    pub listens : Listens (language s) own us users_history hearings
    pub heard_in : AreHeardIn sessions hearings
    pub users_saw : Sees t.place.users.seen users_history
    -- both in one, with the entries that they used
    pub doing : Doing
    pub did : HasDoneIn t.place doing
    pub along : GoneAlong (language s) own o.first.fold.table us (began o.due) history doing sessions
    -- so much each link had been written by a moment, when the place had seen a beginning of this
    pub written_then : (m : MomentAt) (g : List Entry) → Allows link.told clock.stamped o own g m → HaveSaid spoken g m.sessions → (rest more : List Gv) → t.place.seat.seen ++ rest ≡ m.seen ++ more → WereWrittenThen m link.state (links_in disk_told clock link gate first came t turns) sessions

  -- where a session begins, by what its contract tells of what the seats had seen
  abbrev pub begins_at : (t u : Standing G) (c : K) → Step t u c → Beginning
  begins_at t u c x = record { opening = t.place.seat.opening; users = t.place.users.opening; place = t.place.seat.place; before = x.session.before; users_before = x.session.users_before; first = done_before t.place.seat t.place.users x.session.users_saw.marks }

  -- what the place has done is what was done before, and then nothing yet
  same_doing : (t u : Standing G) (c : K) (x : Step t u c) (y : Doing) → HasDoneIn t.place y → y ≡ after y.used (begins_at t u c x).first
  same_doing t u c x y did =
      let marks : y.marks ≡ x.session.users_saw.marks = same_marks t.place.users.seen y.marks x.session.users_saw.marks did.codes_are x.session.users_saw.codes_are in
      λ i. record { stamps = sym did.stamps_are i; marks = marks i; users_stamps = sym did.users_stamps_are i; used = sym (append-nil y.used) i }

  -- what its session did, whoever attends at its end
  abbrev at_end : (t u : Standing G) (c : K) (x : Step t u c) → t.place.users.place ≡ t.place.seat.place → SessionInTime (language t.place.shelf) (telling link.told clock.told clock.stamped) (starting (link.state c) t.moments (begins_at t u c x)) (stamp_at u.moments (link.state x.left) u.place.seat u.place.users) x.end
  at_end t u c x there =
      let v = x.session in
      x.timely (begins_at t u c x) (refl, refl, refl, there) v.saw v.users_saw (record { stamps_are = refl; users_stamps_are = refl; codes_are = v.users_saw.codes_are })

  -- what a place comes to with it
  abbrev ComesTo : Language Request Moment → Opening → ℕ → UsersOpening → (t u : Standing G) (c : K) (x : Step t u c) → List (Spoken Request Moment) → List (Session Request Moment) → List (Hearing Request) → Type 1
  ComesTo l o own us t u c x said ss hs = (attending : Attending) × Came l o own link.told clock.stamped (link.state c) (link.state x.left) (now_of u.place.seat u.place.users attending) said ss us hs

  -- one caller more
  called : (t u : Standing G) (c : K) (x : Step t u c) (h : List Entry) (said : List (Spoken Request Moment)) (ss : List (Session Request Moment)) (g : List UserEntry) (hs : List (Hearing Request)) → t.place.users.place ≡ t.place.seat.place
      → Lives (language t.place.shelf) t.place.seat.place t.place.seat.opening.first.fold.table (began t.place.seat.opening.due) h said ss
      → codes (began t.place.seat.opening.due) ++ t.place.seat.seen ≡ codes h → Listens (language t.place.shelf) t.place.seat.place t.place.users.opening g hs → Sees t.place.users.seen g
      → (y : Doing) → HasDoneIn t.place y → GoneAlong (language t.place.shelf) t.place.seat.place t.place.seat.opening.first.fold.table t.place.users.opening (began t.place.seat.opening.due) h y ss
      → ComesTo (language t.place.shelf) t.place.seat.opening t.place.seat.place t.place.users.opening t u c x said ss hs
  called t u c x h said ss g hs there lives saw listens users_saw y did along =
      let v = x.session in
      let same : h ≡ v.before = same_codes h v.before (sym saw ∙ v.saw.codes_are) in
      let users_same : g ≡ v.users_before = sees_once t.place.users.seen g v.users_before users_saw (v.users_saw.marks, v.users_saw.codes_are, v.users_saw.entries_are) in
      let done_same = same_doing t u c x y did in
      let l = language t.place.shelf in
      let lived_so : Lives l t.place.seat.place t.place.seat.opening.first.fold.table (began t.place.seat.opening.due) v.before said ss = subst (λ (k : List Entry). Lives l t.place.seat.place t.place.seat.opening.first.fold.table (began t.place.seat.opening.due) k said ss) same lives in
      let heard : Listens l t.place.seat.place t.place.users.opening v.users_before hs = subst (λ (k : List UserEntry). Listens l t.place.seat.place t.place.users.opening k hs) users_same listens in
      let along_so = subst (λ (k : List Entry × Doing). GoneAlong l t.place.seat.place t.place.seat.opening.first.fold.table t.place.users.opening (began t.place.seat.opening.due) k.0 k.1 ss) (λ i. (same i, done_same i)) along in
      let e = at_end t u c x there in
      (e.attending, gone l link.told clock.told clock.stamped (link.state c) (link.state x.left) t.moments u.moments (begins_at t u c x) (now_of u.place.seat u.place.users e.attending) said ss lived_so hs heard y.used along_so (parts t.place.shelf) x.end e.session e.timely)

  called_as : (s : Contents) (o : Opening) (own : ℕ) (us : UsersOpening) (t u : Standing G) (c : K) (x : Step t u c) (h : List Entry) (said : List (Spoken Request Moment)) (ss : List (Session Request Moment)) (g : List UserEntry) (hs : List (Hearing Request)) → IsOf s o own us t
      → Lives (language s) own o.first.fold.table (began o.due) h said ss → codes (began o.due) ++ t.place.seat.seen ≡ codes h → Listens (language s) own us g hs → Sees t.place.users.seen g
      → (y : Doing) → HasDoneIn t.place y → GoneAlong (language s) own o.first.fold.table us (began o.due) h y ss
      → ComesTo (language s) o own us t u c x said ss hs
  called_as s o own us t u c x h said ss g hs is =
      subst (λ (y : Contents × Opening × ℕ × UsersOpening). Lives (language y.0) y.2 y.1.first.fold.table (began y.1.due) h said ss → codes (began y.1.due) ++ t.place.seat.seen ≡ codes h → Listens (language y.0) y.2 y.3 g hs → Sees t.place.users.seen g
      → (z : Doing) → HasDoneIn t.place z → GoneAlong (language y.0) y.2 y.1.first.fold.table y.3 (began y.1.due) h z ss
      → ComesTo (language y.0) y.1 y.2 y.3 t u c x said ss hs)
      (λ i. (is.0 i, is.1 i, is.2 i, is.3 i)) (called t u c x h said ss g hs (is.4 ∙ sym is.2))

  pub lived : (s : Contents) (o : Opening) (own : ℕ) (us : UsersOpening) (t u : Standing G) (came : List K) (turns : InTurn Step t came u) → IsOf s o own us t → t.place.seat.seen ≡ [] → t.place.users.seen ≡ [] → (t.place.seat.stamps ≡ []) × (t.place.users.stamps ≡ []) → Lived s o own us t came u turns
  lived s o own us _ _ _ (none_yet t) is none users_none stamps_none = record {
    history = began o.due;
    sessions = [];
    is = is;
    spoken = [];
    lives = nobody_came;
    written = tt;
    saw = ap (λ (x : List Gv). codes (began o.due) ++ x) none ∙ append-nil (codes (began o.due));
    users_history = [];
    hearings = [];
    listens = nobody_asked;
    heard_in = tt;
    users_saw = ([], users_none, refl);
    doing = record { stamps = []; marks = []; users_stamps = []; used = [] };
    did = record { stamps_are = stamps_none.0; users_stamps_are = stamps_none.1; codes_are = users_none };
    along = record { acts = nobody_acts; turns = record { left = []; whole = sym (append-nil (began o.due)); took = []; takes = no_turns; used_are = refl } };
    written_then = λ m g a says rest more ends. tt;
  }
  lived s o own us _ _ _ (one_more t m u ks c turns x) is none users_none stamps_none =
      let so_far = lived s o own us t m ks turns is none users_none stamps_none in
      let now = (called_as s o own us m u c x so_far.history so_far.spoken so_far.sessions so_far.users_history so_far.hearings so_far.is so_far.lives so_far.saw so_far.listens so_far.users_saw so_far.doing so_far.did so_far.along).1 in
      record {
        history = now.history;
        sessions = now.session ∷ so_far.sessions;
        is = (x.shelf ∙ so_far.is.0, x.seat.0 ∙ so_far.is.1, x.seat.1 ∙ so_far.is.2, x.users.0 ∙ so_far.is.3, x.users.1 ∙ so_far.is.4);
        spoken = so_far.spoken ++ spoken_in so_far.sessions now.messages;
        lives = now.lives;
        written = (now.written, so_far.written);
        saw = now.saw;
        users_history = now.users_history;
        hearings = now.hearing ∷ so_far.hearings;
        listens = now.listens;
        heard_in = (now.heard_in, so_far.heard_in);
        users_saw = now.users_saw;
        doing = now.doing;
        did = now.did;
        along = now.along;
        written_then = λ w g a says rest more ends.
            let entered = x.gated x.session.before x.session.users_before x.session.saw x.session.users_saw in
            let on = saw_on m.place.seat.opening m.place.seat.seen u.place.seat.seen x.session.before entered.entries x.session.saw entered.saw in
            let parts = all_parts (λ y. length y.message.behind ≤ length g → HasSaid y w.sessions) so_far.spoken (spoken_in so_far.sessions now.messages) says in (
              now.written_then w g a parts.1 rest more ends now.written.out (now.written.exchanged.written a.tells),
              so_far.written_then w g a parts.0 (codes entered.entries ++ rest) more (sym (append_assoc m.place.seat.seen (codes entered.entries) rest) ∙ ap (λ (k : List Gv). k ++ rest) (sym on) ∙ ends),
            );
      }

  others_on : (l : Language Request Moment) (own : ℕ) (t : Board) (past h more : List Entry) (said : List (Spoken Request Moment)) (ss : List (Session Request Moment)) → Lives l own t past h said ss → Each (λ e. e.place ≢ own) more → Lives l own t past (h ++ more) said ss
  others_on l own t past h [] said ss x others = subst (λ (g : List Entry). Lives l own t past g said ss) (sym (append-nil h)) x
  others_on l own t past h (e ∷ es) said ss x others = subst (λ (g : List Entry). Lives l own t past g said ss) (append_assoc h (e ∷ []) es) (others_on l own t past (h ++ e ∷ []) es said ss (passed_on h said ss e (inl others.0) x) others.1)

  -- a place's sessions along the whole history
  pub all_along : (s : Contents) (o : Opening) (own : ℕ) (us : UsersOpening) (first : Standing G) (came : List K) (t : Standing G) (turns : InTurn Step first came t) (history : List Entry) → (x : Lived s o own us first came t turns) → HasSeen entry_coded.code place_of history own t.place.seat.seen → Lives (language s) own o.first.fold.table (began o.due) (began o.due ++ history) x.spoken x.sessions
  all_along s o own us first came t turns history x seen =
      let past = began o.due in
      let here : x.history ≡ past ++ seen.begun = same_codes x.history (past ++ seen.begun) (sym x.saw ∙ ap (λ (g : List Gv). codes past ++ g) seen.codes ∙ sym (map-append entry_coded.code past seen.begun)) in
      let whole : x.history ++ seen.later ≡ past ++ history = ap (λ (g : List Entry). g ++ seen.later) here ∙ append_assoc past seen.begun seen.later ∙ ap (λ (g : List Entry). past ++ g) seen.whole in
      subst (λ (g : List Entry). Lives (language s) own o.first.fold.table past g x.spoken x.sessions) whole (others_on (language s) own o.first.fold.table past x.history seen.later x.spoken x.sessions x.lives seen.others)

  others_asked_on : (l : Language Request Moment) (own : ℕ) (us : UsersOpening) (h more : List UserEntry) (hs : List (Hearing Request)) → Listens l own us h hs → Each (λ e. e.place ≢ own) more → Listens l own us (h ++ more) hs
  others_asked_on l own us h [] hs x others = subst (λ (g : List UserEntry). Listens l own us g hs) (sym (append-nil h)) x
  others_asked_on l own us h (e ∷ es) hs x others = subst (λ (g : List UserEntry). Listens l own us g hs) (append_assoc h (e ∷ []) es) (others_asked_on l own us (h ++ e ∷ []) es hs (others_asked h hs e others.0 x) others.1)

  pub heard_along : (s : Contents) (o : Opening) (own : ℕ) (us : UsersOpening) (first : Standing G) (came : List K) (t : Standing G) (turns : InTurn Step first came t) (left : List UserMark) → (x : Lived s o own us first came t turns) → HasSeen user_coded.code user_place_of left own t.place.users.seen → Listens (language s) own us (entries_of left) x.hearings
  heard_along s o own us first came t turns left x seen =
      let here : x.users_history ≡ entries_of seen.begun = sees_once t.place.users.seen x.users_history (entries_of seen.begun) x.users_saw (seen.begun, seen.codes, refl) in
      let whole : x.users_history ++ entries_of seen.later ≡ entries_of left = ap (λ (g : List UserEntry). g ++ entries_of seen.later) here ∙ sym (entries_append seen.begun seen.later) ∙ ap entries_of seen.whole in
      subst (λ (g : List UserEntry). Listens (language s) own us g x.hearings) whole (others_asked_on (language s) own us x.users_history (entries_of seen.later) x.hearings x.listens (others_entries own seen.later seen.others))

  -- and both along the whole histories
  pub both_along : (s : Contents) (o : Opening) (own : ℕ) (us : UsersOpening) (first : Standing G) (came : List K) (t : Standing G) (turns : InTurn Step first came t) (history : List Entry) (left : List UserMark) → (x : Lived s o own us first came t turns)
      → HasSeen entry_coded.code place_of history own t.place.seat.seen → HasSeen user_coded.code user_place_of left own t.place.users.seen → ActsAlong (language s) own o.first.fold.table us (began o.due) (began o.due ++ history) (entries_of left) x.doing.used x.sessions
  both_along s o own us first came t turns history left x seen users_seen =
      let past = began o.due in
      let l = language s in
      let board = o.first.fold.table in
      let here : x.history ≡ past ++ seen.begun = same_codes x.history (past ++ seen.begun) (sym x.saw ∙ ap (λ (g : List Gv). codes past ++ g) seen.codes ∙ sym (map-append entry_coded.code past seen.begun)) in
      let whole : x.history ++ seen.later ≡ past ++ history = ap (λ (g : List Entry). g ++ seen.later) here ∙ append_assoc past seen.begun seen.later ∙ ap (λ (g : List Entry). past ++ g) seen.whole in
      let g = entries_of x.doing.marks in
      let users_here : g ≡ entries_of users_seen.begun = sees_once t.place.users.seen g (entries_of users_seen.begun) (x.doing.marks, x.did.codes_are, refl) (users_seen.begun, users_seen.codes, refl) in
      let users_whole : g ++ entries_of users_seen.later ≡ entries_of left = ap (λ (k : List UserEntry). k ++ entries_of users_seen.later) users_here ∙ sym (entries_append users_seen.begun users_seen.later) ∙ ap entries_of users_seen.whole in
      let on = table_on_all l own board us past x.history seen.later g x.doing.used x.sessions (others_unused own seen.later seen.others) x.along.acts in
      let both = users_on_all l own board us past (x.history ++ seen.later) g (entries_of users_seen.later) x.doing.used x.sessions (others_entries own users_seen.later users_seen.others) on in
      subst (λ (k : List Entry × List UserEntry). ActsAlong l own board us past k.0 k.1 x.doing.used x.sessions) (λ i. (whole i, users_whole i)) both

  -- what the place has seen of the table is what turns left there
  pub left_seen : (s : Contents) (o : Opening) (own : ℕ) (us : UsersOpening) (first : Standing G) (came : List K) (t : Standing G) (turns : InTurn Step first came t) → (x : Lived s o own us first came t turns) → t.place.seat.seen ≡ codes x.along.turns.left
  left_seen s o own us first came t turns x =
      let past = began o.due in
      let left = x.along.turns.left in
      same_rest (codes past) t.place.seat.seen (codes left) (x.saw ∙ ap codes x.along.turns.whole ∙ map-append entry_coded.code past left)

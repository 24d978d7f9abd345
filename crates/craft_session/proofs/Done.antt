-- What a session has done along both histories, one case longer.
use Rattle.std.proofs.Common.{◌≡◌, ◌≢◌, ℕ, suc, ◌+◌, ◌<◌, true, false, length, map, List, [], ◌∷◌, ◌++◌, Some, inl, refl, sym, ◌∙◌, ap, subst, arith, append_assoc, length-append}
use Rattle.std.proofs.lemmas.List.{append_cancel_left, length-map}
use base.Stored.{Gv}
use Rattle.turnstile.specs.Dating.{AreAll, GoOn, IsOwnAbove, Stamp, newest}
use Rattle.turnstile.specs.Turning.{Each}
use Rattle.turnstile.proofs.Dates.{above_newest, all_weak}
use Rattle.dxc_outside.specs.declared.clock.Moment.{Moment}
use Rattle.dxc_model.specs.declared.op.Op.TheVariants.{Look}
use Rattle.dxc_model.specs.declared.entry.Outcome.TheVariants.{Answered, Cut}
use Rattle.dxc_model.specs.declared.entry.Entry.{Entry}
use Rattle.dxc_model.specs.Histories.{changes_of}
use Rattle.user_admin.specs.declared.op.UserEntry.{UserEntry}
use Rattle.user_admin.specs.declared.op.UserMark.{UserMark}
use Rattle.user_admin.specs.Coding.{mark_coded}
use Rattle.user_admin.specs.Marks.{entries_of}
use Rattle.user_admin.specs.Turns.{Saw as SawUsers, TurnedBack, codes}
use Rattle.user_admin.proofs.Marking.{entries_append}
use Rattle.user_admin.proofs.Turning.{same_marks}
use Rattle.xc_core.specs.Seeing.{Saw, entry, entry_coded}
use Rattle.xc_core.specs.Seeing.{codes as entry_codes}
use Rattle.xc_core.specs.States.{began}
use Rattle.craft_session.specs.declared.attending.Attending.{Attending}
use Rattle.craft_session.specs.Acting.{Acts, Stops}
use Rattle.craft_session.specs.Asks.{Language, Reply}
use Rattle.craft_session.specs.Doing.{AreDated, Does, HearsOn, LooksOn, ServesOn, begins_doing, does_look, does_nothing, does_unit, done_on, table_on, users_on, users_pass, using}
use Rattle.craft_session.specs.Happenings.{Request}
use Rattle.craft_session.specs.Hearing.{HeardBehind, Hears}
use Rattle.craft_session.specs.Notices.{AreReported, notices}
use Rattle.craft_session.specs.Runs.{Walk, beginning, with_entries, with_look, with_quiet, with_response}
use Rattle.craft_session.specs.Seats.{SeatAt, TableInTurn, UserSeatAt, UsersInTurn}
use Rattle.craft_session.specs.Sessions.{Beginning, HasDone, HasDoneCut, IsAt, IsDoneBy, Now, now_of}
use Rattle.craft_session.specs.Walks.{IsUnused}

-- turns of a place with the users that come after all that it had seen at the state, by how its session stands; and turns with the state after all
-- that it had seen at the users
pub record UsersTurned (place : ℕ) (before after : Now) : Type 0 where
  pub dates : GoOn place (newest before.stamps) before.users_stamps after.users_stamps
  pub as_many : (length before.users_stamps ≡ length before.users) × (length after.users_stamps ≡ length after.users)
  pub sees : (more : List Gv) × (after.users ≡ before.users ++ more)

pub record TableTurned (place : ℕ) (before after : Now) : Type 0 where
  pub dates : GoOn place (newest after.users_stamps) before.stamps after.stamps
  pub as_many : (length before.stamps ≡ length before.seen) × (length after.stamps ≡ length after.seen)

-- both parts of a unit
abbrev pub UnitTurned : ℕ → Now → Now → Type 0
UnitTurned place before after = UsersTurned place before after × TableTurned place before after

-- those that have higher dates than all that was seen have higher ones than the place's own of it
above_own : (own : ℕ) (seen more : List Stamp) → AreAll (λ s. s.number ≡ own → newest seen < s.date) more → IsOwnAbove own seen more
above_own own seen more a = all_weak (λ s. s.number ≡ own → newest seen < s.date) (λ s. s.number ≡ own → AreAll (λ t. t.number ≡ own → t.date < s.date) seen)
    (λ s k mine. all_weak (λ t. t.date < s.date) (λ t. t.number ≡ own → t.date < s.date) (λ t l _. l) seen (above_newest seen s.date (k mine))) more a

abbrev hd : {A : Type 0} → A → List A → A
hd d [] = d
hd d (x ∷ xs) = x

abbrev tl : {A : Type 0} → List A → List A
tl [] = []
tl (x ∷ xs) = xs

-- what codes more codes more
split_codes : {A : Type 0} (code : A → Gv) → ((x y : A) → code x ≡ code y → x ≡ y) → (ms ns : List A) (more : List Gv) → map code ns ≡ map code ms ++ more → (rest : List A) × (ns ≡ ms ++ rest)
split_codes code inj [] ns more e = (ns, refl)
split_codes code inj (m ∷ ms) [] more e = absurd (let h : 0 ≡ suc (length (map code ms ++ more)) = ap length e in omega arith)
split_codes code inj (m ∷ ms) (n ∷ ns) more e =
    let p : code n ≡ code m = ap (hd (code n)) e in
    let q = inj n m p in
    let r = split_codes code inj ms ns more (ap tl e) in (r.0, λ i. q i ∷ r.1 i)

module _ (l : Language Request Moment) (b : Beginning) where
  -- nothing was done
  pub done_none : (now : Now) → IsDoneBy now b.first → HasDone l b now (beginning l b.before)
  done_none now is = record { doing = b.first; does = begins_doing; by_now = is }

  module _ (now : Now) (w : Walk Request Moment) (done : HasDone l b now w) where
    -- who attends is no part of it
    pub done_quiet : w.due ≡ false → HasDone l b now (with_quiet w)
    done_quiet due = record { doing = done.doing; does = does_nothing w done.doing due done.does; by_now = done.by_now }

    pub marks_are : (g : List UserEntry) → SawUsers b.users now.users g → entries_of done.doing.marks ≡ g
    marks_are g saw = ap entries_of (same_marks now.users done.doing.marks saw.marks done.by_now.codes_are saw.codes_are) ∙ saw.entries_are

    -- turns with the users
    module _ (after : Now) (on : UsersTurned b.place now after) where
      -- what they left
      pub since : (g : List UserEntry) → SawUsers b.users after.users g → (ms : List UserMark) × (after.users ≡ codes (done.doing.marks ++ ms)) × (entries_of done.doing.marks ++ entries_of ms ≡ g)
      since g saw =
          let r = split_codes mark_coded.code mark_coded.inj done.doing.marks saw.marks on.sees.0 (sym saw.codes_are ∙ (on.sees.1 ∙ ap (λ (s : List Gv). s ++ on.sees.0) done.by_now.codes_are)) in
          (r.0, saw.codes_are ∙ ap codes r.1, sym (entries_append done.doing.marks r.0) ∙ (sym (ap entries_of r.1) ∙ saw.entries_are))

      pub dated : (ms : List UserMark) → after.users ≡ codes (done.doing.marks ++ ms) → AreDated b.place done.doing.stamps ms on.dates.more
      dated ms is =
          let whole = ap length on.dates.whole ∙ length-append now.users_stamps on.dates.more in
          let then_ = ap length is ∙ (length-map (done.doing.marks ++ ms) mark_coded.code ∙ length-append done.doing.marks ms) in
          let before = ap length done.by_now.codes_are ∙ length-map done.doing.marks mark_coded.code in
          let many = on.as_many.0 in
          let many_then = on.as_many.1 in
          record { as_many = omega (arith, whole, then_, before, many, many_then); above = subst (λ (ss : List Stamp). IsOwnAbove b.place ss on.dates.more) done.by_now.stamps_are (above_own b.place now.stamps on.dates.more on.dates.higher) }

      later_users : after.users_stamps ≡ done.doing.users_stamps ++ on.dates.more
      later_users = on.dates.whole ∙ ap (λ (s : List Stamp). s ++ on.dates.more) done.by_now.users_stamps_are

      -- others' entries passed
      pub done_back : (g : List UserEntry) → SawUsers b.users now.users g → TurnedBack b.users b.place g after.users → after.stamps ≡ now.stamps → HasDone l b after w
      done_back g saw x same =
          let s = since (g ++ x.later) x.saw in
          let are : entries_of s.0 ≡ x.later = append_cancel_left g (entries_of s.0) x.later (ap (λ (h : List UserEntry). h ++ entries_of s.0) (sym (marks_are g saw)) ∙ s.2) in
          record {
            doing = users_on done.doing s.0 on.dates.more;
            does = users_pass w done.doing s.0 on.dates.more (subst (λ (es : List UserEntry). Each (λ e. e.place ≢ b.place) es) (sym are) x.others) (dated s.0 s.1) done.does;
            by_now = record { stamps_are = same ∙ done.by_now.stamps_are; users_stamps_are = later_users; codes_are = s.1 };
          }

      -- a unit heard what it wanted
      module _ (u : Request) (g : List UserEntry) (saw : SawUsers b.users now.users g) (x : HeardBehind b.users b.place g (l.wants w.attending.user u) (l.heard u) after.users) where
        abbrev found : (ms : List UserMark) × (after.users ≡ codes (done.doing.marks ++ ms)) × (entries_of done.doing.marks ++ entries_of ms ≡ (g ++ x.passed) ++ x.entries)
        found = since ((g ++ x.passed) ++ x.entries) x.saw

        abbrev pub hears_done : HearsOn b.users b.place done.doing (l.wants w.attending.user u) (l.heard u)
        hears_done = record {
          marks = found.0;
          stamps = on.dates.more;
          dated = dated found.0 found.1;
          passed = x.passed;
          others = x.others;
          entries = x.entries;
          hears = subst (λ (h : List UserEntry). Hears b.users b.place (h ++ x.passed) (l.wants w.attending.user u) x.entries (l.heard u)) (sym (marks_are g saw)) x.hears;
          are = append_cancel_left g (entries_of found.0) (x.passed ++ x.entries) (ap (λ (h : List UserEntry). h ++ entries_of found.0) (sym (marks_are g saw)) ∙ (found.2 ∙ append_assoc g x.passed x.entries));
        }

        abbrev users_then : List Stamp
        users_then = done.doing.users_stamps ++ on.dates.more

        -- and the table was asked
        module _ (table : TableTurned b.place now after) (seen : Saw b.opening now.seen w.history) where
          counted : (es : List Entry) → Saw b.opening after.seen (w.history ++ es) → length table.dates.more ≡ length es
          counted es saw_then =
              let whole = ap length table.dates.whole ∙ length-append now.stamps table.dates.more in
              let before = sym (length-append (entry_codes (began b.opening.due)) now.seen) ∙ (ap length seen.codes_are ∙ length-map w.history entry_coded.code) in
              let then_ = sym (length-append (entry_codes (began b.opening.due)) after.seen) ∙ (ap length saw_then.codes_are ∙ (length-map (w.history ++ es) entry_coded.code ∙ length-append w.history es)) in
              let many = table.as_many.0 in
              let many_then = table.as_many.1 in omega (arith, whole, before, then_, many, many_then)

          table_dated : (es : List Entry) → Saw b.opening after.seen (w.history ++ es) → AreDated b.place users_then es table.dates.more
          table_dated es saw_then = record { as_many = counted es saw_then; above = subst (λ (ss : List Stamp). IsOwnAbove b.place ss table.dates.more) later_users (above_own b.place after.users_stamps table.dates.more table.dates.higher) }

          later_table : after.stamps ≡ done.doing.stamps ++ table.dates.more
          later_table = table.dates.whole ∙ ap (λ (s : List Stamp). s ++ table.dates.more) done.by_now.stamps_are

          -- it was answered
          pub done_unit : (r : Reply) (m : Moment) (z : Attending) → w.due ≡ false → (a : Acts b.opening b.place w.history w.attending (l.asks w.attending.user u) r z after.seen)
              → HasDone l b after (with_response u a.entries m (l.response m u r) z (with_entries a.passed w))
          done_unit r m z due a =
              let serves : ServesOn b.place b.opening.first.fold.table w.history users_then (l.asks w.attending.user u) r = record {
                passed = a.passed;
                unused = a.unused;
                entries = a.entries;
                serves = a.serves;
                stamps = table.dates.more;
                dated = table_dated (a.passed ++ a.entries) (subst (λ (h : List Entry). Saw b.opening after.seen h) (append_assoc w.history a.passed a.entries) a.saw);
              } in
              record {
                doing = done_on done.doing hears_done serves;
                does = subst (λ (y : Attending). Does l b.place b.opening.first.fold.table b.users b.before b.first (with_response u a.entries m (l.response m u r) y (with_entries a.passed w)) (done_on done.doing hears_done serves)) (sym a.attending)
                    (does_unit w done.doing u m r due hears_done serves done.does);
                by_now = record { stamps_are = later_table; users_stamps_are = later_users; codes_are = found.1 };
              }

          -- a stop cut it there
          pub done_cut : (z : Attending) (a : Stops b.opening b.place w.history w.attending (l.asks w.attending.user u) z after.seen) → HasDoneCut l b after w u a.front a.op
          done_cut z a = record {
            doing = done.doing;
            does = done.does;
            hears = hears_done;
            stamps = table.dates.more;
            dated = table_dated (a.front ++ entry b.place a.op Cut ∷ []) (subst (λ (h : List Entry). Saw b.opening after.seen h) (append_assoc w.history a.front (entry b.place a.op Cut ∷ [])) a.saw);
            by_now = record { stamps_are = later_table; users_stamps_are = later_users; codes_are = found.1 };
          }

    -- a look that was due
    pub done_look : (after : Now) → TableTurned b.place now after → after.users_stamps ≡ now.users_stamps → after.users ≡ now.users → Saw b.opening now.seen w.history
        → (cursor : ℕ) (ms : List Moment) (bytes : List ℕ) → w.due ≡ true → w.attending.watch ≡ Some cursor
        → (passed : List Entry) → Each (IsUnused b.place) passed → Saw b.opening after.seen ((w.history ++ passed) ++ entry b.place (Look cursor) Answered ∷ [])
        → AreReported l.report (notices (changes_of (w.history ++ passed)) cursor) ms bytes → HasDone l b after (with_look b.place cursor ms bytes (with_entries passed w))
    done_look after table same_stamps same_users seen cursor ms bytes due watch passed unused saw reported =
        let es : List Entry = passed ++ entry b.place (Look cursor) Answered ∷ [] in
        let saw_then = subst (λ (h : List Entry). Saw b.opening after.seen h) (append_assoc w.history passed (entry b.place (Look cursor) Answered ∷ [])) saw in
        let whole = ap length table.dates.whole ∙ length-append now.stamps table.dates.more in
        let before = sym (length-append (entry_codes (began b.opening.due)) now.seen) ∙ (ap length seen.codes_are ∙ length-map w.history entry_coded.code) in
        let then_ = sym (length-append (entry_codes (began b.opening.due)) after.seen) ∙ (ap length saw_then.codes_are ∙ (length-map (w.history ++ es) entry_coded.code ∙ length-append w.history es)) in
        let many = table.as_many.0 in
        let many_then = table.as_many.1 in
        let looks : LooksOn b.place done.doing.users_stamps cursor = record {
          passed = passed;
          unused = unused;
          stamps = table.dates.more;
          dated = record { as_many = omega (arith, whole, before, then_, many, many_then); above = subst (λ (ss : List Stamp). IsOwnAbove b.place ss table.dates.more) (same_stamps ∙ done.by_now.users_stamps_are) (above_own b.place after.users_stamps table.dates.more table.dates.higher) };
        } in
        record {
          doing = using (table_on done.doing looks.stamps) (inl (entry b.place (Look cursor) Answered) ∷ []);
          does = does_look w done.doing cursor ms bytes due watch looks reported done.does;
          by_now = record {
            stamps_are = table.dates.whole ∙ ap (λ (s : List Stamp). s ++ table.dates.more) done.by_now.stamps_are;
            users_stamps_are = same_stamps ∙ done.by_now.users_stamps_are;
            codes_are = same_users ∙ done.by_now.codes_are;
          };
        }

-- as seats have seen it
pub done_there : (l : Language Request Moment) (b : Beginning) (seat : SeatAt) (users : UserSeatAt) (now : Now) (w : Walk Request Moment) → seat.stamps ≡ now.stamps → users.stamps ≡ now.users_stamps → users.seen ≡ now.users → HasDone l b now w → HasDone l b (now_of seat users w.attending) w
done_there l b seat users now w stamps users_stamps seen done = record {
  doing = done.doing;
  does = done.does;
  by_now = record { stamps_are = stamps ∙ done.by_now.stamps_are; users_stamps_are = users_stamps ∙ done.by_now.users_stamps_are; codes_are = seen ∙ done.by_now.codes_are };
}

-- turns of the seats of a place
module _ (b : Beginning) (seat seat_then : SeatAt) (users users_then : UserSeatAt) (at : IsAt b seat users) where
  pub users_turned : (before after : Now) → before.stamps ≡ seat.stamps → before.users ≡ users.seen → before.users_stamps ≡ users.stamps → after.users ≡ users_then.seen → after.users_stamps ≡ users_then.stamps → UsersInTurn seat users users_then → UsersTurned b.place before after
  users_turned before after s u us v vs x = record {
    dates = subst (λ (p : ℕ × (List Stamp × (List Stamp × List Stamp))). GoOn p.0 (newest p.1.0) p.1.1.0 p.1.1.1) (λ i. (at.3 i, (sym s i, (sym us i, sym vs i)))) x.dates;
    as_many = subst (λ (p : (List Stamp × List Gv) × (List Stamp × List Gv)). (length p.0.0 ≡ length p.0.1) × (length p.1.0 ≡ length p.1.1)) (λ i. ((sym us i, sym u i), (sym vs i, sym v i))) x.as_many;
    sees = subst (λ (p : List Gv × List Gv). (more : List Gv) × (p.1 ≡ p.0 ++ more)) (λ i. (sym u i, sym v i)) x.sees;
  }

  pub table_turned : (before after : Now) → before.seen ≡ seat.seen → before.stamps ≡ seat.stamps → after.seen ≡ seat_then.seen → after.stamps ≡ seat_then.stamps → after.users_stamps ≡ users_then.stamps → TableInTurn users_then seat seat_then → TableTurned b.place before after
  table_turned before after s ss v vs us x = record {
    dates = subst (λ (p : ℕ × (List Stamp × (List Stamp × List Stamp))). GoOn p.0 (newest p.1.0) p.1.1.0 p.1.1.1) (λ i. (at.1 i, (sym us i, (sym ss i, sym vs i)))) x.dates;
    as_many = subst (λ (p : (List Stamp × List Gv) × (List Stamp × List Gv)). (length p.0.0 ≡ length p.0.1) × (length p.1.0 ≡ length p.1.1)) (λ i. ((sym ss i, sym s i), (sym vs i, sym v i))) x.as_many;
  }

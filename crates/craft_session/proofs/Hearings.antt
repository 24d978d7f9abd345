-- What a session hears of the users that is alone.
use Rattle.std.specs.List.{AllByRecursion}
use Rattle.std.proofs.Common.{◌≡◌, ◌≤◌, ◌<◌, ◌+◌, ◌*◌, ℕ, true, length, length-append, List, [], ◌∷◌, ◌++◌, append-nil, refl, sym, ◌∙◌, ap, subst, arith}
use Rattle.dxc_disk.specs.Disks.{DiskState}
use Rattle.dxc_model.specs.declared.user.SessionUser.{SessionUser}
use Rattle.user_admin.specs.declared.op.UserEntry.{UserEntry}
use Rattle.user_admin.specs.declared.op.UserOutcome.{UserOutcome}
use Rattle.user_admin.specs.declared.op.UserOutcome.TheVariants.{Done, Denied, Failed, Answered}
use Rattle.user_admin.specs.Changes.{after}
use Rattle.user_admin.specs.Histories.{IsLegal, IsLegalFrom, MayCome, Opening, change_in, changes_of, failures, failure_in, users_after}
use Rattle.user_admin.specs.Occupants.{login_op}
use Rattle.user_admin.specs.Verdicts.{login}
use Rattle.user_admin.specs.States.{cost, entry, most_room, room_in}
use Rattle.user_admin.specs.Turns.{IsHistory}
use Rattle.user_admin.specs.Users.{Users}
use Rattle.user_admin.proofs.Leading.{after-append}
use Rattle.user_admin.proofs.Standing.{users_more}
use Rattle.craft_session.specs.Asks.{Language, user_after}
use Rattle.craft_session.specs.Consulting.{Consults, consults_none, others_pass, unit_hears, quiet_passes}
use Rattle.craft_session.specs.Happenings.{Happening, unit, quiet, units_in}
use Rattle.craft_session.specs.Hearing.{Heard, Hears, Wanted, nothing, to_look, to_do}
use Rattle.craft_session.specs.PlainUsers.{ConsultsAlone, HearsOf, IsExcusedBy, IsUsersOpeningOf, IsUsersUnsoundBy, PlaysUsers, users_room_of}
use Rattle.craft_session.proofs.Streams.{units_in-append, units_in-quiet}

split_front : {X : Type 0} (P : X → Type 0) (xs ys : List X) → AllByRecursion P (xs ++ ys) → AllByRecursion P xs
split_front P [] ys a = tt
split_front P (x ∷ xs) ys a = (a.0, split_front P xs ys a.1)

split_last : {X : Type 0} (P : X → Type 0) (xs : List X) (y : X) → AllByRecursion P (xs ++ y ∷ []) → P y
split_last P [] y a = a.0
split_last P (x ∷ xs) y a = split_last P xs y a.1

-- what the entries took of the room
room_join : (h g : List UserEntry) → room_in (h ++ g) ≡ room_in h + room_in g
room_join [] g = omega arith
room_join (e ∷ es) g = let more = room_join es g in omega (arith, more)

cost_few : (o : UserOutcome) → cost o ≤ most_room
cost_few (Done c) = omega arith
cost_few (Denied q) = omega arith
cost_few (Failed q) = omega arith
cost_few Answered = omega arith

one_cost : (e : UserEntry) (es : List UserEntry) → es ≡ e ∷ [] → room_in es ≤ most_room
one_cost e es is = subst (λ (x : List UserEntry). room_in x ≤ most_room) (sym is) (let few = cost_few e.outcome in omega (arith, few))

hears_cost : (o : Opening) (place : ℕ) (g es : List UserEntry) (w : Wanted) (x : Heard) → Hears o place g w es x → room_in es ≤ most_room
hears_cost o place g es nothing x h = subst (λ (l : List UserEntry). room_in l ≤ most_room) (sym h.0) (omega arith)
hears_cost o place g es (to_look vacant uid pid) x h = one_cost (entry place (login_op vacant uid (login uid pid (users_after o g))) Answered) es h.0
hears_cost o place g es (to_do what) x h = one_cost (entry place what h.0) es h.1

module _ {U M : Type 0} (l : Language U M) (place : ℕ) (o : Opening) where
  -- each unit made one entry at most
  pub consults_cost : (hs : List (Happening U)) (h : List UserEntry) (s : SessionUser) → Consults l place o [] hs h s → AllByRecursion (λ e. e.place ≡ place) h → room_in h ≤ most_room * length (units_in hs)
  consults_cost _ _ _ consults_none mine = omega arith
  consults_cost _ _ _ (others_pass hs g s e other c) mine = absurd (other (split_last (λ (x : UserEntry). x.place ≡ place) g e mine))
  consults_cost _ _ _ (unit_hears hs g s u es hears told c) mine =
      let so_far = consults_cost hs g s c (split_front (λ (x : UserEntry). x.place ≡ place) g es mine) in
      let more = hears_cost o place g es (l.wants s u) (l.heard u) hears in
      let joined = room_join g es in
      let one : length (units_in (hs ++ unit u ∷ [])) ≡ length (units_in hs) + 1 = ap length (units_in-append hs (unit u ∷ [])) ∙ length-append (units_in hs) (u ∷ []) in
      omega (arith, so_far, more, joined, one)
  consults_cost _ _ _ (quiet_passes hs g s c) mine =
      let so_far = consults_cost hs g s c mine in
      let same : length (units_in (hs ++ quiet ∷ [])) ≡ length (units_in hs) = ap length (units_in-quiet hs) in
      omega (arith, so_far, same)

-- the front of a legal history is one, and its last entry came of what it found
legal_front : (sid : List ℕ) (users : Users) (g es : List UserEntry) → IsLegalFrom sid users (g ++ es) → IsLegalFrom sid users g
legal_front sid users [] es x = tt
legal_front sid users (e ∷ g) es x = (x.0, legal_front sid (after (change_in e.outcome) users) g es x.1)

legal_from : (o : Opening) (g : List UserEntry) (e : UserEntry) → IsLegalFrom o.shelf.sid o.users (g ++ e ∷ []) → MayCome o.shelf.sid e.op (users_after o g) e.outcome
legal_from o [] e x = x.0
legal_from o (d ∷ g) e x = subst (λ (us : Users). MayCome o.shelf.sid e.op us e.outcome) (sym (after-append (change_in d.outcome) (changes_of g) o.users)) (legal_from (record o { users = after (change_in d.outcome) o.users }) g e x.1)

legal_last : (o : Opening) (g : List UserEntry) (e : UserEntry) → IsLegal o (g ++ e ∷ []) → MayCome o.shelf.sid e.op (users_after o g) e.outcome
legal_last o g e x = legal_from o g e x.entries

-- a failure excuses
failed_excuses : (excused : Type 0) (o : UserOutcome) → (failure_in o ≡ 1 → excused) → IsExcusedBy excused o
failed_excuses excused (Done c) x = tt
failed_excuses excused (Denied q) x = tt
failed_excuses excused (Failed q) x = x refl
failed_excuses excused Answered x = tt

failures_front : (g es : List UserEntry) → failures (g ++ es) ≡ failures g + failures es
failures_front [] es = omega arith
failures_front (e ∷ g) es = let more = failures_front g es in omega (arith, more)

module _ {U M : Type 0} (l : Language U M) (sid : List ℕ) (excused : Type 0) where
  plays_unit : (hs : List (Happening U)) (users mid next : Users) (s t : SessionUser) (u : U) → PlaysUsers l sid excused users s hs mid t → HearsOf sid excused mid (l.wants t u) (l.heard u) next → l.is_told t u ≡ true → PlaysUsers l sid excused users s (hs ++ unit u ∷ []) next (user_after t (l.asks t u))
  plays_unit [] users mid next s t u p h told = subst (λ (w : Users × SessionUser). PlaysUsers l sid excused w.0 w.1 (unit u ∷ []) next (user_after t (l.asks t u))) (λ i. (p.0 i, p.1 i)) (next, h, told, (refl, refl))
  plays_unit (unit v ∷ hs) users mid next s t u p h told = (p.0, p.1, p.2, plays_unit hs p.0 mid next (user_after s (l.asks s v)) t u p.3 h told)
  plays_unit (quiet ∷ hs) users mid next s t u p h told = plays_unit hs users mid next s t u p h told

  plays_quiet : (hs : List (Happening U)) (users mid : Users) (s t : SessionUser) → PlaysUsers l sid excused users s hs mid t → PlaysUsers l sid excused users s (hs ++ quiet ∷ []) mid t
  plays_quiet [] users mid s t p = p
  plays_quiet (unit v ∷ hs) users mid s t p = (p.0, p.1, p.2, plays_quiet hs p.0 mid (user_after s (l.asks s v)) t p.3)
  plays_quiet (quiet ∷ hs) users mid s t p = plays_quiet hs users mid s t p

module _ {U M : Type 0} (l : Language U M) (place : ℕ) (o : Opening) (excused : Type 0) where
  -- what is heard of the place's entry is what the users before it tell
  heard_alone : (g es : List UserEntry) (w : Wanted) (x : Heard) → Hears o place g w es x → IsLegal o (g ++ es) → (1 ≤ failures es → excused) → HearsOf o.shelf.sid excused (users_after o g) w x (users_after o (g ++ es))
  heard_alone g es nothing x h legal fails = (h.1, ap (λ (k : List UserEntry). users_after o (g ++ k)) h.0 ∙ ap (users_after o) (append-nil g))
  heard_alone g es (to_look vacant uid pid) x h legal fails = (h.1, ap (λ (k : List UserEntry). users_after o (g ++ k)) h.0 ∙ users_more o g (entry place (login_op vacant uid (login uid pid (users_after o g))) Answered))
  heard_alone g es (to_do what) x h legal fails =
      let e = entry place what h.0 in (
        h.0,
        legal_last o g e (subst (λ (k : List UserEntry). IsLegal o (g ++ k)) h.1 legal),
        failed_excuses excused h.0 (λ one. subst (λ (k : List UserEntry). 1 ≤ failures k → excused) h.1 fails (omega (arith, one))),
        h.2,
        ap (λ (k : List UserEntry). users_after o (g ++ k)) h.1 ∙ users_more o g e,
      )

  pub consults_played : (hs : List (Happening U)) (h : List UserEntry) (s : SessionUser) → Consults l place o [] hs h s → AllByRecursion (λ e. e.place ≡ place) h → IsLegal o h → (1 ≤ failures h → excused) → PlaysUsers l o.shelf.sid excused o.users l.first hs (users_after o h) s
  consults_played _ _ _ consults_none mine legal fails = (refl, refl)
  consults_played _ _ _ (others_pass hs g s e other c) mine legal fails = absurd (other (split_last (λ (x : UserEntry). x.place ≡ place) g e mine))
  consults_played _ _ _ (unit_hears hs g s u es hears told c) mine legal fails =
      let joined = failures_front g es in
      let front : IsLegal o g = record { opened = legal.opened; entries = legal_front o.shelf.sid o.users g es legal.entries } in
      let so_far = consults_played hs g s c (split_front (λ (x : UserEntry). x.place ≡ place) g es mine) front (λ some. fails (omega (arith, some, joined))) in
      plays_unit l o.shelf.sid excused hs o.users (users_after o g) (users_after o (g ++ es)) l.first s u so_far (heard_alone g es (l.wants s u) (l.heard u) hears legal (λ some. fails (omega (arith, some, joined)))) told
  consults_played _ _ _ (quiet_passes hs g s c) mine legal fails = plays_quiet l o.shelf.sid excused hs o.users (users_after o g) l.first s (consults_played hs g s c mine legal fails)

-- a session that is alone on the opening of a disk heard what one list of users tells
pub consults_alone : {U M : Type 0} (l : Language U M) (d : DiskState) (place : ℕ) (o : Opening) → IsUsersOpeningOf d o → (hs : List (Happening U)) (h : List UserEntry) (s : SessionUser) → Consults l place o [] hs h s → IsHistory o h → AllByRecursion (λ e. e.place ≡ place) h
    → ConsultsAlone l d place o (length (units_in hs)) hs s
consults_alone l d place o is hs h s c history mine =
    let n = length (units_in hs) in
    let costs = consults_cost l place o hs h s c mine in
    let few : users_room_of n < d.room → failures h ≤ d.margin = λ roomy.
    let room = is.room (omega (arith, roomy)) in
    let margin = is.margin (omega (arith, roomy)) in
    let later = is.later in
    let fell = history.paid (omega (arith, roomy, room, costs)) in
    omega (arith, fell, margin, later) in
    record {
      history = h;
      heard = c;
      legal = history.legal;
      own = mine;
      few = few;
      plays = consults_played l place o (IsUsersUnsoundBy d.margin d.room n) hs h s c mine history.legal (λ some none roomy. let fell = few roomy in absurd (omega (arith, fell, some, none)));
    }

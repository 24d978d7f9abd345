-- What a session wrote that was alone on what a journal came to.
use Rattle.std.specs.List.{AllByRecursion}
use Rattle.std.proofs.Common.{◌≡◌, ◌≢◌, ◌⊎◌, ◌≤◌, ◌<◌, ◌+◌, ◌*◌, ℕ, false, length, length-append, List, [], ◌∷◌, ◌++◌, None, refl, sym, ◌∙◌, ap, subst, arith, inl, inr}
use Rattle.turnstile.specs.Turning.{Each}
use Rattle.dxc_disk.specs.Disks.{DiskState}
use Rattle.dxc_outside.specs.declared.clock.Moment.{Moment}
use Rattle.dxc_outside.specs.Items.{Item}
use Rattle.dxc_outside.specs.Links.{LinkState}
use Rattle.dxc_model.specs.declared.cause.Cause.{Cause}
use Rattle.dxc_model.specs.declared.cause.Cause.TheVariants.{DiskFault, JournalAstray}
use Rattle.dxc_model.specs.declared.op.Op.{Op}
use Rattle.dxc_model.specs.declared.op.Op.TheVariants.{Look, Restart}
use Rattle.dxc_model.specs.declared.entry.Entry.{Entry}
use Rattle.dxc_model.specs.declared.entry.Outcome.{Outcome}
use Rattle.dxc_model.specs.declared.entry.Outcome.TheVariants.{Done, Denied, Failed, Restarted, Cut, Taken}
use Rattle.dxc_model.specs.declared.entry.Outcome.TheVariants as outcome
use Rattle.dxc_model.specs.Tables.{Board}
use Rattle.dxc_model.specs.Steps.{IsFault, IsLimit, StepsTo}
use Rattle.dxc_model.specs.Histories.{GoesOn, IsCut, IsFailedRestart, IsLegal, IsRestarted, IsRestartDue, KeepsTurns, Rules, table_after}
use Rattle.dxc_model.proofs.Lasting.{lasts_before, lasts_no_more}
use Rattle.tl1_text.specs.Units.{Input, IsRest, IsStream}
use Rattle.user_admin.specs.declared.op.UserEntry.{UserEntry}
use Rattle.user_admin.specs.Histories.{Opening as UsersOpening}
use Rattle.user_admin.specs.Turns.{AreNumbered as AreUsersNumbered, Saw as SawUsers}
use Rattle.user_admin.proofs.Turning.{nothing_seen, numbered_seen}
use Rattle.dxc_model.specs.declared.user.SessionUser.{SessionUser}
use base.Stored.{Gv}
use Rattle.xc_core.specs.Seeing.{Saw, codes, entry}
use Rattle.xc_core.proofs.Began.{seen_all}
use Rattle.xc_core.specs.States.{IsPaid, LimitBehind, Opening, cost, fault_in, faults_in, IsNeverAstray, most_room, room_in, rules_of}
use Rattle.xc_core.specs.Turns.{AreNumbered, SawNoneAstray}
use Rattle.craft_session.specs.declared.ask.Ask.{Ask}
use Rattle.craft_session.specs.declared.ask.Ask.TheVariants.{Refused, LogsIn, LogsOut, Completes, Allows, Inhibits, Lists, Shows, Restarts, Changes}
use Rattle.craft_session.specs.declared.end.SessionEnd.{SessionEnd}
use Rattle.craft_session.specs.declared.end.SessionEnd.TheVariants.{End, ReadFault, WriteFault, Stopped, Spent, Unattended, Idle, Cancelled}
use Rattle.craft_session.specs.Asks.{Language, Reply, user_after}
use Rattle.craft_session.specs.Doing.{Doing}
use Rattle.craft_session.specs.Happenings.{Happening, Request, unit, bytes_in, inputs_in, units_in}
use Rattle.craft_session.specs.PlainUsers.{ConsultsAlone, IsUsersOpeningOf}
use Rattle.craft_session.specs.Plain.{Excuse, Plays, alone, said_in, standing}
use Rattle.craft_session.specs.Runs.{Run, Walk, begins, passes, responds, waits, looks}
use Rattle.craft_session.specs.Scripts.{Answered, AnsweredInPart, AnsweredToStop, AnsweredToUsersStop, IsEnded, IsOpeningOf, IsOwn, IsOwnHistory, IsScript, IsUnsoundBy, WroteAll, command_room, excused_on, opened, room_of}
use Rattle.craft_session.specs.Seats.{SeatAt, UserSeatAt}
use Rattle.craft_session.specs.Sessions.{Beginning, Consulted, CutPast, IsServed, IsSession, IsStoppedAtTable, IsStoppedAtUsers, Now, Past, Served, StopPast, done_before, now_of}
use Rattle.craft_session.specs.Walks.{ChangeReply, IsUnused, Mends, RestartReply, Serves}
use Rattle.craft_session.proofs.Meanwhiles.{alone_keeps, alone_onward, alone_passed, own_doubts, own_excuse, taken_here}
use Rattle.craft_session.proofs.Playing.{Played, Something, all_played, each_front, each_last, fits_last, played}
use Rattle.craft_session.proofs.Hearings.{consults_alone}
use Rattle.craft_session.proofs.Streams.{inputs_in-append, rest_none, stream_of, units_in-append, units_in-quiet}

each_both : {X : Type 0} (P Q R : X → Type 0) → ((x : X) → P x → Q x → R x) → (xs : List X) → AllByRecursion P xs → AllByRecursion Q xs → AllByRecursion R xs
each_both P Q R f [] p q = tt
each_both P Q R f (x ∷ xs) p q = (f x p.0 q.0, each_both P Q R f xs p.1 q.1)

each_join : {X : Type 0} (P : X → Type 0) (xs ys : List X) → AllByRecursion P xs → AllByRecursion P ys → AllByRecursion P (xs ++ ys)
each_join P [] ys p q = q
each_join P (x ∷ xs) ys p q = (p.0, each_join P xs ys p.1 q)

each_any : {X : Type 0} (xs : List X) → AllByRecursion (λ x. Unit {0}) xs
each_any [] = tt
each_any (x ∷ xs) = (tt, each_any xs)

each_behind : {X : Type 0} (P : X → Type 0) (xs ys : List X) → AllByRecursion P (xs ++ ys) → AllByRecursion P ys
each_behind P [] ys a = a
each_behind P (x ∷ xs) ys a = each_behind P xs ys a.1

-- with one place all entries are its own
mine_of : (own : ℕ) → own ≡ 0 → (h : List Entry) → Each (λ e. e.place < 1) h → AllByRecursion (λ e. e.place ≡ own) h
mine_of own zero [] a = tt
mine_of own zero (e ∷ es) a = (omega (arith, zero, a.0), mine_of own zero es a.1)

-- the outcomes of an entry of a unit that was answered
abbrev IsAllowed : Outcome → Type 0
IsAllowed (Done c) = Unit {0}
IsAllowed (Denied q) = Unit {0}
IsAllowed (Failed q) = Unit {0}
IsAllowed outcome.Answered = Unit {0}
IsAllowed (Restarted c) = Unit {0}
IsAllowed Cut = ⊥
IsAllowed Taken = Unit {0}

abbrev Allows_own : ℕ → Entry → Type 0
Allows_own own e = e.place ≡ own → IsAllowed e.outcome

replied_allowed : (o : Outcome) (r : Reply) → ChangeReply o r → IsAllowed o
replied_allowed (Done c) r x = tt
replied_allowed (Denied q) r x = tt
replied_allowed (Failed q) r x = tt
replied_allowed outcome.Answered r x = absurd x
replied_allowed (Restarted c) r x = absurd x
replied_allowed Cut r x = absurd x
replied_allowed Taken r x = absurd x

none_allowed : (own : ℕ) (es : List Entry) → es ≡ [] → AllByRecursion (Allows_own own) es
none_allowed own es none = subst (λ (x : List Entry). AllByRecursion (Allows_own own) x) (sym none) tt

one_allowed : (own : ℕ) (es : List Entry) (op : Op) (o : Outcome) → es ≡ entry own op o ∷ [] → IsAllowed o → AllByRecursion (Allows_own own) es
one_allowed own es op o one is = subst (λ (x : List Entry). AllByRecursion (Allows_own own) x) (sym one) ((λ _. is), tt)

restarted_allowed : (o : Outcome) (r : Reply) → RestartReply o r → IsAllowed o
restarted_allowed (Done c) r x = absurd x
restarted_allowed (Denied q) r x = absurd x
restarted_allowed (Failed q) r x = tt
restarted_allowed outcome.Answered r x = absurd x
restarted_allowed (Restarted c) r x = tt
restarted_allowed Cut r x = absurd x
restarted_allowed Taken r x = absurd x

unused_allowed : (own : ℕ) (e : Entry) → IsUnused own e → Allows_own own e
unused_allowed own e unused = λ mine. subst IsAllowed (sym (taken_here own e mine unused)) tt

mends_allowed : (own : ℕ) (h es : List Entry) → Mends own h es → AllByRecursion (Allows_own own) es
mends_allowed own h [] m = tt
mends_allowed own h (e ∷ es) m = (elim m.0 [ inl unused ↦ unused_allowed own e unused | inr mend ↦ (λ _. subst IsAllowed (sym mend.made.1) tt) ], mends_allowed own (h ++ e ∷ []) es m.1)

served_allowed : (own : ℕ) (t : Board) (h : List Entry) (k : Ask) (es : List Entry) (r : Reply) → Serves own t h k es r → AllByRecursion (Allows_own own) es
served_allowed own t h (Refused q) es r x = none_allowed own es x.0
served_allowed own t h (LogsIn u) es r x = none_allowed own es x.0
served_allowed own t h LogsOut es r x = none_allowed own es x.0
served_allowed own t h Completes es r x = none_allowed own es x.0
served_allowed own t h Allows es r x = one_allowed own es _ outcome.Answered x.0 tt
served_allowed own t h Inhibits es r x = none_allowed own es x.0
served_allowed own t h (Lists which) es r x = one_allowed own es _ outcome.Answered x.0 tt
served_allowed own t h (Shows what) es r x = one_allowed own es _ outcome.Answered x.0 tt
served_allowed own t h Restarts es r x = one_allowed own es Restart x.0 x.1 (restarted_allowed x.0 r x.2)
served_allowed own t h (Changes op) es r x = subst (λ (l : List Entry). AllByRecursion (Allows_own own) l) (sym x.all) (each_join (Allows_own own) x.front (entry own op x.outcome ∷ []) (mends_allowed own h x.front x.mends) ((λ _. replied_allowed x.outcome r x.reply), tt))

-- what the entries took of the room
room_join : (h g : List Entry) → room_in (h ++ g) ≡ room_in h + room_in g
room_join [] g = omega arith
room_join (e ∷ es) g = let more = room_join es g in omega (arith, more)

cost_few : (o : Outcome) → cost o ≤ most_room
cost_few (Done c) = omega arith
cost_few (Denied q) = omega arith
cost_few (Failed q) = omega arith
cost_few outcome.Answered = omega arith
cost_few (Restarted c) = omega arith
cost_few Cut = omega arith
cost_few Taken = omega arith

-- one restart at most is due before a command
not_due : (h : List Entry) (e : Entry) → (IsRestartDue h → ⊥) → e.outcome ≡ Taken → IsRestartDue (h ++ e ∷ []) → ⊥
not_due h e none taken due = none (lasts_before (λ x. IsCut x ⊎ IsFailedRestart x) IsRestarted h e due (λ x. elim x [ inl cut ↦ (let no = sym taken ∙ cut in cc) | inr failed ↦ (let no = sym taken ∙ failed.1.1 in cc) ]))

mended_not_due : (h : List Entry) (e : Entry) → IsRestarted e → IsRestartDue (h ++ e ∷ []) → ⊥
mended_not_due h e made = lasts_no_more (λ x. IsCut x ⊎ IsFailedRestart x) IsRestarted h e (λ x. elim x [ inl cut ↦ (let no = sym made.1 ∙ cut in cc) | inr failed ↦ (let no = sym made.1 ∙ failed.1.1 in cc) ]) made

rests_free : (own : ℕ) (h es : List Entry) → (IsRestartDue h → ⊥) → Mends own h es → AllByRecursion (λ e. e.place ≡ own) es → room_in es ≡ 0
rests_free own h [] none m mine = refl
rests_free own h (e ∷ es) none m mine = elim m.0 [
  | inl unused ↦ (
      let taken = taken_here own e mine.0 unused in
      let free : cost e.outcome ≡ 0 = ap cost taken in
      let rest = rests_free own (h ++ e ∷ []) es (not_due h e none taken) m.1 mine.1 in
      omega (arith, free, rest)
      )
  | inr mend ↦ absurd (none mend.due)
]

mends_cost : (own : ℕ) (h es : List Entry) → Mends own h es → AllByRecursion (λ e. e.place ≡ own) es → room_in es ≤ most_room
mends_cost own h [] m mine = omega arith
mends_cost own h (e ∷ es) m mine = elim m.0 [
  | inl unused ↦ (
      let free : cost e.outcome ≡ 0 = ap cost (taken_here own e mine.0 unused) in
      let rest = mends_cost own (h ++ e ∷ []) es m.1 mine.1 in
      omega (arith, free, rest)
      )
  | inr mend ↦ (
      let few = cost_few e.outcome in
      let rest = rests_free own (h ++ e ∷ []) es (mended_not_due h e mend.made) m.1 mine.1 in
      omega (arith, few, rest)
      )
]

none_costs : (es : List Entry) → es ≡ [] → room_in es ≤ command_room
none_costs es none = subst (λ (x : List Entry). room_in x ≤ command_room) (sym none) (omega arith)

one_costs : (own : ℕ) (es : List Entry) (op : Op) (o : Outcome) → es ≡ entry own op o ∷ [] → room_in es ≤ command_room
one_costs own es op o one = subst (λ (x : List Entry). room_in x ≤ command_room) (sym one) (let few = cost_few o in omega (arith, few))

served_costs : (own : ℕ) (t : Board) (h : List Entry) (k : Ask) (es : List Entry) (r : Reply) → Serves own t h k es r → AllByRecursion (λ e. e.place ≡ own) es → room_in es ≤ command_room
served_costs own t h (Refused q) es r x mine = none_costs es x.0
served_costs own t h (LogsIn u) es r x mine = none_costs es x.0
served_costs own t h LogsOut es r x mine = none_costs es x.0
served_costs own t h Completes es r x mine = none_costs es x.0
served_costs own t h Allows es r x mine = one_costs own es _ outcome.Answered x.0
served_costs own t h Inhibits es r x mine = none_costs es x.0
served_costs own t h (Lists which) es r x mine = one_costs own es _ outcome.Answered x.0
served_costs own t h (Shows what) es r x mine = one_costs own es _ outcome.Answered x.0
served_costs own t h Restarts es r x mine = one_costs own es Restart x.0 x.1
served_costs own t h (Changes op) es r x mine =
    let e = entry own op x.outcome in
    let all = subst (λ (l : List Entry). AllByRecursion (λ e. e.place ≡ own) l) x.all mine in
    let front = mends_cost own h x.front x.mends (each_front (λ (y : Entry). y.place ≡ own) x.front (e ∷ []) all) in
    let few = cost_few x.outcome in
    let more = room_join x.front (e ∷ []) in
    let same = ap room_in x.all in
    omega (arith, front, few, more, same)

module _ (l : Language Request Moment) (own : ℕ) (t : Board) where
  -- the entries are of units that were answered
  run_allowed : (w : Walk Request Moment) → Run l own t [] w → AllByRecursion (Allows_own own) w.history
  run_allowed _ begins = tt
  run_allowed _ (passes w e unused run) = each_join (Allows_own own) w.history (e ∷ []) (run_allowed w run) (unused_allowed own e unused, tt)
  run_allowed _ (responds w u m es r none serves run) = each_join (Allows_own own) w.history es (run_allowed w run) (served_allowed own t w.history (l.asks w.attending.user u) es r serves)
  run_allowed _ (waits w none run) = run_allowed w run
  run_allowed _ (looks w cursor ms bytes due watch said run) = each_join (Allows_own own) w.history (entry own (Look cursor) outcome.Answered ∷ []) (run_allowed w run) ((λ _. tt), tt)

  -- and took no more room than so many commands
  run_costs : (w : Walk Request Moment) → Run l own t [] w → AllByRecursion (λ e. e.place ≡ own) w.history → room_in w.history ≤ command_room * length (units_in w.happenings)
  run_costs _ begins mine = omega arith
  run_costs _ (passes w e unused run) mine =
      let so_far = run_costs w run (each_front (λ (x : Entry). x.place ≡ own) w.history (e ∷ []) mine) in
      let free : cost e.outcome ≡ 0 = ap cost (taken_here own e (each_last (λ (x : Entry). x.place ≡ own) w.history e mine) unused) in
      let more = room_join w.history (e ∷ []) in
      omega (arith, so_far, free, more)
  run_costs _ (responds w u m es r none serves run) mine =
      let so_far = run_costs w run (each_front (λ (x : Entry). x.place ≡ own) w.history es mine) in
      let few = served_costs own t w.history (l.asks w.attending.user u) es r serves (each_behind (λ (x : Entry). x.place ≡ own) w.history es mine) in
      let more = room_join w.history es in
      let units = ap length (units_in-append w.happenings (unit u ∷ [])) ∙ length-append (units_in w.happenings) (u ∷ []) in
      omega (arith, so_far, few, more, units)
  run_costs _ (waits w none run) mine =
      let so_far = run_costs w run mine in
      let units = ap length (units_in-quiet w.happenings) in
      omega (arith, so_far, units)
  run_costs _ (looks w cursor ms bytes due watch said run) mine =
      let so_far = run_costs w run (each_front (λ (x : Entry). x.place ≡ own) w.history (entry own (Look cursor) outcome.Answered ∷ []) mine) in
      let more = room_join w.history (entry own (Look cursor) outcome.Answered ∷ []) in
      omega (arith, so_far, more)

-- a fault of the disk is counted
faults_there : (h : List Entry) (n : ℕ) → faults_in h ≤ n → AllByRecursion (λ e. e.outcome ≡ Failed DiskFault → 1 ≤ n) h
faults_there [] n le = tt
faults_there (e ∷ es) n le = ((λ is. let one : fault_in e.outcome ≡ 1 = ap fault_in is in omega (arith, one, le)), faults_there es n (omega (arith, le)))

-- an operation of a legal history fails by a limit or by a fault
fails_by : (r : Rules) (past h : List Entry) → GoesOn r past h → AllByRecursion (λ e. (q : Cause) → e.outcome ≡ Failed q → IsLimit q ⊎ IsFault q) h
fails_by r past [] goes = tt
fails_by r past (e ∷ es) goes = (
  (λ q is. (let step = subst (λ (o : Outcome). StepsTo (table_after r.table past) e.op o (table_after r.table (past ++ e ∷ []))) is goes.0.step in elim step.0 [ inl x ↦ inl x.0 | inr x ↦ inr x.0 ])),
  fails_by r (past ++ e ∷ []) es goes.1,
)

each_under : {X T : Type 0} (P : X → Type 0) (xs : List X) → (T → AllByRecursion P xs) → AllByRecursion (λ x. T → P x) xs
each_under P [] f = tt
each_under P (x ∷ xs) f = ((λ t. (f t).0), each_under P xs (λ t. (f t).1))

-- what one entry of the place's is known to be
record IsKnown (own : ℕ) (disk_told : Type 0) (faults : ℕ) (e : Entry) : Type 0 where
  pub mine : e.place ≡ own
  pub allowed : IsAllowed e.outcome
  pub fails : (q : Cause) → e.outcome ≡ Failed q → IsLimit q ⊎ IsFault q
  pub counted : e.outcome ≡ Failed DiskFault → 1 ≤ faults
  pub never : disk_told → e.outcome ≢ Failed JournalAstray

all_known : (own : ℕ) (disk_told : Type 0) (r : Rules) (h : List Entry) → IsLegal r h → AllByRecursion (λ e. e.place ≡ own) h → AllByRecursion (Allows_own own) h → (disk_told → IsNeverAstray h) → AllByRecursion (IsKnown own disk_told (faults_in h)) h
all_known own disk_told r h legal mine allowed never =
    let first = each_both (λ (e : Entry). e.place ≡ own) (Allows_own own) (λ e. (e.place ≡ own) × IsAllowed e.outcome) (λ e m a. (m, a m)) h mine allowed in
    let next = each_both (λ (e : Entry). (q : Cause) → e.outcome ≡ Failed q → IsLimit q ⊎ IsFault q) (λ e. e.outcome ≡ Failed DiskFault → 1 ≤ faults_in h) (λ e. ((q : Cause) → e.outcome ≡ Failed q → IsLimit q ⊎ IsFault q) × (e.outcome ≡ Failed DiskFault → 1 ≤ faults_in h)) (λ e f n. (f, n)) h (fails_by r [] h legal) (faults_there h (faults_in h) (omega arith)) in
    let both = each_both (λ (e : Entry). (e.place ≡ own) × IsAllowed e.outcome) (λ e. ((q : Cause) → e.outcome ≡ Failed q → IsLimit q ⊎ IsFault q) × (e.outcome ≡ Failed DiskFault → 1 ≤ faults_in h)) (λ e. ((e.place ≡ own) × IsAllowed e.outcome) × (((q : Cause) → e.outcome ≡ Failed q → IsLimit q ⊎ IsFault q) × (e.outcome ≡ Failed DiskFault → 1 ≤ faults_in h))) (λ e x y. (x, y)) h first next in
    each_both (λ (e : Entry). ((e.place ≡ own) × IsAllowed e.outcome) × (((q : Cause) → e.outcome ≡ Failed q → IsLimit q ⊎ IsFault q) × (e.outcome ≡ Failed DiskFault → 1 ≤ faults_in h))) (λ e. disk_told → e.outcome ≢ Failed JournalAstray) (IsKnown own disk_told (faults_in h))
    (λ e x y. record { mine = x.0.0; allowed = x.0.1; fails = x.1.0; counted = x.1.1; never = y }) h both (each_under (λ (e : Entry). e.outcome ≢ Failed JournalAstray) h never)

module _ (disk_told : Type 0) (disk users_disk : DiskState) (own : ℕ) (o : Opening) (p : UsersOpening) (is : IsOpeningOf disk o) (users_is : IsUsersOpeningOf users_disk p) where
  -- each failed operation lowered the margin
  few : (n : ℕ) (h : List Entry) → IsPaid o h → room_in h ≤ command_room * n → room_of n < disk.room → faults_in h ≤ disk.margin
  few n h paid costs roomy =
      let room = is.room (omega (arith, roomy)) in
      let margin = is.margin (omega (arith, roomy)) in
      let later = is.later in
      let fell = paid (omega (arith, roomy, room, costs)) in
      omega (arith, fell, margin, later)

  module _ (n : ℕ) (h : List Entry) (paid : IsPaid o h) (costs : room_in h ≤ command_room * n) where
    unsound : 1 ≤ faults_in h → IsUnsoundBy disk.margin disk.room n
    unsound one margin roomy = let fell = few n h paid costs roomy in absurd (omega (arith, fell, one, margin))

    excuse_of : (q : Cause) → (q ≡ DiskFault → 1 ≤ faults_in h) → (disk_told → q ≢ JournalAstray) → IsFault q → excused_on disk_told disk users_disk own o p n q
    excuse_of q counted never fault = elim fault [ inl d ↦ inl (d, unsound (counted d)) | inr a ↦ inr (a, λ told. never told a) ]

    ended : (x : Outcome) → IsAllowed x → ((q : Cause) → x ≡ Failed q → IsLimit q ⊎ IsFault q) → (x ≡ Failed DiskFault → 1 ≤ faults_in h) → (disk_told → x ≢ Failed JournalAstray) → IsEnded (excused_on disk_told disk users_disk own o p n) x
    ended (Done c) allowed fails counted never = tt
    ended (Denied q) allowed fails counted never = tt
    ended (Failed q) allowed fails counted never = elim (fails q refl) [
      | inl limit ↦ inl limit
      | inr fault ↦ inr (excuse_of q (λ d. counted (ap Failed d)) (λ told a. never told (ap Failed a)) fault)
    ]
    ended outcome.Answered allowed fails counted never = tt
    ended (Restarted c) allowed fails counted never = tt
    ended Cut allowed fails counted never = absurd allowed
    ended Taken allowed fails counted never = tt

    known_own : (e : Entry) → IsKnown own disk_told (faults_in h) e → IsOwn own (excused_on disk_told disk users_disk own o p n) e
    known_own e k = record { mine = k.mine; ended = ended e.outcome k.allowed k.fails k.counted k.never }

    own_history : IsLegal (rules_of o) h → KeepsTurns None h → AllByRecursion (λ e. e.place ≡ own) h → AllByRecursion (Allows_own own) h → (disk_told → IsNeverAstray h) → IsOwnHistory disk_told disk users_disk own o p n h
    own_history legal turns mine allowed never = record {
      legal = legal;
      turns = turns;
      own = each_both (IsKnown own disk_told (faults_in h)) (λ e. Unit {0}) (IsOwn own (excused_on disk_told disk users_disk own o p n)) (λ e k _. known_own e k) h (all_known own disk_told (rules_of o) h legal mine allowed never) (each_any h);
      few = few n h paid costs;
    }

  -- a run whose entries are the place's is the plain session's
  module _ (l : Language Request Moment) (n : ℕ) (w : Walk Request Moment) (run : Run l own o.first.fold.table [] w) (history : IsOwnHistory disk_told disk users_disk own o p n w.history) where
    abbrev excused : Excuse
    excused = excused_on disk_told disk users_disk own o p n

    played_alone : Played l (rules_of o) own excused alone (IsOwn own excused) (λ a. refl) alone_onward alone_keeps (alone_passed own excused o.first.fold.table) (own_excuse own excused) (own_doubts own excused o.first.fold.table) [] w
    played_alone = played l (rules_of o) own excused alone (IsOwn own excused) (λ a. refl) alone_onward alone_keeps (alone_passed own excused o.first.fold.table) (own_excuse own excused) (own_doubts own excused o.first.fold.table) [] w run history.legal history.own

    plays_alone : w.due ≡ false → Plays l (LimitBehind o.first) excused alone (opened l o) w.happenings (said_in w) (standing o.first.fold.table w.history w.attending)
    plays_alone none = all_played l (rules_of o) own excused alone (IsOwn own excused) (λ a. refl) alone_onward alone_keeps (alone_passed own excused o.first.fold.table) (own_excuse own excused) (own_doubts own excused o.first.fold.table) [] w played_alone none

    some_alone : w.happenings ≢ [] → Something l (LimitBehind o.first) excused alone (opened l o) (standing o.first.fold.table w.history w.attending) w
    some_alone some = elim played_alone [ inl x ↦ absurd (some x.happenings) | inr x ↦ x ]

  module _ (told clock_told : Type 0) (k l : LinkState) (c d : List Moment) (tongue : Language Request Moment) (now : Now) (first : Doing) (mine : (h : List Entry) → now.seen ≡ codes h → AllByRecursion (λ e. e.place ≡ own) h) (never : SawNoneAstray disk_told now.seen)
      (mine_users : (h : List UserEntry) → SawUsers p now.users h → AllByRecursion (λ e. e.place ≡ own) h) where
    abbrev b : Beginning
    b = record { opening = o; users = p; place = own; before = []; users_before = []; first = first }

    saw_all : (seen : List Gv) (h : List Entry) → Saw o seen h → seen ≡ codes h
    saw_all seen h saw = seen_all o seen h is.ready saw

    abbrev commands : Walk Request Moment → ℕ
    commands w = length (units_in w.happenings)

    history_of : (w : Walk Request Moment) → Run tongue own o.first.fold.table [] w → Saw o now.seen w.history → IsOwnHistory disk_told disk users_disk own o p (commands w) w.history
    history_of w run saw =
        let here = mine w.history (saw_all now.seen w.history saw) in
        own_history (commands w) w.history saw.history.paid (run_costs tongue own o.first.fold.table w run here) saw.history.legal saw.history.turns here (run_allowed tongue own o.first.fold.table w run) (λ t. never t w.history (saw_all now.seen w.history saw))

    -- what was heard of the users
    asked_alone : (hs : List (Happening Request)) (user : SessionUser) → Consulted tongue b now.users hs user → ConsultsAlone tongue users_disk own p (length (units_in hs)) hs user
    asked_alone hs user c = consults_alone tongue users_disk own p users_is hs c.history user c.heard c.saw.history (mine_users c.history c.saw)

    answered : (items : List Item) (rest out : List ℕ) → IsRest rest → Past tongue clock_told c d b now false items rest out → Answered disk_told disk users_disk own o p clock_told c d tongue items out
    answered items rest out no_unit q =
        let history = history_of q.walk q.run q.saw in
        record {
          walk = q.walk;
          rest = rest;
          happened = q.happened;
          read = stream_of items q.walk.happenings rest q.happened no_unit;
          gave = q.gave;
          run = q.run;
          history = history;
          consulted = asked_alone q.walk.happenings q.walk.attending.user q.consulted;
          written = q.written;
          plays = plays_alone tongue (commands q.walk) q.walk q.run history q.looked;
        }

    in_part : (items : List Item) (out : List ℕ) → CutPast tongue clock_told c d b now items out → AnsweredInPart disk_told disk users_disk own o p clock_told c d tongue items out
    in_part items out q =
        let history = history_of q.walk q.run q.saw in
        let x = some_alone tongue (commands q.walk) q.walk q.run history q.some in
        record {
          walk = q.walk;
          rest = q.rest;
          front = x.front;
          last = x.last;
          all = x.happenings;
          happened = q.happened;
          read = stream_of items q.walk.happenings q.rest q.happened q.no_unit;
          moments = q.moments;
          untaken = q.untaken;
          taken = q.taken;
          gave = q.gave;
          run = q.run;
          history = history;
          consulted = asked_alone q.walk.happenings q.walk.attending.user q.consulted;
          earlier = x.earlier;
          latest = x.latest;
          took = x.moments;
          plays = x.plays;
          part = q.part;
          missing = q.missing;
          split = sym x.latest_is ∙ q.split;
          written = q.written ∙ ap (λ (y : List ℕ). y ++ q.part) x.earlier_is;
        }

    read_to_last : {out : List ℕ} (items : List Item) (q : StopPast tongue clock_told c d b now items out) → IsStream (bytes_in items) (inputs_in q.walk.happenings ++ q.last.input ∷ []) []
    read_to_last items q = subst (λ (us : List Input). IsStream (bytes_in items) us []) (inputs_in-append q.walk.happenings (unit q.last ∷ [])) (stream_of items (q.walk.happenings ++ unit q.last ∷ []) [] q.happened rest_none)

    -- a stop cut the last unit's command at the table
    to_stop : (items : List Item) (out : List ℕ) (q : StopPast tongue clock_told c d b now items out) → IsStoppedAtTable tongue b now q.walk q.last → AnsweredToStop disk_told disk users_disk own o p clock_told c d tongue items out
    to_stop items out q y =
        let w = q.walk in
        let x = y.stops in
        let g = w.history ++ x.front in
        let e = entry own x.op Cut in
        let all_seen = saw_all now.seen (g ++ e ∷ []) x.saw in
        let all = mine (g ++ e ∷ []) all_seen in
        let here = each_front (λ (y : Entry). y.place ≡ own) w.history x.front (each_front (λ (y : Entry). y.place ≡ own) g (e ∷ []) all) in
        let never_here : disk_told → IsNeverAstray w.history = λ t. each_front (λ (y : Entry). y.outcome ≢ Failed JournalAstray) w.history x.front (each_front (λ (y : Entry). y.outcome ≢ Failed JournalAstray) g (e ∷ []) (never t (g ++ e ∷ []) all_seen)) in
        let history = own_history (commands w) w.history q.history.paid (run_costs tongue own o.first.fold.table w q.run here) q.history.legal q.history.turns here (run_allowed tongue own o.first.fold.table w q.run) never_here in
        record {
          walk = w;
          last = q.last;
          op = x.op;
          in_front = x.front;
          happened = q.happened;
          read = read_to_last items q;
          gave = q.gave;
          run = q.run;
          history = history;
          consulted = asked_alone (w.happenings ++ unit q.last ∷ []) (user_after w.attending.user (tongue.asks w.attending.user q.last)) y.consulted;
          mends = x.stands;
          cuts = x.cuts;
          legal = x.saw.history.legal;
          written = q.written;
          plays = plays_alone tongue (commands w) w q.run history q.looked;
          under_way = (fits_last (rules_of o) g e x.saw.history.legal).step.0;
        }

    -- or at the users
    to_users_stop : (items : List Item) (out : List ℕ) (q : StopPast tongue clock_told c d b now items out) → IsStoppedAtUsers tongue b now q.walk q.last → AnsweredToUsersStop disk_told disk users_disk own o p clock_told c d tongue items out
    to_users_stop items out q y =
        let w = q.walk in
        let history = history_of w q.run y.saw in
        record {
          walk = w;
          last = q.last;
          op = y.op;
          happened = q.happened;
          read = read_to_last items q;
          gave = q.gave;
          run = q.run;
          history = history;
          consulted = asked_alone w.happenings w.attending.user y.consulted;
          wanted = y.wanted;
          changing = y.changing;
          written = q.written;
          plays = plays_alone tongue (commands w) w q.run history q.looked;
        }

    stopped : (items : List Item) (out : List ℕ) (q : StopPast tongue clock_told c d b now items out) → AnsweredToStop disk_told disk users_disk own o p clock_told c d tongue items out ⊎ AnsweredToUsersStop disk_told disk users_disk own o p clock_told c d tongue items out
    stopped items out q = elim q.stopped [ inl y ↦ inl (to_stop items out q y) | inr y ↦ inr (to_users_stop items out q y) ]

    wrote_all : Served tongue told clock_told k l c d b now → WroteAll disk_told disk users_disk own o p clock_told c d tongue told k l
    wrote_all x = record { items = x.items; out = x.out; exchanged = x.exchanged; no_fault = x.no_fault; answered = answered x.items x.rest x.out x.no_unit x.past }

    scripted : (end : SessionEnd) → IsSession tongue told clock_told k l c d b now end → IsScript disk_told disk users_disk own o p clock_told c d tongue told k l end
    scripted End x = wrote_all x
    scripted ReadFault x = wrote_all x
    scripted Spent x = wrote_all x
    scripted Unattended x = wrote_all x.served
    scripted Idle x = wrote_all x
    scripted Cancelled x = wrote_all x.served
    scripted WriteFault x = record { items = x.items; ahead = x.ahead; out = x.out; exchanged = x.exchanged; answered = in_part x.items x.out x.past; rose = x.rose }
    scripted Stopped x = record { items = x.items; ahead = x.ahead; out = x.out; exchanged = x.exchanged; no_fault = x.no_fault; answered = stopped x.items x.out x.past }

no_codes : (h : List Entry) → codes h ≡ [] → h ≡ []
no_codes [] is = refl
no_codes (e ∷ es) is = cc

users_mine : (own : ℕ) → own ≡ 0 → (h : List UserEntry) → Each (λ e. e.place < 1) h → AllByRecursion (λ e. e.place ≡ own) h
users_mine own zero [] a = tt
users_mine own zero (e ∷ es) a = (omega (arith, zero, a.0), users_mine own zero es a.1)

-- with one pass all that was seen is of its place
seen_mine : (own places : ℕ) (seen : List Gv) → own ≡ 0 → places ≡ 1 → AreNumbered places seen → (h : List Entry) → seen ≡ codes h → AllByRecursion (λ e. e.place ≡ own) h
seen_mine own places seen zero one numbers h is = mine_of own zero h (subst (λ (n : ℕ). Each (λ e. e.place < n) h) one (numbers h is))

users_seen_mine : (o : UsersOpening) (own places : ℕ) (seen : List Gv) → own ≡ 0 → places ≡ 1 → AreUsersNumbered places seen → (h : List UserEntry) → SawUsers o seen h → AllByRecursion (λ e. e.place ≡ own) h
users_seen_mine o own places seen zero one numbers h saw = users_mine own zero h (subst (λ (n : ℕ). Each (λ e. e.place < n) h) one (numbered_seen o places seen h saw numbers))

-- the session of a place that had seen nothing
session_alone : (told clock_told : Type 0) (k l : LinkState) (c d : List Moment) (tongue : Language Request Moment) (old new : SeatAt) (users then_users : UserSeatAt) (end : SessionEnd) → old.opening.due ≡ false → old.seen ≡ [] → users.seen ≡ [] → (x : IsServed tongue told clock_told k l c d old new users then_users end)
    → IsSession tongue told clock_told k l c d (record { opening = old.opening; users = users.opening; place = old.place; before = []; users_before = []; first = done_before old users x.users_saw.marks }) (now_of new then_users x.attending) end
session_alone told clock_told k l c d tongue old new users then_users end ready none no_users x =
    let nothing : x.before ≡ [] = no_codes x.before (sym (seen_all old.opening old.seen x.before ready x.saw) ∙ none) in
    let no_user : x.users_before ≡ [] = nothing_seen users.opening x.users_before (subst (λ (s : List Gv). SawUsers users.opening s x.users_before) no_users x.users_saw) in
    subst (λ (h : List Entry × List UserEntry). IsSession tongue told clock_told k l c d (record { opening = old.opening; users = users.opening; place = old.place; before = h.0; users_before = h.1; first = done_before old users x.users_saw.marks }) (now_of new then_users x.attending) end) (λ i. (nothing i, no_user i)) x.session

-- What the one session of turnstiles with one pass wrote, on the openings of two disks.
pub script_of : (disk_told told clock_told : Type 0) (disk users_disk : DiskState) (k l : LinkState) (c d : List Moment) (tongue : Language Request Moment) (old new : SeatAt) (users then_users : UserSeatAt) (end : SessionEnd) → IsOpeningOf disk old.opening → IsUsersOpeningOf users_disk users.opening
    → old.seen ≡ [] → users.seen ≡ [] → old.place ≡ 0 → users.place ≡ 0 → new.places ≡ 1 → then_users.places ≡ 1 → AreNumbered new.places new.seen → AreUsersNumbered then_users.places then_users.seen
    → SawNoneAstray disk_told new.seen → IsServed tongue told clock_told k l c d old new users then_users end → IsScript disk_told disk users_disk old.place old.opening users.opening clock_told c d tongue told k l end
script_of disk_told told clock_told disk users_disk k l c d tongue old new users then_users end is users_is none no_users zero users_zero one users_one numbers users_numbers never x =
    let now = now_of new then_users x.attending in
    scripted disk_told disk users_disk old.place old.opening users.opening is users_is told clock_told k l c d tongue now (done_before old users x.users_saw.marks) (seen_mine old.place new.places new.seen zero one numbers) never (users_seen_mine users.opening old.place then_users.places then_users.seen zero users_one users_numbers) end
    (session_alone told clock_told k l c d tongue old new users then_users end is.ready none no_users x)

-- Where it ended with its link, all that its seat has seen is the history of what it wrote.
pub script_seen : (disk_told told clock_told : Type 0) (disk users_disk : DiskState) (k l : LinkState) (c d : List Moment) (tongue : Language Request Moment) (old new : SeatAt) (users then_users : UserSeatAt) → IsOpeningOf disk old.opening → IsUsersOpeningOf users_disk users.opening
    → old.seen ≡ [] → users.seen ≡ [] → old.place ≡ 0 → new.places ≡ 1 → then_users.places ≡ 1 → AreNumbered new.places new.seen → AreUsersNumbered then_users.places then_users.seen
    → SawNoneAstray disk_told new.seen → IsServed tongue told clock_told k l c d old new users then_users End → (w : WroteAll disk_told disk users_disk old.place old.opening users.opening clock_told c d tongue told k l) × Saw old.opening new.seen w.answered.walk.history
unfolding wrote_all session_alone answered
script_seen disk_told told clock_told disk users_disk k l c d tongue old new users then_users is users_is none no_users zero one users_one numbers users_numbers never x =
    let now = now_of new then_users x.attending in
    let session = session_alone told clock_told k l c d tongue old new users then_users End is.ready none no_users x in
    (wrote_all disk_told disk users_disk old.place old.opening users.opening is users_is told clock_told k l c d tongue now (done_before old users x.users_saw.marks) (seen_mine old.place new.places new.seen zero one numbers) never (users_seen_mine users.opening old.place then_users.places then_users.seen zero users_one users_numbers) session, session.past.saw)

-- What a place knows of the users' history, and what its turns come to.
use Rattle.std.specs.Prelude.{◌≡◌, ◌≢◌, ℕ, Bool, List, ◌++◌, map, Option, Some, None, Result, Ok, Err, MatchResult}
use base.Stored.{Gv}
use Rattle.turnstile.specs.Passing.{TurnstileView, Token}
use Rattle.turnstile.specs.Places.{AfterBy, AreNumberedBy, HasPassBy, HasSeenBy, KeepsPassBy, TurnedBackBy, TurnedBy, ViewOf, view_of}
use Rattle.turnstile.specs.Turning.{Each}
use Rattle.arrayvec.specs.ArrayVec.{ArrayVec}
use Rattle.dxc_disk.specs.Disks.{DiskState}
use Rattle.dxc_disk.specs.declared.disk.Disk.{Ghosts as DiskOf}
use Rattle.dxc_model.specs.declared.cause.Cause.{Cause}
use Rattle.dxc_model.specs.declared.user.Class.{Class}
use Rattle.dxc_outside.specs.declared.stopped.Stopped.{Stopped}
use Rattle.user_admin.specs.declared.op.UserChange.{UserChange}
use Rattle.user_admin.specs.declared.op.UserEntry.{UserEntry}
use Rattle.user_admin.specs.declared.op.UserMark.{UserMark}
use Rattle.tl1_users.specs.declared.op.UserOp.{UserOp}
use Rattle.user_admin.specs.declared.op.UserOutcome.{UserOutcome}
use Rattle.user_admin.specs.declared.op.UserRow.{UserRow}
use Rattle.tl1_users.specs.declared.op.UserOp.TheVariants.{Cancel, Rows}
use Rattle.user_admin.specs.declared.op.UserOutcome.TheVariants as outcome
use Rattle.user_admin.specs.declared.shared.Planned.{Planned}
use Rattle.user_admin.specs.declared.shared.Planned.TheVariants as planned
use Rattle.user_admin.specs.declared.shared.SharedUsers.{SharedUsers}
use Rattle.user_admin.specs.declared.state.UserState.{UserState}
use Rattle.user_admin.specs.declared.turns.UserTook.{UserTook}
use Rattle.user_admin.specs.declared.turns.UserTook.TheVariants.{Done, Denied}
use Rattle.user_admin.specs.Verdicts.{login, rows_in}
use Rattle.user_admin.specs.Coding.{mark_coded}
use Rattle.user_admin.specs.Histories.{IsLegal, Opening, users_after}
use Rattle.user_admin.specs.Occupants.{is_cancelled, login_op}
use Rattle.user_admin.specs.States.{IsPaid, entry, refused}
use Rattle.user_admin.specs.Marks.{entries_of, place_of}
use Rattle.user_admin.specs.Shared.{HasKeeper, HasKept, opening_at}

abbrev pub codes : List UserMark → List Gv
codes ms = map mark_coded.code ms

-- what is known of every history from this opening
pub record IsHistory (o : Opening) (h : List UserEntry) : Type 0 where
  pub legal : IsLegal o h
  pub paid : IsPaid o h

-- the history that was seen is h: the entries among what turns left
pub record Saw (o : Opening) (seen : List Gv) (h : List UserEntry) : Type 0 where
  pub marks : List UserMark
  pub codes_are : seen ≡ codes marks
  pub entries_are : entries_of marks ≡ h
  pub history : IsHistory o h

-- after the history stand others' entries, and then this one
abbrev pub Turned : Opening → ℕ → List UserEntry → UserEntry → List Gv → Type 0
Turned = TurnedBy Saw (λ e. e.place)

-- after it stand others' entries alone
abbrev pub TurnedBack : Opening → ℕ → List UserEntry → List Gv → Type 0
TurnedBack = TurnedBackBy Saw (λ e. e.place)

-- all that was seen carries the number of one of so many passes
abbrev pub AreNumbered : ℕ → List Gv → Type 0
AreNumbered = AreNumberedBy codes place_of

-- the pass is one of the turnstile's, no turn of it is out, and what it has seen are entries of the turnstile's passes
abbrev pub HasPass : {X : Type 0} → TurnstileView X → Token → Type 0
HasPass = HasPassBy codes place_of

-- so it is after turns of it, and it is the same pass at a later time
abbrev pub KeepsPass : {X : Type 0} → TurnstileView X → Token → Token → Type 0
KeepsPass = KeepsPassBy codes place_of

-- the change was made, or the operation denied, or the gate stopped before anything was done
abbrev pub TookIs : Opening → ℕ → List UserEntry → UserOp → List Gv → Result UserTook Stopped → Type 0
TookIs o own h op then_seen (Ok Done) = (c : UserChange) × Turned o own h (entry own op (outcome.Done c)) then_seen
TookIs o own h op then_seen (Ok (Denied q)) = Turned o own h (entry own op (refused q)) then_seen
TookIs o own h op then_seen (Err e) = TurnedBack o own h then_seen

-- a log-in by name and PID, in a session where nobody is logged in or somebody is
pub record Asking : Type 0 where
  pub vacant : Bool
  pub uid : List ℕ
  pub pid : List ℕ

-- a look at the users before the place's entry tells whom name and PID log in, and the entry, whether they do
abbrev pub LoggedIn : Opening → ℕ → List UserEntry → Asking → List Gv → Option Class → Type 0
LoggedIn o own h a then_seen found = (t : Turned o own h (entry own (login_op a.vacant a.uid found) outcome.Answered) then_seen) × (found ≡ login a.uid a.pid (users_after o (h ++ t.later)))

-- the user's sessions end
abbrev pub Cancels : Opening → ℕ → List UserEntry → List ℕ → List Gv → Type 0
Cancels o own h uid then_seen = Turned o own h (entry own (Cancel uid) outcome.Answered) then_seen

-- after others' entries alone: whether the sessions were ended of who logged in at the place last
abbrev pub LookedAt : Opening → ℕ → List UserEntry → List Gv → Bool → Type 0
LookedAt o own h then_seen cancelled = (t : TurnedBack o own h then_seen) × (cancelled ≡ is_cancelled own (h ++ t.later))

-- the rows of the users before the place's entry, or the cause against it
abbrev pub RowsAre : Opening → ℕ → List UserEntry → Option (List ℕ) → List Gv → List UserRow → Type 0
RowsAre o own h which then_seen given = (t : Turned o own h (entry own (Rows which) outcome.Answered) then_seen) × (given ≡ rows_in (users_after o (h ++ t.later)) which)

abbrev pub RowsDenied : Opening → ℕ → List UserEntry → Option (List ℕ) → List Gv → Cause → Type 0
RowsDenied o own h which then_seen q = Turned o own h (entry own (Rows which) (refused q)) then_seen

-- where the history began, and whose pass it is
abbrev pub View : Type 0
View = ViewOf Opening

abbrev pub view : {D : Type 0} → (D → DiskState) → TurnstileView (SharedUsers D) → Token → View
view state = view_of (opening_at state) Saw

-- what the pass has seen is a history
abbrev pub HasSeen : {D : Type 0} → DiskOf D → TurnstileView (SharedUsers D) → Token → Type 0
HasSeen g = HasSeenBy (opening_at g.state) Saw

-- after each history that was seen this holds
abbrev pub After : {D : Type 0} → DiskOf D → TurnstileView (SharedUsers D) → Token → (View → List UserEntry → Type 0) → Type 0
After g = AfterBy (opening_at g.state) Saw

-- of what turns left
abbrev pub OutUpon : {D : Type 0} → DiskOf D → TurnstileView (SharedUsers D) → Token → (View → List UserMark → Type 0) → Type 0
OutUpon g t p P = (ms : List UserMark) × (p.seen ≡ codes ms) × P (view g.state t p) ms

abbrev pub OutAfter : {D : Type 0} → DiskOf D → TurnstileView (SharedUsers D) → Token → (View → List UserMark → Type 0) → Type 0
OutAfter g t p P = (ms : List UserMark) → p.seen ≡ codes ms → P (view g.state t p) ms

module _ {D : Type 0} (told : Type 0) (state : D → DiskState) where
  -- after the history stand others' entries, and then the place took the keeper out
  pub record IsTaken (o : Opening) (own : ℕ) (h : List UserEntry) (op : UserOp) (then_seen : List Gv) (k : UserState D) (c : UserChange) : Type 0 where
    pub marks : List UserMark
    pub codes_are : then_seen ≡ codes marks
    pub later : List UserEntry
    pub others : Each (λ e. e.place ≢ own) later
    pub entries_are : entries_of marks ≡ h ++ later
    pub keeper : HasKeeper told state o own op marks k c

  -- a turn in which a change was to begin
  abbrev pub TakenIs : Opening → ℕ → List UserEntry → UserOp → List Gv → Result (Planned D) Stopped → Type 0
  TakenIs o own h op then_seen (Ok (planned.Taken k c)) = IsTaken o own h op then_seen k.value c
  TakenIs o own h op then_seen (Ok (planned.Denied q)) = Turned o own h (entry own op (refused q)) then_seen
  TakenIs o own h op then_seen (Ok planned.Waits) = TurnedBack o own h then_seen
  TakenIs o own h op then_seen (Err e) = TurnedBack o own h then_seen

-- a change that was tried: none, while another place had the keeper
abbrev pub TriedIs : Opening → ℕ → List UserEntry → UserOp → List Gv → Result (Option UserTook) Stopped → Type 0
TriedIs o own h op then_seen (Ok (Some took)) = TookIs o own h op then_seen (Ok took)
TriedIs o own h op then_seen (Ok None) = TurnedBack o own h then_seen
TriedIs o own h op then_seen (Err e) = TurnedBack o own h then_seen

-- what a turn comes to, by what the pass has seen then
abbrev pub Takes : {D : Type 0} → DiskOf D → UserOp → (next : Token) → Result (Planned D) Stopped → View → List UserEntry → Type 0
Takes g op next planned v h = TakenIs g.told g.state v.opening v.own h op next.seen planned

abbrev pub Tries : UserOp → (next : Token) → Result (Option UserTook) Stopped → View → List UserEntry → Type 0
Tries op next took v h = TriedIs v.opening v.own h op next.seen took

abbrev pub Took : UserOp → (next : Token) → Result UserTook Stopped → View → List UserEntry → Type 0
Took op next took v h = TookIs v.opening v.own h op next.seen took

-- the other turns
abbrev pub LogsIn : Asking → (next : Token) → Option Class → View → List UserEntry → Type 0
LogsIn a next found v h = LoggedIn v.opening v.own h a next.seen found

abbrev pub PutsOut : List ℕ → (next : Token) → View → List UserEntry → Type 0
PutsOut uid next v h = Cancels v.opening v.own h uid next.seen

abbrev pub Looks : (next : Token) → Bool → View → List UserEntry → Type 0
Looks next cancelled v h = LookedAt v.opening v.own h next.seen cancelled

abbrev pub Reads : Option (List ℕ) → (next : Token) → Result (ArrayVec UserRow) Cause → View → List UserEntry → Type 0
Reads which next given v h = MatchResult given (λ rows. RowsAre v.opening v.own h which next.seen rows.items) (RowsDenied v.opening v.own h which next.seen)

abbrev pub IsKept : {D : Type 0} → DiskOf D → UserOp → UserOutcome → UserState D → View → List UserMark → Type 0
IsKept g op out k v ms = HasKept g.told g.state v.opening v.own op ms k out

abbrev pub Brings : UserOp → UserOutcome → (next : Token) → View → List UserMark → Type 0
Brings op out next v ms = Turned v.opening v.own (entries_of ms) (entry v.own op out) next.seen

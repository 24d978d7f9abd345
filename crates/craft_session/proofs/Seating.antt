-- A seat after one of its turns.
use Rattle.std.proofs.Common.{◌≡◌, ◌≢◌, ℕ, List, [], ◌∷◌, ◌++◌, Option, Result, Ok, Err, refl, sym, ◌∙◌, subst, inl, inr}
use Rattle.std.specs.Prelude.{MatchResult}
use base.Stored.{Gv}
use Rattle.turnstile.specs.Passing.{TurnstileView, Token}
use Rattle.dxc_disk.specs.Disks.{DiskState}
use Rattle.dxc_outside.specs.declared.stopped.Stopped.{Stopped}
use Rattle.dxc_model.specs.declared.cause.Cause.{Cause}
use Rattle.dxc_model.specs.declared.cause.Cause.TheVariants.{DiskFault, NoMiddle, SwitchLimit, JournalAstray}
use Rattle.dxc_model.specs.declared.op.Op.{Op}
use Rattle.dxc_model.specs.declared.op.Op.TheVariants.{Restart}
use Rattle.dxc_model.specs.declared.entry.Outcome.TheVariants as outcome
use Rattle.dxc_model.specs.declared.entry.Entry.{Entry}
use Rattle.fabric_words.specs.Seats.{FabricId}
use Rattle.xc_core.specs.declared.state.State.{State}
use Rattle.xc_core.specs.States.{Opening, opening_of}
use Rattle.xc_core.specs.Seeing.{Saw, Turned, entry, refused}
use Rattle.xc_core.specs.Turns.{HasPass, SawNoneAstray}
use Rattle.xc_core.proofs.Turning.{rests_now}
use Rattle.craft_session.specs.declared.change.Changed.{Changed}
use Rattle.craft_session.specs.declared.change.Changed.TheVariants.{Done, Denied}
use Rattle.craft_session.specs.Changing.{ChangedIs, MendedTo, Passed, WarmRestartIs}
use Rattle.craft_session.specs.Seats.{IsSeated, IsUserSeated}
use Rattle.user_admin.specs.declared.op.UserEntry.{UserEntry}
use Rattle.tl1_users.specs.declared.op.UserOp.{UserOp}
use Rattle.tl1_users.specs.declared.op.UserOp.TheVariants as user_op
use Rattle.user_admin.specs.declared.op.UserOutcome.TheVariants as user_outcome
use Rattle.user_admin.specs.declared.op.UserRow.{UserRow}
use Rattle.user_admin.specs.declared.shared.SharedUsers.{SharedUsers}
use Rattle.user_admin.specs.declared.turns.UserTook.{UserTook}
use Rattle.user_admin.specs.declared.turns.UserTook.TheVariants as took
use Rattle.user_admin.specs.Histories.{Opening as UsersOpening}
use Rattle.user_admin.specs.Resting.{IsAtRest}
use Rattle.user_admin.specs.Shared.{opening_at as users_opening}
use Rattle.user_admin.specs.States.{entry as user_entry, refused as user_refused}
use Rattle.user_admin.specs.Turns.{HasPass as HasUsersPass, RowsAre, RowsDenied, Saw as SawUsers, TookIs, Turned as UsersTurned}

-- what was seen ends with an entry of the place's own, by which it didn't take the Provisioner
pub record Ended (o : Opening) (own : ℕ) (seen : List Gv) : Type 0 where
  pub before : List Entry
  pub last : Entry
  pub mine : last.place ≡ own
  pub settled : last.outcome ≢ outcome.Taken
  pub saw : Saw o seen (before ++ last ∷ [])

pub turned_ended : (o : Opening) (own : ℕ) (h : List Entry) (e : Entry) (seen : List Gv) → e.place ≡ own → e.outcome ≢ outcome.Taken → Turned o own h e seen → Ended o own seen
turned_ended o own h e seen mine settled t = record { before = h ++ t.later; last = e; mine = mine; settled = settled; saw = t.saw }

refused_settled : (q : Cause) → refused q ≢ outcome.Taken
refused_settled NoMiddle = λ is. cc
refused_settled SwitchLimit = λ is. cc
refused_settled DiskFault = λ is. cc
refused_settled JournalAstray = λ is. cc
refused_settled _ = λ is. cc

mended_ended : (o : Opening) (own : ℕ) (h : List Entry) (e : Entry) (seen : List Gv) → e.place ≡ own → e.outcome ≢ outcome.Taken → MendedTo o own h e seen → Ended o own seen
mended_ended o own h e seen mine settled m = record { before = h ++ m.front; last = e; mine = mine; settled = settled; saw = m.saw }

pub changed_ended : (o : Opening) (own : ℕ) (h : List Entry) (op : Op) (seen : List Gv) (how : Result Changed Stopped) → ChangedIs o own h op seen how → Ended o own seen
changed_ended o own h op seen (Ok Done) x = mended_ended o own h (entry own op (outcome.Done x.0)) seen refl (λ is. cc) x.1
changed_ended o own h op seen (Ok (Denied q)) x = mended_ended o own h (entry own op (refused q)) seen refl (refused_settled q) x.0
changed_ended o own h op seen (Err e) x = elim x [
  | inl cut ↦ mended_ended o own h (entry own op outcome.Cut) seen refl (λ is. cc) cut.0
  | inr restart ↦ mended_ended o own h (entry own Restart outcome.Cut) seen refl (λ is. cc) restart.0
]

passed_ended : (o : Opening) (own : ℕ) (h : List Entry) (e : Entry) (seen : List Gv) → e.place ≡ own → e.outcome ≢ outcome.Taken → Passed o own h e seen → Ended o own seen
passed_ended o own h e seen mine settled p = record { before = h ++ p.passed; last = e; mine = mine; settled = settled; saw = p.saw }

pub restarted_ended : (o : Opening) (own : ℕ) (h : List Entry) (seen : List Gv) (how : Result Changed Stopped) → WarmRestartIs o own h seen how → Ended o own seen
restarted_ended o own h seen (Ok Done) x = passed_ended o own h (entry own Restart (outcome.Restarted x.0)) seen refl (λ is. cc) x.1
restarted_ended o own h seen (Ok (Denied q)) x = passed_ended o own h (entry own Restart (outcome.Failed q)) seen refl (λ is. cc) x
restarted_ended o own h seen (Err e) x = passed_ended o own h (entry own Restart outcome.Cut) seen refl (λ is. cc) x

module _ {D : Type 0} (told : Type 0) (state : D → DiskState) where
  -- what was seen, at the turnstile as a call is lent it
  pub saw_there : (p : Token) (t u : TurnstileView (State D)) (h : List Entry) → u ≡ t → Saw (opening_of state t.first) p.seen h → Saw (opening_of state u.first) p.seen h
  saw_there p t u h is saw = subst (λ (x : TurnstileView (State D)). Saw (opening_of state x.first) p.seen h) (sym is) saw

  pub seated_on : (p q : Token) (t u : TurnstileView (State D)) (i : FabricId) → u ≡ t → IsSeated told state p t i → HasPass u q → q.number ≡ p.number → Ended (opening_of state u.first) p.number q.seen → SawNoneAstray told q.seen → IsSeated told state q t i
  seated_on p q t u i is seat pass number end never =
      let there = subst (λ (x : TurnstileView (State D)). IsSeated told state p x i) (sym is) seat in
      subst (λ (x : TurnstileView (State D)). IsSeated told state q x i) is (pass, there.1, (end.before ++ end.last ∷ [], end.saw, rests_now q.number end.before end.last (end.mine ∙ sym number) end.settled), never)

-- a seat at the users after one of its turns
module _ {U : Type 0} (state : U → DiskState) where
  pub users_saw_there : (p : Token) (t u : TurnstileView (SharedUsers U)) (h : List UserEntry) → u ≡ t → SawUsers (users_opening state t.first) p.seen h → SawUsers (users_opening state u.first) p.seen h
  users_saw_there p t u h is saw = subst (λ (x : TurnstileView (SharedUsers U)). SawUsers (users_opening state x.first) p.seen h) (sym is) saw

  -- what was seen then is a history
  pub user_seated_on : (q : Token) (t u : TurnstileView (SharedUsers U)) → u ≡ t → HasUsersPass u q → ((h : List UserEntry) × SawUsers (users_opening state u.first) q.seen h) → IsAtRest q → IsUserSeated state q t
  user_seated_on q t u is pass saw rests = subst (λ (x : TurnstileView (SharedUsers U)). IsUserSeated state q x) is (pass, saw, rests)

pub turn_seen : (o : UsersOpening) (own : ℕ) (h : List UserEntry) (e : UserEntry) (seen : List Gv) → UsersTurned o own h e seen → (g : List UserEntry) × SawUsers o seen g
turn_seen o own h e seen t = ((h ++ t.later) ++ e ∷ [], t.saw)

pub took_seen : (o : UsersOpening) (own : ℕ) (h : List UserEntry) (op : UserOp) (seen : List Gv) (how : Result UserTook Stopped) → TookIs o own h op seen how → (g : List UserEntry) × SawUsers o seen g
took_seen o own h op seen (Ok took.Done) x = turn_seen o own h (user_entry own op (user_outcome.Done x.0)) seen x.1
took_seen o own h op seen (Ok (took.Denied q)) x = turn_seen o own h (user_entry own op (user_refused q)) seen x
took_seen o own h op seen (Err e) x = (h ++ x.later, x.saw)

pub rows_seen : {X : Type 0} (o : UsersOpening) (own : ℕ) (h : List UserEntry) (which : Option (List ℕ)) (seen : List Gv) (items : X → List UserRow) (given : Result X Cause)
    → MatchResult given (λ x. RowsAre o own h which seen (items x)) (RowsDenied o own h which seen) → (g : List UserEntry) × SawUsers o seen g
rows_seen o own h which seen items (Ok x) r = turn_seen o own h (user_entry own (user_op.Rows which) user_outcome.Answered) seen r.0
rows_seen o own h which seen items (Err q) r = turn_seen o own h (user_entry own (user_op.Rows which) (user_refused q)) seen r

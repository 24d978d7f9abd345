-- A place that rests takes the Provisioner out and brings it home: so it is after each of its sessions, and after all of them the Provisioner is home.
use Rattle.std.specs.Prelude.{if◌then◌else◌}
use Rattle.std.proofs.Common.{◌≡◌, ◌≢◌, ◌<◌, ℕ, Bool, true, false, List, [], ◌∷◌, ◌++◌, Option, Some, None, refl, sym, ◌∙◌, ap, subst, append-nil, append_assoc, inl, inr}
use Rattle.std.proofs.lemmas.Bool.Decides.{eqb_tells}
use Rattle.std.proofs.lemmas.List.{map-append}
use base.Stored.{Gv}
use Rattle.turnstile.specs.Laws.{HasSeen}
use Rattle.turnstile.specs.Turning.{Each}
use Rattle.turnstile.proofs.Lists.{map_once}
use Rattle.dxc_outside.specs.declared.gate.GatePlace.{GatePlace}
use Rattle.dxc_model.specs.declared.cause.Cause.{Cause}
use Rattle.dxc_model.specs.declared.cause.Cause.TheVariants.{NoMiddle, SwitchLimit, DiskFault, JournalAstray}
use Rattle.dxc_model.specs.declared.entry.Entry.{Entry}
use Rattle.dxc_model.specs.declared.entry.Outcome.{Outcome}
use Rattle.dxc_model.specs.declared.entry.Outcome.TheVariants.{Done, Denied, Failed, Answered, Restarted, Cut, Taken}
use Rattle.dxc_model.specs.declared.op.Op.{Op}
use Rattle.dxc_model.specs.declared.op.Op.TheVariants.{Restart}
use Rattle.dxc_model.specs.Histories.{holder, holder_after, taker}
use Rattle.user_admin.specs.declared.op.UserEntry.{UserEntry}
use Rattle.xc_core.specs.Seeing.{Rests, codes, entry, entry_coded, place_of, refused}
use Rattle.xc_core.specs.States.{Opening, began}
use Rattle.xc_core.proofs.Turning.{rests_behind, rests_now}
use Rattle.craft_session.specs.Gated.{AreGated, IsGated, answers, are_gated_on, at_state, at_users, by_others, changes, denies, fails_before, fails_behind, gated_on, restarts, stops_between, stops_first, stops_last, takes}
use Rattle.craft_session.specs.Seats.{IsSameSeat, SeatAt}
use Rattle.craft_server.specs.Callers.{InTurn, none_yet, one_more}

refused_settled : (q : Cause) → refused q ≢ Taken
refused_settled NoMiddle = λ is. cc
refused_settled SwitchLimit = λ is. cc
refused_settled DiskFault = λ is. cc
refused_settled JournalAstray = λ is. cc
refused_settled _ = λ is. cc

-- an entry of the place by which it doesn't take the Provisioner leaves it without
one_rests : (place : ℕ) (h : List Entry) (op : Op) (out : Outcome) → out ≢ Taken → Rests place (h ++ entry place op out ∷ [])
one_rests place h op out not = rests_now place h (entry place op out) refl not

gated_rests : (o : Opening) (place : ℕ) (h : List Entry) (before : Bool) (es : List Entry) (ps : List GatePlace) (behind : Bool) → IsGated o place h before es ps behind → (before ≡ false → Rests place h) → behind ≡ false → Rests place (h ++ es)
gated_rests o place _ _ _ _ _ (by_others h out es others) rests home = rests_behind place h es others (rests home)
gated_rests o place _ _ _ _ _ (answers h op) rests home = one_rests place h op Answered (λ is. cc)
gated_rests o place _ _ _ _ _ (denies h op q) rests home = one_rests place h op (refused q) (refused_settled q)
gated_rests o place _ _ _ _ _ (takes h op) rests home = absurd (let out : true ≡ false = home in cc)
gated_rests o place _ _ _ _ _ (fails_before h op out) rests home = one_rests place h op (Failed DiskFault) (λ is. cc)
gated_rests o place _ _ _ _ _ (fails_behind h op q) rests home = one_rests place h op (Failed q) (λ is. cc)
gated_rests o place _ _ _ _ _ (changes h op c writes work) rests home = one_rests place h op (Done c) (λ is. cc)
gated_rests o place _ _ _ _ _ (restarts h c writes out) rests home = one_rests place h Restart (Restarted c) (λ is. cc)
gated_rests o place _ _ _ _ _ (stops_first h op) rests home = one_rests place h op Cut (λ is. cc)
gated_rests o place _ _ _ _ _ (stops_between h op made writes less work) rests home = one_rests place h op Cut (λ is. cc)
gated_rests o place _ _ _ _ _ (stops_last h op writes work) rests home = one_rests place h op Cut (λ is. cc)
gated_rests o place _ _ _ _ _ (gated_on h before between behind es fs ps qs x y) rests home = subst (λ (g : List Entry). Rests place g) (append_assoc h es fs)
    (gated_rests o place (h ++ es) between fs qs behind y (gated_rests o place h before es ps between x rests) home)

-- turn by turn, at the state and at the users
all_rests : (o : Opening) (place users_place : ℕ) (h es : List Entry) (us : List UserEntry) (ps : List GatePlace) → AreGated o place users_place h es us ps → Rests place h → Rests place (h ++ es)
all_rests o place users_place _ _ _ _ (at_state h es ps x) rests = gated_rests o place h false es ps false x (λ home. rests) refl
all_rests o place users_place _ _ _ _ (at_users h us ps x) rests = subst (λ (g : List Entry). Rests place g) (sym (append-nil h)) rests
all_rests o place users_place _ _ _ _ (are_gated_on h es fs us vs ps qs x y) rests = subst (λ (g : List Entry). Rests place g) (append_assoc h es fs)
    (all_rests o place users_place (h ++ es) fs vs qs y (all_rests o place users_place h es us ps x rests))

same_codes : (h g : List Entry) → codes h ≡ codes g → h ≡ g
same_codes h g e = map_once entry_coded.code entry_coded.inj h g e

-- a place rests by what it has seen
pub record HasRested (s : SeatAt) : Type 0 where
  pub history : List Entry
  pub saw : codes (began s.opening.due) ++ s.seen ≡ codes history
  pub rests : Rests s.place history

-- a session of the place: after what it had seen it has seen these entries, before which its gate was asked for its own
pub record GoesOn (old new : SeatAt) : Type 0 where
  pub same : IsSameSeat old new
  pub before : List Entry
  pub saw : codes (began old.opening.due) ++ old.seen ≡ codes before
  pub entries : List Entry
  pub then_saw : codes (began old.opening.due) ++ new.seen ≡ codes (before ++ entries)
  pub users_place : ℕ
  pub users_entries : List UserEntry
  pub places : List GatePlace
  pub gated : AreGated old.opening old.place users_place before entries users_entries places

rested_on : (old new : SeatAt) → GoesOn old new → HasRested old → HasRested new
rested_on old new x r =
    let here : r.history ≡ x.before = same_codes r.history x.before (sym r.saw ∙ x.saw) in
    let then_rests : Rests old.place (x.before ++ x.entries) = all_rests old.opening old.place x.users_place x.before x.entries x.users_entries x.places x.gated (subst (λ (g : List Entry). Rests old.place g) here r.rests) in
    record {
      history = x.before ++ x.entries;
      saw = subst (λ (o : Opening). codes (began o.due) ++ new.seen ≡ codes (x.before ++ x.entries)) (sym x.same.0) x.then_saw;
      rests = subst (λ (n : ℕ). Rests n (x.before ++ x.entries)) (sym x.same.1) then_rests;
    }

-- so do several, one after the other
pub rested_all : {S K : Type 0} (Step : S → S → K → Type 0) (seat : S → SeatAt) → ((t u : S) (k : K) → Step t u k → GoesOn (seat t) (seat u)) → (s u : S) (ks : List K) → InTurn Step s ks u → HasRested (seat s) → HasRested (seat u)
rested_all Step seat goes _ _ _ (none_yet s) r = r
rested_all Step seat goes _ _ _ (one_more s t u ks k turns x) r = rested_on (seat t) (seat u) (goes t u k x) (rested_all Step seat goes s t ks turns r)

-- who has seen nothing rests
pub fresh_rests : (s : SeatAt) → s.seen ≡ [] → HasRested s
fresh_rests s none = record {
  history = began s.opening.due;
  saw = ap (λ (g : List Gv). codes (began s.opening.due) ++ g) none ∙ append-nil (codes (began s.opening.due));
  rests = λ t is. absurd (let nobody : None ≡ Some t = sym (began_home s.opening.due) ∙ is in cc);
}
  where
    began_home : (due : Bool) → holder None (began due) ≡ None
    began_home true = refl
    began_home false = refl

-- what follows is by others, so it rests by the whole history
pub rests_along : (o : Opening) (own : ℕ) (s : SeatAt) → s.opening ≡ o → s.place ≡ own → HasRested s → (history : List Entry) → HasSeen entry_coded.code place_of history own s.seen → Rests own (began o.due ++ history)
rests_along o own s at place r history seen =
    let past = began o.due in
    let saw : codes past ++ s.seen ≡ codes r.history = subst (λ (y : Opening). codes (began y.due) ++ s.seen ≡ codes r.history) at r.saw in
    let here : r.history ≡ past ++ seen.begun = same_codes r.history (past ++ seen.begun) (sym saw ∙ ap (λ (g : List Gv). codes past ++ g) seen.codes ∙ sym (map-append entry_coded.code past seen.begun)) in
    let rests : Rests own (past ++ seen.begun) = subst (λ (y : ℕ × List Entry). Rests y.0 y.1) (λ i. (place i, here i)) r.rests in
    subst (λ (g : List Entry). Rests own g) (append_assoc past seen.begun seen.later ∙ ap (λ (g : List Entry). past ++ g) seen.whole) (rests_behind own (past ++ seen.begun) seen.later seen.others rests)

module _ (P : Entry → Type 0) where
  taken_each : (e : Entry) (out : Outcome) → P e → (t : Entry) → taker out e ≡ Some t → P t
  taken_each e (Done c) here t is = absurd cc
  taken_each e (Denied q) here t is = absurd cc
  taken_each e (Failed q) here t is = absurd cc
  taken_each e Answered here t is = absurd cc
  taken_each e (Restarted c) here t is = absurd cc
  taken_each e Cut here t is = absurd cc
  taken_each e Taken here t is = let same : e ≡ t = cc in subst P same here

  after_each : (o : Option Entry) (e : Entry) → ((t : Entry) → o ≡ Some t → P t) → P e → (t : Entry) → holder_after o e ≡ Some t → P t
  after_each None e first here t is = taken_each e e.outcome here t is
  after_each (Some x) e first here t is = elim (eqb_tells e.place x.place) [
    | inl same ↦ absurd (let none : None ≡ Some t = sym (ap (λ (b : Bool). if b then None else Some x) same.0) ∙ is in cc)
    | inr differ ↦ first t (sym (ap (λ (b : Bool). if b then None else Some x) differ.0) ∙ is)
  ]

  -- who has the Provisioner is of one of the entries
  holder_each : (o : Option Entry) (h : List Entry) → ((t : Entry) → o ≡ Some t → P t) → Each P h → (t : Entry) → holder o h ≡ Some t → P t
  holder_each o [] first all t is = first t is
  holder_each o (e ∷ es) first all t is = holder_each (holder_after o e) es (after_each o e first all.0) all.1 t is

-- where each place rests nobody has it
pub nobody_holds : (n : ℕ) (h : List Entry) → Each (λ e. e.place < n) h → ((k : ℕ) → k < n → Rests k h) → holder None h ≡ None
nobody_holds n h few rests = held (holder None h) refl
  where
    held : (x : Option Entry) → holder None h ≡ x → x ≡ None
    held None is = refl
    held (Some t) is = absurd (rests t.place (holder_each (λ e. e.place < n) None h (λ y none. absurd (let no : None ≡ Some y = none in cc)) few t is) t is refl)

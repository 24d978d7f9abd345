-- How often the gate was asked after the writes of a work.
use Rattle.std.specs.Prelude.{replicate, if◌then◌else◌}
use Rattle.std.proofs.Common.{◌≡◌, ◌≢◌, ◌≤◌, ℕ, ◌+◌, Bool, false, arith, List, [], ◌∷◌, ◌++◌, suc, zero, inl, inr, refl, sym, ◌∙◌, ap}
use Rattle.std.proofs.lemmas.Bool.Decides.{eqb_tells}
use Rattle.turnstile.specs.Turning.{Each}
use Rattle.dxc_outside.specs.declared.gate.GatePlace.{GatePlace}
use Rattle.dxc_outside.specs.declared.gate.GatePlace.TheVariants.{Journal, Register, Finish}
use Rattle.dxc_model.specs.declared.cause.Cause.{Cause}
use Rattle.dxc_model.specs.declared.cause.Cause.TheVariants.{DiskFault, NoMiddle, SwitchLimit, JournalAstray}
use Rattle.dxc_model.specs.declared.entry.Entry.{Entry}
use Rattle.dxc_model.specs.declared.entry.Outcome.{Outcome}
use Rattle.dxc_model.specs.declared.entry.Outcome.TheVariants.{Done, Failed, Answered, Restarted, Cut, Taken}
use Rattle.dxc_model.specs.declared.op.Op.{Op}
use Rattle.dxc_model.specs.declared.op.Op.TheVariants.{Restart}
use Rattle.user_admin.specs.declared.op.UserEntry.{UserEntry}
use Rattle.user_admin.specs.Openings.{asked_before as users_asked_before}
use Rattle.xc_core.specs.Seeing.{entry, refused}
use Rattle.xc_core.specs.States.{Opening}
use Rattle.craft_session.specs.Askings.{asked_for}
use Rattle.craft_session.specs.Gated.{AreGated, IsGated, IsUserGated, answers, are_gated_on, at_state, at_users, by_others, changes, denies, fails_before, fails_behind, gated_on, restarts, stops_between, stops_first, stops_last, takes, users_changed, users_denied, users_kept, users_read, users_stopped}
use Rattle.session_laws.specs.Effects.{AsksForEffects, count_own, cut_in, effect_in, ends_in}

plus_zero : (n : ℕ) → n + 0 ≡ n
plus_zero n = omega arith

zero_plus : (n : ℕ) → 0 + n ≡ n
zero_plus n = omega arith

module _ (f : Outcome → ℕ) (place : ℕ) where
  count_one : (op : Op) (o : Outcome) → count_own f place (entry place op o ∷ []) ≡ f o
  unfolding count_own
  count_one op o = elim (eqb_tells place place) [
    | inl is ↦ ap (λ (b : Bool). (if b then f o else 0) + 0) is.0 ∙ plus_zero (f o)
    | inr other ↦ absurd (other.1 refl)
  ]

  count_others : (es : List Entry) → Each (λ e. e.place ≢ place) es → count_own f place es ≡ 0
  unfolding count_own
  count_others [] a = refl
  count_others (e ∷ es) a = elim (eqb_tells e.place place) [
    | inl is ↦ absurd (a.0 is.1)
    | inr other ↦ ap (λ (b : Bool). (if b then f e.outcome else 0) + count_own f place es) other.0 ∙ zero_plus (count_own f place es) ∙ count_others es a.1
  ]

  count_join : (es fs : List Entry) → count_own f place (es ++ fs) ≡ count_own f place es + count_own f place fs
  unfolding count_own
  count_join [] fs = sym (zero_plus (count_own f place fs))
  count_join (e ∷ es) fs = let more = count_join es fs in omega (arith, more)

ends_none : ends_in [] ≡ 0
unfolding ends_in
ends_none = refl

ends_join : (ps qs : List GatePlace) → ends_in (ps ++ qs) ≡ ends_in ps + ends_in qs
unfolding ends_in
ends_join [] qs = sym (zero_plus (ends_in qs))
ends_join (Finish ∷ ps) qs = let more = ends_join ps qs in omega (arith, more)
ends_join (_ ∷ ps) qs = ends_join ps qs

ends_writes : (n : ℕ) → ends_in (replicate n Register) ≡ 0
unfolding ends_in
ends_writes zero = refl
ends_writes (suc n) = ends_writes n

ends_work : (writes : ℕ) → ends_in (asked_for writes) ≡ 1
unfolding ends_in
ends_work writes = ends_join (replicate writes Register) (Finish ∷ []) ∙ ap (λ (n : ℕ). n + 1) (ends_writes writes)

ends_journal : ends_in (Journal ∷ []) ≡ 0
unfolding ends_in
ends_journal = refl

ends_behind : (writes : ℕ) → ends_in (Journal ∷ asked_for writes) ≡ 1
unfolding ends_in
ends_behind writes = ends_work writes

ends_stopped : (writes : ℕ) → ends_in (Journal ∷ replicate writes Register) ≡ 0
unfolding ends_in
ends_stopped writes = ends_writes writes

users_ends_before : (q : Cause) → ends_in (users_asked_before q) ≡ 0
unfolding ends_in
users_ends_before DiskFault = refl
users_ends_before _ = refl

refused_effect : (q : Cause) → effect_in (refused q) ≡ 0
refused_effect NoMiddle = refl
refused_effect SwitchLimit = refl
refused_effect DiskFault = refl
refused_effect JournalAstray = refl
refused_effect _ = refl

by_counts : (place : ℕ) (es : List Entry) (ps : List GatePlace) (effects cuts ends : ℕ) → count_own effect_in place es ≡ effects → count_own cut_in place es ≡ cuts → ends_in ps ≡ ends → effects ≤ ends → ends ≤ effects + cuts → AsksForEffects place es ps
by_counts place es ps effects cuts ends e c n least most = (omega (arith, e, c, n, least, most), omega (arith, e, c, n, least, most))

one_entry : (place : ℕ) (op : Op) (o : Outcome) (ps : List GatePlace) (ends : ℕ) → ends_in ps ≡ ends → effect_in o ≤ ends → ends ≤ effect_in o + cut_in o → AsksForEffects place (entry place op o ∷ []) ps
one_entry place op o ps ends n least most = by_counts place (entry place op o ∷ []) ps (effect_in o) (cut_in o) ends (count_one effect_in place op o) (count_one cut_in place op o) n least most

counts_join : (place : ℕ) (es fs : List Entry) (ps qs : List GatePlace) → AsksForEffects place es ps → AsksForEffects place fs qs → AsksForEffects place (es ++ fs) (ps ++ qs)
counts_join place es fs ps qs x y =
    let e = count_join effect_in place es fs in
    let c = count_join cut_in place es fs in
    let n = ends_join ps qs in
    (omega (arith, e, c, n, x.0, y.0), omega (arith, e, c, n, x.1, y.1))

counts_none : (place : ℕ) (es : List Entry) → Each (λ e. e.place ≢ place) es → AsksForEffects place es []
counts_none place es others = by_counts place es [] 0 0 0 (count_others effect_in place es others) (count_others cut_in place es others) ends_none (omega arith) (omega arith)

no_entry : (place : ℕ) (ps : List GatePlace) → ends_in ps ≡ 0 → AsksForEffects place [] ps
no_entry place ps none = by_counts place [] ps 0 0 0 (count_others effect_in place [] tt) (count_others cut_in place [] tt) none (omega arith) (omega arith)

gated_counts : (o : Opening) (place : ℕ) (h : List Entry) (before behind : Bool) (es : List Entry) (ps : List GatePlace) → IsGated o place h before es ps behind → AsksForEffects place es ps
gated_counts o place _ _ _ _ _ (by_others h out es others) = counts_none place es others
gated_counts o place _ _ _ _ _ (answers h op) = one_entry place op Answered [] 0 ends_none (omega arith) (omega arith)
gated_counts o place _ _ _ _ _ (denies h op q) = let none = refused_effect q in one_entry place op (refused q) [] 0 ends_none (omega (arith, none)) (omega arith)
gated_counts o place _ _ _ _ _ (takes h op) = one_entry place op Taken [] 0 ends_none (omega arith) (omega arith)
gated_counts o place _ _ _ _ _ (fails_before h op out) = one_entry place op (Failed DiskFault) [] 0 ends_none (omega arith) (omega arith)
gated_counts o place _ _ _ _ _ (fails_behind h op q) = one_entry place op (Failed q) (Journal ∷ []) 0 ends_journal (omega arith) (omega arith)
gated_counts o place _ _ _ _ _ (changes h op c writes work) = one_entry place op (Done c) (Journal ∷ asked_for writes) 1 (ends_behind writes) (omega arith) (omega arith)
gated_counts o place _ _ _ _ _ (restarts h c writes out) = one_entry place Restart (Restarted c) (Journal ∷ asked_for writes) 1 (ends_behind writes) (omega arith) (omega arith)
gated_counts o place _ _ _ _ _ (stops_first h op) = one_entry place op Cut (Journal ∷ []) 0 ends_journal (omega arith) (omega arith)
gated_counts o place _ _ _ _ _ (stops_between h op made writes less work) = one_entry place op Cut (Journal ∷ replicate (made + 1) Register) 0 (ends_stopped (made + 1)) (omega arith) (omega arith)
gated_counts o place _ _ _ _ _ (stops_last h op writes work) = one_entry place op Cut (Journal ∷ asked_for writes) 1 (ends_behind writes) (omega arith) (omega arith)
gated_counts o place _ _ _ _ _ (gated_on h before between behind es fs ps qs x y) = counts_join place es fs ps qs (gated_counts o place h before between es ps x) (gated_counts o place (h ++ es) between behind fs qs y)

users_counts : (place users_place : ℕ) (us : List UserEntry) (ps : List GatePlace) → IsUserGated users_place us ps → AsksForEffects place [] ps
users_counts place users_place _ _ (users_kept es others) = counts_none place [] tt
users_counts place users_place _ _ (users_read op o reads es others) = counts_none place [] tt
users_counts place users_place _ _ (users_changed op c es others) = no_entry place (Journal ∷ []) ends_journal
users_counts place users_place _ _ (users_denied op q es others) = no_entry place (users_asked_before q) (users_ends_before q)
users_counts place users_place _ _ (users_stopped es others) = no_entry place (Journal ∷ []) ends_journal

pub effects_asked : (o : Opening) (place users_place : ℕ) (h es : List Entry) (us : List UserEntry) (ps : List GatePlace) → AreGated o place users_place h es us ps → AsksForEffects place es ps
effects_asked o place users_place _ _ _ _ (at_state h es ps x) = gated_counts o place h false false es ps x
effects_asked o place users_place _ _ _ _ (at_users h us ps x) = users_counts place users_place us ps x
effects_asked o place users_place _ _ _ _ (are_gated_on h es fs us vs ps qs x y) = counts_join place es fs ps qs (effects_asked o place users_place h es us ps x) (effects_asked o place users_place (h ++ es) fs vs qs y)

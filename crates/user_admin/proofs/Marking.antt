-- What turns left with the users' turnstile: the entries among it, and who has the keeper.
use Rattle.std.proofs.Common.{◌≡◌, ◌≢◌, ℕ, Option, Some, None, Result, Ok, Err, List, [], ◌∷◌, ◌++◌, append-nil, append_assoc, refl, sym, ◌∙◌, ap}
use Rattle.turnstile.specs.Turning.{Each}
use Rattle.dxc_outside.specs.declared.stopped.Stopped.{Stopped}
use Rattle.user_admin.specs.declared.op.UserEntry.{UserEntry}
use Rattle.user_admin.specs.declared.op.UserMark.{UserMark}
use Rattle.user_admin.specs.declared.op.UserMark.TheVariants.{Entered, Took}
use Rattle.tl1_users.specs.declared.op.UserOp.{UserOp}
use Rattle.user_admin.specs.declared.op.UserOutcome.{UserOutcome}
use Rattle.user_admin.specs.declared.op.UserOutcome.TheVariants.{Done, Denied, Failed, Answered}
use Rattle.user_admin.specs.declared.shared.Planned.{Planned}
use Rattle.user_admin.specs.declared.shared.Planned.TheVariants as planned
use Rattle.user_admin.specs.Histories.{change_in, failure_in}
use Rattle.user_admin.specs.States.{cost}
use Rattle.user_admin.specs.Marks.{ArePassing, KeepsTurns, MayEnter, PassesBy, entries_of, entry_in, holder, holder_after, holder_by, mark_for, place_of}

pub entries_append : (ms ns : List UserMark) → entries_of (ms ++ ns) ≡ entries_of ms ++ entries_of ns
entries_append [] ns = refl
entries_append (m ∷ ms) ns = ap (λ (l : List UserEntry). entry_in m ++ l) (entries_append ms ns) ∙ sym (append_assoc (entry_in m) (entries_of ms) (entries_of ns))

pub entries_one : (ms : List UserMark) (m : UserMark) → entries_of (ms ++ m ∷ []) ≡ entries_of ms ++ entry_in m
entries_one ms m = entries_append ms (m ∷ []) ∙ ap (λ (l : List UserEntry). entries_of ms ++ l) (append-nil (entry_in m))

pub entries_took : (ms : List UserMark) (n : ℕ) → entries_of (ms ++ Took n ∷ []) ≡ entries_of ms
entries_took ms n = entries_one ms (Took n) ∙ append-nil (entries_of ms)

-- what holds of the places of all marks holds of the entries'
pub each_entries : (P : ℕ → Type 0) (ms : List UserMark) → Each (λ m. P (place_of m)) ms → Each (λ e. P e.place) (entries_of ms)
each_entries P [] all = tt
each_entries P (Entered n op out ∷ ms) all = (all.0, each_entries P ms all.1)
each_entries P (Took n ∷ ms) all = each_entries P ms all.1

pub others_entries : (own : ℕ) (ms : List UserMark) → Each (λ m. place_of m ≢ own) ms → Each (λ e. e.place ≢ own) (entries_of ms)
others_entries own ms others = each_entries (λ n. n ≢ own) ms others

pub holder_append : (who : Option ℕ) (ms ns : List UserMark) → holder who (ms ++ ns) ≡ holder (holder who ms) ns
holder_append who [] ns = refl
holder_append who (m ∷ ms) ns = holder_append (holder_after who m) ms ns

pub turns_append : (who : Option ℕ) (ms ns : List UserMark) → KeepsTurns who ms → KeepsTurns (holder who ms) ns → KeepsTurns who (ms ++ ns)
turns_append who [] ns first then = then
turns_append who (m ∷ ms) ns first then = (first.0, turns_append (holder_after who m) ms ns first.1 then)

pub turns_behind : (who : Option ℕ) (ms ns : List UserMark) → KeepsTurns who (ms ++ ns) → KeepsTurns (holder who ms) ns
turns_behind who [] ns turns = turns
turns_behind who (m ∷ ms) ns turns = turns_behind (holder_after who m) ms ns turns.1

some_none : (n : ℕ) → Some n ≡ None → ⊥
some_none n e = cc

pub same_number : (a b : ℕ) → Some a ≡ Some b → a ≡ b
same_number a b e = cc

-- while a place has the keeper, others change nothing, and it has it still
pub passing : (own : ℕ) (ms : List UserMark) → Each (λ m. place_of m ≢ own) ms → KeepsTurns (Some own) ms → ArePassing (entries_of ms) × (holder (Some own) ms ≡ Some own)
passing own [] others turns = (tt, refl)
passing own (Took n ∷ ms) others turns = absurd (some_none own turns.0)
passing own (Entered n op (Done c) ∷ ms) others turns = absurd (others.0 (sym (same_number own n turns.0)))
passing own (Entered n op (Denied q) ∷ ms) others turns = let more = passing own ms others.1 turns.1 in ((tt, more.0), more.1)
passing own (Entered n op (Failed q) ∷ ms) others turns = absurd (others.0 (sym (same_number own n turns.0)))
passing own (Entered n op Answered ∷ ms) others turns = let more = passing own ms others.1 turns.1 in ((tt, more.0), more.1)

pub passing_append : (es fs : List UserEntry) → ArePassing es → ArePassing fs → ArePassing (es ++ fs)
passing_append [] fs first then = then
passing_append (e ∷ es) fs first then = (first.0, passing_append es fs first.1 then)

-- what passes by changes nothing, costs nothing, and doesn't bring the keeper home
pub nothing_by : (out : UserOutcome) → PassesBy out → change_in out ≡ []
nothing_by (Done c) p = absurd p
nothing_by (Denied q) p = refl
nothing_by (Failed q) p = absurd p
nothing_by Answered p = refl

pub no_failure_by : (out : UserOutcome) → PassesBy out → failure_in out ≡ 0
no_failure_by (Done c) p = absurd p
no_failure_by (Denied q) p = refl
no_failure_by (Failed q) p = absurd p
no_failure_by Answered p = refl

pub free_by : (out : UserOutcome) → PassesBy out → cost out ≡ 0
free_by (Done c) p = absurd p
free_by (Denied q) p = refl
free_by (Failed q) p = absurd p
free_by Answered p = refl

pub stays_by : (who : Option ℕ) (out : UserOutcome) → PassesBy out → holder_by who out ≡ who
stays_by who (Done c) p = absurd p
stays_by who (Denied q) p = refl
stays_by who (Failed q) p = absurd p
stays_by who Answered p = refl

pub may_pass : (who : Option ℕ) (n : ℕ) (out : UserOutcome) → PassesBy out → MayEnter who n out
may_pass who n (Done c) p = absurd p
may_pass who n (Denied q) p = tt
may_pass who n (Failed q) p = absurd p
may_pass who n Answered p = tt

-- the place that has it may bring it home
pub may_own : (own : ℕ) (out : UserOutcome) → MayEnter (Some own) own out
may_own own (Done c) = refl
may_own own (Denied q) = tt
may_own own (Failed q) = refl
may_own own Answered = tt

pub same_mark : (m n : UserMark) → Some m ≡ Some n → m ≡ n
same_mark m n e = cc

pub no_mark : (m : UserMark) → None ≡ Some m → ⊥
no_mark m e = cc

-- what a turn leaves in which a change was to begin is of its place
pub marked_place : {D : Type 0} (n : ℕ) (op : UserOp) (p : Result (Planned D) Stopped) (m : UserMark) → mark_for n op p ≡ Some m → place_of m ≡ n
marked_place n op (Ok (planned.Taken k c)) m is = ap place_of (sym (same_mark _ _ is))
marked_place n op (Ok (planned.Denied q)) m is = ap place_of (sym (same_mark _ _ is))
marked_place n op (Ok planned.Waits) m is = absurd (no_mark m is)
marked_place n op (Err e) m is = absurd (no_mark m is)

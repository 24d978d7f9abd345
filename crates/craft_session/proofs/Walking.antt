-- A run of a session, one case longer.
use Rattle.std.proofs.Common.{◌≡◌, ◌≢◌, ◌≤◌, ℕ, true, false, length, arith, List, [], ◌∷◌, ◌++◌, append-nil, append_assoc, Option, Some, None, refl, sym, subst}
use base.Stored.{Gv}
use Rattle.turnstile.specs.Turning.{Each}
use Rattle.dxc_model.specs.declared.entry.Entry.{Entry}
use Rattle.dxc_model.specs.Tables.{Board}
use Rattle.dxc_model.specs.Histories.{changes_of}
use Rattle.dxc_model.specs.declared.op.Op.TheVariants.{Look}
use Rattle.dxc_model.specs.declared.entry.Outcome.TheVariants.{Answered}
use Rattle.xc_core.specs.Seeing.{entry}
use Rattle.xc_core.specs.States.{Opening}
use Rattle.xc_core.proofs.Turning.{changes_longer}
use Rattle.craft_session.specs.declared.ask.Ask.{Ask}
use Rattle.craft_session.specs.declared.ask.Ask.TheVariants.{Refused, LogsIn, LogsOut, Completes, Allows, Inhibits, Lists, Shows, Restarts, Changes}
use Rattle.craft_session.specs.declared.attending.Attending.{Attending}
use Rattle.craft_session.specs.Asks.{Language, Reply, watch_after}
use Rattle.craft_session.specs.Acting.{Acts}
use Rattle.craft_session.specs.Happenings.{unit, quiet}
use Rattle.craft_session.specs.Runs.{Run, RunsOn, Walk, begins, passes, responds, waits, looks, with_entry, with_response}
use Rattle.craft_session.specs.Walks.{IsUnused, Serves}

abbrev pub with_history : {U M : Type 0} → List Entry → Walk U M → Walk U M
with_history h w = record w { history = h }

pub snoc_some : {X : Type 0} (xs : List X) (x : X) → xs ++ x ∷ [] ≢ []
snoc_some [] x = λ is. cc
snoc_some (y ∷ ys) x = λ is. cc

module _ {U M : Type 0} (l : Language U M) (place : ℕ) (t : Board) (h : List Entry) where
  -- where a look is due something happened
  pub due_some : (w : Walk U M) → Run l place t h w → w.due ≡ true → w.happenings ≢ []
  due_some _ begins due = absurd cc
  due_some _ (passes w e unused run) due = due_some w run due
  due_some _ (responds w u m es r none serves run) due = snoc_some w.happenings (unit u)
  due_some _ (waits w none run) due = snoc_some w.happenings quiet
  due_some _ (looks w old ms bytes was watch said run) due = absurd cc

  -- where reports stand isn't past the newest change
  watched_after : (w : Option ℕ) (newest more cursor : ℕ) (a : Ask) → ((c : ℕ) → w ≡ Some c → c ≤ newest) → newest ≤ more → watch_after w newest a ≡ Some cursor → cursor ≤ more
  watched_after w newest more cursor (Refused q) within le is = let x = within cursor is in omega (arith, x, le)
  watched_after w newest more cursor (LogsIn u) within le is = let x = within cursor is in omega (arith, x, le)
  watched_after w newest more cursor LogsOut within le is = absurd cc
  watched_after w newest more cursor Completes within le is = let x = within cursor is in omega (arith, x, le)
  watched_after None newest more cursor Allows within le is = let e : newest ≡ cursor = cc in omega (arith, e, le)
  watched_after (Some c) newest more cursor Allows within le is = let e : c ≡ cursor = cc in let x = within c refl in omega (arith, e, x, le)
  watched_after w newest more cursor Inhibits within le is = absurd cc
  watched_after w newest more cursor (Lists which) within le is = let x = within cursor is in omega (arith, x, le)
  watched_after w newest more cursor (Shows what) within le is = let x = within cursor is in omega (arith, x, le)
  watched_after w newest more cursor Restarts within le is = let x = within cursor is in omega (arith, x, le)
  watched_after w newest more cursor (Changes op) within le is = let x = within cursor is in omega (arith, x, le)

  pub cursor_within : (w : Walk U M) → Run l place t h w → (cursor : ℕ) → w.attending.watch ≡ Some cursor → cursor ≤ length (changes_of w.history)
  cursor_within _ begins cursor is = absurd cc
  cursor_within _ (passes w e unused run) cursor is = let x = cursor_within w run cursor is in let y = changes_longer w.history (e ∷ []) in omega (arith, x, y)
  cursor_within _ (responds w u m es r none serves run) cursor is = watched_after w.attending.watch (length (changes_of w.history)) (length (changes_of (w.history ++ es))) cursor (l.asks w.attending.user u) (cursor_within w run) (changes_longer w.history es) is
  cursor_within _ (waits w none run) cursor is = cursor_within w run cursor is
  cursor_within _ (looks w old ms bytes due watch said run) cursor is = let e : length (changes_of w.history) ≡ cursor = cc in let y = changes_longer w.history (entry place (Look old) Answered ∷ []) in omega (arith, e, y)

-- a session that has run on to where it stands
module _ {U M : Type 0} (l : Language U M) (place : ℕ) (t : Board) (v : Walk U M) where
  -- entries that no unit uses
  pub passes_all : (w : Walk U M) (es : List Entry) → Each (IsUnused place) es → RunsOn l place t v w → RunsOn l place t v (with_history (w.history ++ es) w)
  passes_all w [] unused run = subst (λ (g : List Entry). RunsOn l place t v (with_history g w)) (sym (append-nil w.history)) run
  passes_all w (e ∷ es) unused run = subst (λ (g : List Entry). RunsOn l place t v (with_history g w)) (append_assoc w.history (e ∷ []) es) (passes_all (with_entry e w) es unused.1 (passes w e unused.0 run))

  -- a unit was answered
  pub run_answered : (o : Opening) (w : Walk U M) (u : U) (m : M) (r : Reply) (z : Attending) (seen : List Gv) → t ≡ o.first.fold.table → w.due ≡ false → (a : Acts o place w.history w.attending (l.asks w.attending.user u) r z seen) → RunsOn l place t v w
      → RunsOn l place t v (with_response u a.entries m (l.response m u r) z (with_history (w.history ++ a.passed) w))
  run_answered o w u m r z seen same none a run =
      let x = with_history (w.history ++ a.passed) w in
      subst (λ (y : Attending). RunsOn l place t v (with_response u a.entries m (l.response m u r) y x)) (sym a.attending)
      (responds x u m a.entries r none (subst (λ (b : Board). Serves place b x.history (l.asks w.attending.user u) a.entries r) (sym same) a.serves) (passes_all w a.passed a.unused run))

  -- and then further
  pub run_more : (w z : Walk U M) → RunsOn l place t v w → RunsOn l place t w z → RunsOn l place t v z
  run_more w _ first begins = first
  run_more w _ first (passes z e unused run) = passes z e unused (run_more w z first run)
  run_more w _ first (responds z u m es r none serves run) = responds z u m es r none serves (run_more w z first run)
  run_more w _ first (waits z none run) = waits z none (run_more w z first run)
  run_more w _ first (looks z cursor ms bytes due watch said run) = looks z cursor ms bytes due watch said (run_more w z first run)

-- What a stop has left after a history is what the element keeps of it.
use Rattle.std.specs.List.{AllByRecursion}
use Rattle.std.proofs.Common.{◌≡◌, ◌⊎◌, Bool, true, false, List, [], ◌∷◌, ◌++◌, Option, append-nil, append_assoc, refl, sym, ◌∙◌, ap, subst, inl, inr}
use Rattle.dxc_model.specs.declared.cause.Cause.{Cause}
use Rattle.dxc_model.specs.declared.op.Op.{Op}
use Rattle.dxc_model.specs.declared.op.Op.TheVariants.{Restart}
use Rattle.dxc_model.specs.declared.op.Change.{Change}
use Rattle.dxc_model.specs.declared.entry.Outcome.{Outcome}
use Rattle.dxc_model.specs.declared.entry.Outcome.TheVariants.{Done, Denied, Failed, Answered, Restarted, Cut, Taken}
use Rattle.dxc_model.specs.declared.entry.Entry.{Entry}
use Rattle.dxc_model.specs.Histories.{IsCut, IsRestartDue, IsRestarted, IsStopped}
use Rattle.dxc_model.proofs.Lasting.{lasts_more, lasts_now}
use Rattle.switch_laws.specs.Element.{Standing, ready, refused_by}
use Rattle.switch_laws.specs.Laws.{standing_by_entry, standing_in}

pub standing_more : (s : Standing) (h : List Entry) (e : Entry) → standing_in s (h ++ e ∷ []) ≡ standing_by_entry (standing_in s h) e.op e.outcome
standing_more s [] e = refl
standing_more s (x ∷ xs) e = standing_more (standing_by_entry s x.op x.outcome) xs e

standing_append : (s : Standing) (h g : List Entry) → standing_in s (h ++ g) ≡ standing_in (standing_in s h) g
standing_append s [] g = refl
standing_append s (x ∷ xs) g = standing_append (standing_by_entry s x.op x.outcome) xs g

-- A restart stays due until one is made.
refused_due : (op : Op) (s : Standing) → s.due ≡ true → (refused_by op s).due ≡ true
refused_due Restart s x = refl
refused_due _ s x = x

due_still : (o : Outcome) (op : Op) (s : Standing) → ((c : Option Change) × (o ≡ Restarted c) → ⊥) → s.due ≡ true → (standing_by_entry s op o).due ≡ true
due_still (Done c) op s never x = x
due_still (Denied q) op s never x = refused_due op s x
due_still (Failed q) op s never x = refused_due op s x
due_still Answered op s never x = x
due_still (Restarted c) op s never x = absurd (never (c, refl))
due_still Cut op s never x = refl
due_still Taken op s never x = x

lasting : (h : List Entry) (s : Standing) → AllByRecursion (λ e. ¬ IsRestarted e) h → s.due ≡ true → (standing_in s h).due ≡ true
lasting [] s a x = x
lasting (e ∷ es) s a x = lasting es (standing_by_entry s e.op e.outcome) a.1 (due_still e.outcome e.op s a.0 x)

begun : (o : Outcome) (op : Op) (s : Standing) → (o ≡ Cut) ⊎ ((op ≡ Restart) × ((q : Cause) × (o ≡ Failed q))) → (standing_by_entry s op o).due ≡ true
begun o op s (inl is) = subst (λ (x : Outcome). (standing_by_entry s op x).due ≡ true) (sym is) refl
begun o op s (inr x) = subst (λ (k : Op × Outcome). (standing_by_entry s k.0 k.1).due ≡ true) (λ i. (sym x.0 i, sym x.1.1 i)) refl

pub is_due : (h : List Entry) → IsRestartDue h → (standing_in ready h).due ≡ true
is_due h x =
    let now = standing_in ready x.before in
    let here = begun x.entry.outcome x.entry.op now x.has in
    let all = lasting x.behind (standing_by_entry now x.entry.op x.entry.outcome) x.lasting here in
    subst (λ (s : Standing). s.due ≡ true) (sym (ap (standing_in ready) x.whole ∙ standing_append ready x.before (x.entry ∷ x.behind))) all

-- Where the element keeps that a stop stands, one does.
abbrev Keeps : Standing → List Entry → Type 0
Keeps s h = s.stopped ≡ true → IsStopped h

refused_stops : (op : Op) (s : Standing) → (refused_by op s).stopped ≡ true → s.stopped ≡ true
refused_stops Restart s x = x
refused_stops _ s x = x

module _ (g : List Entry) (s : Standing) (e : Entry) (keeps : Keeps s g) where
  stands_on : (o : Outcome) → e.outcome ≡ o → (((c : Option Change) × (o ≡ Restarted c)) → ⊥) → s.stopped ≡ true → IsStopped (g ++ e ∷ [])
  stands_on o is never x = lasts_more IsCut IsRestarted g e (keeps x) (λ r. never (r.0, sym is ∙ r.1))

  step : (o : Outcome) → e.outcome ≡ o → (standing_by_entry s e.op o).stopped ≡ true → IsStopped (g ++ e ∷ [])
  step (Done c) is x = stands_on (Done c) is (λ r. let no = r.1 in cc) x
  step (Denied q) is x = stands_on (Denied q) is (λ r. let no = r.1 in cc) (refused_stops e.op s x)
  step (Failed q) is x = stands_on (Failed q) is (λ r. let no = r.1 in cc) (refused_stops e.op s x)
  step Answered is x = stands_on Answered is (λ r. let no = r.1 in cc) x
  step (Restarted c) is x = absurd (let no : false ≡ true = x in cc)
  step Cut is x = lasts_now IsCut IsRestarted g e is
  step Taken is x = stands_on Taken is (λ r. let no = r.1 in cc) x

kept : (g h : List Entry) (s : Standing) → Keeps s g → Keeps (standing_in s h) (g ++ h)
kept g [] s keeps = subst (λ (l : List Entry). Keeps s l) (sym (append-nil g)) keeps
kept g (e ∷ es) s keeps = subst (λ (l : List Entry). Keeps (standing_in s (e ∷ es)) l) (append_assoc g (e ∷ []) es) (kept (g ++ e ∷ []) es (standing_by_entry s e.op e.outcome) (step g s e keeps e.outcome refl))

pub is_stopped : (h : List Entry) → (standing_in ready h).stopped ≡ true → IsStopped h
is_stopped h = kept [] h ready (λ x. absurd (let no : false ≡ true = x in cc))

told_apart : (b : Bool) → (b ≡ true → ⊥) → b ≡ false
told_apart true never = absurd (never refl)
told_apart false never = refl

pub not_stopped : (h : List Entry) → (IsStopped h → ⊥) → (standing_in ready h).stopped ≡ false
not_stopped h never = told_apart (standing_in ready h).stopped (λ x. never (is_stopped h x))

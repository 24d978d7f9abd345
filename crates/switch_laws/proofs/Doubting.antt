-- What is in doubt after a history is what the element keeps of it.
use Rattle.std.specs.List.{AllByRecursion}
use Rattle.std.proofs.Common.{◌≡◌, ◌⊎◌, List, [], ◌∷◌, ◌++◌, Option, refl, sym, ◌∙◌, ap, subst, inl, inr}
use Rattle.dxc_model.specs.declared.cause.Cause.{Cause}
use Rattle.dxc_model.specs.declared.cause.Cause.TheVariants.{DiskFault}
use Rattle.dxc_model.specs.declared.op.Op.{Op}
use Rattle.dxc_model.specs.declared.op.Change.{Change}
use Rattle.dxc_model.specs.declared.entry.Outcome.{Outcome}
use Rattle.dxc_model.specs.declared.entry.Outcome.TheVariants.{Done, Denied, Failed, Answered, Restarted, Cut, Taken}
use Rattle.dxc_model.specs.declared.entry.Entry.{Entry}
use Rattle.dxc_model.specs.Tables.{Board}
use Rattle.dxc_model.specs.Verdicts.{Grants}
use Rattle.dxc_model.specs.Histories.{IsInDoubt, IsSettling}
use Rattle.switch_laws.specs.Element.{IsDoubted, doubted_by}
use Rattle.switch_laws.specs.Laws.{doubted_by_entry, doubted_in}

pub doubted_more : (ops : List Op) (h : List Entry) (e : Entry) → doubted_in ops (h ++ e ∷ []) ≡ doubted_by_entry (doubted_in ops h) e.op e.outcome
doubted_more ops [] e = refl
doubted_more ops (x ∷ xs) e = doubted_more (doubted_by_entry ops x.op x.outcome) xs e

doubted_append : (ops : List Op) (h g : List Entry) → doubted_in ops (h ++ g) ≡ doubted_in (doubted_in ops h) g
doubted_append ops [] g = refl
doubted_append ops (x ∷ xs) g = doubted_append (doubted_by_entry ops x.op x.outcome) xs g

module _ (t : Board) (c : Change) where
  by_cause : (q : Cause) (op : Op) (ops : List Op) → IsDoubted ops t c → IsDoubted (doubted_by q op ops) t c
  by_cause DiskFault op ops x = inr x
  by_cause _ op ops x = x

  by_outcome : (o : Outcome) (op : Op) (ops : List Op) → (((d : Change) × (o ≡ Done d)) ⊎ ((d : Option Change) × (o ≡ Restarted d)) → ⊥) → IsDoubted ops t c → IsDoubted (doubted_by_entry ops op o) t c
  by_outcome (Done d) op ops never x = absurd (never (inl (d, refl)))
  by_outcome (Denied q) op ops never x = by_cause q op ops x
  by_outcome (Failed q) op ops never x = by_cause q op ops x
  by_outcome Answered op ops never x = x
  by_outcome (Restarted d) op ops never x = absurd (never (inr (d, refl)))
  by_outcome Cut op ops never x = inr x
  by_outcome Taken op ops never x = x

  lasting : (h : List Entry) (ops : List Op) → AllByRecursion (λ e. ¬ IsSettling e) h → IsDoubted ops t c → IsDoubted (doubted_in ops h) t c
  lasting [] ops a x = x
  lasting (e ∷ es) ops a x = lasting es (doubted_by_entry ops e.op e.outcome) a.1 (by_outcome e.outcome e.op ops a.0 x)

  begun : (o : Outcome) (op : Op) (ops : List Op) → (o ≡ Cut) ⊎ (o ≡ Failed DiskFault) → Grants t op c → IsDoubted (doubted_by_entry ops op o) t c
  begun o op ops (inl is) g = subst (λ (x : Outcome). IsDoubted (doubted_by_entry ops op x) t c) (sym is) (inl g)
  begun o op ops (inr is) g = subst (λ (x : Outcome). IsDoubted (doubted_by_entry ops op x) t c) (sym is) (inl g)

  pub in_doubt : (h : List Entry) → IsInDoubt t h c → IsDoubted (doubted_in [] h) t c
  in_doubt h x =
      let now = doubted_in [] x.before in
      let here = begun x.entry.outcome x.entry.op now x.has.0 x.has.1 in
      let all = lasting x.behind (doubted_by_entry now x.entry.op x.entry.outcome) x.lasting here in
      subst (λ (ops : List Op). IsDoubted ops t c) (sym (ap (doubted_in []) x.whole ∙ doubted_append [] x.before (x.entry ∷ x.behind))) all

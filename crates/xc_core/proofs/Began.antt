-- What an opening counts as, before any entry.
use Rattle.std.proofs.lemmas.List.{map-append}
use Rattle.std.proofs.Common.{◌≡◌, ◌⊎◌, ℕ, arith, Bool, true, false, List, [], ◌++◌, Some, None, refl, sym, subst, inl}
use Rattle.dxc_model.specs.declared.cause.Cause.TheVariants.{JournalAstray}
use Rattle.dxc_model.specs.declared.entry.Entry.{Entry}
use Rattle.dxc_model.specs.declared.entry.Outcome.TheVariants.{Cut, Failed}
use Rattle.dxc_model.specs.declared.op.Op.TheVariants.{Restart}
use Rattle.dxc_model.specs.Histories.{IsCut, IsFailedRestart, IsLegal, IsRestarted, IsRestartDue, IsStopped, KeepsTurns, Rules, changes_of, holder}
use Rattle.dxc_model.proofs.Growth.{fits_by}
use Rattle.dxc_model.proofs.Lasting.{lasts_now, never_lasts}
use base.Stored.{Gv}
use Rattle.xc_core.specs.States.{IsNeverAstray, IsPaid, Opening, began, faults_in, rules_of}
use Rattle.xc_core.specs.Seeing.{Rests, Saw, codes, entry, entry_coded}

pub began_changes : (due : Bool) → changes_of (began due ++ []) ≡ []
began_changes true = refl
began_changes false = refl

pub began_legal : (r : Rules) (due : Bool) → IsLegal r (began due ++ [])
began_legal r true = (fits_by r [] (entry 0 Restart Cut) (r.table, (inl refl, refl)) (λ c granted. absurd granted.apt) tt, tt)
began_legal r false = tt

pub began_turns : (due : Bool) → KeepsTurns None (began due ++ [])
began_turns true = (tt, tt)
began_turns false = tt

pub began_holder : (due : Bool) → holder None (began due ++ []) ≡ None
began_holder true = refl
began_holder false = refl

pub began_rests : (due : Bool) (own : ℕ) → Rests own (began due ++ [])
began_rests true own t is = absurd (let e : None ≡ Some t = is in cc)
began_rests false own t is = absurd (let e : None ≡ Some t = is in cc)

pub began_faults : (due : Bool) → faults_in (began due ++ []) ≡ 0
began_faults true = refl
began_faults false = refl

pub began_paid : (o : Opening) (due : Bool) → IsPaid o (began due ++ [])
began_paid o due = λ enough. let none = began_faults due in omega (arith, none)

pub began_astray : (due : Bool) → IsNeverAstray (began due ++ [])
began_astray true = ((λ x. let y : Cut ≡ Failed JournalAstray = x in cc), tt)
began_astray false = tt

-- one at which a restart is due
pub began_due : IsRestartDue (began true ++ [])
began_due = lasts_now (λ x. IsCut x ⊎ IsFailedRestart x) IsRestarted [] (entry 0 Restart Cut) (inl refl)

-- and one at which none is
pub began_unstopped : IsStopped (began false ++ []) → ⊥
began_unstopped = never_lasts IsCut IsRestarted [] tt

-- where none is, all that stands for the history was seen
pub seen_all : (o : Opening) (seen : List Gv) (h : List Entry) → o.due ≡ false → Saw o seen h → seen ≡ codes h
seen_all o seen h ready saw = subst (λ (due : Bool). codes (began due) ++ seen ≡ codes h) ready saw.codes_are

-- who has seen nothing
pub saw_nothing : (o : Opening) → Saw o [] (began o.due ++ [])
saw_nothing o = record {
  codes_are = sym (map-append entry_coded.code (began o.due) []);
  history = record { legal = began_legal (rules_of o) o.due; turns = began_turns o.due; paid = began_paid o o.due };
}

-- Between two steps of a session that is alone nothing is done.
use Rattle.std.proofs.Common.{◌≡◌, ℕ, List, [], ◌∷◌, ◌++◌, refl, ◌∙◌, ap, inl, inr, subst}
use Rattle.std.specs.List.{AllByRecursion}
use Rattle.dxc_model.specs.declared.cause.Cause.{Cause}
use Rattle.dxc_model.specs.declared.cause.Cause.TheVariants.{DiskFault}
use Rattle.dxc_model.specs.declared.op.Change.{Change}
use Rattle.dxc_model.specs.declared.entry.Outcome.{Outcome}
use Rattle.dxc_model.specs.declared.entry.Outcome.TheVariants.{Failed, Taken}
use Rattle.dxc_model.specs.declared.entry.Entry.{Entry}
use Rattle.dxc_model.specs.Tables.{Board}
use Rattle.dxc_model.specs.Steps.{IsFault, made}
use Rattle.dxc_model.specs.Histories.{IsInDoubt, table_after}
use Rattle.craft_session.specs.declared.attending.Attending.{Attending}
use Rattle.craft_session.specs.Plain.{At, Excuse, alone, standing}
use Rattle.craft_session.specs.Scripts.{IsEnded, IsOwn}
use Rattle.craft_session.specs.Walks.{IsUnused}
use Rattle.craft_session.proofs.Playing.{apart, stood_still}

pub alone_onward : (a b c : At) → alone a b → alone b c → alone a c
alone_onward a b c is also = also ∙ is

pub alone_keeps : (a b : At) → alone a b → b.attending ≡ a.attending
alone_keeps a b is = ap (λ (x : At). x.attending) is

pub taken_here : (place : ℕ) (e : Entry) → e.place ≡ place → IsUnused place e → e.outcome ≡ Taken
taken_here place e mine unused = elim unused [ inl other ↦ absurd (other mine) | inr taken ↦ taken ]

pub alone_passed : (place : ℕ) (excused : Excuse) (t : Board) (h : List Entry) (e : Entry) (s : Attending) → IsOwn place excused e → IsUnused place e → alone (standing t h s) (standing t (h ++ e ∷ []) s)
alone_passed place excused t h e s own unused = stood_still t h e s (ap made (taken_here place e own.mine unused))

pub own_excuse : (place : ℕ) (excused : Excuse) (e : Entry) (q : Cause) → IsOwn place excused e → e.outcome ≡ Failed q → IsFault q → excused q
own_excuse place excused e q own is fault = elim (subst (λ (o : Outcome). IsEnded excused o) is own.ended) [ inl limit ↦ absurd (apart q limit fault) | inr x ↦ x ]

-- a change that is in doubt was left so by a fault: no stop cut an entry of a session that goes on
pub own_doubts : (place : ℕ) (excused : Excuse) (t : Board) (h : List Entry) (c : Change) → AllByRecursion (IsOwn place excused) h → IsInDoubt (table_after t h) h c → excused DiskFault
own_doubts place excused t h c own x =
    let e = each_middle (IsOwn place excused) x.before x.behind x.entry (subst (λ (l : List Entry). AllByRecursion (IsOwn place excused) l) x.whole own) in
    elim x.has.0 [
      | inl cut ↦ absurd (subst (λ (o : Outcome). IsEnded excused o) cut e.ended)
      | inr failed ↦ own_excuse place excused x.entry DiskFault e failed (inl refl)
    ]
  where
    each_middle : {X : Type 0} (P : X → Type 0) (xs ys : List X) (y : X) → AllByRecursion P (xs ++ y ∷ ys) → P y
    each_middle P [] ys y a = a.0
    each_middle P (x ∷ xs) ys y a = each_middle P xs ys y a.1

use Rattle.std.proofs.Common.{◌∙◌, [], ◌∷◌, List, ℕ, inl, inr, refl, true≢false, subst, sym}
use Rattle.dxc_outside.specs.declared.opened.Opened.TheVariants.{Failed, NoMemory}
use Rattle.dxc_outside.specs.Asked.{journal_named}
use Rattle.dxc_outside.proofs.Asking.{asked_all, asked_part}
use Rattle.dxc_element.specs.Openings.{IsKept, users_name}
use Rattle.dxc_element.proofs.Starting.{kept_by}
use Rattle.dxc_element.proofs.opening.open_users.Goals as goal

pub returns-in_default-clause-users : goal.returns-in_default-clause-users
returns-in_default-clause-users g c = inl (inl refl, λ t. refl)

pub returns-in-Failed-clause-users : goal.returns-in-Failed-clause-users
returns-in-Failed-clause-users g c =
    let at = g.O.Opener.journal_at in
    let e = c.journal.ensures.opening in
    inl (
      inr (refl, e.cause.cause c.in-Failed.is),
      subst (λ (n : List ℕ). IsKept g.O.Opener.told n (at c.args.opener.now) (at c.journal.new.self)) (c.text.ensures ∙ c.in-Ok.ensures)
          (kept_by g.O.Opener.told c.text.result.now (at c.args.opener.now) (at c.args.opener.now) (at c.journal.new.self) c.journal.result Failed c.in-Failed.is tt (λ t n. refl) e.hands),
    )

pub returns-clause-users : goal.returns-clause-users
returns-clause-users g c =
    let at = g.O.Opener.journal_at in
    let e = c.journal.ensures.opening in
    inl (
      inl refl,
      subst (λ (n : List ℕ). IsKept g.O.Opener.told n (at c.args.opener.now) (at c.journal.new.self)) (c.text.ensures ∙ c.in-Ok.ensures)
          (kept_by g.O.Opener.told c.text.result.now (at c.args.opener.now) (at c.args.opener.now) (at c.journal.new.self) c.journal.result NoMemory c.in-NoMemory.is tt (λ t n. refl) e.hands),
    )

pub returns-in_default-clause-asked : goal.returns-in_default-clause-asked
returns-in_default-clause-asked g c = asked_part (g.O.Opener.asked c.args.opener.now c.args.opener.now) _ [] (journal_named (users_name c.args.journal.now) ∷ []) (g.O.Opener.unasked c.args.opener.now) (λ ok. true≢false (sym ok))

pub returns-in-Open-clause-asked : goal.returns-in-Open-clause-asked
returns-in-Open-clause-asked g c =
    let asked = g.O.Opener.asked c.args.opener.now c.journal.new.self in
    asked_all asked _ (journal_named (users_name c.args.journal.now) ∷ []) (subst (λ (n : List ℕ). asked (journal_named n ∷ [])) (c.text.ensures ∙ c.in-Ok.ensures) c.journal.ensures.asked)

pub returns-in-Failed-clause-asked : goal.returns-in-Failed-clause-asked
returns-in-Failed-clause-asked g c =
    let asked = g.O.Opener.asked c.args.opener.now c.journal.new.self in
    asked_all asked _ (journal_named (users_name c.args.journal.now) ∷ []) (subst (λ (n : List ℕ). asked (journal_named n ∷ [])) (c.text.ensures ∙ c.in-Ok.ensures) c.journal.ensures.asked)

pub returns-clause-asked : goal.returns-clause-asked
returns-clause-asked g c =
    let asked = g.O.Opener.asked c.args.opener.now c.journal.new.self in
    asked_all asked _ (journal_named (users_name c.args.journal.now) ∷ []) (subst (λ (n : List ℕ). asked (journal_named n ∷ [])) (c.text.ensures ∙ c.in-Ok.ensures) c.journal.ensures.asked)

use Rattle.std.proofs.Common.{◌≡◌, ◌∙◌, [], ◌∷◌, List, ℕ, Some, inl, inr, subst, sym}
use Rattle.dxc_outside.specs.declared.opened.Opened.{Opened}
use Rattle.dxc_outside.specs.declared.opened.Opened.TheVariants.{Failed, NoMemory}
use Rattle.dxc_outside.specs.Openings.{Hands}
use Rattle.dxc_outside.specs.Asked.{journal_named, shelf_named}
use Rattle.dxc_outside.proofs.Asking.{asked_all}
use Rattle.users_at_odds.specs.Odds.{users_name}
use Rattle.users_at_odds.proofs.Naming.{kept_by, unnamed_by, unnamed_on}
use Rattle.users_at_odds.proofs.user_in.Goals as goal

pub returns-in-Open-clause-asked : goal.returns-in-Open-clause-asked
returns-in-Open-clause-asked g c =
    let first = shelf_named c.args.shelf.now ∷ [] in
    let behind = journal_named (users_name c.args.journal.now) ∷ [] in
    asked_all (g.O.Opener.asked c.args.opener.now c.journal.new.self) _ (shelf_named c.args.shelf.now ∷ behind)
    (g.O.Opener.asked_on c.args.opener.now c.shelf_in.new.opener c.journal.new.self first behind c.shelf_in.ensures.asked
    (subst (λ (n : List ℕ). g.O.Opener.asked c.shelf_in.new.opener c.journal.new.self (journal_named n ∷ [])) (c.text.ensures ∙ c.in-Ok.ensures) c.journal.ensures.asked))

pub returns-in_err-shelf-clause-unnamed : goal.returns-in_err-shelf-clause-unnamed
returns-in_err-shelf-clause-unnamed g c = unnamed_by c.from_residual.result (inl c.shelf_in.ensures.asked)

pub returns-in_default-clause-unnamed : goal.returns-in_default-clause-unnamed
returns-in_default-clause-unnamed g c = inl c.shelf_in.ensures.asked

pub returns-in-Open-clause-unnamed : goal.returns-in-Open-clause-unnamed
returns-in-Open-clause-unnamed g c =
    let first = shelf_named c.args.shelf.now ∷ [] in
    let behind = journal_named (users_name c.args.journal.now) ∷ [] in
    let is = c.text.ensures ∙ c.in-Ok.ensures in
    let at = g.O.Opener.journal_at in
    unnamed_on c.name_at.result (λ unnamed. inr (
      g.O.Opener.asked_on c.args.opener.now c.shelf_in.new.opener c.journal.new.self first behind c.shelf_in.ensures.asked (subst (λ (n : List ℕ). g.O.Opener.asked c.shelf_in.new.opener c.journal.new.self (journal_named n ∷ [])) is c.journal.ensures.asked),
      inr (record {
        contents = c.in_ok-shelf.shelf;
        described = c.in_ok-shelf.ensures.shelf;
        disk = c.in-Open.disk;
        handed = λ t. sym (c.shelf_in.ensures.journals t (users_name c.args.journal.now)) ∙ subst (λ (n : List ℕ). at c.shelf_in.new.opener n ≡ Some c.in-Open.disk) is (subst (λ (x : Opened _). Hands x (at c.shelf_in.new.opener c.text.result.now) (at c.journal.new.self c.text.result.now)) c.in-Open.is (c.journal.ensures.opening.hands t));
        unnamed = unnamed;
      }),
    )) c.name_at.ensures.unnamed

pub returns-in-Failed : goal.returns-in-Failed
returns-in-Failed g c =
    let first = shelf_named c.args.shelf.now ∷ [] in
    let behind = journal_named (users_name c.args.journal.now) ∷ [] in
    let is = c.text.ensures ∙ c.in-Ok.ensures in
    let at = g.O.Opener.journal_at in
    let asked = g.O.Opener.asked_on c.args.opener.now c.shelf_in.new.opener c.journal.new.self first behind c.shelf_in.ensures.asked (subst (λ (n : List ℕ). g.O.Opener.asked c.shelf_in.new.opener c.journal.new.self (journal_named n ∷ [])) is c.journal.ensures.asked) in
    record {
      named = tt;
      unnamed = inr (
        asked,
        inl (subst (λ (n : List ℕ). g.O.Opener.told → at c.journal.new.self n ≡ at c.args.opener.now n) is
            (kept_by g.O.Opener.told (at c.args.opener.now) (at c.shelf_in.new.opener) (at c.journal.new.self) c.journal.result Failed c.text.result.now c.shelf_in.ensures.journals c.in-Failed.is tt c.journal.ensures.opening.hands)),
      );
      asked = asked_all (g.O.Opener.asked c.args.opener.now c.journal.new.self) _ (shelf_named c.args.shelf.now ∷ behind) asked;
    }

pub returns : goal.returns
returns g c =
    let first = shelf_named c.args.shelf.now ∷ [] in
    let behind = journal_named (users_name c.args.journal.now) ∷ [] in
    let is = c.text.ensures ∙ c.in-Ok.ensures in
    let at = g.O.Opener.journal_at in
    let asked = g.O.Opener.asked_on c.args.opener.now c.shelf_in.new.opener c.journal.new.self first behind c.shelf_in.ensures.asked (subst (λ (n : List ℕ). g.O.Opener.asked c.shelf_in.new.opener c.journal.new.self (journal_named n ∷ [])) is c.journal.ensures.asked) in
    record {
      named = tt;
      unnamed = inr (
        asked,
        inl (subst (λ (n : List ℕ). g.O.Opener.told → at c.journal.new.self n ≡ at c.args.opener.now n) is
            (kept_by g.O.Opener.told (at c.args.opener.now) (at c.shelf_in.new.opener) (at c.journal.new.self) c.journal.result NoMemory c.text.result.now c.shelf_in.ensures.journals c.in-NoMemory.is tt c.journal.ensures.opening.hands)),
      );
      asked = asked_all (g.O.Opener.asked c.args.opener.now c.journal.new.self) _ (shelf_named c.args.shelf.now ∷ behind) asked;
    }

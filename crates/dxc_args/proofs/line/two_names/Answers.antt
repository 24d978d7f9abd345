use Rattle.std.proofs.Common.{◌≡◌, ◌≤◌, ◌<◌, ℕ, List, [], ◌∷◌, Bor, arith, get_or, length, refl, sym, ap₂, ◌∙◌}
use Rattle.dxc_args.specs.Lines.{texts}
use Rattle.dxc_args.proofs.line.two_names.Goals as goal

-- a list of two is its first and its second
texts_of_two : (xs : List (Bor (List ℕ))) (d e : Bor (List ℕ)) → 2 ≤ length xs → length xs < 3 → texts xs ≡ (get_or xs 0 d).now ∷ (get_or xs 1 e).now ∷ []
texts_of_two [] d e low high = absurd (omega arith)
texts_of_two (x ∷ []) d e low high = absurd (omega arith)
texts_of_two (x ∷ y ∷ []) d e low high = refl
texts_of_two (x ∷ y ∷ z ∷ zs) d e low high = absurd (omega arith)

pub returns-in_ok-name_of-in-len2-2-clause-names : goal.returns-in_ok-name_of-in-len2-2-clause-names
returns-in_ok-name_of-in-len2-2-clause-names c =
    texts_of_two c.args.rest.now _ _ c.in-len2.len_at_least c.in-len2.len_below
    ∙ ap₂ (λ (a : List ℕ) (b : List ℕ). a ∷ b ∷ []) (sym c.in_ok-name_of-in-len2.ensures.name) (sym c.in_ok-name_of-in-len2-2.ensures.name)

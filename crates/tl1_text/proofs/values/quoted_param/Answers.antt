use Rattle.std.proofs.Common.{ℕ, List, ◌==◌, Option, drop, position, refl, sym, ◌∙◌, ap, subst, arith}
use Rattle.std.specs.Option.{IsSome}
use Rattle.tl1_text.proofs.FirstParams.{behind_first, quote_is, quoted_end, quoted_last, quoted_more}
use Rattle.tl1_text.proofs.values.quoted_param.Goals as goal

pub unwrap-requires : goal.unwrap-requires
unwrap-requires c =
    let place = c.quote.ensures.place ∙ ap (λ (t : List ℕ). position (λ b. b == 34) t) (behind_first c.text.result.now ∙ ap (λ (t : List ℕ). drop 1 t) c.text.ensures) in
    let is = quote_is _ _ c.requires.block c.requires.quoted in
    subst (λ (o : Option ℕ). IsSome o) (sym (place ∙ is.1)) refl

pub returns-then-end-block : goal.returns-then-end-block
returns-then-end-block c =
    let place = ap (λ (t : List ℕ). position (λ b. b == 34) t) (sym (behind_first c.text.result.now ∙ ap (λ (t : List ℕ). drop 1 t) c.text.ensures)) ∙ sym c.quote.ensures.place ∙ c.unwrap.ensures in
    rw c.between-value.ensures (quoted_last _ _ c.requires.block c.requires.quoted c.unwrap.result place c.if-end-block.true)

pub returns : goal.returns
returns c =
    let place = ap (λ (t : List ℕ). position (λ b. b == 34) t) (sym (behind_first c.text.result.now ∙ ap (λ (t : List ℕ). drop 1 t) c.text.ensures)) ∙ sym c.quote.ensures.place ∙ c.unwrap.ensures in
    let end = quoted_end _ _ c.requires.block c.requires.quoted c.unwrap.result place in
    let other = c.if-end-block.false in
    rw (c.between-value.ensures, c.between.ensures) (quoted_more _ _ c.requires.block c.requires.quoted c.unwrap.result place (omega (arith, end, other)))

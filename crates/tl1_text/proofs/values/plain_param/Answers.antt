use Rattle.std.proofs.Common.{ℕ, List, ◌==◌, position, sym, ◌∙◌, ap}
use Rattle.tl1_text.proofs.FirstParams.{plain_last, plain_more}
use Rattle.tl1_text.proofs.values.plain_param.Goals as goal

pub returns-in_default : goal.returns-in_default
returns-in_default c = plain_last _ _ c.requires.block c.requires.plain (ap (λ (t : List ℕ). position (λ b. b == 44) t) (sym c.text.ensures) ∙ sym c.comma.ensures.place ∙ c.in_default.is)

pub returns : goal.returns
returns c =
    let place = ap (λ (t : List ℕ). position (λ b. b == 44) t) (sym c.text.ensures) ∙ sym c.comma.ensures.place ∙ c.in-Some.is in
    let within = (rw c.text.ensures at c.in-Some.ensures.within) in
    rw (c.between.ensures, c.between-2.ensures) (plain_more _ _ c.requires.block c.in-Some.count c.requires.plain place within)

use Rattle.std.proofs.Common.{ℕ, List, [], ◌∷◌, ◌++◌, sym, ◌∙◌, ap, ap₂, arith}
use Rattle.dxc_aid.proofs.Numbers.{decimal_one, decimal_two}
use Rattle.dxc_aid.proofs.Writes.{pair_at}
use Rattle.dxc_aid.proofs.write.put_number.Goals as goal

pub returns-then-number-lt10-clause-digits : goal.returns-then-number-lt10-clause-digits
returns-then-number-lt10-clause-digits g c = c.put.ensures.text ∙ ap (λ (l : List ℕ). c.args.out.now ++ l) (sym (decimal_one c.args.number c.if-number-lt10.true))

pub returns-else-number-lt10-clause-digits : goal.returns-else-number-lt10-clause-digits
returns-else-number-lt10-clause-digits g c =
    let two = pair_at c.args.number (omega (arith, c.requires.below)) in
    c.put-else-number-lt10.ensures.text
    ∙ ap₂ (λ (a b : ℕ). c.args.out.now ++ a ∷ b ∷ []) two.0 two.1
    ∙ ap (λ (l : List ℕ). c.args.out.now ++ l) (sym (decimal_two c.args.number (omega (arith, c.if-number-lt10.false)) (omega (arith, c.requires.below))))

use Rattle.std.proofs.Common.{ℕ, ◌+◌, ◌/◌, ◌%◌, List, [], ◌∷◌, ◌++◌, sym, ◌∙◌, ap, append_assoc, arith}
use Rattle.dxc_aid.proofs.Numbers.{decimal_two}
use Rattle.dxc_aid.proofs.write.append_number.Goals as goal

pub returns-then-number-lt100-clause-digits : goal.returns-then-number-lt100-clause-digits
returns-then-number-lt100-clause-digits g c =
    let tens : List ℕ = (48 + c.args.number / 10) ∷ [] in
    let ones : List ℕ = (48 + c.args.number % 10) ∷ [] in
    c.push-then-number-lt100-2.ensures.items
    ∙ ap (λ (l : List ℕ). l ++ ones) c.push-then-number-lt100.ensures.items
    ∙ append_assoc c.args.out.now.items tens ones
    ∙ ap (λ (l : List ℕ). c.args.out.now.items ++ l) (sym (decimal_two c.args.number (omega (arith, c.if-number-lt10.false)) (omega (arith, c.if-number-lt100.true))))

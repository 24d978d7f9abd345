-- What spells a number is read as that number, and printed again.
use Rattle.std.proofs.Common.{◌≡◌, ℕ, Option, Some, None, true, false, sym, ap, ◌∙◌}
use Rattle.std.specs.Result.{result_ok}
use Rattle.std.specs.Str.{bytes_eq}
use Rattle.std.specs.Fmt.{decimal}
use Rattle.std.proofs.lemmas.Fmt.{parse-decimal}
use Rattle.std.proofs.lemmas.Slice.Eq.{bytes_eq-Decides}
use Rattle.dxc_args.proofs.number.number_of.Goals as goal

some_same : (k n : ℕ) → ◌≡◌ {A = Option ℕ} (Some k) (Some n) → k ≡ n
some_same k n e = cc

not_none : {X : Type 0} (n : ℕ) → ◌≡◌ {A = Option ℕ} None (Some n) → X
not_none n e = let bad : false ≡ true = ap (λ (o : Option ℕ). elim o [ None ↦ false | Some k ↦ true ]) e in cc

pub returns-in_err-number-clause-read : goal.returns-in_err-number-clause-read
returns-in_err-number-clause-read c = λ n low e.
    let read = parse-decimal 64 n c.args.text.now c.parse.result low low e c.parse.ensures.value.0 in
    not_none n (c.in_err-number.ensures.value ∙ ap result_ok read)

pub returns-else-eq-clause-read : goal.returns-else-eq-clause-read
returns-else-eq-clause-read c = λ n low e.
    let read = parse-decimal 64 n c.args.text.now c.parse.result low low e c.parse.ensures.value.0 in
    let same = some_same c.in_ok-number.number n (c.in_ok-number.ensures.value ∙ ap result_ok read) in
    let printed : c.format.result.now ≡ c.args.text.now = c.format.ensures.text ∙ ap decimal same ∙ sym e in
    let found : bytes_eq c.format.result.now c.args.text.now ≡ true = (bytes_eq-Decides c.format.result.now c.args.text.now).1 printed in
    let bad : true ≡ false = sym found ∙ sym c.eq.ensures ∙ c.if-eq.false in
    cc

pub returns-then-eq-clause-read : goal.returns-then-eq-clause-read
returns-then-eq-clause-read c = λ n low e.
    let read = parse-decimal 64 n c.args.text.now c.parse.result low low e c.parse.ensures.value.0 in
    c.in_ok-number.ensures.value ∙ ap result_ok read

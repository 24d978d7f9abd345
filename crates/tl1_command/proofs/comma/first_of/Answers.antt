use Rattle.std.proofs.Common.{◌≡◌, ◌<◌, ◌+◌, ◌-◌, ℕ, Some, sym, ap, subst, ◌∙◌, arith}
use Rattle.tl1_text.specs.Values.{IsFirst, begins_quoted}
use Rattle.tl1_text.proofs.FirstParams.{plain_last, plain_more}
use Rattle.tl1_command.proofs.Commas.{in_part, comma_none, comma_some}
use Rattle.tl1_command.proofs.comma.first_of.Goals as goal

pub returns-then-at-end : goal.returns-then-at-end
returns-then-at-end c =
    let unit = c.args.unit.now in
    let block = c.args.block in
    let is = c.requires.block.is_in in
    let found = c.comma_in-at.ensures in
    let bare = ap begins_quoted (sym c.text.ensures) ∙ sym c.is_quoted.ensures ∙ c.if-is_quoted.false in
    plain_last unit block c.requires.block bare (comma_none unit block.start block.end c.comma_in-at.result found.within.0 found.within.1 is.within found.front found.stop c.if-at-end.true)

pub returns : goal.returns
returns c =
    let unit = c.args.unit.now in
    let block = c.args.block in
    let at = c.comma_in-at.result in
    let is = c.requires.block.is_in in
    let found = c.comma_in-at.ensures in
    let bare = ap begins_quoted (sym c.text.ensures) ∙ sym c.is_quoted.ensures ∙ c.if-is_quoted.false in
    let other = c.if-at-end.false in
    let lt : at < block.end = omega (arith, found.within.1, other) in
    let back : block.start + (at - block.start) ≡ at = omega (arith, found.within.0) in
    let some = comma_some unit block.start block.end at found.within.0 found.within.1 is.within found.front found.stop lt in
    let less = in_part unit block.start block.end at found.within.0 found.within.1 is.within found.front found.stop lt in
    subst (λ (n : ℕ). IsFirst unit block (record { value = record { start = block.start; end = n }; others = Some (record { start = n + 1; end = block.end }) })) back (plain_more unit block c.requires.block (at - block.start) bare some less)

use Rattle.std.proofs.Common.{◌<◌, ◌≤◌, ℕ, List, length, map, ap, sym, ◌∙◌, arith}
use Rattle.std.specs.List.{list_any}
use Rattle.std.proofs.lemmas.List.{length-map}
use Rattle.tl1_text.specs.Grammar.{Block}
use Rattle.tl1_text.specs.Spans.{block_at}
use Rattle.tl1_command.specs.Blocks.{no_block, is_there, has_value_from}
use Rattle.tl1_command.proofs.Anys.{plain_here, plain_later, plain_past}
use Rattle.tl1_command.proofs.checks.has_further.Goals as goal

pub returns-then-has_value : goal.returns-then-has_value
returns-then-has_value c =
    let bs : List Block = map (block_at c.args.unit.now) c.args.blocks.now.block.items in
    let within : c.loop-number.number < length bs = omega (arith, c.loop-number-test.true, c.len-number-end.ensures.value, length-map c.args.blocks.now.block.items (block_at c.args.unit.now)) in
    let of = c.block_of.ensures c.args.unit.now c.requires.blocks in
    let has = ap (λ (vs : List (List ℕ)). list_any is_there vs) of.values ∙ sym c.has_value.ensures ∙ c.if-has_value.true in
    sym (c.loop-number.invariant ∙ plain_here (has_value_from 0) no_block bs c.loop-number.number within has)

pub loop-number-preserved : goal.loop-number-preserved
loop-number-preserved c =
    let bs : List Block = map (block_at c.args.unit.now) c.args.blocks.now.block.items in
    let within : c.loop-number.number < length bs = omega (arith, c.loop-number-test.true, c.len-number-end.ensures.value, length-map c.args.blocks.now.block.items (block_at c.args.unit.now)) in
    let of = c.block_of.ensures c.args.unit.now c.requires.blocks in
    let has = ap (λ (vs : List (List ℕ)). list_any is_there vs) of.values ∙ sym c.has_value.ensures ∙ c.if-has_value.false in
    c.loop-number.invariant ∙ plain_later (has_value_from 0) no_block bs c.loop-number.number within has

pub returns : goal.returns
returns c =
    let bs : List Block = map (block_at c.args.unit.now) c.args.blocks.now.block.items in
    let past : length bs ≤ c.loop-number.number = omega (arith, c.loop-number-test.false, c.len-number-end.ensures.value, length-map c.args.blocks.now.block.items (block_at c.args.unit.now)) in
    sym (c.loop-number.invariant ∙ plain_past (has_value_from 0) bs c.loop-number.number past)

use Rattle.std.proofs.Common.{ℕ, List, length, sym, ◌∙◌, ap, arith}
use Rattle.tl1_text.specs.Tags.{as_ctag}
use Rattle.tl1_text.proofs.TagFacts.{four_blocks, tag_by_blocks}
use Rattle.tl1_text.proofs.ctag.ctag_in.Goals as goal

pub bounds-deref-3 : goal.bounds-deref-3
bounds-deref-3 c = omega (arith, four_blocks c.args.unit.now c.args.blocks.now.block.items c.requires, ap length c.deref.ensures.0)

pub returns : goal.returns
returns c =
    let text = c.text.ensures in
    let at_three = (rw c.deref.ensures.0 at text) in
    c.of.ensures ∙ ap (λ (t : List ℕ). as_ctag t) at_three ∙ sym (tag_by_blocks _ _ _ c.requires)

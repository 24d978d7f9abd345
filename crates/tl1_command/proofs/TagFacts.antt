-- A unit in the grammar has a tag where its fourth block is one.
use Rattle.std.proofs.Common.{◌≡◌, ℕ, ◌≤◌, Bool, true, false, List, [], ◌∷◌, length, map, get_or, if◌then◌else◌, Option, Some, None, refl, ◌∙◌, ap, arith}
use Rattle.std.specs.Option.{is_some}
use Rattle.tl1_text.specs.declared.span.Span.{Span}
use Rattle.tl1_text.specs.Spans.{text_at, block_at, AreBlocksOf}
use Rattle.tl1_text.specs.Tags.{is_ctag, ctag_of}
use Rattle.tl1_text.proofs.TagFacts.{four_blocks, tag_by_blocks}
use Rattle.tl1_command.specs.Blocks.{tag_text}

fourth : (unit : List ℕ) (spans : List Span) (d : Span) → 4 ≤ length spans → text_at unit (get_or spans 3 d) ≡ tag_text (map (block_at unit) spans)
fourth unit [] d le = absurd (omega (arith, le))
fourth unit (a ∷ []) d le = absurd (omega (arith, le))
fourth unit (a ∷ b ∷ []) d le = absurd (omega (arith, le))
fourth unit (a ∷ b ∷ c ∷ []) d le = absurd (omega (arith, le))
fourth unit (a ∷ b ∷ c ∷ s ∷ spans) d le = refl

some_if : (t : List ℕ) (c : Bool) → is_some (if c then Some t else None) ≡ c
some_if t true = refl
some_if t false = refl

pub tagged_is : (unit : List ℕ) (spans : List Span) → AreBlocksOf unit spans → is_some (ctag_of unit) ≡ is_ctag (tag_text (map (block_at unit) spans))
tagged_is unit spans are =
    let d : Span = record { start = 0; end = 0 } in
    let text = text_at unit (get_or spans 3 d) in
    ap (λ (o : Option (List ℕ)). is_some o) (tag_by_blocks unit spans d are) ∙ some_if text (is_ctag text) ∙ ap is_ctag (fourth unit spans d (four_blocks unit spans are))

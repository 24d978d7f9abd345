use Rattle.std.proofs.Common.{◌∙◌, ap, replicate, ℕ, rules}
use Rattle.dxc_num.specs.Dimensions.{IsInLimits}
use Rattle.fabric_words.proofs.Deals.{opens}
use Rattle.fabric_words.proofs.fabric.Fabric.lay.Goals as goal

pub of_words-requires : goal.of_words-requires
of_words-requires c = let limits : IsInLimits c.args.shape = search rules in
    opens (record { shape = c.args.shape; workers = c.args.workers }) c.as_slice.result.now (record { shape = limits; workers = c.requires })
    (c.as_slice.ensures.value ∙ (c.in_ok-words.ensures.items_if_clones_equal (λ y h. h) ∙ ap (λ (n : ℕ). replicate {A = ℕ} n 0) c.of_frame.ensures))

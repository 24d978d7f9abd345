use Rattle.std.proofs.Common.{arith, ℕ, ◌<◌, IsBitSet, subst}
use Rattle.std.specs.Int.{w128, trailing_zeros}
use Rattle.paull_matrix.proofs.Bits.{lowest_set, none_below}
use Rattle.paull_matrix.proofs.middle_set.MiddleSet.lowest.Goals as goal

pub returns-then-middle-slots : goal.returns-then-middle-slots
returns-then-middle-slots c = let low = c.if-middle-slots.true in let s = c.requires in let bits = c.self.inside.bits in
    let b = lowest_set bits c.self.invariant (omega arith) in
    let d = subst (λ (n : ℕ). IsBitSet n (trailing_zeros w128 bits) × ((k : ℕ) → k < trailing_zeros w128 bits → IsBitSet n k → ⊥)) c.self.view_is b in (low, d.0, d.1)

pub returns : goal.returns
returns c = let low = c.if-middle-slots.false in let bits = c.self.inside.bits in
    subst (λ (n : ℕ). (k : ℕ) → k < c.args.slots → IsBitSet n k → ⊥) c.self.view_is (none_below bits c.args.slots c.self.invariant (omega arith))

use Rattle.std.proofs.Common.{◌↔◌, ℕ, IsBitSet, bit_and, subst}
use Rattle.paull_matrix.proofs.Bits.{both_bits}
use Rattle.paull_matrix.proofs.middle_set.MiddleSet.common.Goals as goal

pub returns : goal.returns
returns c = λ k. subst (λ (w : ℕ × ℕ). IsBitSet (bit_and c.self.inside.bits c.other.inside.bits) k ↔ (IsBitSet w.0 k × IsBitSet w.1 k)) (λ i. (c.self.view_is i, c.other.view_is i)) (both_bits c.self.inside.bits c.other.inside.bits k)

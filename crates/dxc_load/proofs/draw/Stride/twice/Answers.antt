use Rattle.std.proofs.Common.{ℕ, ◌+◌, ◌*◌, ◌%◌, ◌^◌, ap₂, ◌∙◌}
use Rattle.dxc_load.proofs.Drawing.{two_strides}
use Rattle.dxc_load.proofs.draw.Stride.twice.Goals as goal

pub returns : goal.returns
returns c = λ x. ap₂ (λ (p : ℕ) (q : ℕ). (x * p + q) % 2 ^ 64) c.from.ensures c.from-2.ensures ∙ two_strides (2 ^ 64) x c.args.self.factor c.args.self.addend

use Rattle.std.proofs.Common.{◌≡◌, ℕ, ◌+◌, ◌*◌, ◌/◌, ◌<◌, ◌==◌, arith, nat_lt, subst}
use Rattle.dxc_model.proofs.ModuleBounds.{bounded}
use Rattle.dxc_model.proofs.scan.is_of_module.Goals as goal

pub returns-then-first-port : goal.returns-then-first-port
returns-then-first-port c =
    let slots = c.slots-slots.result in
    let value = c.slots-slots.ensures.value in
    let least = c.slots-slots.ensures.limits.least_slots in
    let some : 0 < c.slots-slots.result = omega arith in
    subst (λ (n : ℕ). nat_lt c.args.port.0 (c.args.module * slots + slots) ≡ (c.args.port.0 / n == c.args.module)) value (bounded c.args.module slots c.args.port.0 some c.if-first-port.true)

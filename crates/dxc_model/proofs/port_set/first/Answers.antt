use Rattle.std.proofs.Common.{arith, ◌<◌, ◌+◌, ◌*◌, ◌^◌, get_or, Some, w64}
use Rattle.std.specs.Int.{trailing_zeros}
use Rattle.dxc_model.proofs.PortSets.{next_behind, next_here}
use Rattle.dxc_model.proofs.port_set.first.Goals as goal

pub returns-then-bits-ne0 : goal.returns-then-bits-ne0
returns-then-bits-ne0 c =
    let words = c.args.words.now in
    let at = c.loop-at.at in
    let fits : get_or words at 0 < 2 ^ 64 = omega (arith, c.type_inv.words at) in
    let some : 0 < get_or words at 0 = omega arith in
    next_behind words (c.args.word * 64) (at * 64) (Some (at * 64 + trailing_zeros w64 (get_or words at 0))) (omega arith) c.loop-at.invariant (next_here words at fits some)

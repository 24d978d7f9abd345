use Rattle.std.proofs.Common.{arith}
use Rattle.std.proofs.lemmas.Nat.{mod_below}
use Rattle.dxc_aid.proofs.write.slot_number.Goals as goal

pub returns-clause-short : goal.returns-clause-short
returns-clause-short c =
    let limits = c.slots.ensures.limits in
    omega (arith, c.slot_of.ensures, limits.most_slots, mod_below c.args.port.0 c.args.shape.slots (omega (arith, limits.least_slots)))

use Rattle.std.proofs.Common.{arith}
use Rattle.std.proofs.lemmas.Nat.{div_below}
use Rattle.dxc_aid.proofs.write.module_number.Goals as goal

pub returns-clause-short : goal.returns-clause-short
returns-clause-short c =
    let limits = c.slots.ensures.limits in
    omega (arith, c.module_of.ensures, limits.most_modules, div_below c.args.port.0 c.args.shape.slots c.args.shape.modules (omega (arith, limits.least_slots)) c.requires)

use Rattle.std.proofs.Common.{Bool, sym, subst}
use Rattle.xc_recovery.specs.Straight.{IsNext, kept_of, network_of, spelled_in}
use Rattle.xc_recovery.proofs.straight.take_next.Goals as goal

pub returns-clause-taken : goal.returns-clause-taken
returns-clause-taken c =
    subst (λ (b : Bool). IsNext c.take_last.result (spelled_in c.args.version c.args.bytes.now) (network_of c.args.table.now c.args.matrix.now) (network_of c.take_last.new.table c.take_last.new.matrix) (kept_of b c.take_last.new.last.ops.items)) (sym c.if-not-is_last.false) c.take_last.ensures.taken

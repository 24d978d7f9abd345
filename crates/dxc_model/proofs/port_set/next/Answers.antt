use Rattle.std.proofs.Common.{arith, ◌<◌, ◌/◌, ◌+◌, ◌*◌, ◌^◌, get_or}
use Rattle.dxc_model.proofs.PortSets.{next_behind, next_left, none_left}
use Rattle.dxc_model.proofs.port_set.next.Goals as goal

pub returns-then-rest-ne0 : goal.returns-then-rest-ne0
returns-then-rest-ne0 c =
    let words = c.args.words.now in
    let fits : get_or words (c.args.port / 64) 0 < 2 ^ 64 = omega (arith, c.type_inv.words (c.args.port / 64)) in
    next_left words c.args.port fits (omega arith)

pub returns : goal.returns
returns c =
    let words = c.args.words.now in
    next_behind words c.args.port ((c.args.port / 64 + 1) * 64) _ (omega arith) (λ k l m. none_left words c.args.port k c.if-rest-ne0.false l m) c.first.ensures

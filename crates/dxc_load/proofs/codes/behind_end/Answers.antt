use Rattle.std.proofs.Common.{take, arith}
use Rattle.dxc_load.proofs.Coding.{none_before, none_in, parted_at}
use Rattle.dxc_load.proofs.codes.behind_end.Goals as goal

pub returns-in_err-at : goal.returns-in_err-at
returns-in_err-at c = rw c.from_residual.ensures (none_in 59 c.args.text.now c.in_err-at.ensures)

pub returns : goal.returns
returns c =
    let at = c.in_ok-at.at in
    let first = c.in_ok-at.ensures in
    (take at c.args.text.now, none_before 59 at c.args.text.now (omega (arith, first.0.high)) first.0.before, parted_at 59 at c.args.text.now first.0.high first.1)

use Rattle.std.proofs.Common.{◌+◌, ◌-◌, arith}
use Rattle.dxc_disk.proofs.DiskSteps.{spends_more, spends_none, spends_on}
use Rattle.dxc_disk.proofs.LookSteps.{looks_on, looks_same}
use Rattle.standby_link.proofs.joins.read_on.Goals as goal

pub loop-at-init : goal.loop-at-init
loop-at-init g c = record {
  begun = omega arith;
  within = c.requires.within;
  looks = λ t. looks_same _;
  faults = omega arith;
  room = spends_none _ _;
}

pub loop-at-preserved : goal.loop-at-preserved
loop-at-preserved g c = record {
  begun = omega (arith, c.loop-at.invariant.begun);
  within = omega (arith, c.min-count.ensures, c.loop-at-test.true);
  looks = λ t. looks_on _ _ _ (g.met.D.Disk.is_disk _ t) (c.loop-at.invariant.looks t) (c.read.ensures.looks t);
  faults = omega (arith, c.loop-at.invariant.faults, c.read.ensures.cause.later);
  room = spends_more ((c.loop-at.at - c.args.from) + 1) ((c.loop-at.at + c.min-count.result) - c.args.from) _ _ (omega (arith, c.min-count.ensures, c.loop-at-test.true, c.loop-at.invariant.begun))
      (spends_on (c.loop-at.at - c.args.from) 1 _ _ _ c.loop-at.invariant.room c.read.ensures.room);
}

pub returns-clause-room : goal.returns-clause-room
returns-clause-room g c = spends_more (c.loop-at.at - c.args.from) (c.args.end - c.args.from) _ _ (omega (arith, c.loop-at.invariant.within)) c.loop-at.invariant.room

pub returns-then-is_err-clause-room : goal.returns-then-is_err-clause-room
returns-then-is_err-clause-room g c = spends_more ((c.loop-at.at - c.args.from) + 1) (c.args.end - c.args.from) _ _ (omega (arith, c.loop-at-test.true, c.loop-at.invariant.begun))
    (spends_on (c.loop-at.at - c.args.from) 1 _ _ _ c.loop-at.invariant.room c.read.ensures.room)

pub returns-then-is_err-clause-looks : goal.returns-then-is_err-clause-looks
returns-then-is_err-clause-looks g c = λ t. looks_on _ _ _ (g.met.D.Disk.is_disk _ t) (c.loop-at.invariant.looks t) (c.read.ensures.looks t)

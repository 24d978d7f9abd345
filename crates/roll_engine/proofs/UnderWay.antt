-- A rolling of a valid work, from its start to its end.
use Rattle.std.proofs.Common.{ℕ, ◌+◌, length, sym, ap, subst, arith}
use Rattle.roll_plan.specs.declared.work.Work.{Work}
use Rattle.roll_plan.specs.Works.{switches_in, writes_of}
use Rattle.paull_chain.specs.Works.{AreValidOps}
use Rattle.roll_engine.specs.Rollings.{rest_of}
use Rattle.roll_engine.specs.Stages.{IsMidway}
use Rattle.roll_engine.specs.UnderWay.{IsBegun, IsReadyUnderWay, IsTakenOn, IsDoneUnderWay}
use Rattle.roll_engine.proofs.Running.{drop_none, midway_on, switch_counted, switches_join}
use Rattle.roll_engine.proofs.Colouring.{begun_at_rest, ready_midway, done_midway}

pub under_way_begun : IsBegun
under_way_begun z c w m p v h room = record { proper = p; valid = v; midway = begun_at_rest z c (writes_of w) m h; room = let e = ap switches_in (drop_none (writes_of w)) in omega arith }

pub under_way_ready : IsReadyUnderWay
under_way_ready z c r m h = ready_midway z c r.work.ops.items r.step m h.proper h.valid h.midway h.room

pub under_way_on : IsTakenOn
under_way_on z c old new m m' h k =
    let a = k.advances in
    let next : IsMidway z c (writes_of old.work) (old.step + length a.writes) m' = midway_on z c (writes_of old.work) a.writes (rest_of new) old.step m m' h.midway a.runs a.split in record {
      proper = h.proper;
      valid = subst (λ (w : Work). AreValidOps c w.ops.items) (sym k.work) h.valid;
      midway = subst (λ (t : ℕ). IsMidway z c (writes_of new.work) t m') (sym k.step) (subst (λ (w : Work). IsMidway z c (writes_of w) (old.step + length a.writes) m') (sym k.work) next);
      room = let n = switch_counted z a.writes m m' a.runs in let s = switches_join a.writes (rest_of new) in let same = ap switches_in a.split in let room = h.room in omega arith;
    }

pub under_way_done : IsDoneUnderWay
under_way_done z c r m h none = done_midway z c r.work.ops.items r.step m h.proper h.valid h.midway none

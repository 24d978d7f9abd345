use Rattle.std.specs.Prelude.{IfSome}
use Rattle.std.proofs.Common.{◌<◌, ◌≤◌, ◌^◌, ℕ, ⊎_elim, length, refl, sym, ◌∙◌, subst, arith}
use Rattle.xc_core.specs.Restarts.{IsFound}
use Rattle.xc_core.proofs.Halting.{alone_left, ends_at, found_resumes, may_count, may_take_up, rejoined_rest, resumed_rest}
use Rattle.xc_core.proofs.recovery.end_recovery.Goals as goal

pub take_up-requires : goal.take_up-requires
take_up-requires g c =
    let w = c.requires.recovers in
    let h : IsFound g.D.Disk.told g.D.Disk.state w.0 w.1 w.2 c.args.p.now = ⊎_elim (λ x. found_resumes g.D.Disk.told g.D.Disk.state w.0 w.1 w.2 c.args.p.now c.args.rolling.now x) (λ x. x.0.found) w.3 in
    may_take_up g.D.Disk.told g.D.Disk.state w.0 w.1 w.2 c.args.p.now h c.args.state.now.table w.4

pub changes_with-p-requires : goal.changes_with-p-requires
changes_with-p-requires g c =
    let w = c.requires.recovers in
    let h : IsFound g.D.Disk.told g.D.Disk.state w.0 w.1 w.2 c.args.p.now = ⊎_elim (λ x. found_resumes g.D.Disk.told g.D.Disk.state w.0 w.1 w.2 c.args.p.now c.args.rolling.now x) (λ x. x.0.found) w.3 in
    may_count g.D.Disk.told g.D.Disk.state w.0 w.1 w.2 c.args.p.now h

pub report-requires : goal.report-requires
report-requires g c =
    let w = c.requires.recovers in
    let h : IsFound g.D.Disk.told g.D.Disk.state w.0 w.1 w.2 c.args.p.now = ⊎_elim (λ x. found_resumes g.D.Disk.told g.D.Disk.state w.0 w.1 w.2 c.args.p.now c.args.rolling.now x) (λ x. x.0.found) w.3 in
    subst (λ (n : ℕ). IfSome c.args.p.now.replayed.lacking (λ _. n < 2 ^ 48)) (sym c.requires.counted) (may_count g.D.Disk.told g.D.Disk.state w.0 w.1 w.2 c.args.p.now h)

pub returns-clause-ends : goal.returns-clause-ends
returns-clause-ends g c = λ b lacking end h same.
    let p = c.args.p.now in
    let none = sym (alone_left g.D.Disk.told g.D.Disk.state b p.replayed.matrix p.mover.mover c.args.rolling.now h.on_way.alone) ∙ c.requires.done in
    let rest = resumed_rest g.D.Disk.told g.D.Disk.state b lacking end p c.args.rolling.now h none in
    ends_at g.D.Disk.told g.D.Disk.state b lacking end p (found_resumes g.D.Disk.told g.D.Disk.state b lacking end p c.args.rolling.now h) end.fold.switches rest.2 rest.1 rest.0 c.args.state.now.table _ _ _ _ _ same c.take_up.ensures c.swap.ensures.x_after c.swap.ensures.y_after c.changes_with-p.ensures c.switches-p.ensures

pub returns-clause-ends_cold : goal.returns-clause-ends_cold
returns-clause-ends_cold g c = λ b lacking end h same.
    let p = c.args.p.now in
    let few : length p.mover.mover.log ≤ 2 ^ 48 = ⊎_elim (λ x. let room = x.on_way.under_way.room in omega (arith, room)) (λ x. let room = x.1 in omega (arith, room)) c.requires.recovers.3 in
    ends_at g.D.Disk.told g.D.Disk.state b lacking end p h.found (length p.mover.mover.log) few refl (rejoined_rest g.D.Disk.told g.D.Disk.state b lacking end p c.args.rolling.now h c.requires.done) c.args.state.now.table _ _ _ _ _ same c.take_up.ensures c.swap.ensures.x_after c.swap.ensures.y_after c.changes_with-p.ensures c.switches-p.ensures

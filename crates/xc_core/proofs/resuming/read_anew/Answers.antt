use Rattle.std.proofs.Common.{◌≡◌, Ok, refl, ◌∙◌, ap, inl, inr, subst}
use Rattle.dxc_disk.specs.Disks.{IsDisk}
use Rattle.fabric_words.specs.Seats.{MoverAt}
use Rattle.roll_engine.specs.Rollings.{RollingAt}
use Rattle.xc_core.specs.declared.provisioner.Provisioner.{Provisioner}
use Rattle.xc_core.specs.declared.recovery.Recovered.{Recovered}
use Rattle.xc_core.specs.declared.recovery.Recovered.TheVariants as recovered
use Rattle.xc_core.specs.declared.replayed.Replayed.{Replayed}
use Rattle.xc_core.specs.Askings.{RereadAsked}
use Rattle.xc_core.specs.Endings.{IfWarm}
use Rattle.xc_core.specs.Turns.{RereadIs}
use Rattle.xc_core.proofs.Restored.{halted_now, was_astray, was_faulty, was_resumed, was_stopped, was_unsettled}
use Rattle.xc_core.proofs.Stopping.{by_stop}
use Rattle.xc_core.proofs.resuming.read_anew.Given as given
use Rattle.xc_core.proofs.resuming.read_anew.Goals as goal

-- what every disk is
disks : (g : given.Over) (d : g.row.D.Denot) → g.D.Disk.told → IsDisk (g.D.Disk.state d)
disks g d told = g.met.D.Disk.is_disk d told

pub make_halted-requires : goal.make_halted-requires
make_halted-requires g c = let w = c.requires.held in record { home = (w.3.out.now, elim w.3.stage [ inl a ↦ inl a.0 | inr b ↦ inr b.0 ]) }

pub recover-requires-clause-own : goal.recover-requires-clause-own
recover-requires-clause-own g c = ap (λ (m : MoverAt). m.fabric) c.make_halted.ensures.mover ∙ c.requires.own

pub recover-requires-clause-halted : goal.recover-requires-clause-halted
recover-requires-clause-halted g c =
    let w = c.requires.held in
    (w.3.out.now, c.in-Ok.ensures.halted w.3.out.now (elim w.3.stage [ inl a ↦ inl a.0 | inr b ↦ inr b.0 ]), ap (λ (y : Replayed). y.expected) c.make_halted.ensures.replayed ∙ w.3.copied)

pub returns-in-Err-clause-reread : goal.returns-in-Err-clause-reread
returns-in-Err-clause-reread g c = λ o own h x. was_unsettled g.D.Disk.told g.D.Disk.state o own c.args.asked.now h c.args.p.now c.make_halted.new.p x c.requires.asked c.make_halted.ensures.ground c.make_halted.ensures.doubt c.make_halted.ensures.cause.later c.make_halted.ensures.room (disks g) c.make_halted.ensures.same c.make_halted.ensures.any_moment c.in-Err.ensures.unsettled (c.in-Err.ensures.cause.cause refl)

-- what holds if it is warm, where it is
warm_by : (P : RollingAt → Type 0) (x : Recovered) (r : RollingAt) → x ≡ recovered.Warm r → IfWarm x P → P r
warm_by P x r is holds = subst (λ (y : Recovered). IfWarm y P) is holds

pub returns-in-Warm-clause-reread : goal.returns-in-Warm-clause-reread
returns-in-Warm-clause-reread g c = λ o own h x.
    let r = warm_by _ c.in_ok-found.found c.in-Warm.rolling c.in-Warm.is (c.in_ok-found.ensures.resumes x.out.now (halted_now g.D.Disk.told g.D.Disk.state o own c.args.asked.now h c.args.p.now c.make_halted.new.p x c.requires.asked c.make_halted.ensures.ground c.make_halted.ensures.doubt c.make_halted.ensures.cause.later c.make_halted.ensures.room (disks g) c.make_halted.ensures.same c.make_halted.ensures.any_moment c.in-Ok.ensures.halted) (ap (λ (y : Replayed). y.expected) c.make_halted.ensures.replayed ∙ x.copied)) in
    was_resumed g.D.Disk.told g.D.Disk.state o own c.args.asked.now h c.args.p.now c.make_halted.new.p x c.requires.asked c.make_halted.ensures.ground c.make_halted.ensures.doubt c.make_halted.ensures.cause.later c.make_halted.ensures.room (disks g) c.make_halted.ensures.same c.make_halted.ensures.any_moment c.in-Ok.ensures.halted c.recover.new.p c.recover.ensures.ground (ap (λ (y : Provisioner g.row.D.Denot). y.doubt) c.recover.ensures.others) c.recover.ensures.fault.later c.recover.ensures.room (λ k. c.recover.ensures.any_moment k x.out.now (halted_now g.D.Disk.told g.D.Disk.state o own c.args.asked.now h c.args.p.now c.make_halted.new.p x c.requires.asked c.make_halted.ensures.ground c.make_halted.ensures.doubt c.make_halted.ensures.cause.later c.make_halted.ensures.room (disks g) c.make_halted.ensures.same c.make_halted.ensures.any_moment c.in-Ok.ensures.halted)) (c.recover.ensures.halted x.out.now (halted_now g.D.Disk.told g.D.Disk.state o own c.args.asked.now h c.args.p.now c.make_halted.new.p x c.requires.asked c.make_halted.ensures.ground c.make_halted.ensures.doubt c.make_halted.ensures.cause.later c.make_halted.ensures.room (disks g) c.make_halted.ensures.same c.make_halted.ensures.any_moment c.in-Ok.ensures.halted) (ap (λ (y : Replayed). y.expected) c.make_halted.ensures.replayed ∙ x.copied)) c.in-Warm.rolling r.0 r.1 r.2

pub returns-in-Cold-clause-reread : goal.returns-in-Cold-clause-reread
returns-in-Cold-clause-reread g c = λ o own h x.
    was_astray g.D.Disk.told g.D.Disk.state o own c.args.asked.now h c.args.p.now c.make_halted.new.p x c.requires.asked c.make_halted.ensures.ground c.make_halted.ensures.doubt c.make_halted.ensures.cause.later c.make_halted.ensures.room (disks g) c.make_halted.ensures.same c.make_halted.ensures.any_moment c.in-Ok.ensures.halted c.recover.new.p c.recover.ensures.ground (ap (λ (y : Provisioner g.row.D.Denot). y.doubt) c.recover.ensures.others) c.recover.ensures.fault.later c.recover.ensures.room (λ k. c.recover.ensures.any_moment k x.out.now (halted_now g.D.Disk.told g.D.Disk.state o own c.args.asked.now h c.args.p.now c.make_halted.new.p x c.requires.asked c.make_halted.ensures.ground c.make_halted.ensures.doubt c.make_halted.ensures.cause.later c.make_halted.ensures.room (disks g) c.make_halted.ensures.same c.make_halted.ensures.any_moment c.in-Ok.ensures.halted)) (c.recover.ensures.halted x.out.now (halted_now g.D.Disk.told g.D.Disk.state o own c.args.asked.now h c.args.p.now c.make_halted.new.p x c.requires.asked c.make_halted.ensures.ground c.make_halted.ensures.doubt c.make_halted.ensures.cause.later c.make_halted.ensures.room (disks g) c.make_halted.ensures.same c.make_halted.ensures.any_moment c.in-Ok.ensures.halted) (ap (λ (y : Replayed). y.expected) c.make_halted.ensures.replayed ∙ x.copied)) (λ t. elim c.in-Cold.is [ inl y ↦ c.in_ok-found.ensures.warm t y.0 (ap Ok y.1) | inr y ↦ c.in_ok-found.ensures.astray t y.0 (ap Ok y.1) ])

pub returns-in-Fault-clause-reread : goal.returns-in-Fault-clause-reread
returns-in-Fault-clause-reread g c = λ o own h x.
    was_faulty g.D.Disk.told g.D.Disk.state o own c.args.asked.now h c.args.p.now c.make_halted.new.p x c.requires.asked c.make_halted.ensures.ground c.make_halted.ensures.doubt c.make_halted.ensures.cause.later c.make_halted.ensures.room (disks g) c.make_halted.ensures.same c.make_halted.ensures.any_moment c.in-Ok.ensures.halted c.recover.new.p c.recover.ensures.ground (ap (λ (y : Provisioner g.row.D.Denot). y.doubt) c.recover.ensures.others) c.recover.ensures.fault.later c.recover.ensures.room (λ k. c.recover.ensures.any_moment k x.out.now (halted_now g.D.Disk.told g.D.Disk.state o own c.args.asked.now h c.args.p.now c.make_halted.new.p x c.requires.asked c.make_halted.ensures.ground c.make_halted.ensures.doubt c.make_halted.ensures.cause.later c.make_halted.ensures.room (disks g) c.make_halted.ensures.same c.make_halted.ensures.any_moment c.in-Ok.ensures.halted)) (c.recover.ensures.halted x.out.now (halted_now g.D.Disk.told g.D.Disk.state o own c.args.asked.now h c.args.p.now c.make_halted.new.p x c.requires.asked c.make_halted.ensures.ground c.make_halted.ensures.doubt c.make_halted.ensures.cause.later c.make_halted.ensures.room (disks g) c.make_halted.ensures.same c.make_halted.ensures.any_moment c.in-Ok.ensures.halted) (ap (λ (y : Replayed). y.expected) c.make_halted.ensures.replayed ∙ x.copied)) (c.in_ok-found.ensures.fault.cause (ap Ok c.in-Fault.is))

pub returns-in_err-found-clause-reread : goal.returns-in_err-found-clause-reread
returns-in_err-found-clause-reread g c = λ o own h x.
    by_stop (RereadIs g.D.Disk.told g.D.Disk.state o own c.args.asked.now h c.recover.new.p) c.from_residual.result c.from_residual.ensures.0 (λ e.
    was_stopped g.D.Disk.told g.D.Disk.state o own c.args.asked.now h c.args.p.now c.make_halted.new.p x c.requires.asked c.make_halted.ensures.ground c.make_halted.ensures.doubt c.make_halted.ensures.cause.later c.make_halted.ensures.room (disks g) c.make_halted.ensures.same c.make_halted.ensures.any_moment c.in-Ok.ensures.halted c.recover.new.p c.recover.ensures.ground (ap (λ (y : Provisioner g.row.D.Denot). y.doubt) c.recover.ensures.others) c.recover.ensures.fault.later c.recover.ensures.room (λ k. c.recover.ensures.any_moment k x.out.now (halted_now g.D.Disk.told g.D.Disk.state o own c.args.asked.now h c.args.p.now c.make_halted.new.p x c.requires.asked c.make_halted.ensures.ground c.make_halted.ensures.doubt c.make_halted.ensures.cause.later c.make_halted.ensures.room (disks g) c.make_halted.ensures.same c.make_halted.ensures.any_moment c.in-Ok.ensures.halted)) (c.recover.ensures.halted x.out.now (halted_now g.D.Disk.told g.D.Disk.state o own c.args.asked.now h c.args.p.now c.make_halted.new.p x c.requires.asked c.make_halted.ensures.ground c.make_halted.ensures.doubt c.make_halted.ensures.cause.later c.make_halted.ensures.room (disks g) c.make_halted.ensures.same c.make_halted.ensures.any_moment c.in-Ok.ensures.halted) (ap (λ (y : Replayed). y.expected) c.make_halted.ensures.replayed ∙ x.copied)))

pub returns-in_err-found-clause-asked : goal.returns-in_err-found-clause-asked
returns-in_err-found-clause-asked g c = by_stop (RereadAsked (g.G.Gate.asked c.args.gate.now c.recover.new.gate)) c.from_residual.result c.from_residual.ensures.0 (λ e. c.recover.ensures.asked)

pub returns-in-Err-clause-asked : goal.returns-in-Err-clause-asked
returns-in-Err-clause-asked g c = inl (g.G.Gate.unasked c.args.gate.now)

pub returns-in-Fault-clause-asked : goal.returns-in-Fault-clause-asked
returns-in-Fault-clause-asked g c = inr c.recover.ensures.asked

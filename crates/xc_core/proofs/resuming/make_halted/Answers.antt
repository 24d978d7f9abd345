use Rattle.std.proofs.Common.{◌≡◌, true, false, None, Some, sym, ◌∙◌, ap, subst, inl, inr}
use Rattle.dxc_disk.specs.Disks.{LeavesOnly}
use Rattle.xc_core.specs.declared.provisioner.Provisioner.{Provisioner}
use Rattle.xc_core.specs.Journals.{IsOldOrDoubted}
use Rattle.xc_core.specs.Restarts.{IsHalted}
use Rattle.xc_core.proofs.Standing.{marked_home}
use Rattle.xc_core.proofs.resuming.make_halted.Goals as goal

pub returns-clause-halted : goal.returns-clause-halted
returns-clause-halted g c = λ b either. elim either [
  | inl home ↦ subst (λ (x : Provisioner g.row.D.Denot). IsHalted g.D.Disk.told g.D.Disk.state b x) (sym c.halt.ensures) (marked_home g.D.Disk.told g.D.Disk.state b c.settle.new.p (c.settle.ensures.home b home))
  | inr h ↦ absurd (let e : true ≡ false = sym h.halted ∙ (sym c.halted.ensures ∙ c.if-halted.false) in cc)
]

pub returns-then-halted-clause-doubt : goal.returns-then-halted-clause-doubt
returns-then-halted-clause-doubt g c = λ op here. (here, λ halted. halted)

pub returns-in_err-settle-clause-doubt : goal.returns-in_err-settle-clause-doubt
returns-in_err-settle-clause-doubt g c = λ op here. (c.settle.ensures.doubt op here, λ halted. sym (ap (λ (x : Provisioner g.row.D.Denot). x.halted) c.settle.ensures.others) ∙ halted)

-- it was settled
pub returns-clause-doubt : goal.returns-clause-doubt
returns-clause-doubt g c = λ op here.
    let none = ap (λ (x : Provisioner g.row.D.Denot). x.doubt) c.halt.ensures ∙ c.in_ok-settle.ensures.settled.1 in
    absurd (let e : None ≡ Some op = sym none ∙ here in cc)

pub returns-clause-settled : goal.returns-clause-settled
returns-clause-settled g c = λ ready. (
  ap (λ (x : Provisioner g.row.D.Denot). x.journal.1.to_mend) c.halt.ensures ∙ c.in_ok-settle.ensures.settled.0,
  ap (λ (x : Provisioner g.row.D.Denot). x.doubt) c.halt.ensures ∙ c.in_ok-settle.ensures.settled.1,
)

pub returns-then-halted-clause-settled : goal.returns-then-halted-clause-settled
returns-then-halted-clause-settled g c = λ ready. absurd (let e : true ≡ false = sym c.if-halted.true ∙ (c.halted.ensures ∙ ready) in cc)

pub returns-clause-replayed : goal.returns-clause-replayed
returns-clause-replayed g c = ap (λ (x : Provisioner g.row.D.Denot). x.replayed) c.halt.ensures ∙ ap (λ (x : Provisioner g.row.D.Denot). x.replayed) c.settle.ensures.others

pub returns-clause-mover : goal.returns-clause-mover
returns-clause-mover g c = ap (λ (x : Provisioner g.row.D.Denot). x.mover) c.halt.ensures ∙ ap (λ (x : Provisioner g.row.D.Denot). x.mover) c.settle.ensures.others

pub returns-in_err-settle-clause-replayed : goal.returns-in_err-settle-clause-replayed
returns-in_err-settle-clause-replayed g c = ap (λ (x : Provisioner g.row.D.Denot). x.replayed) c.settle.ensures.others

pub returns-in_err-settle-clause-mover : goal.returns-in_err-settle-clause-mover
returns-in_err-settle-clause-mover g c = ap (λ (x : Provisioner g.row.D.Denot). x.mover) c.settle.ensures.others

pub returns-then-halted-clause-any_moment : goal.returns-then-halted-clause-any_moment
returns-then-halted-clause-any_moment g c = λ told b home. absurd (let e : false ≡ true = sym home.ready ∙ (sym c.halted.ensures ∙ c.if-halted.true) in cc)

pub returns-clause-any_moment : goal.returns-clause-any_moment
returns-clause-any_moment g c = λ told b home. subst (λ (x : Provisioner g.row.D.Denot). LeavesOnly (g.D.Disk.state c.args.p.now.journal.0) (g.D.Disk.state x.journal.0) (IsOldOrDoubted b c.args.p.now.doubt)) (sym c.halt.ensures) (c.settle.ensures.any_moment told b home)

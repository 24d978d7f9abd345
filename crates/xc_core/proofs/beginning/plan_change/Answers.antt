use Rattle.std.proofs.Common.{◌≡◌, inr, ℕ, ◌+◌, Bool, true≢false, List, length, sym, ap, ◌∙◌, subst}
use Rattle.std.specs.Bool.{OnTrue, OnFalse}
use Rattle.dxc_model.specs.Tables.{Board}
use Rattle.dxc_model.specs.Verdicts.{Grants, MayTake}
use Rattle.dxc_model.proofs.Verdicts.{own_verdict}
use Rattle.roll_plan.specs.declared.op.Choice.{Choice}
use Rattle.roll_plan.specs.declared.op.LegOp.{LegOp}
use Rattle.roll_plan.specs.declared.work.Work.{Work}
use Rattle.roll_plan.specs.Works.{switches_in, writes_of}
use Rattle.roll_engine.specs.UnderWay.{unmade}
use Rattle.xc_journal.specs.Spelling.{spelling}
use Rattle.xc_recovery.specs.ChangeWorks.{ChangesPlanned, IsChangeWork, choices_in}
use Rattle.xc_core.specs.Reckonings.{limit_by}
use Rattle.xc_core.proofs.Rolling.{placed_as, plan_is, plan_none, plan_over}
use Rattle.xc_core.proofs.beginning.plan_change.Goals as goal

pub plan_ahead-requires-clause-placed : goal.plan_ahead-requires-clause-placed
plan_ahead-requires-clause-placed g c = let w = c.requires.home in placed_as w.0 c.args.table.now c.args.p.now.matrix (sym w.3) w.2.past.matrix w.2.past.placed

pub plan_ahead-requires-clause-granted : goal.plan_ahead-requires-clause-granted
plan_ahead-requires-clause-granted g c = let w = c.requires.home in subst (λ (t : Board). MayTake t c.args.change.now) w.3 (own_verdict w.0.fold.table w.1 c.args.change.now w.4)

pub returns-then-not-plan_ahead-clause-planned : goal.returns-then-not-plan_ahead-clause-planned
returns-then-not-plan_ahead-clause-planned g c = λ b op h same granted.
    let none = subst (λ (r : Bool). OnFalse r ((ops : List LegOp) → ¬ ChangesPlanned c.args.table.now c.args.p.now.matrix c.args.change.now ops)) c.if-not-plan_ahead.true c.plan_ahead.ensures.none in
    inr
    (plan_none g.D.Disk.told g.D.Disk.state b c.args.p.now h c.args.table.now op c.args.change.now same (subst (λ (t : Board). Grants t op c.args.change.now) same granted) (λ out. true≢false (sym (c.plan_ahead.ensures.always out) ∙ c.if-not-plan_ahead.true)) none)

pub returns-in-Some-clause-planned : goal.returns-in-Some-clause-planned
returns-in-Some-clause-planned g c = λ b op h same granted.
    let w = c.plan_ahead.new.rolling.work in
    let planned = subst (λ (r : Bool). OnTrue r (ChangesPlanned c.args.table.now c.args.p.now.matrix c.args.change.now w.ops.items)) c.if-not-plan_ahead.false c.plan_ahead.ensures.planned in
    let all : c.switches.result + c.switches-2.result ≡ length c.args.p.now.mover.mover.log + switches_in (writes_of w) = (λ i. c.switches.ensures i + (c.switches-2.ensures.count ∙ ap (λ (x : Work). switches_in (writes_of x)) c.work.ensures) i) in
    inr
    (plan_over g.D.Disk.told g.D.Disk.state b c.args.p.now h c.args.table.now op c.args.change.now w c.in-Some.cause same (subst (λ (t : Board). Grants t op c.args.change.now) same granted) planned
    (c.in-Some.ensures.met ∙ ap (λ (n : ℕ). limit_by n c.args.p.now.changes) all))

pub returns-in-None-clause-planned : goal.returns-in-None-clause-planned
returns-in-None-clause-planned g c = λ b op h same granted.
    let w = c.plan_ahead.new.rolling.work in
    let planned = subst (λ (r : Bool). OnTrue r (ChangesPlanned c.args.table.now c.args.p.now.matrix c.args.change.now w.ops.items)) c.if-not-plan_ahead.false c.plan_ahead.ensures.planned in
    let valid = subst (λ (r : Bool). OnTrue r (IsChangeWork c.args.table.now c.args.p.now.matrix c.args.change.now w.ops.items)) c.if-not-plan_ahead.false c.plan_ahead.ensures.valid in
    let fresh = subst (λ (r : Bool). OnTrue r (c.plan_ahead.new.rolling ≡ unmade w)) c.if-not-plan_ahead.false c.plan_ahead.ensures.unmade in
    let all : c.switches.result + c.switches-2.result ≡ length c.args.p.now.mover.mover.log + switches_in (writes_of w) = (λ i. c.switches.ensures i + (c.switches-2.ensures.count ∙ ap (λ (x : Work). switches_in (writes_of x)) c.work.ensures) i) in (
      fresh,
      plan_is g.D.Disk.told g.D.Disk.state b c.args.p.now h c.args.table.now op c.args.change.now w c.record_of.result same (subst (λ (t : Board). Grants t op c.args.change.now) same granted) planned valid
          (c.in-None.ensures.met ∙ ap (λ (n : ℕ). limit_by n c.args.p.now.changes) all)
          (c.record_of.ensures.spelled ∙ ap (λ (hs : List Choice). spelling c.args.change.now hs) (c.choices_of.ensures ∙ ap (λ (x : Work). choices_in x.ops.items) c.work-in-None.ensures)) c.record_of.ensures.label,
    )

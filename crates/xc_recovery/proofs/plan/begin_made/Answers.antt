use Rattle.std.proofs.Common.{◌≡◌, refl, sym, subst}
use Rattle.roll_engine.specs.Rollings.{RollingAt}
use Rattle.roll_engine.specs.UnderWay.{unmade}
use Rattle.xc_recovery.specs.ChangeWorks.{ChangesPlanned, IsChangeWork}
use Rattle.xc_recovery.proofs.plan.begin_made.Goals as goal

pub returns-in-Some-clause-planned : goal.returns-in-Some-clause-planned
returns-in-Some-clause-planned c = subst (λ (r : RollingAt). ChangesPlanned c.args.table.now c.args.matrix.now c.args.change.now r.work.ops.items) (sym c.of.ensures) c.in-Some.ensures.planned

pub returns-in-Some-clause-unmade : goal.returns-in-Some-clause-unmade
returns-in-Some-clause-unmade c = subst (λ (r : RollingAt). r ≡ unmade r.work) (sym c.of.ensures) refl

pub returns-in-Some-clause-valid : goal.returns-in-Some-clause-valid
returns-in-Some-clause-valid c = subst (λ (r : RollingAt). IsChangeWork c.args.table.now c.args.matrix.now c.args.change.now r.work.ops.items) (sym c.of.ensures) c.in-Some.ensures.valid

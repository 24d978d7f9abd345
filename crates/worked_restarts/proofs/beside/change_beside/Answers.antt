use Rattle.std.proofs.Common.{ℕ, [], ◌∷◌, ◌++◌, sym, subst}
use Rattle.dxc_model.specs.declared.entry.Outcome.TheVariants.{Taken}
use Rattle.xc_core.specs.Begins.{plan_of}
use Rattle.xc_core.specs.Seeing.{HasPlan, entry}
use Rattle.xc_core.specs.States.{opening_of}
use Rattle.worked_restarts.proofs.beside.change_beside.Goals as goal

pub take-requires-clause-seen : goal.take-requires-clause-seen
take-requires-clause-seen g c = let w = c.requires.seated.2 in (w.0, w.1)

pub note_beside-requires-clause-planned : goal.note_beside-requires-clause-planned
note_beside-requires-clause-planned g c =
    let w = c.requires.seated.2 in
    let o = opening_of g.D.Disk.state c.args.turns.now.first in
    let took = c.in-Rolling.ensures.took w.0 w.1 in
    let seen = (w.0 ++ took.0.later) ++ entry c.args.pass.now.number c.args.op.now Taken ∷ [] in
    (seen, took.0.saw, subst (λ (n : ℕ). HasPlan g.D.Disk.told g.D.Disk.state o n seen c.in-Rolling.driver.value.p (plan_of c.args.op.now c.in-Rolling.driver.value.rolling c.in-Rolling.bytes)) (sym c.take.ensures.pass.goes.same.0) took.1)

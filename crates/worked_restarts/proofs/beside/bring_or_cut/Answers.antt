use Rattle.std.proofs.Common.{[], ◌∷◌, ◌++◌, sym, inr}
use Rattle.dxc_model.specs.declared.entry.Outcome.TheVariants.{Cut, Done}
use Rattle.xc_core.specs.Seeing.{entry}
use Rattle.xc_core.proofs.Turning.{rests_now}
use Rattle.worked_restarts.proofs.beside.bring_or_cut.Goals as goal

pub returns-in-Ok : goal.returns-in-Ok
returns-in-Ok g c =
    let w = c.requires.taken in
    let done = c.bring.ensures.done w.0 w.1 in
    let before = w.0 ++ done.1.later in
    let e = entry c.args.pass.now.number c.args.op.now (Done done.0) in
    (c.bring.ensures.pass.has, c.requires.fabric, (before ++ e ∷ [], done.1.saw, rests_now c.bring.new.pass.number before e (sym c.bring.ensures.pass.goes.same.0) (λ is. cc)), c.bring.ensures.astray)

pub returns-in_default : goal.returns-in_default
returns-in_default g c =
    let w = c.requires.taken in
    let cut = c.cut.ensures.cut w.0 w.1 in
    let before = w.0 ++ cut.0.later in
    let e = entry c.args.pass.now.number c.args.op.now Cut in
    (c.cut.ensures.pass.has, c.requires.fabric, (before ++ e ∷ [], cut.0.saw, rests_now c.cut.new.pass.number before e (sym c.cut.ensures.pass.goes.same.0) (λ is. cc)), c.cut.ensures.astray)

pub cut-requires-clause-taken : goal.cut-requires-clause-taken
cut-requires-clause-taken g c = let w = c.requires.taken in (w.0, w.1, inr w.2)

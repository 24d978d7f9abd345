use Rattle.std.proofs.Common.{◌≡◌, ℕ, Option, refl, sym, ap, ◌∙◌, subst}
use Rattle.dxc_model.specs.declared.op.Change.{Change}
use Rattle.dxc_model.specs.Tables.{Board}
use Rattle.fabric_core.specs.declared.size.Size.{Size}
use Rattle.fabric_words.specs.Seats.{FabricId}
use Rattle.paull_matrix.specs.Colourings.{Colouring}
use Rattle.xc_recovery.specs.Stages.{IsLastWork}
use Rattle.xc_core.specs.declared.replayed.Replayed.{Replayed}
use Rattle.xc_core.specs.Recoveries.{IsAstray, ResumedIs}
use Rattle.xc_core.proofs.Recovering.{beside, go_astray, go_halted, go_recovered, go_rejoins, go_resumes, go_warm, last, not_neither, way_few, way_shape}
use Rattle.xc_core.proofs.recovery.go_on.Goals as goal

-- the replayed matrix is the one that was read
matrix_as : (s u : Replayed) (e : Board) → s ≡ record u { expected = e } → s.matrix ≡ u.matrix
matrix_as s u e is = ap (λ (x : Replayed). x.matrix) is

-- the replayed one when what was lacking is noted
replayed_as : (s u : Replayed) (m : Colouring) (e : Board) (l : Option Change) → s ≡ record u { expected = e } → m ≡ s.matrix → s.expected ≡ e → record { matrix = m; table = s.table; expected = s.expected; lacking = l } ≡ record u { expected = e; lacking = l }
replayed_as s u m e l is same here = λ i. record { matrix = (same ∙ ap (λ (x : Replayed). x.matrix) is) i; table = (ap (λ (x : Replayed). x.table) is) i; expected = here i; lacking = l }

pub compare-requires : goal.compare-requires
compare-requires g c =
    let w = c.requires.reads in
    record { past = (w.0, beside g.D.Disk.told g.D.Disk.state w.0 c.args.p.now c.args.work.ops.items w.1 c.args.p.now.replayed.expected w.2) }

pub resume-requires-clause-shape : goal.resume-requires-clause-shape
resume-requires-clause-shape g c =
    let w = c.requires.reads in
    ap (λ (x : Colouring). x.shape) (matrix_as c.compare.new.replayed c.args.p.now.replayed c.compare.new.replayed.expected c.compare.ensures.replayed) ∙ (way_shape g.D.Disk.told g.D.Disk.state w.0 c.args.p.now c.args.work.ops.items w.1 ∙ ap (λ (f : FabricId). f.size.shape) c.requires.own)

pub resume-requires-clause-made : goal.resume-requires-clause-made
resume-requires-clause-made g c =
    let w = c.requires.reads in
    let l = last g.D.Disk.told g.D.Disk.state w.0 c.args.p.now c.args.work.ops.items w.1 in
    (l.0, subst (λ (m : Colouring). IsLastWork l.0 c.args.work.ops.items m) (sym (matrix_as c.compare.new.replayed c.args.p.now.replayed c.compare.new.replayed.expected c.compare.ensures.replayed)) l.1)

pub resume-requires-clause-few : goal.resume-requires-clause-few
resume-requires-clause-few g c = let w = c.requires.reads in way_few g.D.Disk.told g.D.Disk.state w.0 c.args.p.now c.args.work.ops.items w.1

pub returns-in-None-clause-halted : goal.returns-in-None-clause-halted
returns-in-None-clause-halted g c = λ b h same. go_halted g.D.Disk.told g.D.Disk.state b c.args.p.now c.args.work.ops.items h c.compare.new.matrix c.args.p.now.mover c.compare.new.replayed c.compare.new.replayed.expected c.args.p.now.replayed.lacking
    (record { matrix_is = c.compare.ensures.matrix; mover_is = refl; replayed_is = c.compare.ensures.replayed; fits = c.compare.ensures.shape })

pub returns-in-None-clause-recovered : goal.returns-in-None-clause-recovered
returns-in-None-clause-recovered g c = λ b h same.
    let none = c.in-None.ensures.given b (beside g.D.Disk.told g.D.Disk.state b c.args.p.now c.args.work.ops.items h c.args.p.now.replayed.expected same) in
    subst (λ (n : ℕ). IsAstray g.D.Disk.told g.D.Disk.state b (record c.args.p.now { matrix = c.compare.new.matrix; replayed = c.compare.new.replayed }) n) (sym c.count.ensures.count)
    (go_astray g.D.Disk.told g.D.Disk.state b c.args.p.now c.args.work.ops.items h c.compare.new.matrix c.args.p.now.mover c.compare.new.replayed c.compare.new.replayed.expected c.args.p.now.replayed.lacking
    (record { matrix_is = c.compare.ensures.matrix; mover_is = refl; replayed_is = c.compare.ensures.replayed; fits = c.compare.ensures.shape }) none)

pub returns-in-None-clause-astray : goal.returns-in-None-clause-astray
returns-in-None-clause-astray g c = λ t i e.
    let w = c.requires.reads in
    not_neither g.D.Disk.told g.D.Disk.state w.0 c.args.p.now c.args.work.ops.items w.1 t (c.in-None.ensures.given w.0 (beside g.D.Disk.told g.D.Disk.state w.0 c.args.p.now c.args.work.ops.items w.1 c.args.p.now.replayed.expected w.2))

pub returns-in-Some-clause-halted : goal.returns-in-Some-clause-halted
returns-in-Some-clause-halted g c = λ b h same. go_halted g.D.Disk.told g.D.Disk.state b c.args.p.now c.args.work.ops.items h c.compare.new.matrix c.resume.new.mover _ c.compare.new.replayed.expected c.in-Some.field-0.lacking
    (record { matrix_is = c.compare.ensures.matrix; mover_is = c.resume.ensures.mover; replayed_is = replayed_as c.compare.new.replayed c.args.p.now.replayed c.resume.new.matrix c.compare.new.replayed.expected c.in-Some.field-0.lacking c.compare.ensures.replayed c.resume.ensures.matrix refl; fits = c.compare.ensures.shape })

pub returns-in-Some-clause-recovered : goal.returns-in-Some-clause-recovered
returns-in-Some-clause-recovered g c = λ b h same.
    let w = c.in-Some.ensures.given b (beside g.D.Disk.told g.D.Disk.state b c.args.p.now c.args.work.ops.items h c.args.p.now.replayed.expected same) in
    let is = subst (λ (x : Size × Colouring). ResumedIs x.0 c.args.p.now.mover.mover c.args.work.ops.items x.1 c.in-Some.field-0.switches c.resume.result) (λ i. (ap (λ (f : FabricId). f.size) (sym c.requires.own) i, matrix_as c.compare.new.replayed c.args.p.now.replayed c.compare.new.replayed.expected c.compare.ensures.replayed i)) c.resume.ensures.resumed in
    go_recovered g.D.Disk.told g.D.Disk.state b c.args.p.now c.args.work.ops.items h c.compare.new.matrix c.resume.new.mover _ c.compare.new.replayed.expected c.in-Some.field-0.lacking
    (record { matrix_is = c.compare.ensures.matrix; mover_is = c.resume.ensures.mover; replayed_is = replayed_as c.compare.new.replayed c.args.p.now.replayed c.resume.new.matrix c.compare.new.replayed.expected c.in-Some.field-0.lacking c.compare.ensures.replayed c.resume.ensures.matrix refl; fits = c.compare.ensures.shape })
    w.0 w.1 w.2 c.resume.result c.in-Some.field-0.switches w.3 is

pub returns-in-Some-clause-resumes : goal.returns-in-Some-clause-resumes
returns-in-Some-clause-resumes g c = λ b h same.
    let w = c.in-Some.ensures.given b (beside g.D.Disk.told g.D.Disk.state b c.args.p.now c.args.work.ops.items h c.args.p.now.replayed.expected same) in
    let is = subst (λ (x : Size × Colouring). ResumedIs x.0 c.args.p.now.mover.mover c.args.work.ops.items x.1 c.in-Some.field-0.switches c.resume.result) (λ i. (ap (λ (f : FabricId). f.size) (sym c.requires.own) i, matrix_as c.compare.new.replayed c.args.p.now.replayed c.compare.new.replayed.expected c.compare.ensures.replayed i)) c.resume.ensures.resumed in
    go_resumes g.D.Disk.told g.D.Disk.state b c.args.p.now c.args.work.ops.items h c.compare.new.matrix c.resume.new.mover _ c.compare.new.replayed.expected c.in-Some.field-0.lacking
    (record { matrix_is = c.compare.ensures.matrix; mover_is = c.resume.ensures.mover; replayed_is = replayed_as c.compare.new.replayed c.args.p.now.replayed c.resume.new.matrix c.compare.new.replayed.expected c.in-Some.field-0.lacking c.compare.ensures.replayed c.resume.ensures.matrix refl; fits = c.compare.ensures.shape })
    w.0 w.1 w.2 c.resume.result c.in-Some.field-0.switches w.3 is

pub returns-in-Some-clause-rejoins : goal.returns-in-Some-clause-rejoins
returns-in-Some-clause-rejoins g c = λ b h same.
    let w = c.in-Some.ensures.given b (beside g.D.Disk.told g.D.Disk.state b c.args.p.now c.args.work.ops.items h c.args.p.now.replayed.expected same) in
    let is = subst (λ (x : Size × Colouring). ResumedIs x.0 c.args.p.now.mover.mover c.args.work.ops.items x.1 c.in-Some.field-0.switches c.resume.result) (λ i. (ap (λ (f : FabricId). f.size) (sym c.requires.own) i, matrix_as c.compare.new.replayed c.args.p.now.replayed c.compare.new.replayed.expected c.compare.ensures.replayed i)) c.resume.ensures.resumed in
    go_rejoins g.D.Disk.told g.D.Disk.state b c.args.p.now c.args.work.ops.items h c.compare.new.matrix c.resume.new.mover _ c.compare.new.replayed.expected c.in-Some.field-0.lacking
    (record { matrix_is = c.compare.ensures.matrix; mover_is = c.resume.ensures.mover; replayed_is = replayed_as c.compare.new.replayed c.args.p.now.replayed c.resume.new.matrix c.compare.new.replayed.expected c.in-Some.field-0.lacking c.compare.ensures.replayed c.resume.ensures.matrix refl; fits = c.compare.ensures.shape })
    w.0 w.1 w.2 c.resume.result c.in-Some.field-0.switches w.3 is

pub returns-in-Some-clause-warm : goal.returns-in-Some-clause-warm
returns-in-Some-clause-warm g c = λ t r.
    let v = c.requires.reads in
    let w = c.in-Some.ensures.given v.0 (beside g.D.Disk.told g.D.Disk.state v.0 c.args.p.now c.args.work.ops.items v.1 c.args.p.now.replayed.expected v.2) in
    let is = subst (λ (x : Size × Colouring). ResumedIs x.0 c.args.p.now.mover.mover c.args.work.ops.items x.1 c.in-Some.field-0.switches c.resume.result) (λ i. (ap (λ (f : FabricId). f.size) (sym c.requires.own) i, matrix_as c.compare.new.replayed c.args.p.now.replayed c.compare.new.replayed.expected c.compare.ensures.replayed i)) c.resume.ensures.resumed in
    go_warm g.D.Disk.told g.D.Disk.state v.0 c.args.p.now c.args.work.ops.items v.1 c.compare.new.matrix c.resume.new.mover _ c.compare.new.replayed.expected c.in-Some.field-0.lacking
    (record { matrix_is = c.compare.ensures.matrix; mover_is = c.resume.ensures.mover; replayed_is = replayed_as c.compare.new.replayed c.args.p.now.replayed c.resume.new.matrix c.compare.new.replayed.expected c.in-Some.field-0.lacking c.compare.ensures.replayed c.resume.ensures.matrix refl; fits = c.compare.ensures.shape })
    w.0 w.1 w.2 c.resume.result c.in-Some.field-0.switches w.3 is t r

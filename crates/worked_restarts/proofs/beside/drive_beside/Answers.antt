use Rattle.std.proofs.Common.{sym, ◌∙◌, ap, inl, subst}
use Rattle.roll_engine.specs.Answers.{Answer, AnswerIs}
use Rattle.roll_engine.specs.Rollings.{rest_of}
use Rattle.xc_core.specs.declared.provisioner.Driver.{Driver}
use Rattle.xc_core.specs.Provisioners.{Ground}
use Rattle.xc_core.specs.Seeing.{HasTaken}
use Rattle.xc_core.specs.States.{opening_of}
use Rattle.xc_core.proofs.Away.{taken_rolls}
use Rattle.worked_restarts.proofs.beside.drive_beside.Goals as goal

pub drive-first-requires-clause-own : goal.drive-first-requires-clause-own
drive-first-requires-clause-own g c =
    let w = c.requires.taken in
    let t = subst (λ (x : Driver g.row.D.Denot). HasTaken g.D.Disk.told g.D.Disk.state (opening_of g.D.Disk.state c.args.turns.now.first) c.args.pass.now.number c.args.op.now w.0 x.p x.rolling) (sym c.deref_mut-out.ensures.value) w.2 in
    ap (λ (s : Ground). s.fabric) t.out.ground ∙ c.requires.fabric

pub drive-first-requires-clause-rolls : goal.drive-first-requires-clause-rolls
drive-first-requires-clause-rolls g c =
    let w = c.requires.taken in
    let t = subst (λ (x : Driver g.row.D.Denot). HasTaken g.D.Disk.told g.D.Disk.state (opening_of g.D.Disk.state c.args.turns.now.first) c.args.pass.now.number c.args.op.now w.0 x.p x.rolling) (sym c.deref_mut-out.ensures.value) w.2 in
    inl (inl (t.out.now, c.args.op.now, t.change, t.rolls))

pub drive-then-requires-clause-own : goal.drive-then-requires-clause-own
drive-then-requires-clause-own g c =
    let w = c.requires.taken in
    let t = subst (λ (x : Driver g.row.D.Denot). HasTaken g.D.Disk.told g.D.Disk.state (opening_of g.D.Disk.state c.args.turns.now.first) c.args.pass.now.number c.args.op.now w.0 x.p x.rolling) (sym c.deref_mut-out.ensures.value) w.2 in
    ap (λ (s : Ground). s.fabric) (c.drive-first.ensures.ground ∙ t.out.ground) ∙ c.requires.fabric

pub drive-then-requires-clause-rolls : goal.drive-then-requires-clause-rolls
drive-then-requires-clause-rolls g c =
    let w = c.requires.taken in
    let t = subst (λ (x : Driver g.row.D.Denot). HasTaken g.D.Disk.told g.D.Disk.state (opening_of g.D.Disk.state c.args.turns.now.first) c.args.pass.now.number c.args.op.now w.0 x.p x.rolling) (sym c.deref_mut-out.ensures.value) w.2 in
    inl (inl (t.out.now, c.args.op.now, t.change, c.drive-first.ensures.rolls t.out.now c.args.op.now t.change t.rolls))

pub bring_or_cut-requires-clause-taken : goal.bring_or_cut-requires-clause-taken
bring_or_cut-requires-clause-taken g c =
    let w = c.requires.taken in
    let t = subst (λ (x : Driver g.row.D.Denot). HasTaken g.D.Disk.told g.D.Disk.state (opening_of g.D.Disk.state c.args.turns.now.first) c.args.pass.now.number c.args.op.now w.0 x.p x.rolling) (sym c.deref_mut-out.ensures.value) w.2 in
    let o = opening_of g.D.Disk.state c.args.turns.now.first in
    let held = taken_rolls g.D.Disk.told g.D.Disk.state o c.args.pass.now.number c.args.op.now w.0 c.deref_mut-out.result.now.p c.drive-first.new.p c.deref_mut-out.result.now.rolling c.drive-first.new.rolling t c.drive-first.ensures.ground c.drive-first.ensures.journal c.drive-first.ensures.rolls in
    (w.0, w.1, taken_rolls g.D.Disk.told g.D.Disk.state o c.args.pass.now.number c.args.op.now w.0 c.drive-first.new.p c.drive-then.new.p c.drive-first.new.rolling c.drive-then.new.rolling held c.drive-then.ensures.ground c.drive-then.ensures.journal c.drive-then.ensures.rolls)

pub bring_or_cut-requires-clause-done : goal.bring_or_cut-requires-clause-done
bring_or_cut-requires-clause-done g c = λ is.
    let w = c.requires.taken in
    let t = subst (λ (x : Driver g.row.D.Denot). HasTaken g.D.Disk.told g.D.Disk.state (opening_of g.D.Disk.state c.args.turns.now.first) c.args.pass.now.number c.args.op.now w.0 x.p x.rolling) (sym c.deref_mut-out.ensures.value) w.2 in
    let alone = (c.drive-first.ensures.rolls t.out.now c.args.op.now t.change t.rolls).alone in
    subst (λ (x : Answer). AnswerIs c.args.fabric.now.size (rest_of c.drive-first.new.rolling) (rest_of c.drive-then.new.rolling) c.drive-first.new.p.mover.mover c.drive-then.new.p.mover.mover x) is (c.drive-then.ensures.answer alone)

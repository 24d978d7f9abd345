use Rattle.std.proofs.Common.{◌∙◌, length, refl, sym, ap, subst, inl, inr}
use Rattle.roll_engine.specs.Rollings.{rest_of}
use Rattle.xc_core.specs.declared.provisioner.Driver.{Driver}
use Rattle.xc_core.specs.Provisioners.{Ground}
use Rattle.xc_core.specs.Seeing.{HasTaken}
use Rattle.xc_core.specs.States.{opening_of}
use Rattle.xc_core.proofs.Away.{taken_rolls}
use Rattle.craft_session.specs.Askings.{AskedToStop, asked_for}
use Rattle.craft_session.proofs.Changing.{changed_cut, changed_done}
use Rattle.craft_session.proofs.Ends.{never, still}
use Rattle.craft_session.proofs.Gated.{entered_change, entered_stop, work_in_hand}
use Rattle.craft_session.proofs.change.drive_out.Goals as goal

pub roll-requires-clause-own : goal.roll-requires-clause-own
roll-requires-clause-own g c = let w = c.requires.taken in ap (λ (x : Driver g.row.D.Denot). x.p.mover.fabric) c.deref_mut-held.ensures.value ∙ (ap (λ (s : Ground). s.fabric) w.2.out.ground ∙ c.requires.fabric)

pub roll-requires-clause-rolls : goal.roll-requires-clause-rolls
roll-requires-clause-rolls g c = let w = c.requires.taken in let t = subst (λ (x : Driver g.row.D.Denot). HasTaken g.D.Disk.told g.D.Disk.state (opening_of g.D.Disk.state c.args.turns.now.first) c.args.pass.now.number c.args.op.now w.0 x.p x.rolling) (sym c.deref_mut-held.ensures.value) w.2 in inl (t.out.now, c.args.op.now, t.change, t.rolls)

pub bring-requires-clause-taken : goal.bring-requires-clause-taken
bring-requires-clause-taken g c =
    let w = c.requires.taken in
    let t = subst (λ (x : Driver g.row.D.Denot). HasTaken g.D.Disk.told g.D.Disk.state (opening_of g.D.Disk.state c.args.turns.now.first) c.args.pass.now.number c.args.op.now w.0 x.p x.rolling) (sym c.deref_mut-held.ensures.value) w.2 in
    (w.0, w.1, taken_rolls g.D.Disk.told g.D.Disk.state (opening_of g.D.Disk.state c.args.turns.now.first) c.args.pass.now.number c.args.op.now w.0 c.deref_mut-held.result.now.p c.roll.new.p c.deref_mut-held.result.now.rolling c.roll.new.rolling t c.roll.ensures.ground c.roll.ensures.journal c.roll.ensures.rolls)

pub cut-requires-clause-taken : goal.cut-requires-clause-taken
cut-requires-clause-taken g c =
    let w = c.requires.taken in
    let t = subst (λ (x : Driver g.row.D.Denot). HasTaken g.D.Disk.told g.D.Disk.state (opening_of g.D.Disk.state c.args.turns.now.first) c.args.pass.now.number c.args.op.now w.0 x.p x.rolling) (sym c.deref_mut-held.ensures.value) w.2 in
    (w.0, w.1, inr (taken_rolls g.D.Disk.told g.D.Disk.state (opening_of g.D.Disk.state c.args.turns.now.first) c.args.pass.now.number c.args.op.now w.0 c.deref_mut-held.result.now.p c.roll.new.p c.deref_mut-held.result.now.rolling c.roll.new.rolling t c.roll.ensures.ground c.roll.ensures.journal c.roll.ensures.rolls))

pub bring-requires-clause-done : goal.bring-requires-clause-done
bring-requires-clause-done g c = c.roll.ensures.done c.in-Ok.is

pub returns-in-Ok : goal.returns-in-Ok
returns-in-Ok g c = record {
  pass = c.bring.ensures.pass;
  changed = λ h saw. changed_done (opening_of g.D.Disk.state c.args.turns.now.first) c.args.pass.now.number h c.args.op.now c.bring.new.pass.seen (c.bring.ensures.done h saw);
  astray = c.bring.ensures.astray;
  stopped = still _ _ (c.in-Ok.ensures.stopped.only (λ e. never e));
  asked = inl (refl, subst (λ (x : Driver g.row.D.Denot). g.G.Gate.asked c.args.gate.now c.roll.new.gate (asked_for (length (rest_of x.rolling)))) c.deref_mut-held.ensures.value c.in-Ok.ensures.asked);
  entered = λ h saw. entered_change (opening_of g.D.Disk.state c.args.turns.now.first) c.args.pass.now.number (g.G.Gate.asked c.args.gate.now c.roll.new.gate) h c.bring.new.pass.seen c.args.op.now (length (rest_of c.deref_mut-held.result.now.rolling)) (λ later others. (work_in_hand (opening_of g.D.Disk.state c.args.turns.now.first) c.args.pass.now.number c.args.pass.now.seen h c.requires.taken.0 later saw c.requires.taken.1 others g.D.Disk.told g.D.Disk.state c.args.op.now c.deref_mut-held.result.now.p c.deref_mut-held.result.now.rolling (subst (λ (x : Driver g.row.D.Denot). HasTaken g.D.Disk.told g.D.Disk.state (opening_of g.D.Disk.state c.args.turns.now.first) c.args.pass.now.number c.args.op.now c.requires.taken.0 x.p x.rolling) (sym c.deref_mut-held.ensures.value) c.requires.taken.2) (ap (λ (x : Driver g.row.D.Denot). x.rolling.step) c.deref_mut-held.ensures.value ∙ c.requires.unmade))) c.in-Ok.ensures.asked (c.bring.ensures.done h saw);
}

pub returns-in-Err : goal.returns-in-Err
returns-in-Err g c = record {
  pass = c.cut.ensures.pass;
  changed = λ h saw. changed_cut (opening_of g.D.Disk.state c.args.turns.now.first) c.args.pass.now.number h c.args.op.now c.cut.new.pass.seen (c.cut.ensures.cut h saw);
  astray = c.cut.ensures.astray;
  stopped = c.in-Err.ensures.stopped;
  asked = inr (refl, subst (λ (x : Driver g.row.D.Denot). AskedToStop (g.G.Gate.asked c.args.gate.now c.roll.new.gate) (length (rest_of x.rolling))) c.deref_mut-held.ensures.value c.in-Err.ensures.asked);
  entered = λ h saw. entered_stop (opening_of g.D.Disk.state c.args.turns.now.first) c.args.pass.now.number (g.G.Gate.asked c.args.gate.now c.roll.new.gate) h c.cut.new.pass.seen c.args.op.now (length (rest_of c.deref_mut-held.result.now.rolling)) (λ later others. inr (work_in_hand (opening_of g.D.Disk.state c.args.turns.now.first) c.args.pass.now.number c.args.pass.now.seen h c.requires.taken.0 later saw c.requires.taken.1 others g.D.Disk.told g.D.Disk.state c.args.op.now c.deref_mut-held.result.now.p c.deref_mut-held.result.now.rolling (subst (λ (x : Driver g.row.D.Denot). HasTaken g.D.Disk.told g.D.Disk.state (opening_of g.D.Disk.state c.args.turns.now.first) c.args.pass.now.number c.args.op.now c.requires.taken.0 x.p x.rolling) (sym c.deref_mut-held.ensures.value) c.requires.taken.2) (ap (λ (x : Driver g.row.D.Denot). x.rolling.step) c.deref_mut-held.ensures.value ∙ c.requires.unmade))) c.in-Err.ensures.asked (c.cut.ensures.cut h saw).0;
}

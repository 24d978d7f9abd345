use Rattle.std.proofs.Common.{◌∙◌, length, refl, sym, ap, subst, inl, inr}
use Rattle.dxc_model.specs.declared.op.Op.TheVariants.{Restart}
use Rattle.xc_core.specs.declared.provisioner.Driver.{Driver}
use Rattle.xc_core.specs.Provisioners.{Ground}
use Rattle.xc_core.specs.Seeing.{HasRestart}
use Rattle.xc_core.specs.States.{opening_of}
use Rattle.xc_core.proofs.Restarting.{restart_rolls}
use Rattle.craft_session.proofs.Changing.{mended_cut, mended_ready}
use Rattle.roll_engine.specs.Rollings.{rest_of}
use Rattle.craft_session.specs.Askings.{AskedToStop, asked_for}
use Rattle.craft_session.proofs.Ends.{never, still}
use Rattle.craft_session.proofs.Gated.{entered_restart, entered_stop, still_out}
use Rattle.craft_session.proofs.mend.resume.Goals as goal

pub roll-requires-clause-own : goal.roll-requires-clause-own
roll-requires-clause-own g c = let w = c.requires.restart in ap (λ (x : Driver g.row.D.Denot). x.p.mover.fabric) c.deref_mut-held.ensures.value ∙ (ap (λ (s : Ground). s.fabric) w.2.out.ground ∙ c.requires.fabric)

pub roll-requires-clause-rolls : goal.roll-requires-clause-rolls
roll-requires-clause-rolls g c = let w = c.requires.restart in let t = subst (λ (x : Driver g.row.D.Denot). HasRestart g.D.Disk.told g.D.Disk.state (opening_of g.D.Disk.state c.args.turns.now.first) c.args.pass.now.number c.args.asked.now w.0 x.p x.rolling) (sym c.deref_mut-held.ensures.value) w.2 in inr (t.out.now, t.lacking, t.behind, t.resumes)

pub end_restart-requires-clause-restart : goal.end_restart-requires-clause-restart
end_restart-requires-clause-restart g c =
    let w = c.requires.restart in
    let t = subst (λ (x : Driver g.row.D.Denot). HasRestart g.D.Disk.told g.D.Disk.state (opening_of g.D.Disk.state c.args.turns.now.first) c.args.pass.now.number c.args.asked.now w.0 x.p x.rolling) (sym c.deref_mut-held.ensures.value) w.2 in
    (w.0, w.1, restart_rolls g.D.Disk.told g.D.Disk.state (opening_of g.D.Disk.state c.args.turns.now.first) c.args.pass.now.number c.args.asked.now w.0 c.deref_mut-held.result.now.p c.roll.new.p c.deref_mut-held.result.now.rolling c.roll.new.rolling t c.roll.ensures.ground c.roll.ensures.journal c.roll.ensures.doubt c.roll.ensures.resumes)

pub cut_restart-requires-clause-restart : goal.cut_restart-requires-clause-restart
cut_restart-requires-clause-restart g c =
    let w = c.requires.restart in
    let t = subst (λ (x : Driver g.row.D.Denot). HasRestart g.D.Disk.told g.D.Disk.state (opening_of g.D.Disk.state c.args.turns.now.first) c.args.pass.now.number c.args.asked.now w.0 x.p x.rolling) (sym c.deref_mut-held.ensures.value) w.2 in
    (w.0, w.1, inr (restart_rolls g.D.Disk.told g.D.Disk.state (opening_of g.D.Disk.state c.args.turns.now.first) c.args.pass.now.number c.args.asked.now w.0 c.deref_mut-held.result.now.p c.roll.new.p c.deref_mut-held.result.now.rolling c.roll.new.rolling t c.roll.ensures.ground c.roll.ensures.journal c.roll.ensures.doubt c.roll.ensures.resumes))

pub end_restart-requires-clause-done : goal.end_restart-requires-clause-done
end_restart-requires-clause-done g c = c.roll.ensures.done c.in-Ok.is

pub returns-in-Ok : goal.returns-in-Ok
returns-in-Ok g c = record {
  pass = c.end_restart.ensures.pass;
  mended = λ h saw. mended_ready (opening_of g.D.Disk.state c.args.turns.now.first) c.args.pass.now.number h c.args.asked.now c.end_restart.new.pass.seen (c.end_restart.ensures.restarted h saw);
  astray = c.end_restart.ensures.astray;
  stopped = still _ _ (c.in-Ok.ensures.stopped.only (λ e. never e));
  asked = inl (refl, subst (λ (x : Driver g.row.D.Denot). g.G.Gate.asked c.args.gate.now c.roll.new.gate (asked_for (length (rest_of x.rolling)))) c.deref_mut-held.ensures.value c.in-Ok.ensures.asked);
  entered = λ h saw. entered_restart (opening_of g.D.Disk.state c.args.turns.now.first) c.args.pass.now.number (g.G.Gate.asked c.args.gate.now c.roll.new.gate) h c.end_restart.new.pass.seen c.args.asked.now (length (rest_of c.deref_mut-held.result.now.rolling)) (λ later others. still_out (opening_of g.D.Disk.state c.args.turns.now.first) c.args.pass.now.number c.args.pass.now.seen h c.requires.restart.0 later saw c.requires.restart.1 others Restart c.requires.restart.2.out.held) c.in-Ok.ensures.asked (c.end_restart.ensures.restarted h saw);
}

pub returns-in-Err : goal.returns-in-Err
returns-in-Err g c = record {
  pass = c.cut_restart.ensures.pass;
  mended = λ h saw. mended_cut (opening_of g.D.Disk.state c.args.turns.now.first) c.args.pass.now.number h c.args.asked.now c.cut_restart.new.pass.seen (c.cut_restart.ensures.cut h saw);
  astray = c.cut_restart.ensures.astray;
  stopped = c.in-Err.ensures.stopped;
  asked = inr (refl, subst (λ (x : Driver g.row.D.Denot). AskedToStop (g.G.Gate.asked c.args.gate.now c.roll.new.gate) (length (rest_of x.rolling))) c.deref_mut-held.ensures.value c.in-Err.ensures.asked);
  entered = λ h saw. entered_stop (opening_of g.D.Disk.state c.args.turns.now.first) c.args.pass.now.number (g.G.Gate.asked c.args.gate.now c.roll.new.gate) h c.cut_restart.new.pass.seen Restart (length (rest_of c.deref_mut-held.result.now.rolling)) (λ later others. inl (refl, still_out (opening_of g.D.Disk.state c.args.turns.now.first) c.args.pass.now.number c.args.pass.now.seen h c.requires.restart.0 later saw c.requires.restart.1 others Restart c.requires.restart.2.out.held)) c.in-Err.ensures.asked (c.cut_restart.ensures.cut h saw).0;
}

use Rattle.std.proofs.Common.{List, Ok, ◌∙◌, length, refl, sym, ap, subst, inl, inr}
use Rattle.dxc_model.specs.declared.entry.Entry.{Entry}
use Rattle.dxc_model.specs.declared.op.Op.TheVariants.{Restart}
use Rattle.roll_engine.specs.Rollings.{rest_of}
use Rattle.xc_core.specs.declared.provisioner.Driver.{Driver}
use Rattle.xc_core.specs.Provisioners.{Ground}
use Rattle.xc_core.specs.Seeing.{HasFailed, HasHeld}
use Rattle.xc_core.specs.States.{opening_of}
use Rattle.xc_core.specs.declared.resuming.Reread.{Reread}
use Rattle.xc_core.specs.Askings.{RereadAsked}
use Rattle.xc_core.specs.Turns.{RereadIs}
use Rattle.xc_core.proofs.Turning.{saw_once}
use Rattle.craft_session.proofs.Changing.{mended_cut, mended_fault}
use Rattle.craft_session.proofs.Ends.{rose_after, rose_by, still, went_on}
use Rattle.craft_session.proofs.Gated.{entered_fault, entered_noted, entered_unnoted, still_out}
use Rattle.craft_session.proofs.Gating.{failed_asked, failed_first, mended_by}
use Rattle.craft_session.proofs.mend.go_on.Goals as goal

pub read_anew-requires-clause-own : goal.read_anew-requires-clause-own
read_anew-requires-clause-own g c = let w = c.requires.held in ap (λ (x : Driver g.row.D.Denot). x.p.mover.fabric) c.deref_mut-held.ensures.value ∙ (ap (λ (s : Ground). s.fabric) w.2.out.ground ∙ c.requires.fabric)

pub read_anew-requires-clause-held : goal.read_anew-requires-clause-held
read_anew-requires-clause-held g c =
    let w = c.requires.held in
    let v = c.deref_mut-held.result.now in
    let x = subst (λ (y : Driver g.row.D.Denot). HasHeld g.D.Disk.told g.D.Disk.state (opening_of g.D.Disk.state c.args.turns.now.first) c.args.pass.now.number c.args.asked.now w.0 y.p) (sym c.deref_mut-held.ensures.value) w.2 in
    ((opening_of g.D.Disk.state c.args.turns.now.first), c.args.pass.now.number, w.0, x)

pub resume-requires-clause-restart : goal.resume-requires-clause-restart
resume-requires-clause-restart g c =
    let w = c.requires.held in
    let v = c.deref_mut-held.result.now in
    let x = subst (λ (y : Driver g.row.D.Denot). HasHeld g.D.Disk.told g.D.Disk.state (opening_of g.D.Disk.state c.args.turns.now.first) c.args.pass.now.number c.args.asked.now w.0 y.p) (sym c.deref_mut-held.ensures.value) w.2 in
    (w.0, w.1, subst (λ (x : Reread). RereadIs g.D.Disk.told g.D.Disk.state (opening_of g.D.Disk.state c.args.turns.now.first) c.args.pass.now.number c.args.asked.now w.0 c.read_anew.new.p (Ok x)) c.in-Ok-Warm.field-0-is (c.in-Ok-Warm.ensures.reread (opening_of g.D.Disk.state c.args.turns.now.first) c.args.pass.now.number w.0 x))

pub fail-requires-clause-failed : goal.fail-requires-clause-failed
fail-requires-clause-failed g c =
    let w = c.requires.held in
    let v = c.deref_mut-held.result.now in
    let x = subst (λ (y : Driver g.row.D.Denot). HasHeld g.D.Disk.told g.D.Disk.state (opening_of g.D.Disk.state c.args.turns.now.first) c.args.pass.now.number c.args.asked.now w.0 y.p) (sym c.deref_mut-held.ensures.value) w.2 in
    (w.0, w.1, (Restart, subst (λ (x : Reread). RereadIs g.D.Disk.told g.D.Disk.state (opening_of g.D.Disk.state c.args.turns.now.first) c.args.pass.now.number c.args.asked.now w.0 c.read_anew.new.p (Ok x)) c.in-Ok-Failed.field-0-is (c.in-Ok-Failed.ensures.reread (opening_of g.D.Disk.state c.args.turns.now.first) c.args.pass.now.number w.0 x)))

pub cut_restart-requires-clause-restart : goal.cut_restart-requires-clause-restart
cut_restart-requires-clause-restart g c =
    let w = c.requires.held in
    let v = c.deref_mut-held.result.now in
    let x = subst (λ (y : Driver g.row.D.Denot). HasHeld g.D.Disk.told g.D.Disk.state (opening_of g.D.Disk.state c.args.turns.now.first) c.args.pass.now.number c.args.asked.now w.0 y.p) (sym c.deref_mut-held.ensures.value) w.2 in
    (w.0, w.1, inl (c.in-Err.ensures.reread (opening_of g.D.Disk.state c.args.turns.now.first) c.args.pass.now.number w.0 x))

pub returns-in-Ok-Warm : goal.returns-in-Ok-Warm
returns-in-Ok-Warm g c =
    let t = c.read_anew.ensures in
    let r = c.resume.ensures in
    let unstopped = c.in-Ok-Warm.ensures.stopped.only (λ e. went_on _ e) in
    record {
      pass = r.pass;
      astray = r.astray;
      stopped = rose_after _ _ _ _ unstopped r.stopped;
      mended = r.mended;
      asked = mended_by g.G.Gate.asked g.G.Gate.asked_on c.args.gate.now c.read_anew.new.gate c.resume.new.gate (length (rest_of c.in-Ok-Warm.rolling)) c.resume.result (subst (λ (x : Reread). RereadAsked (g.G.Gate.asked c.args.gate.now c.read_anew.new.gate) (Ok x)) c.in-Ok-Warm.field-0-is c.in-Ok-Warm.ensures.asked) r.asked;
      entered = λ h saw. entered_noted g.G.Gate.asked g.G.Gate.asked_on c.args.gate.now c.read_anew.new.gate c.resume.new.gate (opening_of g.D.Disk.state c.args.turns.now.first) c.args.pass.now.number h c.resume.new.pass.seen (subst (λ (x : Reread). RereadAsked (g.G.Gate.asked c.args.gate.now c.read_anew.new.gate) (Ok x)) c.in-Ok-Warm.field-0-is c.in-Ok-Warm.ensures.asked) (r.entered h saw);
    }

pub returns-in-Ok-Failed : goal.returns-in-Ok-Failed
returns-in-Ok-Failed g c =
    let t = c.read_anew.ensures in
    record {
      pass = c.fail.ensures.pass;
      astray = c.fail.ensures.astray;
      stopped = still _ _ (c.in-Ok-Failed.ensures.stopped.only (λ e. went_on _ e));
      mended = λ h saw.
          let w = c.requires.held in
          let v = c.deref_mut-held.result.now in
          let x = subst (λ (y : Driver g.row.D.Denot). HasHeld g.D.Disk.told g.D.Disk.state (opening_of g.D.Disk.state c.args.turns.now.first) c.args.pass.now.number c.args.asked.now w.0 y.p) (sym c.deref_mut-held.ensures.value) w.2 in
          let same = saw_once (opening_of g.D.Disk.state c.args.turns.now.first) c.args.pass.now.seen w.0 h w.1 saw in
          mended_fault (opening_of g.D.Disk.state c.args.turns.now.first) c.args.pass.now.number h g.D.Disk.told g.D.Disk.state c.args.asked.now c.fail.new.pass.seen c.in-Ok-Failed.cause c.read_anew.new.p (subst (λ (l : List Entry). HasFailed g.D.Disk.told g.D.Disk.state (opening_of g.D.Disk.state c.args.turns.now.first) c.args.pass.now.number Restart c.args.asked.now c.in-Ok-Failed.cause l c.read_anew.new.p) same (subst (λ (x : Reread). RereadIs g.D.Disk.told g.D.Disk.state (opening_of g.D.Disk.state c.args.turns.now.first) c.args.pass.now.number c.args.asked.now w.0 c.read_anew.new.p (Ok x)) c.in-Ok-Failed.field-0-is (c.in-Ok-Failed.ensures.reread (opening_of g.D.Disk.state c.args.turns.now.first) c.args.pass.now.number w.0 x))) (c.fail.ensures.failed h saw);
      asked = failed_asked (g.G.Gate.asked c.args.gate.now c.read_anew.new.gate) c.in-Ok-Failed.cause (subst (λ (x : Reread). RereadAsked (g.G.Gate.asked c.args.gate.now c.read_anew.new.gate) (Ok x)) c.in-Ok-Failed.field-0-is c.in-Ok-Failed.ensures.asked);
      entered = λ h saw. entered_fault (opening_of g.D.Disk.state c.args.turns.now.first) c.args.pass.now.number (g.G.Gate.asked c.args.gate.now c.read_anew.new.gate) h c.fail.new.pass.seen c.args.asked.now c.in-Ok-Failed.cause (elim (failed_first (g.G.Gate.asked c.args.gate.now c.read_anew.new.gate) c.in-Ok-Failed.cause (subst (λ (x : Reread). RereadAsked (g.G.Gate.asked c.args.gate.now c.read_anew.new.gate) (Ok x)) c.in-Ok-Failed.field-0-is c.in-Ok-Failed.ensures.asked)) [ inl none ↦ inl (none.0, none.1, λ later others. still_out (opening_of g.D.Disk.state c.args.turns.now.first) c.args.pass.now.number c.args.pass.now.seen h c.requires.held.0 later saw c.requires.held.1 others Restart c.requires.held.2.out.held) | inr one ↦ inr one ]) (c.fail.ensures.failed h saw).0;
    }

pub returns-in-Err : goal.returns-in-Err
returns-in-Err g c =
    let t = c.read_anew.ensures in
    record {
      pass = c.cut_restart.ensures.pass;
      astray = c.cut_restart.ensures.astray;
      stopped = rose_by _ _ _ _ c.in-Err.ensures.stopped refl refl;
      mended = λ h saw. mended_cut (opening_of g.D.Disk.state c.args.turns.now.first) c.args.pass.now.number h c.args.asked.now c.cut_restart.new.pass.seen (c.cut_restart.ensures.cut h saw);
      asked = inl c.in-Err.ensures.asked;
      entered = λ h saw. entered_unnoted (opening_of g.D.Disk.state c.args.turns.now.first) c.args.pass.now.number (g.G.Gate.asked c.args.gate.now c.read_anew.new.gate) h c.cut_restart.new.pass.seen Restart c.in-Err.ensures.asked (c.cut_restart.ensures.cut h saw).0;
    }

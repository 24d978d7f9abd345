use Rattle.std.specs.Prelude.{is_err}
use Rattle.std.proofs.Common.{ℕ, ◌++◌, Result, Ok, inl, refl, ap, ◌∙◌, subst}
use Rattle.dxc_outside.specs.declared.stopped.Stopped.{Stopped}
use Rattle.craft_session.specs.declared.change.Changed.{Changed}
use Rattle.dxc_model.specs.declared.op.Op.TheVariants.{Restart}
use Rattle.xc_core.specs.States.{opening_of}
use Rattle.craft_session.specs.declared.mend.Mended.{Mended}
use Rattle.craft_session.specs.Askings.{MendAsked, WarmAsked}
use Rattle.craft_session.specs.Changing.{MendedIs, WarmRestartIs}
use Rattle.craft_session.proofs.Gated.{entered_none, entered_on}
use Rattle.craft_session.proofs.Gating.{mend_on}
use Rattle.craft_session.proofs.Changing.{passed_none, warm_denied, warm_done, warm_stopped, warm_waits}
use Rattle.craft_session.proofs.Ends.{by_stop, never, rose_after, rose_by, still}
use Rattle.craft_session.proofs.Keeping.{keeps_none, keeps_on}
use Rattle.craft_session.proofs.mend.warm_restart.Goals as goal

pub mend-requires-clause-asked : goal.mend-requires-clause-asked
mend-requires-clause-asked g c = inl refl

pub mend-requires-clause-seen : goal.mend-requires-clause-seen
mend-requires-clause-seen g c = let w = c.requires.seen in let b = c.loop.invariant.passed w.0 w.1 in (w.0 ++ b.passed, b.saw)

pub loop-init : goal.loop-init
loop-init g c = record { goes = (tt, tt); pass = keeps_none c.args.turns.now c.args.pass.now c.requires.pass; passed = λ h saw. passed_none (opening_of g.D.Disk.state c.args.turns.now.first) c.args.pass.now.number h c.args.pass.now.seen saw; gate = refl; asked = g.G.Gate.unasked c.args.gate.now; entered = λ h saw. entered_none (opening_of g.D.Disk.state c.args.turns.now.first) c.args.pass.now.number (g.G.Gate.asked c.args.gate.now c.args.gate.now) h c.args.pass.now.seen (g.G.Gate.unasked c.args.gate.now) saw }

pub returns-in-Ready : goal.returns-in-Ready
returns-in-Ready g c =
    let k = c.loop.invariant in
    let m = c.mend.ensures in
    record {
      pass = keeps_on c.args.turns.now c.args.pass.now c.loop.pass c.mend.new.pass c.loop.invariant.pass c.mend.ensures.pass;
      astray = m.astray;
      stopped = still _ _ (c.in_ok-mend.ensures.stopped.only (λ e. never e) ∙ k.gate);
      restarted = λ h saw.
          let b = c.loop.invariant.passed h saw in
          warm_done (opening_of g.D.Disk.state c.args.turns.now.first) c.args.pass.now.number h c.loop.pass.seen c.mend.new.pass.seen b c.mend.result (subst (λ (n : ℕ). MendedIs (opening_of g.D.Disk.state c.args.turns.now.first) n (h ++ b.passed) Restart c.mend.new.pass.seen c.mend.result) c.loop.invariant.pass.goes.same.0 (c.mend.ensures.mended (h ++ b.passed) b.saw)) (c.in_ok-mend.was ∙ ap (λ (p : Mended). Ok p) c.in-Ready.is);
      asked = subst (λ (x : Result Mended Stopped). MendAsked (g.G.Gate.asked c.args.gate.now c.mend.new.gate) x) (c.in_ok-mend.was ∙ ap (λ (p : Mended). Ok p) c.in-Ready.is) (mend_on g.G.Gate.asked g.G.Gate.asked_on c.args.gate.now c.loop.gate c.mend.new.gate c.mend.result c.loop.invariant.asked c.mend.ensures.asked);
      entered = λ h saw. entered_on g.G.Gate.asked g.G.Gate.asked_on c.args.gate.now c.loop.gate c.mend.new.gate _ _ _ _ _ _ _ _ _ k.pass.goes.same.0 (k.entered h saw) m.entered;
    }

pub returns-in-Denied : goal.returns-in-Denied
returns-in-Denied g c =
    let k = c.loop.invariant in
    let m = c.mend.ensures in
    record {
      pass = keeps_on c.args.turns.now c.args.pass.now c.loop.pass c.mend.new.pass c.loop.invariant.pass c.mend.ensures.pass;
      astray = m.astray;
      stopped = still _ _ (c.in_ok-mend.ensures.stopped.only (λ e. never e) ∙ k.gate);
      restarted = λ h saw.
          let b = c.loop.invariant.passed h saw in
          warm_denied (opening_of g.D.Disk.state c.args.turns.now.first) c.args.pass.now.number h c.loop.pass.seen c.mend.new.pass.seen b c.mend.result (subst (λ (n : ℕ). MendedIs (opening_of g.D.Disk.state c.args.turns.now.first) n (h ++ b.passed) Restart c.mend.new.pass.seen c.mend.result) c.loop.invariant.pass.goes.same.0 (c.mend.ensures.mended (h ++ b.passed) b.saw)) c.in-Denied.cause (c.in_ok-mend.was ∙ ap (λ (p : Mended). Ok p) c.in-Denied.is);
      asked = subst (λ (x : Result Mended Stopped). MendAsked (g.G.Gate.asked c.args.gate.now c.mend.new.gate) x) (c.in_ok-mend.was ∙ ap (λ (p : Mended). Ok p) c.in-Denied.is) (mend_on g.G.Gate.asked g.G.Gate.asked_on c.args.gate.now c.loop.gate c.mend.new.gate c.mend.result c.loop.invariant.asked c.mend.ensures.asked);
      entered = λ h saw. entered_on g.G.Gate.asked g.G.Gate.asked_on c.args.gate.now c.loop.gate c.mend.new.gate _ _ _ _ _ _ _ _ _ k.pass.goes.same.0 (k.entered h saw) m.entered;
    }

pub returns-in_err-mend : goal.returns-in_err-mend
returns-in_err-mend g c =
    let k = c.loop.invariant in
    let m = c.mend.ensures in
    let stop = c.from_residual.ensures.0 in
    record {
      pass = keeps_on c.args.turns.now c.args.pass.now c.loop.pass c.mend.new.pass c.loop.invariant.pass c.mend.ensures.pass;
      astray = m.astray;
      stopped = rose_by _ _ _ _ (rose_after _ _ _ _ k.gate m.stopped) (ap is_err c.in_err-mend.was) stop;
      restarted = λ h saw.
          let b = c.loop.invariant.passed h saw in
          by_stop (λ (r : Result Changed Stopped). WarmRestartIs (opening_of g.D.Disk.state c.args.turns.now.first) c.args.pass.now.number h c.mend.new.pass.seen r) c.from_residual.result stop
          (warm_stopped (opening_of g.D.Disk.state c.args.turns.now.first) c.args.pass.now.number h c.loop.pass.seen c.mend.new.pass.seen b c.mend.result (subst (λ (n : ℕ). MendedIs (opening_of g.D.Disk.state c.args.turns.now.first) n (h ++ b.passed) Restart c.mend.new.pass.seen c.mend.result) c.loop.invariant.pass.goes.same.0 (c.mend.ensures.mended (h ++ b.passed) b.saw)) c.in_err-mend.was);
      asked = by_stop (λ (r : Result Changed Stopped). WarmAsked (g.G.Gate.asked c.args.gate.now c.mend.new.gate) r) c.from_residual.result stop (subst (λ (x : Result Mended Stopped). MendAsked (g.G.Gate.asked c.args.gate.now c.mend.new.gate) x) c.in_err-mend.was (mend_on g.G.Gate.asked g.G.Gate.asked_on c.args.gate.now c.loop.gate c.mend.new.gate c.mend.result c.loop.invariant.asked c.mend.ensures.asked));
      entered = λ h saw. entered_on g.G.Gate.asked g.G.Gate.asked_on c.args.gate.now c.loop.gate c.mend.new.gate _ _ _ _ _ _ _ _ _ k.pass.goes.same.0 (k.entered h saw) m.entered;
    }

pub loop-preserved : goal.loop-preserved
loop-preserved g c = record {
  goes = (tt, tt);
  pass = keeps_on c.args.turns.now c.args.pass.now c.loop.pass c.mend.new.pass c.loop.invariant.pass c.mend.ensures.pass;
  passed = λ h saw.
      let b = c.loop.invariant.passed h saw in
      warm_waits (opening_of g.D.Disk.state c.args.turns.now.first) c.args.pass.now.number h c.loop.pass.seen c.mend.new.pass.seen b c.mend.result (subst (λ (n : ℕ). MendedIs (opening_of g.D.Disk.state c.args.turns.now.first) n (h ++ b.passed) Restart c.mend.new.pass.seen c.mend.result) c.loop.invariant.pass.goes.same.0 (c.mend.ensures.mended (h ++ b.passed) b.saw)) (c.in_ok-mend.was ∙ ap (λ (p : Mended). Ok p) c.in-Waits.is);
  gate = c.in_ok-mend.ensures.stopped.only (λ e. never e) ∙ c.loop.invariant.gate;
  asked = subst (λ (x : Result Mended Stopped). MendAsked (g.G.Gate.asked c.args.gate.now c.mend.new.gate) x) (c.in_ok-mend.was ∙ ap (λ (p : Mended). Ok p) c.in-Waits.is) (mend_on g.G.Gate.asked g.G.Gate.asked_on c.args.gate.now c.loop.gate c.mend.new.gate c.mend.result c.loop.invariant.asked c.mend.ensures.asked);
  entered = λ h saw. entered_on g.G.Gate.asked g.G.Gate.asked_on c.args.gate.now c.loop.gate c.mend.new.gate _ _ _ _ _ _ _ _ _ c.loop.invariant.pass.goes.same.0 (c.loop.invariant.entered h saw) c.mend.ensures.entered;
}

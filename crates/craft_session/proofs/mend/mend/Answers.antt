use Rattle.std.proofs.Common.{ap, ℕ, [], ◌∷◌, ◌++◌, refl, sym, subst}
use Rattle.dxc_model.specs.declared.entry.Outcome.TheVariants.{Taken}
use Rattle.dxc_model.specs.declared.op.Op.TheVariants.{Restart}
use Rattle.xc_core.specs.Seeing.{HasHeld, entry}
use Rattle.xc_core.specs.States.{opening_of}
use Rattle.craft_session.specs.Changing.{MendedIs}
use Rattle.craft_session.proofs.Changing.{held_out, held_waits, mended_on_turns, taken_passed}
use Rattle.craft_session.proofs.Ends.{still}
use Rattle.craft_session.proofs.Gated.{entered_hold, entered_on, holds_out}
use Rattle.craft_session.proofs.Keeping.{keeps_on}
use Rattle.craft_session.proofs.mend.mend.Goals as goal

pub go_on-requires-clause-held : goal.go_on-requires-clause-held
go_on-requires-clause-held g c =
    let w = c.requires.seen in
    let t = held_out (opening_of g.D.Disk.state c.args.turns.now.first) c.args.pass.now.number w.0 g.D.Disk.told g.D.Disk.state c.args.asked.now c.hold.new.pass.seen c.hold.result c.in-Held.driver c.in-Held.is (c.hold.ensures.held w.0 w.1) in
    ((w.0 ++ t.0.later) ++ entry c.args.pass.now.number Restart Taken ∷ [], t.0.saw, subst (λ (n : ℕ). HasHeld g.D.Disk.told g.D.Disk.state (opening_of g.D.Disk.state c.args.turns.now.first) n c.args.asked.now ((w.0 ++ t.0.later) ++ entry c.args.pass.now.number Restart Taken ∷ []) c.in-Held.driver.value.p) (sym c.hold.ensures.pass.goes.same.0) t.1)

pub returns-in-Held : goal.returns-in-Held
returns-in-Held g c =
    let t = c.hold.ensures in
    let r = c.go_on.ensures in
    record {
      pass = keeps_on c.args.turns.now c.args.pass.now c.hold.new.pass c.go_on.new.pass t.pass r.pass;
      astray = r.astray;
      stopped = r.stopped;
      mended = λ h saw.
          let x = held_out (opening_of g.D.Disk.state c.args.turns.now.first) c.args.pass.now.number h g.D.Disk.told g.D.Disk.state c.args.asked.now c.hold.new.pass.seen c.hold.result c.in-Held.driver c.in-Held.is (t.held h saw) in
          let d = taken_passed (opening_of g.D.Disk.state c.args.turns.now.first) c.args.pass.now.number h Restart c.hold.new.pass.seen x.0 in
          let m = subst (λ (n : ℕ). MendedIs (opening_of g.D.Disk.state c.args.turns.now.first) n (h ++ d.passed) c.args.asked.now c.go_on.new.pass.seen c.go_on.result) t.pass.goes.same.0 (r.mended (h ++ d.passed) d.saw) in
          mended_on_turns (opening_of g.D.Disk.state c.args.turns.now.first) c.args.pass.now.number h c.args.asked.now c.hold.new.pass.seen c.go_on.new.pass.seen d c.go_on.result m;
      asked = r.asked;
      entered = λ h saw. entered_on g.G.Gate.asked g.G.Gate.asked_on c.args.gate.now c.args.gate.now c.go_on.new.gate _ _ _ _ _ _ _ _ _ t.pass.goes.same.0 (entered_hold (opening_of g.D.Disk.state c.args.turns.now.first) c.args.pass.now.number (g.G.Gate.asked c.args.gate.now c.args.gate.now) h c.hold.new.pass.seen g.D.Disk.told g.D.Disk.state c.args.asked.now c.hold.result _ (ap holds_out c.in-Held.is) (g.G.Gate.unasked c.args.gate.now) (t.held h saw)) r.entered;
    }

pub returns-in-Waits : goal.returns-in-Waits
returns-in-Waits g c =
    let t = c.hold.ensures in
    record {
      pass = t.pass;
      astray = t.astray;
      stopped = still _ _ refl;
      mended = λ h saw. held_waits (opening_of g.D.Disk.state c.args.turns.now.first) c.args.pass.now.number h g.D.Disk.told g.D.Disk.state c.args.asked.now c.hold.new.pass.seen c.hold.result c.in-Waits.is (t.held h saw);
      asked = g.G.Gate.unasked c.args.gate.now;
      entered = λ h saw. entered_hold (opening_of g.D.Disk.state c.args.turns.now.first) c.args.pass.now.number (g.G.Gate.asked c.args.gate.now c.args.gate.now) h c.hold.new.pass.seen g.D.Disk.told g.D.Disk.state c.args.asked.now c.hold.result _ (ap holds_out c.in-Waits.is) (g.G.Gate.unasked c.args.gate.now) (t.held h saw);
    }

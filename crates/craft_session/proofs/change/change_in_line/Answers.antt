use Rattle.std.proofs.Common.{ℕ, false, List, Option, [], ◌++◌, refl, subst, inl}
use Rattle.dxc_model.specs.declared.entry.Entry.{Entry}
use Rattle.xc_core.specs.Seeing.{Saw, TurnedBack}
use Rattle.xc_core.specs.Turns.{TookIs}
use Rattle.xc_core.specs.declared.turns.Took.TheVariants as took
use Rattle.xc_core.specs.States.{opening_of}
use Rattle.xc_core.specs.Views.{Denies, view}
use Rattle.dxc_model.specs.declared.cause.Cause.{Cause}
use Rattle.craft_session.specs.Askings.{no_mending}
use Rattle.craft_session.specs.Changing.{ChangedIs}
use Rattle.craft_session.proofs.Changing.{changed_on, took_denied, turned_back_mended}
use Rattle.craft_session.proofs.Ends.{still}
use Rattle.craft_session.proofs.Gated.{entered_back, entered_on, entered_take}
use Rattle.craft_session.proofs.Keeping.{keeps_on}
use Rattle.craft_session.proofs.change.change_in_line.Goals as goal

pub change-changed-requires-clause-seen : goal.change-changed-requires-clause-seen
change-changed-requires-clause-seen g c =
    let w = c.requires.seen in
    let t = subst (λ (a : Option Cause). Denies g.D.Disk c.args.op.now c.stand.new.pass a (view g.D.Disk c.args.turns.now c.args.pass.now) w.0) c.in-None.is (c.stand.ensures.denied w.0 w.1) in
    (w.0 ++ t.later, t.saw)

pub returns-in-Some : goal.returns-in-Some
returns-in-Some g c =
    let none = g.G.Gate.unasked c.args.gate.now in
    let denied : (h : List Entry) → Saw (opening_of g.D.Disk.state c.args.turns.now.first) c.args.pass.now.seen h → TookIs g.D.Disk.told g.D.Disk.state (opening_of g.D.Disk.state c.args.turns.now.first) c.args.pass.now.number h c.args.op.now c.stand.new.pass.seen (took.Denied c.in-Some.cause) = λ h saw. subst (λ (a : Option Cause). Denies g.D.Disk c.args.op.now c.stand.new.pass a (view g.D.Disk c.args.turns.now c.args.pass.now) h) c.in-Some.is (c.stand.ensures.denied h saw) in
    record {
      pass = c.stand.ensures.pass;
      changed = λ h saw. took_denied (opening_of g.D.Disk.state c.args.turns.now.first) c.args.pass.now.number h g.D.Disk.told g.D.Disk.state c.args.op.now c.stand.new.pass.seen (took.Denied c.in-Some.cause) (denied h saw) c.in-Some.cause refl;
      astray = c.in-Some.ensures.astray;
      stopped = still _ _ refl;
      asked = ([], no_mending, inl none);
      entered = λ h saw. entered_take (opening_of g.D.Disk.state c.args.turns.now.first) c.args.pass.now.number (g.G.Gate.asked c.args.gate.now c.args.gate.now) h c.stand.new.pass.seen g.D.Disk.told g.D.Disk.state c.args.op.now (took.Denied c.in-Some.cause) false refl none (denied h saw);
    }

pub returns-in-None : goal.returns-in-None
returns-in-None g c =
    let o = opening_of g.D.Disk.state c.args.turns.now.first in
    let own = c.args.pass.now.number in
    let r = c.change-changed.ensures in
    let back : (h : List Entry) → Saw o c.args.pass.now.seen h → TurnedBack o own h c.stand.new.pass.seen = λ h saw. subst (λ (a : Option Cause). Denies g.D.Disk c.args.op.now c.stand.new.pass a (view g.D.Disk c.args.turns.now c.args.pass.now) h) c.in-None.is (c.stand.ensures.denied h saw) in
    record {
      pass = keeps_on c.args.turns.now c.args.pass.now c.stand.new.pass c.change-changed.new.pass c.stand.ensures.pass r.pass;
      changed = λ h saw.
          let b = turned_back_mended o own h c.stand.new.pass.seen (back h saw) in
          changed_on o own h c.args.op.now c.stand.new.pass.seen c.change-changed.new.pass.seen b c.change-changed.result
          (subst (λ (n : ℕ). ChangedIs o n (h ++ b.front) c.args.op.now c.change-changed.new.pass.seen c.change-changed.result) c.stand.ensures.pass.goes.same.0 (r.changed (h ++ b.front) b.saw));
      astray = r.astray;
      stopped = r.stopped;
      asked = r.asked;
      entered = λ h saw. entered_on g.G.Gate.asked g.G.Gate.asked_on c.args.gate.now c.args.gate.now c.change-changed.new.gate o own c.stand.new.pass.number false false false h c.stand.new.pass.seen c.change-changed.new.pass.seen c.stand.ensures.pass.goes.same.0
          (entered_back o own (g.G.Gate.asked c.args.gate.now c.args.gate.now) h c.stand.new.pass.seen (g.G.Gate.unasked c.args.gate.now) (back h saw)) r.entered;
    }

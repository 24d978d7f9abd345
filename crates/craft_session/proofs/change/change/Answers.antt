use Rattle.std.proofs.Common.{◌≡◌, ◌⊎◌, ℕ, false, Ok, List, [], ◌∷◌, ◌++◌, inl, inr, refl, sym, ap, subst}
use base.Stored.{Gv}
use Rattle.dxc_disk.specs.Disks.{DiskState}
use Rattle.dxc_model.specs.declared.op.Op.{Op}
use Rattle.dxc_model.specs.declared.entry.Entry.{Entry}
use Rattle.dxc_model.specs.declared.entry.Outcome.TheVariants.{Taken}
use Rattle.xc_core.specs.declared.turns.Took.{Took}
use Rattle.xc_core.specs.declared.turns.Took.TheVariants as took
use Rattle.xc_core.specs.Seeing.{HasPlan, TurnedBack, entry}
use Rattle.xc_core.specs.Begins.{plan_of}
use Rattle.xc_core.specs.States.{Opening, opening_of}
use Rattle.xc_core.specs.Turns.{TookIs}
use Rattle.craft_session.specs.declared.change.Changed.TheVariants.{Denied}
use Rattle.craft_session.specs.Askings.{no_mending}
use Rattle.craft_session.specs.Changing.{ChangedIs}
use Rattle.craft_session.proofs.Changing.{changed_on, mended_back, mended_none, taken_passed, took_back, took_denied, took_halted, took_rolling, turned_back_mended}
use Rattle.craft_session.proofs.Gated.{entered_back, entered_none, entered_on, entered_take_on, takes_out}
use Rattle.craft_session.proofs.Gating.{carried_asked, denied_asked}
use Rattle.craft_session.proofs.Ends.{still}
use Rattle.craft_session.proofs.Keeping.{keeps_on}
use Rattle.craft_session.proofs.change.change.Goals as goal

-- the Provisioner wasn't taken
turned : {D : Type 0} (told : Type 0) (state : D → DiskState) (o : Opening) (own : ℕ) (h : List Entry) (op : Op) (seen : List Gv) (t : Took D) → TookIs told state o own h op seen t → (t ≡ took.Halted) ⊎ (t ≡ took.Waits) → TurnedBack o own h seen
turned told state o own h op seen t at (inl is) = took_halted o own h told state op seen t at is
turned told state o own h op seen t at (inr is) = took_back o own h told state op seen t at is

pub carry_out-requires-clause-planned : goal.carry_out-requires-clause-planned
carry_out-requires-clause-planned g c =
    let w = c.requires.seen in
    let b = mended_none (opening_of g.D.Disk.state c.args.turns.now.first) c.args.pass.now.number w.0 c.args.pass.now.seen w.1 in
    let k = c.take.ensures.took (w.0 ++ b.front) b.saw in
    let t = took_rolling (opening_of g.D.Disk.state c.args.turns.now.first) c.args.pass.now.number (w.0 ++ b.front) g.D.Disk.told g.D.Disk.state c.args.op.now c.take.new.pass.seen c.take.result k c.in-Rolling.driver c.in-Rolling.bytes c.in-Rolling.is in
    (((w.0 ++ b.front) ++ t.0.later) ++ entry c.args.pass.now.number c.args.op.now Taken ∷ [], t.0.saw, subst (λ (n : ℕ). HasPlan g.D.Disk.told g.D.Disk.state (opening_of g.D.Disk.state c.args.turns.now.first) n (((w.0 ++ b.front) ++ t.0.later) ++ entry c.args.pass.now.number c.args.op.now Taken ∷ []) c.in-Rolling.driver.value.p (plan_of c.args.op.now c.in-Rolling.driver.value.rolling c.in-Rolling.bytes)) (sym (c.take.ensures.pass.goes.same.0)) t.1)

pub returns-in-Rolling : goal.returns-in-Rolling
returns-in-Rolling g c =
    let t = c.take.ensures in
    let r = c.carry_out.ensures in
    record {
      pass = keeps_on c.args.turns.now c.args.pass.now c.take.new.pass c.carry_out.new.pass t.pass r.pass;
      astray = r.astray;
      stopped = r.stopped;
      changed = λ h saw.
          let b = mended_none (opening_of g.D.Disk.state c.args.turns.now.first) c.args.pass.now.number h c.args.pass.now.seen saw in
          let k = c.take.ensures.took (h ++ b.front) b.saw in
          let t = took_rolling (opening_of g.D.Disk.state c.args.turns.now.first) c.args.pass.now.number (h ++ b.front) g.D.Disk.told g.D.Disk.state c.args.op.now c.take.new.pass.seen c.take.result k c.in-Rolling.driver c.in-Rolling.bytes c.in-Rolling.is in
          let d = mended_back (opening_of g.D.Disk.state c.args.turns.now.first) c.args.pass.now.number h c.args.pass.now.seen c.take.new.pass.seen b (taken_passed (opening_of g.D.Disk.state c.args.turns.now.first) c.args.pass.now.number (h ++ b.front) c.args.op.now c.take.new.pass.seen t.0) in
          let r = subst (λ (n : ℕ). ChangedIs (opening_of g.D.Disk.state c.args.turns.now.first) n (h ++ d.front) c.args.op.now c.carry_out.new.pass.seen c.carry_out.result) (c.take.ensures.pass.goes.same.0) (c.carry_out.ensures.changed (h ++ d.front) d.saw) in
          changed_on (opening_of g.D.Disk.state c.args.turns.now.first) c.args.pass.now.number h c.args.op.now c.take.new.pass.seen c.carry_out.new.pass.seen d c.carry_out.result r;
      asked = carried_asked g.G.Gate.asked g.G.Gate.asked_on c.args.gate.now c.args.gate.now c.carry_out.new.gate [] no_mending (g.G.Gate.unasked c.args.gate.now) c.carry_out.result r.asked;
      entered = λ h saw. entered_on g.G.Gate.asked g.G.Gate.asked_on c.args.gate.now c.args.gate.now c.carry_out.new.gate _ _ _ _ _ _ _ _ _ (t.pass.goes.same.0) (entered_take_on g.G.Gate.asked g.G.Gate.asked_on c.args.gate.now c.args.gate.now c.args.gate.now _ _ _ _ _ _ g.D.Disk.told g.D.Disk.state c.args.op.now c.take.result _ (ap takes_out c.in-Rolling.is) refl (entered_none (opening_of g.D.Disk.state c.args.turns.now.first) c.args.pass.now.number (g.G.Gate.asked c.args.gate.now c.args.gate.now) h c.args.pass.now.seen (g.G.Gate.unasked c.args.gate.now) saw) (g.G.Gate.unasked c.args.gate.now) t.took) r.entered;
    }

pub returns-in-Denied : goal.returns-in-Denied
returns-in-Denied g c =
    let t = c.take.ensures in
    record {
      pass = t.pass;
      astray = t.astray;
      stopped = still _ _ refl;
      changed = λ h saw.
          let b = mended_none (opening_of g.D.Disk.state c.args.turns.now.first) c.args.pass.now.number h c.args.pass.now.seen saw in
          let k = c.take.ensures.took (h ++ b.front) b.saw in
          changed_on (opening_of g.D.Disk.state c.args.turns.now.first) c.args.pass.now.number h c.args.op.now c.args.pass.now.seen c.take.new.pass.seen b (Ok (Denied c.in-Denied.cause)) (took_denied (opening_of g.D.Disk.state c.args.turns.now.first) c.args.pass.now.number (h ++ b.front) g.D.Disk.told g.D.Disk.state c.args.op.now c.take.new.pass.seen c.take.result k c.in-Denied.cause c.in-Denied.is);
      asked = denied_asked g.G.Gate.asked g.G.Gate.asked_on c.args.gate.now c.args.gate.now c.args.gate.now [] no_mending (g.G.Gate.unasked c.args.gate.now) c.in-Denied.cause (g.G.Gate.unasked c.args.gate.now);
      entered = λ h saw. entered_take_on g.G.Gate.asked g.G.Gate.asked_on c.args.gate.now c.args.gate.now c.args.gate.now _ _ _ _ _ _ g.D.Disk.told g.D.Disk.state c.args.op.now c.take.result _ (ap takes_out c.in-Denied.is) refl (entered_none (opening_of g.D.Disk.state c.args.turns.now.first) c.args.pass.now.number (g.G.Gate.asked c.args.gate.now c.args.gate.now) h c.args.pass.now.seen (g.G.Gate.unasked c.args.gate.now) saw) (g.G.Gate.unasked c.args.gate.now) t.took;
    }

pub change_again-requires-clause-seen : goal.change_again-requires-clause-seen
change_again-requires-clause-seen g c =
    let w = c.requires.seen in let t = (turned g.D.Disk.told g.D.Disk.state (opening_of g.D.Disk.state c.args.turns.now.first) c.args.pass.now.number w.0 c.args.op.now c.take.new.pass.seen c.take.result (c.take.ensures.took w.0 w.1) c.in-Halted.is) in (w.0 ++ t.later, t.saw)

pub returns-in-Halted : goal.returns-in-Halted
returns-in-Halted g c =
    let r = c.change_again.ensures in
    record {
      pass = keeps_on c.args.turns.now c.args.pass.now c.take.new.pass c.change_again.new.pass c.take.ensures.pass r.pass;
      changed = λ h saw.
          let b = turned_back_mended (opening_of g.D.Disk.state c.args.turns.now.first) c.args.pass.now.number h c.take.new.pass.seen (turned g.D.Disk.told g.D.Disk.state (opening_of g.D.Disk.state c.args.turns.now.first) c.args.pass.now.number h c.args.op.now c.take.new.pass.seen c.take.result (c.take.ensures.took h saw) c.in-Halted.is) in
          changed_on (opening_of g.D.Disk.state c.args.turns.now.first) c.args.pass.now.number h c.args.op.now c.take.new.pass.seen c.change_again.new.pass.seen b c.change_again.result
          (subst (λ (n : ℕ). ChangedIs (opening_of g.D.Disk.state c.args.turns.now.first) n (h ++ b.front) c.args.op.now c.change_again.new.pass.seen c.change_again.result) c.take.ensures.pass.goes.same.0 (r.changed (h ++ b.front) b.saw));
      astray = r.astray;
      stopped = r.stopped;
      asked = r.asked;
      entered = λ h saw. entered_on g.G.Gate.asked g.G.Gate.asked_on c.args.gate.now c.args.gate.now c.change_again.new.gate (opening_of g.D.Disk.state c.args.turns.now.first) c.args.pass.now.number c.take.new.pass.number false false false h c.take.new.pass.seen c.change_again.new.pass.seen c.take.ensures.pass.goes.same.0
          (entered_back (opening_of g.D.Disk.state c.args.turns.now.first) c.args.pass.now.number (g.G.Gate.asked c.args.gate.now c.args.gate.now) h c.take.new.pass.seen (g.G.Gate.unasked c.args.gate.now) (turned g.D.Disk.told g.D.Disk.state (opening_of g.D.Disk.state c.args.turns.now.first) c.args.pass.now.number h c.args.op.now c.take.new.pass.seen c.take.result (c.take.ensures.took h saw) c.in-Halted.is)) r.entered;
    }

use Rattle.std.specs.Prelude.{is_err}
use Rattle.std.proofs.Common.{rules, ℕ, Result, Ok, Err, [], ◌∷◌, ◌++◌, inl, inr, refl, sym, ◌∙◌, ap, subst}
use Rattle.dxc_outside.specs.declared.stopped.Stopped.{Stopped}
use Rattle.dxc_outside.specs.Stops.{the_stop}
use Rattle.dxc_model.specs.declared.entry.Outcome.TheVariants.{Taken}
use Rattle.dxc_model.proofs.FirstCauses.{changes}
use Rattle.xc_core.specs.Seeing.{HasPlan, entry}
use Rattle.xc_core.specs.Begins.{plan_of}
use Rattle.xc_core.specs.States.{opening_of}
use Rattle.xc_core.specs.Turns.{TookIs}
use Rattle.craft_session.specs.declared.change.Changed.{Changed}
use Rattle.craft_session.specs.declared.change.Changed.TheVariants.{Denied}
use Rattle.craft_session.specs.declared.mend.Mended.{Mended}
use Rattle.craft_session.specs.Changing.{ChangedIs, MendedIs}
use Rattle.craft_session.proofs.Changing.{changed_on, mend_denied, mend_stopped, mended_back, mended_none, mends_ready, mends_wait, taken_passed, took_back, took_denied, took_halted, took_rolling, turned_back_passed}
use Rattle.craft_session.specs.Askings.{ChangeAsked, no_mending}
use Rattle.craft_session.proofs.Gated.{entered_none, entered_on, entered_take_on, takes_out}
use Rattle.craft_session.proofs.Gating.{denied_asked, mending_denied, mending_more, mending_none, mending_stopped, carried_asked, nothing_more}
use Rattle.craft_session.proofs.Ends.{by_stop, never, rose_after, rose_by, still}
use Rattle.craft_session.proofs.Keeping.{keeps_none, keeps_on}
use Rattle.craft_session.proofs.change.change_again.Goals as goal

pub take-requires-clause-seen : goal.take-requires-clause-seen
take-requires-clause-seen g c = let w = c.requires.seen in let b = c.loop.invariant.mended w.0 w.1 in (w.0 ++ b.front, b.saw)

pub loop-init : goal.loop-init
loop-init g c = record { goes = (tt, tt); pass = keeps_none c.args.turns.now c.args.pass.now c.requires.pass; mended = λ h saw. mended_none (opening_of g.D.Disk.state c.args.turns.now.first) c.args.pass.now.number h c.args.pass.now.seen saw; gate = refl; asked = ([], no_mending, g.G.Gate.unasked c.args.gate.now); entered = λ h saw. entered_none (opening_of g.D.Disk.state c.args.turns.now.first) c.args.pass.now.number (g.G.Gate.asked c.args.gate.now c.args.gate.now) h c.args.pass.now.seen (g.G.Gate.unasked c.args.gate.now) saw }

pub carry_out-requires-clause-planned : goal.carry_out-requires-clause-planned
carry_out-requires-clause-planned g c =
    let w = c.requires.seen in
    let b = c.loop.invariant.mended w.0 w.1 in
    let k = subst (λ (n : ℕ). TookIs g.D.Disk.told g.D.Disk.state (opening_of g.D.Disk.state c.args.turns.now.first) n (w.0 ++ b.front) c.args.op.now c.take.new.pass.seen c.take.result) c.loop.invariant.pass.goes.same.0 (c.take.ensures.took (w.0 ++ b.front) b.saw) in
    let t = took_rolling (opening_of g.D.Disk.state c.args.turns.now.first) c.args.pass.now.number (w.0 ++ b.front) g.D.Disk.told g.D.Disk.state c.args.op.now c.take.new.pass.seen c.take.result k c.in-Rolling.driver c.in-Rolling.bytes c.in-Rolling.is in
    (((w.0 ++ b.front) ++ t.0.later) ++ entry c.args.pass.now.number c.args.op.now Taken ∷ [], t.0.saw, subst (λ (n : ℕ). HasPlan g.D.Disk.told g.D.Disk.state (opening_of g.D.Disk.state c.args.turns.now.first) n (((w.0 ++ b.front) ++ t.0.later) ++ entry c.args.pass.now.number c.args.op.now Taken ∷ []) c.in-Rolling.driver.value.p (plan_of c.args.op.now c.in-Rolling.driver.value.rolling c.in-Rolling.bytes)) (sym (c.take.ensures.pass.goes.same.0 ∙ c.loop.invariant.pass.goes.same.0)) t.1)

pub returns-in-Rolling : goal.returns-in-Rolling
returns-in-Rolling g c =
    let k = c.loop.invariant in
    let t = c.take.ensures in
    let r = c.carry_out.ensures in
    let unstopped = k.gate in
    record {
      pass = keeps_on c.args.turns.now c.args.pass.now c.take.new.pass c.carry_out.new.pass (keeps_on c.args.turns.now c.args.pass.now c.loop.pass c.take.new.pass c.loop.invariant.pass c.take.ensures.pass) r.pass;
      astray = r.astray;
      stopped = rose_after _ _ _ _ unstopped r.stopped;
      changed = λ h saw.
          let b = c.loop.invariant.mended h saw in
          let k = subst (λ (n : ℕ). TookIs g.D.Disk.told g.D.Disk.state (opening_of g.D.Disk.state c.args.turns.now.first) n (h ++ b.front) c.args.op.now c.take.new.pass.seen c.take.result) c.loop.invariant.pass.goes.same.0 (c.take.ensures.took (h ++ b.front) b.saw) in
          let t = took_rolling (opening_of g.D.Disk.state c.args.turns.now.first) c.args.pass.now.number (h ++ b.front) g.D.Disk.told g.D.Disk.state c.args.op.now c.take.new.pass.seen c.take.result k c.in-Rolling.driver c.in-Rolling.bytes c.in-Rolling.is in
          let d = mended_back (opening_of g.D.Disk.state c.args.turns.now.first) c.args.pass.now.number h c.loop.pass.seen c.take.new.pass.seen b (taken_passed (opening_of g.D.Disk.state c.args.turns.now.first) c.args.pass.now.number (h ++ b.front) c.args.op.now c.take.new.pass.seen t.0) in
          let r = subst (λ (n : ℕ). ChangedIs (opening_of g.D.Disk.state c.args.turns.now.first) n (h ++ d.front) c.args.op.now c.carry_out.new.pass.seen c.carry_out.result) (c.take.ensures.pass.goes.same.0 ∙ c.loop.invariant.pass.goes.same.0) (c.carry_out.ensures.changed (h ++ d.front) d.saw) in
          changed_on (opening_of g.D.Disk.state c.args.turns.now.first) c.args.pass.now.number h c.args.op.now c.take.new.pass.seen c.carry_out.new.pass.seen d c.carry_out.result r;
      asked = carried_asked g.G.Gate.asked g.G.Gate.asked_on c.args.gate.now c.loop.gate c.carry_out.new.gate k.asked.0 k.asked.1 k.asked.2 c.carry_out.result r.asked;
      entered = λ h saw. entered_on g.G.Gate.asked g.G.Gate.asked_on c.args.gate.now c.loop.gate c.carry_out.new.gate _ _ _ _ _ _ _ _ _ (t.pass.goes.same.0 ∙ k.pass.goes.same.0) (entered_take_on g.G.Gate.asked g.G.Gate.asked_on c.args.gate.now c.loop.gate c.loop.gate _ _ _ _ _ _ g.D.Disk.told g.D.Disk.state c.args.op.now c.take.result _ (ap takes_out c.in-Rolling.is) k.pass.goes.same.0 (k.entered h saw) (g.G.Gate.unasked c.loop.gate) t.took) r.entered;
    }

pub returns-in-Denied : goal.returns-in-Denied
returns-in-Denied g c =
    let k = c.loop.invariant in
    let t = c.take.ensures in
    record {
      pass = keeps_on c.args.turns.now c.args.pass.now c.loop.pass c.take.new.pass c.loop.invariant.pass c.take.ensures.pass;
      astray = t.astray;
      stopped = still _ _ k.gate;
      changed = λ h saw.
          let b = c.loop.invariant.mended h saw in
          let k = subst (λ (n : ℕ). TookIs g.D.Disk.told g.D.Disk.state (opening_of g.D.Disk.state c.args.turns.now.first) n (h ++ b.front) c.args.op.now c.take.new.pass.seen c.take.result) c.loop.invariant.pass.goes.same.0 (c.take.ensures.took (h ++ b.front) b.saw) in
          changed_on (opening_of g.D.Disk.state c.args.turns.now.first) c.args.pass.now.number h c.args.op.now c.loop.pass.seen c.take.new.pass.seen b (Ok (Denied c.in-Denied.cause)) (took_denied (opening_of g.D.Disk.state c.args.turns.now.first) c.args.pass.now.number (h ++ b.front) g.D.Disk.told g.D.Disk.state c.args.op.now c.take.new.pass.seen c.take.result k c.in-Denied.cause c.in-Denied.is);
      asked = denied_asked g.G.Gate.asked g.G.Gate.asked_on c.args.gate.now c.loop.gate c.loop.gate k.asked.0 k.asked.1 k.asked.2 c.in-Denied.cause (g.G.Gate.unasked c.loop.gate);
      entered = λ h saw. entered_take_on g.G.Gate.asked g.G.Gate.asked_on c.args.gate.now c.loop.gate c.loop.gate _ _ _ _ _ _ g.D.Disk.told g.D.Disk.state c.args.op.now c.take.result _ (ap takes_out c.in-Denied.is) k.pass.goes.same.0 (k.entered h saw) (g.G.Gate.unasked c.loop.gate) t.took;
    }

pub mend-requires-clause-asked : goal.mend-requires-clause-asked
mend-requires-clause-asked g c = let is = changes (opening_of g.D.Disk.state c.args.turns.now.first).first.fold.table.shape c.args.op.now c.requires.apt in inr (search rules)

pub mend-requires-clause-seen : goal.mend-requires-clause-seen
mend-requires-clause-seen g c =
    let w = c.requires.seen in
    let b = c.loop.invariant.mended w.0 w.1 in
    let k = subst (λ (n : ℕ). TookIs g.D.Disk.told g.D.Disk.state (opening_of g.D.Disk.state c.args.turns.now.first) n (w.0 ++ b.front) c.args.op.now c.take.new.pass.seen c.take.result) c.loop.invariant.pass.goes.same.0 (c.take.ensures.took (w.0 ++ b.front) b.saw) in
    let d = mended_back (opening_of g.D.Disk.state c.args.turns.now.first) c.args.pass.now.number w.0 c.loop.pass.seen c.take.new.pass.seen b (turned_back_passed (opening_of g.D.Disk.state c.args.turns.now.first) c.args.pass.now.number (w.0 ++ b.front) c.take.new.pass.seen (took_halted (opening_of g.D.Disk.state c.args.turns.now.first) c.args.pass.now.number (w.0 ++ b.front) g.D.Disk.told g.D.Disk.state c.args.op.now c.take.new.pass.seen c.take.result k c.in-Halted.is)) in
    (w.0 ++ d.front, d.saw)

pub loop-preserved : goal.loop-preserved
loop-preserved g c = record {
  goes = (tt, tt);
  pass = keeps_on c.args.turns.now c.args.pass.now c.loop.pass c.take.new.pass c.loop.invariant.pass c.take.ensures.pass;
  mended = λ h saw.
      let b = c.loop.invariant.mended h saw in
      let k = subst (λ (n : ℕ). TookIs g.D.Disk.told g.D.Disk.state (opening_of g.D.Disk.state c.args.turns.now.first) n (h ++ b.front) c.args.op.now c.take.new.pass.seen c.take.result) c.loop.invariant.pass.goes.same.0 (c.take.ensures.took (h ++ b.front) b.saw) in
      mended_back (opening_of g.D.Disk.state c.args.turns.now.first) c.args.pass.now.number h c.loop.pass.seen c.take.new.pass.seen b (turned_back_passed (opening_of g.D.Disk.state c.args.turns.now.first) c.args.pass.now.number (h ++ b.front) c.take.new.pass.seen (took_back (opening_of g.D.Disk.state c.args.turns.now.first) c.args.pass.now.number (h ++ b.front) g.D.Disk.told g.D.Disk.state c.args.op.now c.take.new.pass.seen c.take.result k c.in-Waits.is));
  gate = c.loop.invariant.gate;
  asked = (c.loop.invariant.asked.0, c.loop.invariant.asked.1, nothing_more g.G.Gate.asked g.G.Gate.asked_on c.args.gate.now c.loop.gate c.loop.gate c.loop.invariant.asked.0 c.loop.invariant.asked.2 (g.G.Gate.unasked c.loop.gate));
  entered = λ h saw. entered_take_on g.G.Gate.asked g.G.Gate.asked_on c.args.gate.now c.loop.gate c.loop.gate _ _ _ _ _ _ g.D.Disk.told g.D.Disk.state c.args.op.now c.take.result _ (ap takes_out c.in-Waits.is) c.loop.invariant.pass.goes.same.0 (c.loop.invariant.entered h saw) (g.G.Gate.unasked c.loop.gate) c.take.ensures.took;
}

pub loop-preserved-in-Ready : goal.loop-preserved-in-Ready
loop-preserved-in-Ready g c = record {
  goes = (tt, tt);
  pass = keeps_on c.args.turns.now c.args.pass.now c.take.new.pass c.mend.new.pass (keeps_on c.args.turns.now c.args.pass.now c.loop.pass c.take.new.pass c.loop.invariant.pass c.take.ensures.pass) c.mend.ensures.pass;
  mended = λ h saw.
      let b = c.loop.invariant.mended h saw in
      let k = subst (λ (n : ℕ). TookIs g.D.Disk.told g.D.Disk.state (opening_of g.D.Disk.state c.args.turns.now.first) n (h ++ b.front) c.args.op.now c.take.new.pass.seen c.take.result) c.loop.invariant.pass.goes.same.0 (c.take.ensures.took (h ++ b.front) b.saw) in
      let d = mended_back (opening_of g.D.Disk.state c.args.turns.now.first) c.args.pass.now.number h c.loop.pass.seen c.take.new.pass.seen b (turned_back_passed (opening_of g.D.Disk.state c.args.turns.now.first) c.args.pass.now.number (h ++ b.front) c.take.new.pass.seen (took_halted (opening_of g.D.Disk.state c.args.turns.now.first) c.args.pass.now.number (h ++ b.front) g.D.Disk.told g.D.Disk.state c.args.op.now c.take.new.pass.seen c.take.result k c.in-Halted.is)) in
      let m = subst (λ (n : ℕ). MendedIs (opening_of g.D.Disk.state c.args.turns.now.first) n (h ++ d.front) c.args.op.now c.mend.new.pass.seen c.mend.result) (c.take.ensures.pass.goes.same.0 ∙ c.loop.invariant.pass.goes.same.0) (c.mend.ensures.mended (h ++ d.front) d.saw) in
      elim c.in-Ready.is [
        | inl is ↦ mends_ready (opening_of g.D.Disk.state c.args.turns.now.first) c.args.pass.now.number h (opening_of g.D.Disk.state c.args.turns.now.first).first.fold.table.shape c.args.op.now c.requires.apt c.take.new.pass.seen c.mend.new.pass.seen d c.mend.result m (c.in_ok-mend-in-Halted.was ∙ ap (λ (p : Mended). Ok p) is)
        | inr is ↦ mends_wait (opening_of g.D.Disk.state c.args.turns.now.first) c.args.pass.now.number h (opening_of g.D.Disk.state c.args.turns.now.first).first.fold.table.shape c.args.op.now c.requires.apt c.take.new.pass.seen c.mend.new.pass.seen d c.mend.result m (c.in_ok-mend-in-Halted.was ∙ ap (λ (p : Mended). Ok p) is)
      ];
  gate = c.in_ok-mend-in-Halted.ensures.stopped.only (λ e. never e) ∙ c.loop.invariant.gate;
  asked = elim c.in-Ready.is [ inl is ↦ mending_more g.G.Gate.asked g.G.Gate.asked_on c.args.gate.now c.loop.gate c.mend.new.gate c.loop.invariant.asked.0 c.loop.invariant.asked.1 (nothing_more g.G.Gate.asked g.G.Gate.asked_on c.args.gate.now c.loop.gate c.loop.gate c.loop.invariant.asked.0 c.loop.invariant.asked.2 (g.G.Gate.unasked c.loop.gate)) c.mend.result (c.in_ok-mend-in-Halted.was ∙ ap (λ (p : Mended). Ok p) is) c.mend.ensures.asked | inr is ↦ mending_none g.G.Gate.asked g.G.Gate.asked_on c.args.gate.now c.loop.gate c.mend.new.gate c.loop.invariant.asked.0 c.loop.invariant.asked.1 (nothing_more g.G.Gate.asked g.G.Gate.asked_on c.args.gate.now c.loop.gate c.loop.gate c.loop.invariant.asked.0 c.loop.invariant.asked.2 (g.G.Gate.unasked c.loop.gate)) c.mend.result (c.in_ok-mend-in-Halted.was ∙ ap (λ (p : Mended). Ok p) is) c.mend.ensures.asked ];
  entered = λ h saw. entered_on g.G.Gate.asked g.G.Gate.asked_on c.args.gate.now c.loop.gate c.mend.new.gate _ _ _ _ _ _ _ _ _ (c.take.ensures.pass.goes.same.0 ∙ c.loop.invariant.pass.goes.same.0) (entered_take_on g.G.Gate.asked g.G.Gate.asked_on c.args.gate.now c.loop.gate c.loop.gate _ _ _ _ _ _ g.D.Disk.told g.D.Disk.state c.args.op.now c.take.result _ (ap takes_out c.in-Halted.is) c.loop.invariant.pass.goes.same.0 (c.loop.invariant.entered h saw) (g.G.Gate.unasked c.loop.gate) c.take.ensures.took) c.mend.ensures.entered;
}

pub returns-in-Denied-2 : goal.returns-in-Denied-2
returns-in-Denied-2 g c =
    let k = c.loop.invariant in
    let t = c.take.ensures in
    let m = c.mend.ensures in
    let unstopped = k.gate in
    record {
      pass = keeps_on c.args.turns.now c.args.pass.now c.take.new.pass c.mend.new.pass (keeps_on c.args.turns.now c.args.pass.now c.loop.pass c.take.new.pass c.loop.invariant.pass c.take.ensures.pass) m.pass;
      astray = m.astray;
      stopped = still _ _ (c.in_ok-mend-in-Halted.ensures.stopped.only (λ e. never e) ∙ unstopped);
      changed = λ h saw.
          let b = c.loop.invariant.mended h saw in
          let k = subst (λ (n : ℕ). TookIs g.D.Disk.told g.D.Disk.state (opening_of g.D.Disk.state c.args.turns.now.first) n (h ++ b.front) c.args.op.now c.take.new.pass.seen c.take.result) c.loop.invariant.pass.goes.same.0 (c.take.ensures.took (h ++ b.front) b.saw) in
          let d = mended_back (opening_of g.D.Disk.state c.args.turns.now.first) c.args.pass.now.number h c.loop.pass.seen c.take.new.pass.seen b (turned_back_passed (opening_of g.D.Disk.state c.args.turns.now.first) c.args.pass.now.number (h ++ b.front) c.take.new.pass.seen (took_halted (opening_of g.D.Disk.state c.args.turns.now.first) c.args.pass.now.number (h ++ b.front) g.D.Disk.told g.D.Disk.state c.args.op.now c.take.new.pass.seen c.take.result k c.in-Halted.is)) in
          let m = subst (λ (n : ℕ). MendedIs (opening_of g.D.Disk.state c.args.turns.now.first) n (h ++ d.front) c.args.op.now c.mend.new.pass.seen c.mend.result) (c.take.ensures.pass.goes.same.0 ∙ c.loop.invariant.pass.goes.same.0) (c.mend.ensures.mended (h ++ d.front) d.saw) in
          changed_on (opening_of g.D.Disk.state c.args.turns.now.first) c.args.pass.now.number h c.args.op.now c.take.new.pass.seen c.mend.new.pass.seen d (Ok (Denied c.in-Denied-2.cause)) (mend_denied (opening_of g.D.Disk.state c.args.turns.now.first) c.args.pass.now.number (h ++ d.front) (opening_of g.D.Disk.state c.args.turns.now.first).first.fold.table.shape c.args.op.now c.requires.apt c.mend.new.pass.seen c.in-Denied-2.cause (subst (λ (z : Result Mended Stopped). MendedIs (opening_of g.D.Disk.state c.args.turns.now.first) c.args.pass.now.number (h ++ d.front) c.args.op.now c.mend.new.pass.seen z) (c.in_ok-mend-in-Halted.was ∙ ap (λ (p : Mended). Ok p) c.in-Denied-2.is) m));
      asked = mending_denied g.G.Gate.asked g.G.Gate.asked_on c.args.gate.now c.loop.gate c.mend.new.gate c.loop.invariant.asked.0 c.loop.invariant.asked.1 (nothing_more g.G.Gate.asked g.G.Gate.asked_on c.args.gate.now c.loop.gate c.loop.gate c.loop.invariant.asked.0 c.loop.invariant.asked.2 (g.G.Gate.unasked c.loop.gate)) c.mend.result c.in-Denied-2.cause (c.in_ok-mend-in-Halted.was ∙ ap (λ (p : Mended). Ok p) c.in-Denied-2.is) c.mend.ensures.asked;
      entered = λ h saw. entered_on g.G.Gate.asked g.G.Gate.asked_on c.args.gate.now c.loop.gate c.mend.new.gate _ _ _ _ _ _ _ _ _ (t.pass.goes.same.0 ∙ k.pass.goes.same.0) (entered_take_on g.G.Gate.asked g.G.Gate.asked_on c.args.gate.now c.loop.gate c.loop.gate _ _ _ _ _ _ g.D.Disk.told g.D.Disk.state c.args.op.now c.take.result _ (ap takes_out c.in-Halted.is) k.pass.goes.same.0 (k.entered h saw) (g.G.Gate.unasked c.loop.gate) t.took) m.entered;
    }

pub returns-in_err-mend-in-Halted : goal.returns-in_err-mend-in-Halted
returns-in_err-mend-in-Halted g c =
    let k = c.loop.invariant in
    let t = c.take.ensures in
    let m = c.mend.ensures in
    let stop = c.from_residual.ensures.0 in
    record {
      pass = keeps_on c.args.turns.now c.args.pass.now c.take.new.pass c.mend.new.pass (keeps_on c.args.turns.now c.args.pass.now c.loop.pass c.take.new.pass c.loop.invariant.pass c.take.ensures.pass) m.pass;
      astray = m.astray;
      stopped = rose_by _ _ _ _ (rose_after _ _ _ _ k.gate m.stopped) (ap is_err c.in_err-mend-in-Halted.was) stop;
      changed = λ h saw.
          let b = c.loop.invariant.mended h saw in
          let k = subst (λ (n : ℕ). TookIs g.D.Disk.told g.D.Disk.state (opening_of g.D.Disk.state c.args.turns.now.first) n (h ++ b.front) c.args.op.now c.take.new.pass.seen c.take.result) c.loop.invariant.pass.goes.same.0 (c.take.ensures.took (h ++ b.front) b.saw) in
          let d = mended_back (opening_of g.D.Disk.state c.args.turns.now.first) c.args.pass.now.number h c.loop.pass.seen c.take.new.pass.seen b (turned_back_passed (opening_of g.D.Disk.state c.args.turns.now.first) c.args.pass.now.number (h ++ b.front) c.take.new.pass.seen (took_halted (opening_of g.D.Disk.state c.args.turns.now.first) c.args.pass.now.number (h ++ b.front) g.D.Disk.told g.D.Disk.state c.args.op.now c.take.new.pass.seen c.take.result k c.in-Halted.is)) in
          let m = subst (λ (n : ℕ). MendedIs (opening_of g.D.Disk.state c.args.turns.now.first) n (h ++ d.front) c.args.op.now c.mend.new.pass.seen c.mend.result) (c.take.ensures.pass.goes.same.0 ∙ c.loop.invariant.pass.goes.same.0) (c.mend.ensures.mended (h ++ d.front) d.saw) in
          by_stop (λ (r : Result Changed Stopped). ChangedIs (opening_of g.D.Disk.state c.args.turns.now.first) c.args.pass.now.number h c.args.op.now c.mend.new.pass.seen r) c.from_residual.result stop
          (changed_on (opening_of g.D.Disk.state c.args.turns.now.first) c.args.pass.now.number h c.args.op.now c.take.new.pass.seen c.mend.new.pass.seen d (Err the_stop) (mend_stopped (opening_of g.D.Disk.state c.args.turns.now.first) c.args.pass.now.number (h ++ d.front) (opening_of g.D.Disk.state c.args.turns.now.first).first.fold.table.shape c.args.op.now c.requires.apt c.mend.new.pass.seen (subst (λ (z : Result Mended Stopped). MendedIs (opening_of g.D.Disk.state c.args.turns.now.first) c.args.pass.now.number (h ++ d.front) c.args.op.now c.mend.new.pass.seen z) c.in_err-mend-in-Halted.was m)));
      asked = by_stop (λ (r : Result Changed Stopped). ChangeAsked (g.G.Gate.asked c.args.gate.now c.mend.new.gate) r) c.from_residual.result stop (mending_stopped g.G.Gate.asked g.G.Gate.asked_on c.args.gate.now c.loop.gate c.mend.new.gate c.loop.invariant.asked.0 c.loop.invariant.asked.1 (nothing_more g.G.Gate.asked g.G.Gate.asked_on c.args.gate.now c.loop.gate c.loop.gate c.loop.invariant.asked.0 c.loop.invariant.asked.2 (g.G.Gate.unasked c.loop.gate)) c.mend.result c.in_err-mend-in-Halted.was c.mend.ensures.asked);
      entered = λ h saw. entered_on g.G.Gate.asked g.G.Gate.asked_on c.args.gate.now c.loop.gate c.mend.new.gate _ _ _ _ _ _ _ _ _ (t.pass.goes.same.0 ∙ k.pass.goes.same.0) (entered_take_on g.G.Gate.asked g.G.Gate.asked_on c.args.gate.now c.loop.gate c.loop.gate _ _ _ _ _ _ g.D.Disk.told g.D.Disk.state c.args.op.now c.take.result _ (ap takes_out c.in-Halted.is) k.pass.goes.same.0 (k.entered h saw) (g.G.Gate.unasked c.loop.gate) t.took) m.entered;
    }

use Rattle.std.proofs.Common.{List, Option, ◌∷◌, [], ◌++◌, sym, subst}
use Rattle.dxc_outside.specs.declared.gate.GatePlace.{GatePlace}
use Rattle.user_admin.specs.declared.op.UserMark.TheVariants.{Took}
use Rattle.user_admin.specs.Shared.{Boxed, SharedFor}
use Rattle.user_admin.proofs.Sharing.{keeper_taken, shared_denied, shared_taken}
use Rattle.user_admin.proofs.Standing.{asked_none}
use Rattle.user_admin.proofs.shared.SharedUsers.plan.Goals as goal

pub returns-in-Err-clause-planned : goal.returns-in-Err-clause-planned
returns-in-Err-clause-planned g c = λ o own ms st. shared_denied g.D.Disk.told g.D.Disk.state (λ d told. g.met.D.Disk.is_disk d told) (λ d. g.met.D.Disk.counts_on d) o ms c.args.self.now own (record { marker = record {}; value = c.args.op.now }) c.in-Err.cause c.in-Err.ensures st

pub returns-in-Err-clause-asked : goal.returns-in-Err-clause-asked
returns-in-Err-clause-asked g c = subst (λ (places : List GatePlace). g.G.Gate.asked c.args.gate.now c.args.gate.now places) (sym (asked_none c.args.op.now c.args.self.now.list c.in-Err.cause c.in-Err.ensures)) (g.G.Gate.unasked c.args.gate.now)

pub returns-in-Ok-pass-clause-planned : goal.returns-in-Ok-pass-clause-planned
returns-in-Ok-pass-clause-planned g c = λ o own ms st.
    let is = sym c.in-Some.ensures.value in (
      subst (λ (x : Option (Boxed g.row.D.Denot)). SharedFor g.D.Disk.told g.D.Disk.state o (record c.args.self.now { keeper = x }) (ms ++ Took own ∷ [])) (sym c.replace.ensures.after) (shared_taken g.D.Disk.told g.D.Disk.state (λ d told. g.met.D.Disk.is_disk d told) (λ d. g.met.D.Disk.counts_on d) o ms c.args.self.now st c.in-Some.keeper is own),
      keeper_taken g.D.Disk.told g.D.Disk.state (λ d told. g.met.D.Disk.is_disk d told) (λ d. g.met.D.Disk.counts_on d) o ms c.args.self.now st c.in-Some.keeper is own c.args.op.now c.in-Ok.change c.in-Ok.ensures,
    )

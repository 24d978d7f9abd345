use Rattle.std.proofs.Common.{◌≡◌, sym, subst}
use Rattle.std.specs.Arc.{arc_value}
use Rattle.fabric_core.specs.declared.worker.Worker.{Worker}
use Rattle.dxc_load.specs.Carrying.{AreLoadFrames, no_frame}
use Rattle.dxc_load.proofs.carrier.Carrier.new.Goals as goal

pub invariant_of-result-clause-each : goal.invariant_of-result-clause-each
invariant_of-result-clause-each c = subst (λ (v : Worker). AreLoadFrames (arc_value c.args.fabric).size v.number 0 v.notes) (sym c.requires.unused) ∣ no_frame ∣₁

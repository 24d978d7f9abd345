use Rattle.std.proofs.Common.{ℕ, Option, sym, subst}
use Rattle.std.specs.Prelude.{IfSome}
use Rattle.fabric_core.specs.declared.worker.Worker.{Worker}
use Rattle.fabric_core.specs.Working.{HasOutput, HasPath, Runs}
use Rattle.worked_frames.proofs.Holding.{has_path}
use Rattle.worked_frames.proofs.reader.follow.Goals as goal

pub load_in-slot-requires-clause-allowed : goal.load_in-slot-requires-clause-allowed
load_in-slot-requires-clause-allowed c =
    let v = c.args.seat.now.reader.worker in
    let held = subst (λ (o : Option ℕ). IfSome o (λ word. Runs v × HasOutput v.hold)) c.in-Some.is c.requires.held in
    subst (λ (x : Worker). HasPath x.hold) (sym c.load_mid-module.ensures.event) (has_path c.load_mid-module.result v.hold held.1)

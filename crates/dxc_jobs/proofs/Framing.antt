-- A worker's frames, as its job tells them.
use Rattle.std.specs.Prelude.{◌≡◌, ℕ}
use Rattle.std.proofs.Common.{subst}
use Rattle.dxc_outside.specs.Frames.{LinesState}
use Rattle.fabric_core.specs.declared.size.Size.{Size}
use Rattle.fabric_core.specs.declared.worker.Worker.{Worker}
use Rattle.frame_worker.specs.declared.lines.LinesEnd.{LinesEnd}
use Rattle.frame_worker.specs.Lines.{IsRun}

-- a run on what was lent is one on what the job holds
pub run_of : (told : Type 0) (n : ℕ) (end : LinesEnd) (old new : LinesState) (lent z : Size) (from v to w : Worker) → lent ≡ z → from ≡ v → to ≡ w → IsRun lent told n end old new from to → IsRun z told n end old new v w
run_of told n end old new lent z from v to w size worker later run =
    subst (λ (y : Worker). IsRun z told n end old new v y) later (subst (λ (x : Worker). IsRun z told n end old new x to) worker (subst (λ (x : Size). IsRun x told n end old new from to) size run))

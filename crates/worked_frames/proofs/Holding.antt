-- What a worker follows.
use Rattle.std.proofs.Common.{ℕ, ◌-◌}
use Rattle.fabric_core.specs.declared.worker.Hold.{Hold}
use Rattle.fabric_core.specs.declared.worker.Hold.TheVariants.{Empty, Output, Path}
use Rattle.fabric_core.specs.Working.{HasOutput, HasPath, with_module}

-- after the MID word of an output that it holds it has a path
pub has_path : (q : ℕ) (h : Hold) → HasOutput h → HasPath (with_module (q - 1) h)
has_path q (Output y n k) has = tt
has_path q (Path y n k i) has = absurd has
has_path q Empty has = absurd has

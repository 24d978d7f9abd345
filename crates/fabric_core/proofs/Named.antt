-- The words that a hold names lie in the registers, and name ports of the shape.
use Rattle.std.proofs.Common.{◌≢◌, ◌-◌, ◌<◌, ◌≤◌, arith}
use Rattle.dxc_num.specs.Dimensions.{IsPort}
use Rattle.fabric_core.specs.declared.size.Size.{Size}
use Rattle.fabric_core.specs.declared.mover.Mover.{Mover}
use Rattle.fabric_core.specs.declared.worker.Worker.{Worker}
use Rattle.fabric_core.specs.declared.worker.Hold.{Hold}
use Rattle.fabric_core.specs.declared.worker.Hold.TheVariants.{Empty, Output, Path}
use Rattle.fabric_core.specs.State.{IsSize}
use Rattle.fabric_core.specs.Working.{HasOutput, HasPath, HasMidCell, HasInCell, named_mid, named_in, port_of}
use Rattle.fabric_core.specs.Laid.{IsLaidOut}
use Rattle.fabric_core.specs.Rule.{IsHoldRuled}
use Rattle.fabric_core.proofs.Working.{output_inside, path_inside}

module _ (z : Size) (m : Mover) (s : IsSize z) (r : IsLaidOut z m) (v : Worker) where
  pub mid_cell_is : (h : Hold) → HasOutput h → IsHoldRuled z.shape m v h → HasMidCell z.shape m.registers h
  mid_cell_is Empty has rule = absurd has
  mid_cell_is (Path y n k i) has rule = absurd has
  mid_cell_is (Output y n k) has rule = let low = (output_inside z m s r v y n k rule).2 in let size = r.mids in omega arith

  pub mid_named : (h : Hold) → HasOutput h → IsHoldRuled z.shape m v h → (named_mid z.shape m.registers h ≢ 0) × (named_mid z.shape m.registers h - 1 < z.shape.modules)
  mid_named Empty has rule = absurd has
  mid_named (Path y n k i) has rule = absurd has
  mid_named (Output y n k) has rule = let all = output_inside z m s r v y n k rule in (all.3, all.4)

  pub mid_fits : (h : Hold) → HasOutput h → IsHoldRuled z.shape m v h → named_mid z.shape m.registers h ≤ 65536
  mid_fits h has rule = let low = (mid_named h has rule).1 in let most = s.shape.most_modules in omega arith

  pub in_cell_is : (h : Hold) → HasPath h → IsHoldRuled z.shape m v h → HasInCell z.shape m.registers h
  in_cell_is Empty has rule = absurd has
  in_cell_is (Output y n k) has rule = absurd has
  in_cell_is (Path y n k i) has rule = let low = (path_inside z m s r v y n k i rule).3 in let size = r.ins in omega arith

  pub in_named : (h : Hold) → HasPath h → IsHoldRuled z.shape m v h → (named_in z.shape m.registers h ≢ 0) × IsPort z.shape (port_of z.shape h (named_in z.shape m.registers h))
  in_named Empty has rule = absurd has
  in_named (Output y n k) has rule = absurd has
  in_named (Path y n k i) has rule = let all = path_inside z m s r v y n k i rule in (all.4, all.5)

use Rattle.std.proofs.Common.{◌∙◌, ap, subst}
use Rattle.dxc_num.specs.Dimensions.{Dimensions}
use Rattle.dxc_model.specs.Tables.{Board}
use Rattle.paull_matrix.specs.Colourings.{Colouring}
use Rattle.xc_core.specs.Provisioners.{HasRoom}
use Rattle.xc_core.proofs.start.memory_for.Goals as goal

pub returns : goal.returns
returns c = record {
  table = ap (λ (t : Board). t.shape) c.in_ok-table.ensures ∙ c.shape-shape.ensures;
  matrix = ap (λ (m : Colouring). m.shape) c.in_ok-matrix.ensures ∙ c.shape-shape.ensures;
  fresh = c.in_ok-reports.ensures;
  room = subst (λ (d : Dimensions). HasRoom d c.in_ok-replayed.replayed) c.shape-shape.ensures c.in_ok-replayed.ensures;
}

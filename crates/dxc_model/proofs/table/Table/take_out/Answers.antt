use Rattle.dxc_model.proofs.Taking.{kept_taken_out, may_take_as}
use Rattle.dxc_model.proofs.table.Table.take_out.Goals as goal

pub invariant_of-self : goal.invariant_of-self
invariant_of-self c = kept_taken_out _ c.self.inside.sides c.args.middle c.self.invariant (may_take_as _ _ _ c.self.view_is c.requires)

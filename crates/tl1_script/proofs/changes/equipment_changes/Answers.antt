use Rattle.std.proofs.Common.{List, ℕ, Bool, ◌++◌, ◌∙◌, ap, ap₂}
use Rattle.std.specs.Prelude.{flat_map}
use Rattle.std.specs.List.{range_with_len}
use Rattle.dxc_model.specs.declared.op.Change.{Change}
use Rattle.dxc_model.specs.Equipment.{has_bit}
use Rattle.dxc_model.specs.Tables.{is_equipped}
use Rattle.tl1_script.specs.Scripts.{module_changes}
use Rattle.tl1_script.proofs.Making.{module_more}
use Rattle.tl1_script.proofs.changes.equipment_changes.Goals as goal

pub loop-at-preserved : goal.loop-at-preserved
loop-at-preserved c =
    let at = c.loop-at.at in
    let step : ℕ → List Change = λ m. module_changes (has_bit c.args.equipped m) (is_equipped c.args.table.now m) m in
    let front = flat_map step (range_with_len 0 at) in
    c.in_ok-push_module.ensures
    ∙ (ap (λ (l : List Change). l ++ module_changes c.has-was.result c.equipped-is.result at) c.loop-at.invariant
    ∙ (ap₂ (λ (a b : Bool). front ++ module_changes a b at) c.has-was.ensures c.equipped-is.ensures
    ∙ module_more step at))

-- The changes that come to a table from one without connections.
use Rattle.std.specs.Prelude.{◌≡◌, ℕ, Bool, true, false, List, [], ◌∷◌, ◌++◌, map, flat_map, Option, Some, None}
use Rattle.std.specs.List.{range_with_len}
use Rattle.dxc_num.specs.Dimensions.{Dimensions}
use Rattle.dxc_num.specs.declared.port.Middle.{Middle}
use Rattle.dxc_model.specs.declared.op.Change.{Change}
use Rattle.dxc_model.specs.declared.op.Change.TheVariants.{Enter, EnterModule, DeleteModule, TakeOut}
use Rattle.dxc_model.specs.Equipment.{has_bit}
use Rattle.dxc_model.specs.Tables.{Board, is_equipped}

-- a module is equipped that wasn't, or the other way round
abbrev pub module_changes : (was is : Bool) → ℕ → List Change
module_changes false true m = EnterModule m ∷ []
module_changes true false m = DeleteModule m ∷ []
module_changes true true m = []
module_changes false false m = []

-- the modules that commands equipped, or took the equipment of
abbrev pub equipment_changes : ℕ → Board → List Change
equipment_changes bits t = flat_map (λ m. module_changes (has_bit bits m) (is_equipped t m) m) (range_with_len 0 t.shape.modules)

-- the middle that is out
abbrev pub out_changes : Option Middle → List Change
out_changes None = []
out_changes (Some m) = TakeOut m ∷ []

-- From so many equipped modules, as bits: first the equipment, then the connections in their order, and last the middle, since a middle that
-- is out may stand in the way of a connection.
abbrev pub changes_to : ℕ → Board → List Change
changes_to bits t = equipment_changes bits t ++ map Enter t.conns ++ out_changes t.out

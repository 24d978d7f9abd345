-- Names both ways: what is written is read again, and nothing else names that port, module or middle but for case.
use Rattle.std.specs.Prelude.{◌≡◌, ◌↔◌, ℕ, List, Some}
use Rattle.dxc_num.specs.declared.port.Port.{Port}
use Rattle.dxc_num.specs.declared.port.Middle.{Middle}
use Rattle.dxc_num.specs.Dimensions.{Dimensions, IsModule, IsPort, IsWorking}
use Rattle.dxc_model.specs.declared.op.Selection.{Selection}
use Rattle.dxc_aid.specs.Names.{module_name, middle_name, port_name, NamesModule, NamesMiddle, NamesPort, NamesSelection, module_named, middle_named, port_named, selection_named}

-- a text is read as the module, the middle, the port, the selection that it names, and as no other
pub record AreNames (d : Dimensions) : Type 0 where
  pub modules : (text : List ℕ) (m : ℕ) → (module_named d text ≡ Some m) ↔ NamesModule d text m
  pub middles : (text : List ℕ) (m : Middle) → (middle_named d text ≡ Some m) ↔ NamesMiddle d text m
  pub ports : (text : List ℕ) (p : Port) → (port_named d text ≡ Some p) ↔ NamesPort d text p
  pub selections : (text : List ℕ) (s : Selection) → (selection_named d text ≡ Some s) ↔ NamesSelection d text s

-- what is written is read again
pub record AreReadAgain (d : Dimensions) : Type 0 where
  pub modules : (m : ℕ) → IsModule d m → module_named d (module_name m) ≡ Some m
  pub middles : (m : Middle) → IsWorking d m.0 → middle_named d (middle_name m) ≡ Some m
  pub ports : (p : Port) → IsPort d p → port_named d (port_name d p) ≡ Some p

-- A table on a larger shelf.
use Rattle.std.specs.Prelude.{◌≡◌, ◌≤◌, ℕ, ◌+◌, ◌*◌, List, [], map}
use Rattle.dxc_num.specs.declared.port.Port.{Port}
use Rattle.dxc_num.specs.Dimensions.{Dimensions, IsInLimits, module_of, slot_of}
use Rattle.dxc_model.specs.declared.conn.Conn.{Conn}
use Rattle.dxc_model.specs.Equipment.{IsEquipment, empty_table, modules_in}
use Rattle.dxc_model.specs.Tables.{Board, IsOfShape, IsProper}
use Rattle.tl1_answer.specs.Texts.{with_conn}
use Rattle.tl1_script.specs.Commands.{lines_from}
use Rattle.tl1_script.specs.Laws.{Comes}
use Rattle.tl1_script.specs.Scripts.{changes_to}

-- a shelf of as many modules and slots, or of more
pub record IsLarger (d e : Dimensions) : Type 0 where
  pub modules : d.modules ≤ e.modules
  pub slots : d.slots ≤ e.slots

-- the port of that name on another shelf
abbrev pub port_on : (d e : Dimensions) → Port → Port
port_on d e p = record { 0 = module_of d p * e.slots + slot_of d p }

abbrev pub conn_on : (d e : Dimensions) → Conn → Conn
conn_on d e c = record c { from = port_on d e c.from; to = port_on d e c.to }

-- the table of these names on another shelf
abbrev pub table_on : Dimensions → Board → Board
table_on e t = record t { shape = e; conns = map (conn_on t.shape e) t.conns }

-- a table as one that a program keeps: proper and of its shape, with its equipment as bits
pub record IsSound (t : Board) (equipped : ℕ) : Type 0 where
  pub limits : IsInLimits t.shape
  pub proper : IsProper t
  pub of_shape : IsOfShape t
  pub bits : IsEquipment t.shape equipped
  pub equipment : modules_in t.shape equipped ≡ t.equipped

-- the commands that make the table are those that make the table of the same names, each granted in its turn, and come to it
pub record Suits (e : Dimensions) (bits : ℕ) (t : Board) : Type 0 where
  pub same : lines_from t.shape 1 (changes_to bits t) ≡ lines_from e 1 (changes_to bits (table_on e t))
  pub comes : Comes (empty_table e bits) (changes_to bits (table_on e t)) (table_on e t)
  pub names : map (with_conn [] t.shape) t.conns ≡ map (with_conn [] e) (table_on e t).conns

-- so it is on a larger shelf that equips what the smaller one equips
abbrev pub ScriptsSuitLargerShelves : Type 0
ScriptsSuitLargerShelves = (t : Board) (bits equipped : ℕ) (e : Dimensions) → IsSound t equipped → IsEquipment t.shape bits → IsInLimits e → IsLarger t.shape e → Suits e bits t

-- The texts of rows and changes.
use Rattle.std.specs.Prelude.{ℕ, List, [], ◌∷◌, ◌++◌, codes, decimal}
use Rattle.dxc_num.specs.declared.port.Middle.{Middle}
use Rattle.dxc_num.specs.Dimensions.{Dimensions, IsModule, IsPort, IsWorking}
use Rattle.dxc_outside.specs.declared.clock.Moment.{Moment}
use Rattle.dxc_model.specs.declared.conn.Cct.{Cct}
use Rattle.dxc_model.specs.declared.conn.Cct.TheVariants.{OneWay, TwoWay}
use Rattle.dxc_model.specs.declared.conn.Conn.{Conn}
use Rattle.dxc_model.specs.declared.op.Change.{Change}
use Rattle.dxc_model.specs.declared.op.Change.TheVariants.{Enter, Delete, Edit, EnterModule, DeleteModule, TakeOut, PutBack}
use Rattle.dxc_aid.specs.Names.{port_name, module_name, middle_name}
use Rattle.tl1_answer.specs.Messages.{two}

abbrev pub cct_text : Cct → List ℕ
cct_text OneWay = codes "1WAY"
cct_text TwoWay = codes "2WAY"

-- both ports are of the shape
pub record IsOfShape (d : Dimensions) (c : Conn) : Type 0 where
  pub from : IsPort d c.from
  pub to : IsPort d c.to

-- what was written before, and then a label after a colon; nothing more where it is empty
abbrev pub with_label : List ℕ → List ℕ → List ℕ
with_label front [] = front
with_label front (b ∷ bs) = front ++ codes ":" ++ b ∷ bs

-- what was written before, and then a connection, as FROM,TO:CCT or FROM,TO:CCT:LABEL
abbrev pub with_conn : List ℕ → Dimensions → Conn → List ℕ
with_conn front d c = with_label (front ++ port_name d c.from ++ codes "," ++ port_name d c.to ++ codes ":" ++ cct_text c.cct) c.label

-- a row, with its quotes
abbrev pub row_text : Dimensions → Conn → List ℕ
row_text d c = with_conn (codes "\"") d c ++ codes "\""

-- the row of an equipped module, which is in service, and of a middle that is out of it
abbrev pub module_text : ℕ → List ℕ
module_text m = codes "\"" ++ module_name m ++ codes ":IS\""

abbrev pub middle_text : Middle → List ℕ
middle_text m = codes "\"" ++ middle_name m ++ codes ":OOS\""

-- the row of what has that value
abbrev pub value_text : (name value : List ℕ) → List ℕ
value_text name value = codes "\"" ++ name ++ codes "=" ++ value ++ codes "\""

-- the row of since when the program serves
abbrev pub start_text : Moment → List ℕ
start_text m = codes "\"START="
    ++ two m.year ++ codes "-" ++ two m.month ++ codes "-" ++ two m.day ++ codes ","
    ++ two m.hour ++ codes ":" ++ two m.minute ++ codes ":" ++ two m.second ++ codes "\""

-- the row of a session: the number of its place, and the user with the class
abbrev pub session_text : (place : ℕ) → (user class : List ℕ) → List ℕ
session_text place user class = codes "\"SESSION-" ++ decimal place ++ codes ":" ++ user ++ codes "," ++ class ++ codes "\""

-- the ports, the module or the middle of a change are of the shape
abbrev pub IsChangeOf : Dimensions → Change → Type 0
IsChangeOf d (Enter c) = IsOfShape d c
IsChangeOf d (Delete c) = IsOfShape d c
IsChangeOf d (Edit c) = IsOfShape d c
IsChangeOf d (EnterModule m) = IsModule d m
IsChangeOf d (DeleteModule m) = IsModule d m
IsChangeOf d (TakeOut m) = IsWorking d m.0
IsChangeOf d (PutBack m) = IsWorking d m.0

-- a change, as the command that makes it, with its quotes
abbrev pub change_text : Dimensions → Change → List ℕ
change_text d (Enter c) = with_conn (codes "\"ENT-CRS-T0:") d c ++ codes "\""
change_text d (Delete c) = with_conn (codes "\"DLT-CRS-T0:") d c ++ codes "\""
change_text d (Edit c) = with_conn (codes "\"ED-CRS-T0:") d c ++ codes "\""
change_text d (EnterModule m) = codes "\"ENT-EQPT:" ++ module_name m ++ codes "\""
change_text d (DeleteModule m) = codes "\"DLT-EQPT:" ++ module_name m ++ codes "\""
change_text d (TakeOut m) = codes "\"RMV-MID:" ++ middle_name m ++ codes "\""
change_text d (PutBack m) = codes "\"RST-MID:" ++ middle_name m ++ codes "\""

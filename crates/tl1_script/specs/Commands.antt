-- The command that makes a change, byte by byte.
use Rattle.std.specs.Prelude.{ℕ, List, [], ◌∷◌, ◌++◌, ◌+◌, codes, decimal}
use Rattle.dxc_num.specs.Dimensions.{Dimensions}
use Rattle.dxc_model.specs.declared.conn.Conn.{Conn}
use Rattle.dxc_model.specs.declared.op.Change.{Change}
use Rattle.dxc_model.specs.declared.op.Change.TheVariants.{Enter, Delete, Edit, EnterModule, DeleteModule, TakeOut, PutBack}
use Rattle.dxc_aid.specs.Names.{port_name, module_name, middle_name}
use Rattle.tl1_answer.specs.Texts.{cct_text}

-- what was written before, and then a number as the CTAG
abbrev pub with_tag : List ℕ → ℕ → List ℕ
with_tag front n = front ++ codes ":" ++ decimal n

-- what was written before, and then the ports, the CTAG, an empty general block and the CCT
abbrev pub with_ends : List ℕ → Dimensions → ℕ → Conn → List ℕ
with_ends front d n c = with_tag (front ++ port_name d c.from ++ codes "," ++ port_name d c.to) n ++ codes "::" ++ cct_text c.cct

-- and then a label in quotes after a comma; nothing more where it is empty
abbrev pub with_label : List ℕ → List ℕ → List ℕ
with_label front [] = front
with_label front (b ∷ bs) = front ++ codes ",\"" ++ (b ∷ bs) ++ codes "\""

-- the text of the command that makes the change, with this CTAG
abbrev pub text_of : Dimensions → ℕ → Change → List ℕ
text_of d n (Enter c) = with_label (with_ends (codes "ENT-CRS-T0::") d n c) c.label
text_of d n (Delete c) = with_ends (codes "DLT-CRS-T0::") d n c
text_of d n (Edit c) = with_label (with_ends (codes "ED-CRS-T0::") d n c) c.label
text_of d n (EnterModule m) = with_tag (codes "ENT-EQPT::" ++ module_name m) n
text_of d n (DeleteModule m) = with_tag (codes "DLT-EQPT::" ++ module_name m) n
text_of d n (TakeOut m) = with_tag (codes "RMV-MID::" ++ middle_name m) n
text_of d n (PutBack m) = with_tag (codes "RST-MID::" ++ middle_name m) n

-- the same as a unit on a line of its own
abbrev pub line_of : Dimensions → ℕ → Change → List ℕ
line_of d n c = text_of d n c ++ codes ";\n"

-- a command for each change, one after the other; the CTAGs count up from this number
abbrev pub lines_from : Dimensions → ℕ → List Change → List ℕ
lines_from d n [] = []
lines_from d n (c ∷ cs) = line_of d n c ++ lines_from d (n + 1) cs

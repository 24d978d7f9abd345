-- The one spelling of a change with its choices, in the 64 bytes of version 2. Numbers are big-endian. Its first 32 bytes are those of version 1, where it is one of that.
use Rattle.std.specs.Prelude.{ℕ, List, [], ◌∷◌, ◌++◌, length, drop}
use Rattle.byteorder.specs.Endian.{big_bytes}
use Rattle.dxc_num.specs.declared.port.Middle.{Middle}
use Rattle.dxc_model.specs.declared.conn.Cct.{Cct}
use Rattle.dxc_model.specs.declared.conn.Cct.TheVariants.{OneWay, TwoWay}
use Rattle.dxc_model.specs.declared.conn.Conn.{Conn}
use Rattle.dxc_model.specs.declared.op.Change.{Change}
use Rattle.dxc_model.specs.declared.op.Change.TheVariants.{Enter, Delete, Edit, EnterModule, DeleteModule, TakeOut, PutBack}
use Rattle.roll_plan.specs.declared.op.Chain.{Chain}
use Rattle.roll_plan.specs.declared.op.Chain.TheVariants.{Direct, Row, Column}
use Rattle.roll_plan.specs.declared.op.Choice.{Choice}

-- 0 one way, 1 two way
abbrev pub cct_byte : Cct → ℕ
cct_byte OneWay = 0
cct_byte TwoWay = 1

-- from-port, to-port, CCT
abbrev pub conn_bytes : Conn → List ℕ
conn_bytes c = big_bytes 2 c.from.0 ++ big_bytes 2 c.to.0 ++ cct_byte c.cct ∷ []

-- the module, and zeros
abbrev pub module_bytes : ℕ → List ℕ
module_bytes m = big_bytes 2 m ++ 0 ∷ 0 ∷ 0 ∷ []

-- the middle in two bytes, and zeros
abbrev pub middle_bytes : Middle → List ℕ
middle_bytes m = 0 ∷ m.0 ∷ 0 ∷ 0 ∷ 0 ∷ []

-- the kind, and what is changed
abbrev pub change_bytes : Change → List ℕ
change_bytes (Enter c) = 1 ∷ conn_bytes c
change_bytes (Delete c) = 2 ∷ conn_bytes c
change_bytes (Edit c) = 3 ∷ conn_bytes c
change_bytes (EnterModule m) = 4 ∷ module_bytes m
change_bytes (DeleteModule m) = 5 ∷ module_bytes m
change_bytes (TakeOut m) = 6 ∷ middle_bytes m
change_bytes (PutBack m) = 7 ∷ middle_bytes m

-- 0 direct, 1 row, 2 column, and the other middle of the chain
abbrev pub chain_bytes : Chain → List ℕ
chain_bytes Direct = 0 ∷ 0 ∷ []
chain_bytes (Row m) = 1 ∷ m.0 ∷ []
chain_bytes (Column m) = 2 ∷ m.0 ∷ []

-- the first of these choices, or zeros
abbrev pub choice_bytes : List Choice → List ℕ
choice_bytes [] = 0 ∷ 0 ∷ 0 ∷ []
choice_bytes (c ∷ cs) = c.middle.0 ∷ chain_bytes c.chain

-- the label that a change has; one of a module or a middle has none
abbrev pub label_of : Change → List ℕ
label_of (Enter c) = c.label
label_of (Delete c) = c.label
label_of (Edit c) = c.label
label_of (EnterModule m) = []
label_of (DeleteModule m) = []
label_of (TakeOut m) = []
label_of (PutBack m) = []

-- 24 zeros
abbrev pub label_zeros : List ℕ
label_zeros = 0 ∷ 0 ∷ 0 ∷ 0 ∷ 0 ∷ 0 ∷ 0 ∷ 0 ∷ 0 ∷ 0 ∷ 0 ∷ 0 ∷ 0 ∷ 0 ∷ 0 ∷ 0 ∷ 0 ∷ 0 ∷ 0 ∷ 0 ∷ 0 ∷ 0 ∷ 0 ∷ 0 ∷ []

-- bytes 14 to 38: the label's length and the label, filled up with zeros
abbrev pub label_bytes : List ℕ → List ℕ
label_bytes l = length l ∷ l ++ drop (length l) label_zeros

-- bytes 39 to 63
abbrev pub zeros : List ℕ
zeros = 0 ∷ label_zeros

-- bytes 0 to 13: a seal byte that is set, the change, the number of choices, and two choices
abbrev pub front : Change → List Choice → List ℕ
front change choices = 165 ∷ change_bytes change ++ length choices ∷ [] ++ choice_bytes choices ++ choice_bytes (drop 1 choices)

-- these, the label and zeros
abbrev pub spelling : Change → List Choice → List ℕ
spelling change choices = front change choices ++ label_bytes (label_of change) ++ zeros

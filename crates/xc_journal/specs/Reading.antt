-- What bytes would be as a record. Whether they are one is told by spelling it again.
use Rattle.std.specs.Prelude.{ℕ, List, [], ◌∷◌, slice_index, take, drop, ◌==◌, if◌then◌else◌, Option, Some, None, option_map}
use Rattle.byteorder.specs.Endian.{big_number}
use Rattle.dxc_model.specs.declared.conn.Cct.{Cct}
use Rattle.dxc_model.specs.declared.conn.Cct.TheVariants.{OneWay, TwoWay}
use Rattle.dxc_model.specs.declared.conn.Conn.{Conn}
use Rattle.dxc_model.specs.declared.op.Change.{Change}
use Rattle.dxc_model.specs.declared.op.Change.TheVariants.{Enter, Delete, Edit, EnterModule, DeleteModule, TakeOut, PutBack}
use Rattle.dxc_model.specs.Labels.{as_label}
use Rattle.roll_plan.specs.declared.op.Chain.{Chain}
use Rattle.roll_plan.specs.declared.op.Chain.TheVariants.{Direct, Row, Column}
use Rattle.roll_plan.specs.declared.op.Choice.{Choice}

-- a byte as a CCT
abbrev pub read_cct : ℕ → Cct
read_cct n = if n == 0 then OneWay else TwoWay

-- the label of a record, where its length and its bytes are those of one
abbrev pub read_label : List ℕ → Option (List ℕ)
read_label bs = as_label (take (slice_index bs 14) (drop 15 bs))

-- the connection of a record that has this label
abbrev pub with_label : List ℕ → List ℕ → Conn
with_label bs l = record {
  from = record { 0 = big_number 2 (drop 2 bs) };
  to = record { 0 = big_number 2 (drop 4 bs) };
  cct = read_cct (slice_index bs 6);
  label = l;
}

abbrev pub read_conn : List ℕ → Option Conn
read_conn bs = option_map (with_label bs) (read_label bs)

-- its change, by the kind
abbrev pub read_change : List ℕ → Option Change
read_change bs =
    if slice_index bs 1 == 1 then option_map Enter (read_conn bs)
    else if slice_index bs 1 == 2 then option_map Delete (read_conn bs)
    else if slice_index bs 1 == 3 then option_map Edit (read_conn bs)
    else if slice_index bs 1 == 4 then Some (EnterModule (big_number 2 (drop 2 bs)))
    else if slice_index bs 1 == 5 then Some (DeleteModule (big_number 2 (drop 2 bs)))
    else if slice_index bs 1 == 6 then Some (TakeOut (record { 0 = slice_index bs 3 }))
    else if slice_index bs 1 == 7 then Some (PutBack (record { 0 = slice_index bs 3 }))
    else None

-- a chain by its kind and its other middle
abbrev pub read_chain : ℕ → ℕ → Chain
read_chain kind other = if kind == 0 then Direct else if kind == 1 then Row (record { 0 = other }) else Column (record { 0 = other })

-- a choice by its three bytes
abbrev pub read_choice : ℕ → ℕ → ℕ → Choice
read_choice middle kind other = record { middle = record { 0 = middle }; chain = read_chain kind other }

-- its choices, by their number
abbrev pub read_choices : List ℕ → List Choice
read_choices bs =
    if slice_index bs 7 == 0 then []
    else if slice_index bs 7 == 1 then read_choice (slice_index bs 8) (slice_index bs 9) (slice_index bs 10) ∷ []
    else read_choice (slice_index bs 8) (slice_index bs 9) (slice_index bs 10) ∷ read_choice (slice_index bs 11) (slice_index bs 12) (slice_index bs 13) ∷ []

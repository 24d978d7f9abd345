-- A frame as it is written, module by module.
use Rattle.std.specs.Prelude.{◌≡◌, ℕ, ◌+◌, ◌*◌, List, length, take, drop}
use Rattle.dxc_num.specs.Dimensions.{Dimensions}
use Rattle.fabric_core.specs.declared.size.Size.{Size}
use Rattle.fabric_core.specs.declared.worker.Note.{Note}
use Rattle.fabric_core.specs.Registers.{in_count, mid_count}
use Rattle.frame_worker.specs.declared.outputs.Lanes.{Lanes}
use Rattle.frame_worker.specs.Frames.{CarriesFrom, Feed}

-- where the words of the output module j lie
abbrev pub lanes_of : Dimensions → ℕ → Lanes
lanes_of d j =
    let outs : ℕ = in_count d + mid_count d in record {
      modules = d.modules;
      slots = d.slots;
      mids = in_count d + j;
      outs = outs;
      first = outs + j * d.slots;
      end = (outs + j * d.slots) + d.slots;
    }

-- n outputs from the output `first` on were written, and nothing in front of them
pub record IsWritten (z : Size) (w : ℕ) (input : List ℕ) (first n : ℕ) (old new : List ℕ) (ns : List Note) : Type 0 where
  pub long : length new ≡ length old
  pub front : take first new ≡ take first old
  pub row : CarriesFrom z w input first (take n (drop first new)) ns

-- outputs in a row
pub record Row : Type 0 where
  pub first : ℕ
  pub count : ℕ

abbrev pub row_from : ℕ → ℕ → Row
row_from first n = record { first = first; count = n }

-- the same of such a row
abbrev pub IsRowWritten : Feed → Row → (old new : List ℕ) → List Note → Type 0
IsRowWritten f r old new ns = IsWritten f.size f.worker f.input r.first r.count old new ns

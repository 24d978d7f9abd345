-- Whose byte an output gets.
use Rattle.std.specs.Prelude.{◌≡◌, ◌≢◌, ◌⊎◌, ℕ, ◌<◌, ◌%◌, List, ◌++◌, length, slice_index}
use mathlib.Core.Option.{some}
use lib.ListN.{get_elem?}
use Rattle.dxc_num.specs.Dimensions.{leg_between, module_of}
use Rattle.dxc_num.specs.declared.port.Leg.{Leg}
use Rattle.dxc_num.specs.declared.port.Port.{Port}
use Rattle.fabric_core.specs.declared.size.Size.{Size}
use Rattle.fabric_core.specs.declared.worker.Note.{Note}
use Rattle.fabric_core.specs.declared.worker.Note.TheVariants.{OutWord}
use Rattle.fabric_core.specs.declared.worker.Worker.{Worker}
use Rattle.fabric_core.specs.Hitless.{IsHitless}
use Rattle.fabric_core.specs.Notes.{Numbered}
use Rattle.fabric_core.specs.Registers.{number_in}
use Rattle.fabric_core.specs.State.{Core}
use Rattle.frame_worker.specs.Frames.{IsFrame, idle}

-- it was noted
abbrev pub IsAmong : Note → List Note → Type 0
IsAmong n ns = (t : ℕ) × (get_elem? ns t ≡ some n)

-- the byte of the input that the output is connected to: the leg of the switch whose number stands in the OUT word that was loaded of the output in this frame
pub record IsOfConnection (log : List Leg) (input : List ℕ) (y : Port) (ns : List Note) (b : ℕ) : Type 0 where
  pub out_word : ℕ
  pub loaded : IsAmong (OutWord y out_word) ns
  pub x : Port
  pub switched : Numbered log (number_in out_word) (leg_between x y)
  pub byte : b ≡ slice_index input x.0

-- another worker's output
abbrev pub IsElsewhere : Size → ℕ → Port → ℕ → Type 0
IsElsewhere z w y b = (module_of z.shape y % z.workers ≢ w) × (b ≡ idle)

-- an output that nothing is connected to
abbrev pub IsUnconnected : Port → List Note → ℕ → Type 0
IsUnconnected y ns b = IsAmong (OutWord y 0) ns × (b ≡ idle)

-- a worker of a state, the notes of one of its frames, and the bytes that came in and went out
pub record Carried (c : Core) : Type 0 where
  pub worker : Worker
  pub here : get_elem? c.workers worker.number ≡ some worker
  pub earlier : List Note
  pub notes : List Note
  pub input : List ℕ
  pub bytes : List ℕ
  pub noted : (later : List Note) × (worker.notes ≡ earlier ++ (notes ++ later))
  pub frame : IsFrame c.size worker.number input bytes notes

-- in a hitless state each byte that a worker wrote is the input byte of the output's own connection, or idle where it has none or is another worker's
abbrev pub AreOwnBytes : Type 0
AreOwnBytes = (c : Core) (f : Carried c) (y : Port) → IsHitless c → y.0 < length f.bytes
    → let b = slice_index f.bytes y.0 in
    IsElsewhere c.size f.worker.number y b ⊎ IsUnconnected y f.notes b ⊎ IsOfConnection c.mover.log f.input y f.notes b

-- What a worker notes in one frame, and the bytes that it writes.
use Rattle.std.specs.Prelude.{◌≡◌, ◌≢◌, ◌⊎◌, ℕ, ◌+◌, ◌%◌, List, [], ◌∷◌, ◌++◌, length, slice_index}
use Rattle.dxc_num.specs.Dimensions.{IsPort, ports, module_of}
use Rattle.dxc_num.specs.declared.port.Port.{Port}
use Rattle.fabric_core.specs.declared.size.Size.{Size}
use Rattle.fabric_core.specs.declared.worker.Hold.TheVariants.{Empty}
use Rattle.fabric_core.specs.declared.worker.Note.{Note}
use Rattle.fabric_core.specs.declared.worker.Note.TheVariants.{OutWord, MidWord, InWord, Carried}
use Rattle.fabric_core.specs.declared.worker.Worker.{Worker}
use Rattle.fabric_core.specs.Registers.{number_in}
use Rattle.fabric_core.specs.Working.{IsOwn}

-- the byte of an output that carries nothing
abbrev pub idle : ℕ
idle = 127

-- an output of another worker: it is idle, and nothing was loaded
abbrev pub IsOthers : Size → ℕ → Port → List Note → ℕ → Type 0
IsOthers z w y ns b = (module_of z.shape y % z.workers ≢ w) × (ns ≡ []) × (b ≡ idle)

-- an output whose OUT word is none
abbrev pub IsIdle : Size → ℕ → Port → List Note → ℕ → Type 0
IsIdle z w y ns b = IsOwn z w y × (ns ≡ OutWord y 0 ∷ []) × (b ≡ idle)

-- an output that carries the input x, by the switch that its OUT word names
pub record IsCarried (z : Size) (w : ℕ) (input : List ℕ) (y : Port) (ns : List Note) (b : ℕ) : Type 0 where
  pub own : IsOwn z w y
  pub out_word : ℕ
  pub mid_word : ℕ
  pub in_word : ℕ
  pub x : Port
  pub some : out_word ≢ 0
  pub inside : IsPort z.shape x
  pub noted : ns ≡ OutWord y out_word ∷ MidWord mid_word ∷ InWord in_word ∷ Carried y (number_in out_word) x ∷ []
  pub byte : b ≡ slice_index input x.0

-- one output
abbrev pub CarriesOne : Size → ℕ → List ℕ → Port → List Note → ℕ → Type 0
CarriesOne z w input y ns b = IsOthers z w y ns b ⊎ IsIdle z w y ns b ⊎ IsCarried z w input y ns b

-- a worker, by the fabric's size and its number, and the frame that it carries
pub record Feed : Type 0 where
  pub size : Size
  pub worker : ℕ
  pub input : List ℕ

abbrev pub fed : Size → ℕ → List ℕ → Feed
fed z w input = record { size = z; worker = w; input = input }

-- the worker's byte of one output, and what it notes
abbrev pub Carries : Feed → Port → List Note → ℕ → Type 0
Carries f y ns b = CarriesOne f.size f.worker f.input y ns b

-- the outputs from y on, in order
abbrev pub CarriesFrom : Size → ℕ → List ℕ → ℕ → List ℕ → List Note → Type 0
CarriesFrom z w input y [] ns = ns ≡ []
CarriesFrom z w input y (b ∷ bs) ns = (one : List Note) × (rest : List Note) × (ns ≡ one ++ rest) × CarriesOne z w input (record { 0 = y }) one b × CarriesFrom z w input (y + 1) bs rest

-- what worker w writes and notes of the frame `input`: a byte in for each input, and a byte out for each output
pub record IsFrame (z : Size) (w : ℕ) (input bytes : List ℕ) (ns : List Note) : Type 0 where
  pub whole_input : length input ≡ ports z.shape
  pub whole_output : length bytes ≡ ports z.shape
  pub outputs : CarriesFrom z w input 0 bytes ns

-- the worker v after more notes, with nothing left to follow
abbrev pub with_notes : List Note → Worker → Worker
with_notes ns v = record { number = v.number; frame = v.frame; hold = Empty; notes = v.notes ++ ns }

-- the worker v after a frame
abbrev pub after_frame : List Note → Worker → Worker
after_frame ns v = record { number = v.number; frame = v.frame + 2; hold = Empty; notes = v.notes ++ ns }

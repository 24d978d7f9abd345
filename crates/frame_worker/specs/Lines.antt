-- What a worker makes of the frames of its lines.
use Rattle.std.specs.Prelude.{◌≡◌, ℕ, zero, suc, ◌+◌, ◌*◌, List, [], ◌++◌}
use Rattle.dxc_outside.specs.Frames.{LinesState}
use Rattle.fabric_core.specs.declared.size.Size.{Size}
use Rattle.fabric_core.specs.declared.worker.Note.{Note}
use Rattle.fabric_core.specs.declared.worker.Worker.{Worker}
use Rattle.frame_worker.specs.Frames.{IsFrame}
use Rattle.frame_worker.specs.declared.lines.LinesEnd.{LinesEnd}
use Rattle.frame_worker.specs.declared.lines.LinesEnd.TheVariants.{End, ReadFault, WriteFault, Stopped, Spent}

-- n frames in order, each carried: their input bytes, what was noted, their output bytes
abbrev pub AreFrames : Size → ℕ → ℕ → List ℕ → List Note → List ℕ → Type 0
AreFrames z w zero input ns output = (input ≡ []) × (ns ≡ []) × (output ≡ [])
AreFrames z w (suc n) input ns output = (frame more : List ℕ) × (one rest : List Note) × (bytes out : List ℕ)
    × (input ≡ frame ++ more) × (ns ≡ one ++ rest) × (output ≡ bytes ++ out) × IsFrame z w frame bytes one × AreFrames z w n more rest out

-- a frame that was carried and not written, where a write failed
abbrev pub IsUnwritten : Size → ℕ → LinesEnd → List ℕ → List Note → Type 0
IsUnwritten z w End input ns = (input ≡ []) × (ns ≡ [])
IsUnwritten z w ReadFault input ns = (input ≡ []) × (ns ≡ [])
IsUnwritten z w WriteFault input ns = (bytes : List ℕ) × IsFrame z w input bytes ns
IsUnwritten z w Stopped input ns = (input ≡ []) × (ns ≡ [])
IsUnwritten z w Spent input ns = (input ≡ []) × (ns ≡ [])

-- how many frames were carried, where n were written
abbrev pub carried : LinesEnd → ℕ → ℕ
carried End n = n
carried ReadFault n = n
carried WriteFault n = n + 1
carried Stopped n = n
carried Spent n = n

-- how often the gate was asked, where n frames were written: once before each frame that was carried, and once more where the end came in place of a frame
abbrev pub askings : LinesEnd → ℕ → ℕ
askings End n = n + 1
askings ReadFault n = n + 1
askings WriteFault n = n + 1
askings Stopped n = n + 1
askings Spent n = n

-- n frames were read, carried and written in order, and then came an end
pub record IsRun (z : Size) (told : Type 0) (n : ℕ) (end : LinesEnd) (old new : LinesState) (v v' : Worker) : Type 0 where
  pub input : List ℕ
  pub notes : List Note
  pub output : List ℕ
  pub frames : AreFrames z v.number n input notes output
  pub last_input : List ℕ
  pub last_notes : List Note
  pub unwritten : IsUnwritten z v.number end last_input last_notes
  pub read : told → old.left ≡ (input ++ last_input) ++ new.left
  pub written : told → new.written ≡ old.written ++ output
  pub number : v'.number ≡ v.number
  pub frame : v'.frame ≡ v.frame + 2 * carried end n
  pub noted : v'.notes ≡ v.notes ++ (notes ++ last_notes)

-- how many frames were written, and why no more
pub record Stretch : Type 0 where
  pub frames : ℕ
  pub end : LinesEnd

abbrev pub written_till : ℕ → LinesEnd → Stretch
written_till n end = record { frames = n; end = end }

-- a worker, and the lines that it carries frames of
pub record Carrier : Type 0 where
  pub lines : LinesState
  pub worker : Worker

abbrev pub carrier_at : LinesState → Worker → Carrier
carrier_at lines worker = record { lines = lines; worker = worker }

-- such a run, from one moment of worker and lines to the other
abbrev pub Ran : Size → (told : Type 0) → Stretch → (old new : Carrier) → Type 0
Ran z told s old new = IsRun z told s.frames s.end old.lines new.lines old.worker new.worker

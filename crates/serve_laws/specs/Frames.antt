-- The frames that a server's workers carried, beside a state of its fabric.
use Rattle.std.specs.Prelude.{◌≡◌, ◌⊎◌, ℕ, zero, suc, ◌<◌, List, [], ◌∷◌, ◌++◌, length, slice_index}
use mathlib.Core.Option.{some}
use lib.ListN.{get_elem?}
use Rattle.atomic_table.specs.Table.{State}
use Rattle.dxc_num.specs.declared.port.Port.{Port}
use Rattle.dxc_outside.specs.declared.gate.Gate.{Ghosts as GateOf}
use Rattle.dxc_outside.specs.declared.lines.Lines.{Ghosts as LinesOf}
use Rattle.fabric_core.specs.declared.size.Size.{Size}
use Rattle.fabric_core.specs.declared.worker.Note.{Note}
use Rattle.fabric_core.specs.State.{Core}
use Rattle.fabric_words.specs.declared.table.Aim.{Aim}
use Rattle.fabric_words.specs.declared.table.View.{View}
use Rattle.fabric_words.specs.declared.table.View.TheVariants.{AsWorker}
use Rattle.frame_worker.specs.Frames.{IsFrame}
use Rattle.frame_worker.specs.Laws.{IsElsewhere, IsOfConnection, IsUnconnected}
use Rattle.dxc_jobs.specs.declared.frames.FrameJob.{FrameJob}
use Rattle.dxc_jobs.specs.declared.frames_left.FramesDone.{FramesDone}
use Rattle.dxc_jobs.specs.declared.frames_left.FramesLeft.{FramesLeft}
use Rattle.dxc_jobs.specs.Framed.{RanFrames}

-- each byte of a frame that a worker wrote is the input byte of the output's own connection, or idle
abbrev pub IsOwnFrame : Core → ℕ → List ℕ → List ℕ → List Note → Type 0
IsOwnFrame c w input bytes ns = (y : Port) → y.0 < length bytes
    → IsElsewhere c.size w y (slice_index bytes y.0) ⊎ IsUnconnected y ns (slice_index bytes y.0) ⊎ IsOfConnection c.mover.log input y ns (slice_index bytes y.0)

-- so it is of each of n frames, in their order
abbrev pub AreOwnFrames : Core → ℕ → ℕ → List ℕ → List Note → List ℕ → Type 0
AreOwnFrames c w zero input ns output = (input ≡ []) × (ns ≡ []) × (output ≡ [])
AreOwnFrames c w (suc n) input ns output = (frame more : List ℕ) × (one rest : List Note) × (bytes out : List ℕ)
    × (input ≡ frame ++ more) × (ns ≡ one ++ rest) × (output ≡ bytes ++ out) × IsFrame c.size w frame bytes one × IsOwnFrame c w frame bytes one × AreOwnFrames c w n more rest out

-- The worker whose seat a job left is one of this state, and each frame that the job wrote was carried over the connections of that state's log.
pub record CarriedOwn {N G : Type 0} (n : LinesOf N) (g : GateOf G) (c : Core) (job : FrameJob N G) (left : FramesLeft) : Type 0 where
  pub done : FramesDone N G
  pub ran : RanFrames n g job done left
  pub here : get_elem? c.workers left.seat.reader.worker.number ≡ some left.seat.reader.worker
  pub own : AreOwnFrames c left.seat.reader.worker.number ran.frames ran.run.input ran.run.notes ran.run.output

-- in this state of the fabric's words the seats are as the jobs left them
abbrev pub AreSeatsIn : State Aim View → Size → List FramesLeft → Type 0
AreSeatsIn f z [] = Unit {0}
AreSeatsIn f z (x ∷ xs) = ((j : ℕ) × (get_elem? f.views j ≡ some (AsWorker z x.seat.reader.worker))) × AreSeatsIn f z xs

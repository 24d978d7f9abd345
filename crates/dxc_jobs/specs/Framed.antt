-- What became of the frames of a worker.
use Rattle.std.specs.Prelude.{◌≡◌, ◌≢◌, ◌↔◌, ◌^◌, ℕ, true, [], replicate}
use Rattle.std.specs.Arc.{arc_value}
use Rattle.crossbeam_utils.specs.Padded.{padded_value}
use Rattle.dxc_causes.specs.Causes.{Rose}
use Rattle.dxc_outside.specs.declared.gate.Gate.{Ghosts as GateOf}
use Rattle.dxc_outside.specs.declared.gate.GatePlace.TheVariants as place
use Rattle.dxc_outside.specs.declared.lines.Lines.{Ghosts as LinesOf}
use Rattle.frame_worker.specs.declared.lines.LinesEnd.TheVariants.{End, ReadFault, WriteFault, Stopped, Spent}
use Rattle.frame_worker.specs.Lines.{IsRun, askings}
use Rattle.dxc_jobs.specs.declared.frames.FrameJob.{FrameJob}
use Rattle.dxc_jobs.specs.declared.frames_left.FramesDone.{FramesDone}
use Rattle.dxc_jobs.specs.declared.frames_left.FramesLeft.{FramesLeft}

module _ {N G : Type 0} (n : LinesOf N) (g : GateOf G) where
  -- Frame after frame of the job's lines was carried by its worker, until one of the five ends came. The seat that is left is a seat of the job's fabric, and
  -- what the worker noted is what the frames were carried by; nothing was written after the last of them.
  pub record RanFrames (job : FrameJob N G) (done : FramesDone N G) (left : FramesLeft) : Type 0 where
    -- how many were written
    pub frames : ℕ
    pub fabric : left.seat.reader.fabric ≡ arc_value job.fabric
    pub run : IsRun (arc_value job.fabric).size n.told frames left.end (n.state job.lines) (n.state done.lines) (padded_value job.seat).reader.worker left.seat.reader.worker
    pub spent : (left.end ≡ Spent) ↔ (frames ≡ 2 ^ 61)
    pub gated : g.asked job.gate done.gate (replicate (askings left.end frames) place.Frame)
    -- why it ended
    pub ended : left.end ≡ End → (n.state done.lines).ended ≡ true
    pub all_read : n.told → left.end ≡ End → (n.state done.lines).left ≡ []
    pub read_fault : left.end ≡ ReadFault → Rose (n.state job.lines).read_faults (n.state done.lines).read_faults
    pub no_read_fault : left.end ≢ ReadFault → (n.state done.lines).read_faults ≡ (n.state job.lines).read_faults
    pub write_fault : left.end ≡ WriteFault → Rose (n.state job.lines).write_faults (n.state done.lines).write_faults
    pub no_write_fault : left.end ≢ WriteFault → (n.state done.lines).write_faults ≡ (n.state job.lines).write_faults
    pub stopped : left.end ≡ Stopped → Rose (g.stops job.gate) (g.stops done.gate)
    pub unstopped : left.end ≢ Stopped → g.stops done.gate ≡ g.stops job.gate

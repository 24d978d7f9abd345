-- The frames that workers carried, beside a state of their fabric.
use Rattle.std.proofs.Common.{◌≡◌, ◌+◌, ℕ, zero, suc, List, [], ◌∷◌, ◌++◌, sym, ◌∙◌, ap, subst, append_assoc}
use Rattle.std.specs.Arc.{arc_value}
use mathlib.Core.Option.{some}
use lib.ListN.{get_elem?}
use Rattle.atomic_table.specs.Table.{State}
use Rattle.crossbeam_utils.specs.Padded.{padded_value}
use Rattle.dxc_outside.specs.declared.gate.Gate.{Ghosts as GateOf}
use Rattle.dxc_outside.specs.declared.lines.Lines.{Ghosts as LinesOf}
use Rattle.fabric_core.specs.declared.size.Size.{Size}
use Rattle.fabric_core.specs.declared.worker.Note.{Note}
use Rattle.fabric_core.specs.declared.worker.Worker.{Worker}
use Rattle.fabric_core.specs.Hitless.{IsHitless}
use Rattle.fabric_core.specs.State.{Core}
use Rattle.fabric_core.proofs.Kept.{always_hitless}
use Rattle.fabric_words.specs.declared.table.Aim.{Aim}
use Rattle.fabric_words.specs.declared.table.View.{View}
use Rattle.fabric_words.specs.declared.table.View.TheVariants.{Idle, AsMover, AsWorker}
use Rattle.fabric_words.specs.Laws.{IsCore, IsOf}
use Rattle.fabric_words.specs.Seats.{FabricId, WorkerAt}
use Rattle.fabric_words.specs.Tied.{Knows, Tied}
use Rattle.fabric_words.proofs.Ties.{same_size}
use Rattle.frame_worker.specs.Laws.{AreOwnBytes, Carried}
use Rattle.frame_worker.specs.Lines.{AreFrames}
use Rattle.dxc_jobs.specs.declared.frames.FrameJob.{FrameJob}
use Rattle.dxc_jobs.specs.declared.frames_left.FramesLeft.{FramesLeft}
use Rattle.dxc_jobs.specs.Begun.{AreRan}
use Rattle.dxc_jobs.specs.Framed.{RanFrames}
use Rattle.dxc_jobs.specs.Handed.{AreJobsOf, IsJobOf}
use Rattle.dxc_jobs.specs.Leaves.{left_by}
use Rattle.serve_laws.specs.Frames.{AreOwnFrames, AreSeatsIn, CarriedOwn}

pub is_of : (z : Size) (f : State Aim View) (t : Tied z f) (j : ℕ) (v : View) → Knows z t.core t.writer t.dealt t.owner j v → IsOf t.core v
is_of z f t j Idle h = tt
is_of z f t j (AsMover u d m) h = h.2
is_of z f t j (AsWorker u v) h = h.1

-- the state of the core that a state of the words is
abbrev pub core_of : (z : Size) (f : State Aim View) (t : Tied z f) → IsCore z f
core_of z f t = record { events = t.events; core = t.core; reached = t.reached; hitless = always_hitless z t.events t.core t.sized t.reached; words_are = t.words_are; views_are = λ j v at. is_of z f t j v (t.each j v at) }

module _ (own_bytes : AreOwnBytes) (c : Core) (hitless : IsHitless c) (v : Worker) (here : get_elem? c.workers v.number ≡ some v) where
  own_from : (n : ℕ) (earlier : List Note) (input : List ℕ) (notes : List Note) (output : List ℕ) (later : List Note) → v.notes ≡ earlier ++ (notes ++ later) → AreFrames c.size v.number n input notes output → AreOwnFrames c v.number n input notes output
  own_from zero earlier input notes output later noted f = f
  own_from (suc n) earlier input notes output later noted f =
      let there : v.notes ≡ earlier ++ (f.2 ++ (f.3 ++ later)) = noted ∙ ap (λ (ns : List Note). earlier ++ (ns ++ later)) f.7 ∙ ap (λ (ns : List Note). earlier ++ ns) (append_assoc f.2 f.3 later) in
      let carried : Carried c = record { worker = v; here = here; earlier = earlier; notes = f.2; input = f.0; bytes = f.4; noted = (f.3 ++ later, there); frame = f.9 } in
      (f.0, f.1, f.2, f.3, f.4, f.5, f.6, f.7, f.8, f.9, (λ y lt. own_bytes c carried y hitless lt), own_from n (earlier ++ f.2) f.1 f.3 f.5 later (there ∙ sym (append_assoc earlier f.2 (f.3 ++ later))) f.10)

module _ (own_bytes : AreOwnBytes) {N G : Type 0} (n : LinesOf N) (g : GateOf G) (lines_for : N → List ℕ → ℕ → Type 0) (i : FabricId) (name : List ℕ) (f : State Aim View) (t : Tied i.size f) where
  carried_own : (worker : ℕ) (job : FrameJob N G) (left : FramesLeft) → IsJobOf lines_for i name worker job → left_by (RanFrames n g) job left → (j : ℕ) × (get_elem? f.views j ≡ some (AsWorker i.size left.seat.reader.worker)) → CarriedOwn n g t.core job left
  carried_own worker job left is ran seat =
      let r = ran.1 in
      let v = left.seat.reader.worker in
      let first = (padded_value job.seat).reader.worker in
      let here : get_elem? t.core.workers v.number ≡ some v = (t.each seat.0 (AsWorker i.size v) seat.1).1 in
      let size : (arc_value job.fabric).size ≡ t.core.size = ap (λ (x : FabricId). x.size) (sym job.own ∙ ap (λ (x : WorkerAt). x.fabric) is.seat) ∙ sym (same_size i.size f t) in
      let none : first.notes ≡ [] = ap (λ (x : WorkerAt). x.worker.notes) is.seat in
      let noted : v.notes ≡ [] ++ (r.run.notes ++ r.run.last_notes) = r.run.noted ∙ ap (λ (ns : List Note). ns ++ (r.run.notes ++ r.run.last_notes)) none in
      let frames : AreFrames t.core.size v.number r.frames r.run.input r.run.notes r.run.output = subst (λ (x : Size × ℕ). AreFrames x.0 x.1 r.frames r.run.input r.run.notes r.run.output) (λ k. (size k, sym r.run.number k)) r.run.frames in
      record { done = ran.0; ran = r; here = here; own = own_from own_bytes t.core (core_of i.size f t).hitless v here r.frames [] r.run.input r.run.notes r.run.output r.run.last_notes noted frames }

  pub all_own : (worker : ℕ) (jobs : List (FrameJob N G)) (lefts : List FramesLeft) → AreJobsOf lines_for i name worker jobs → AreRan (left_by (RanFrames n g)) jobs lefts → AreSeatsIn f i.size lefts → AreRan (CarriedOwn n g t.core) jobs lefts
  all_own worker [] [] are ran seats = tt
  all_own worker [] (l ∷ ls) are ran seats = absurd ran
  all_own worker (j ∷ js) [] are ran seats = absurd ran
  all_own worker (j ∷ js) (l ∷ ls) are ran seats = (carried_own worker j l are.0 ran.0 seats.0, all_own (worker + 1) js ls are.1 ran.1 seats.1)

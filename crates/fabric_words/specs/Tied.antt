-- The words and what all seats know are a state of the core that its events reached.
use Rattle.std.specs.Prelude.{◌≡◌, ℕ, ◌<◌, ◌≤◌, List, ◌++◌, map}
use mathlib.Core.Option.{some}
use lib.ListN.{get_elem?}
use Rattle.atomic_table.specs.Table.{State}
use Rattle.fabric_core.specs.declared.size.Size.{Size}
use Rattle.fabric_core.specs.declared.event.CoreEvent.{CoreEvent}
use Rattle.fabric_core.specs.declared.registers.Registers.{Registers}
use Rattle.fabric_core.specs.declared.worker.Worker.{Worker}
use Rattle.fabric_core.specs.State.{Core, IsSize, new_mover, new_worker, start}
use Rattle.fabric_core.specs.Steps.{Reaches}
use Rattle.fabric_words.specs.declared.table.Aim.{Aim}
use Rattle.fabric_words.specs.declared.table.View.{View}
use Rattle.fabric_words.specs.declared.table.View.TheVariants.{Idle, AsMover, AsWorker}

abbrev pub first_view : Size → View
first_view z = AsMover z 0 (new_mover z)

abbrev pub frame_of : Worker → ℕ
frame_of v = v.frame

-- the words in the order in which they lie
abbrev pub words_with : Registers → List Worker → List ℕ
words_with r vs = r.ins ++ (r.mids ++ (r.outs ++ map frame_of vs))

abbrev pub words_of : Core → List ℕ
words_of c = words_with c.mover.registers c.workers

-- What the seat j knows is a part of the state c. The mover's is the seat `writer`, and a worker's that of its number
abbrev pub Knows : Size → Core → ℕ → ℕ → (ℕ → ℕ) → ℕ → View → Type 0
Knows z c writer dealt owner j Idle = Unit {0}
Knows z c writer dealt owner j (AsMover u d m) = (u ≡ z) × (d ≡ dealt) × (m ≡ c.mover) × (j ≡ writer)
Knows z c writer dealt owner j (AsWorker u v) = (u ≡ z) × (get_elem? c.workers v.number ≡ some v) × (v.number < dealt) × (owner v.number ≡ j)

-- Some events led from the start to a state whose words are the table's, and of which each seat knows a part. A worker without a seat is new
pub record Tied (z : Size) (s : State Aim View) : Type 0 where
  pub sized : IsSize z
  pub events : List CoreEvent
  pub core : Core
  pub reached : Reaches (start z) events core
  pub words_are : s.words ≡ words_of core
  pub writer : ℕ
  pub dealt : ℕ
  pub owner : ℕ → ℕ
  pub each : (j : ℕ) (v : View) → get_elem? s.views j ≡ some v → Knows z core writer dealt owner j v
  pub undealt : (w : ℕ) → dealt ≤ w → w < z.workers → get_elem? core.workers w ≡ some (new_worker w)

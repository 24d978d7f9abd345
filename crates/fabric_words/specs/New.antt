-- The seats of a new fabric.
use Rattle.std.specs.Prelude.{◌≡◌, ℕ, ◌+◌, List, [], ◌∷◌}
use Rattle.fabric_core.specs.State.{new_worker}
use Rattle.fabric_words.specs.Seats.{FabricId}
use Rattle.fabric_words.specs.declared.worker.WorkerSeat.{WorkerSeat}

-- new seats of a fabric for the workers from n on
abbrev pub AreNew : FabricId → ℕ → List WorkerSeat → Type 0
AreNew f n [] = Unit {0}
AreNew f n (x ∷ xs) = (x.reader ≡ record { fabric = f; worker = new_worker n }) × AreNew f (n + 1) xs

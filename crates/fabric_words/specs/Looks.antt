-- What is kept of the looks at each worker.
use Rattle.std.specs.Prelude.{ℕ, List, [], ◌∷◌, Bool, if◌then◌else◌}
use Rattle.fabric_core.specs.declared.seen.Seen.{Seen}

-- where a flag stands the first odd number is kept, and elsewhere there is none
abbrev pub known : List Bool → List ℕ → List Bool → List Seen
known [] fs ps = []
known (o ∷ os) [] ps = []
known (o ∷ os) (f ∷ fs) [] = []
known (o ∷ os) (f ∷ fs) (p ∷ ps) = record { first = (if o then f else 0); passed = p } ∷ known os fs ps

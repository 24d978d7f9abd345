-- What the log of switches and a worker's notes say.
use Rattle.std.specs.Prelude.{◌≡◌, ◌≢◌, ℕ, suc, ◌≤◌, if◌then◌else◌, List, [], ◌∷◌, take, Option, Some, None}
use mathlib.Core.Option.{some}
use lib.ListN.{get_elem?}
use Rattle.dxc_num.specs.Dimensions.{leg_between, same_port}
use Rattle.dxc_num.specs.declared.port.Port.{Port}
use Rattle.dxc_num.specs.declared.port.Leg.{Leg}
use Rattle.fabric_core.specs.declared.worker.Note.{Note}
use Rattle.fabric_core.specs.declared.worker.Note.TheVariants.{OutWord, MidWord, InWord, Carried}
use Rattle.fabric_core.specs.Registers.{number_in}

-- switch n of the log was of the leg l. Numbers begin at 1
abbrev pub Numbered : List Leg → ℕ → Leg → Type 0
Numbered log n l = (u : ℕ) × (n ≡ suc u) × (get_elem? log u ≡ some l)

-- no switch above n was of a leg to the output y
abbrev pub Latest : List Leg → Port → ℕ → Type 0
Latest log y n = (u : ℕ) (l : Leg) → n ≤ u → get_elem? log u ≡ some l → l.output ≢ y

-- the OUT word of y that was noted last, or o
abbrev pub noted_from : Port → ℕ → List Note → ℕ
noted_from y o [] = o
noted_from y o (OutWord u q ∷ ns) = noted_from y (if same_port u y then q else o) ns
noted_from y o (MidWord q ∷ ns) = noted_from y o ns
noted_from y o (InWord q ∷ ns) = noted_from y o ns
noted_from y o (Carried u n x ∷ ns) = noted_from y o ns

-- the OUT word of y that was noted last, or 0
abbrev pub noted : Port → List Note → ℕ
noted y ns = noted_from y 0 ns

-- the OUT word that was noted last, with its output
abbrev pub last_from : Option (Port × ℕ) → List Note → Option (Port × ℕ)
last_from e [] = e
last_from e (OutWord u q ∷ ns) = last_from (Some (u, q)) ns
last_from e (MidWord q ∷ ns) = last_from e ns
last_from e (InWord q ∷ ns) = last_from e ns
last_from e (Carried u n x ∷ ns) = last_from e ns

abbrev pub last_out : List Note → Option (Port × ℕ)
last_out ns = last_from None ns

-- the switch that carried x to y was of that very leg
abbrev pub AreLogged : List Leg → List Note → Type 0
AreLogged log ns = (t n : ℕ) (y x : Port) → get_elem? ns t ≡ some (Carried y n x) → Numbered log n (leg_between x y)

-- and its number stood in the OUT word that was noted last for y
abbrev pub AreOfLastWord : List Note → Type 0
AreOfLastWord ns = (t n : ℕ) (y x : Port) → get_elem? ns t ≡ some (Carried y n x) → number_in (noted y (take t ns)) ≡ n

-- no MID or IN word that was followed was none
abbrev pub AreFound : List Note → Type 0
AreFound ns = (t q : ℕ) → ((get_elem? ns t ≡ some (MidWord q) → q ≢ 0) × (get_elem? ns t ≡ some (InWord q) → q ≢ 0))

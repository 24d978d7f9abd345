-- Each IN or MID word that is set is an established leg's, or that of the path that the phase names.
use Rattle.std.specs.Prelude.{◌≡◌, ◌≢◌, ◌⊎◌, ℕ, ◌<◌, Some}
use Rattle.dxc_num.specs.Dimensions.{Dimensions, module_of}
use Rattle.dxc_num.specs.declared.port.Port.{Port}
use Rattle.dxc_num.specs.declared.port.Leg.{Leg}
use Rattle.dxc_num.specs.declared.port.Middle.{Middle}
use Rattle.dxc_num.specs.declared.port.Route.{Route}
use Rattle.fabric_core.specs.declared.size.Size.{Size}
use Rattle.fabric_core.specs.declared.phase.Phase.{Phase}
use Rattle.fabric_core.specs.declared.phase.Phase.TheVariants.{Rest, InSet, MidSet, Old, Freed}
use Rattle.fabric_core.specs.declared.mover.Mover.{Mover}
use Rattle.fabric_core.specs.Registers.{in_word, mid_word}
use Rattle.fabric_core.specs.State.{leg_at}
use Rattle.fabric_core.specs.Moving.{IsMiddle}
use Rattle.fabric_core.specs.Laid.{IsLaidOut}

-- the phase names this path, whose IN word is set
abbrev pub HasIn : Phase → Leg → Middle → Type 0
HasIn Rest l q = ⊥
HasIn (InSet a b) l q = (a ≡ l) × (b ≡ q)
HasIn (MidSet a b) l q = (a ≡ l) × (b ≡ q)
HasIn (Old a b) l q = (a ≡ l) × (b ≡ q)
HasIn (Freed a b) l q = (a ≡ l) × (b ≡ q)

-- the phase names this path, whose MID word is set
abbrev pub HasMid : Phase → Leg → Middle → Type 0
HasMid (MidSet a b) l q = (a ≡ l) × (b ≡ q)
HasMid (Old a b) l q = (a ≡ l) × (b ≡ q)
HasMid p l q = ⊥

abbrev pub LegIn : Dimensions → Mover → ℕ → Middle → Type 0
LegIn d m i k = (y : Port) × (w : Route) × (leg_at m y ≡ Some w) × (module_of d w.input ≡ i) × (w.middle ≡ k)

abbrev pub PathIn : Dimensions → Phase → ℕ → Middle → Type 0
PathIn d p i k = (l : Leg) × (q : Middle) × HasIn p l q × (module_of d l.input ≡ i) × (q ≡ k)

abbrev pub LegMid : Dimensions → Mover → Middle → ℕ → Type 0
LegMid d m k j = (y : Port) × (w : Route) × (leg_at m y ≡ Some w) × (w.middle ≡ k) × (module_of d y ≡ j)

abbrev pub PathMid : Dimensions → Phase → Middle → ℕ → Type 0
PathMid d p k j = (l : Leg) × (q : Middle) × HasMid p l q × (q ≡ k) × (module_of d l.output ≡ j)

pub record IsOwned (d : Dimensions) (m : Mover) : Type 0 where
  pub ins : (i : ℕ) (k : Middle) → i < d.modules → IsMiddle d k → in_word d m.registers i k ≢ 0 → LegIn d m i k ⊎ PathIn d m.phase i k
  pub mids : (k : Middle) (j : ℕ) → IsMiddle d k → j < d.modules → mid_word d m.registers k j ≢ 0 → LegMid d m k j ⊎ PathMid d m.phase k j

-- what the rule says of the mover's part alone
pub record IsMoverRuled (z : Size) (m : Mover) : Type 0 where
  pub laid : IsLaidOut z m
  pub owned : IsOwned z.shape m

-- Between any two steps the words and what the seats know are a state of the core.
use Rattle.std.specs.Prelude.{◌≡◌, ℕ, List}
use mathlib.Core.Option.{some}
use lib.ListN.{get_elem?}
use Rattle.atomic_table.specs.Table.{State}
use Rattle.fabric_core.specs.declared.size.Size.{Size}
use Rattle.fabric_core.specs.declared.event.CoreEvent.{CoreEvent}
use Rattle.fabric_core.specs.State.{Core, start}
use Rattle.fabric_core.specs.Steps.{Reaches}
use Rattle.fabric_core.specs.Hitless.{IsHitless}
use Rattle.fabric_words.specs.declared.table.Aim.{Aim}
use Rattle.fabric_words.specs.declared.table.View.{View}
use Rattle.fabric_words.specs.declared.table.View.TheVariants.{Idle, AsMover, AsWorker}
use Rattle.fabric_words.specs.Tied.{words_of, Tied}

-- what a seat knows is what the state says of it
abbrev pub IsOf : Core → View → Type 0
IsOf c Idle = Unit {0}
IsOf c (AsMover z d m) = m ≡ c.mover
IsOf c (AsWorker z v) = get_elem? c.workers v.number ≡ some v

-- the words and all views are a state that the core's events reach from the start, and it is hitless
pub record IsCore (z : Size) (s : State Aim View) : Type 0 where
  pub events : List CoreEvent
  pub core : Core
  pub reached : Reaches (start z) events core
  pub hitless : IsHitless core
  pub words_are : s.words ≡ words_of core
  pub views_are : (j : ℕ) (v : View) → get_elem? s.views j ≡ some v → IsOf core v

-- so it is of every state that the table's rule allows
abbrev pub IsAlwaysCore : Type 0
IsAlwaysCore = (z : Size) (s : State Aim View) → Tied z s → IsCore z s

-- What a state comes to, and what the sessions of a place left.
use Rattle.std.specs.Prelude.{◌≡◌, ◌≢◌, ◌+◌, ◌<◌, ◌≤◌, ◌⊎◌, ◌++◌, ℕ, true, false, List, length, min}
use Rattle.turnstile.specs.Turning.{Each}
use Rattle.dxc_causes.specs.Causes.{last}
use Rattle.dxc_disk.specs.Disks.{DiskState}
use Rattle.dxc_model.specs.declared.entry.Entry.{Entry}
use Rattle.dxc_model.specs.declared.op.Selection.TheVariants.{All}
use Rattle.dxc_model.specs.Histories.{IsLegal, changes_of, table_after}
use Rattle.dxc_model.specs.Tables.{rows}
use Rattle.xc_core.specs.declared.state.Errand.{Errand}
use Rattle.xc_core.specs.declared.state.Home.TheVariants.{In, Out}
use Rattle.xc_core.specs.declared.state.State.{State}
use Rattle.xc_core.specs.Provisioners.{Boxed}
use Rattle.xc_core.specs.Reckonings.{Past, ReckonsTo}
use Rattle.xc_core.specs.States.{Opening, StandsFor, faults_in, rules_of}
use Rattle.dxc_element.specs.declared.stock.Stock.{Stock}

-- the connections of a state's table, and the switches of its Provisioner, which is home and not halted
pub record IsStock {D : Type 0} (x : State D) (s : Stock) : Type 0 where
  pub driver : Boxed D
  pub is_home : x.home ≡ In driver
  pub ready : driver.value.p.halted ≡ false
  pub connections : s.connections ≡ length (rows x.table All)
  pub switches : s.switches ≡ length driver.value.p.mover.mover.log

-- the Provisioner of a state which is home, and halted
pub record IsHaltedHome {D : Type 0} (x : State D) : Type 0 where
  pub driver : Boxed D
  pub is_home : x.home ≡ In driver
  pub halted : driver.value.p.halted ≡ true

-- a place has the Provisioner, or a restart is due
abbrev pub IsAway : {D : Type 0} → State D → Type 0
IsAway x = ((e : Errand) × (x.home ≡ Out e)) ⊎ IsHaltedHome x

-- after a history from the opening on: the connections of the plain table after it, and the switches of its changes, each by its planned work
pub record IsStockAfter (o : Opening) (h : List Entry) (s : Stock) : Type 0 where
  pub legal : IsLegal (rules_of o) h
  pub connections : s.connections ≡ length (rows (table_after o.first.fold.table h) All)
  pub now : Past
  pub reckoned : ReckonsTo o.first (changes_of h) now
  pub switches : s.switches ≡ now.fold.switches

-- each operation of a history that failed by the disk was a fault that the disk counted
abbrev pub IsCounted : Opening → List Entry → DiskState → Type 0
IsCounted o h d = min (o.faults + faults_in h) last ≤ d.faults

-- After a history that a place has seen stand entries of the others of so many places. The state comes to this, and this is its journal's disk.
pub record IsLeft {D : Type 0} (state : D → DiskState) (own places : ℕ) (o : Opening) (h : List Entry) (s : Stock × D) : Type 0 where
  pub later : List Entry
  pub others : Each (λ e. e.place ≢ own) later
  pub numbers : Each (λ e. e.place < places) later
  pub after : IsStockAfter o (h ++ later) s.0
  pub counted : IsCounted o (h ++ later) (state s.1)

-- a place by its number, and how many there are
pub record Among : Type 0 where
  pub own : ℕ
  pub places : ℕ

abbrev pub among : (own places : ℕ) → Among
among own places = record { own = own; places = places }

-- after a history that a place has seen stand entries of the others of so many places, and a state that stands for both has its Provisioner away
pub record IsHeldUp {D : Type 0} (told : Type 0) (state : D → DiskState) (place : Among) (o : Opening) (h : List Entry) : Type 0 where
  pub later : List Entry
  pub others : Each (λ e. e.place ≢ place.own) later
  pub numbers : Each (λ e. e.place < place.places) later
  pub found : State D
  pub stands_for : StandsFor told state o found (h ++ later)
  pub away : IsAway found

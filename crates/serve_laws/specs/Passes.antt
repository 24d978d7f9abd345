-- A state of a turnstile at which its passes rest.
use Rattle.std.specs.Prelude.{◌≡◌, ℕ, ◌+◌, true, List, [], ◌∷◌, Option}
use mathlib.Core.Option.{some}
use lib.ListN.{get_elem?}
use base.Stored.{Gv}
use Rattle.atomic_table.specs.Table.{State}
use Rattle.turnstile.specs.declared.board.View.{View}
use Rattle.turnstile.specs.declared.board.Held.{Held}
use Rattle.turnstile.specs.declared.board.Opened.{Opened}
use Rattle.turnstile.specs.Dating.{Stamp}
use Rattle.turnstile.specs.Passing.{Ident}
use Rattle.turnstile.specs.Shown.{Rests, newest_of, token}
use Rattle.turnstile.specs.Turning.{Kept}

-- what a pass has seen: the codes of a history, and their stamps
pub record Seen : Type 0 where
  pub codes : List Gv
  pub stamps : List Stamp

-- In this state the pass of this number rests. It is seen as every pass is: it is of this turnstile, and has seen this; what it has heard of another's dates
-- is of no account.
pub record IsPassIn {H : Type 0} (z : State H View) (id : Ident) (own : ℕ) (seen : Seen) : Type 0 where
  pub view : View
  pub there : get_elem? z.views (own + 1) ≡ some view
  pub other : List View
  pub is : token own id.table (view ∷ []) other ≡ record { number = own; free = true; id = id; seen = seen.codes; stamps = seen.stamps; heard = newest_of other }
  pub rests : Rests own (view ∷ [])

-- so do those from this number on
abbrev pub ArePassesIn : {H : Type 0} → State H View → Ident → ℕ → List Seen → Type 0
ArePassesIn z id n [] = Unit {0}
ArePassesIn z id n (s ∷ ss) = IsPassIn z id n s × ArePassesIn z id (n + 1) ss

module _ {X E O : Type 0} (mark : O → Gv) (code : E → Gv) (opening : X → O) (number : E → ℕ) (stands : X → List E → Type 0) where
  -- a state that the turnstile's rule allows, in which these passes of it rest, and have seen this
  pub record IsRestOf (id : Ident) (seen : List Seen) (key : Opened X) (z : State (Option (Held X E)) View) : Type 0 where
    pub kept : Kept mark code opening number stands key z
    pub passes : ArePassesIn z id 0 seen

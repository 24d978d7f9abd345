-- The histories of two turnstiles have one order, in which the entries of each place come as it took them.
use Rattle.std.specs.Prelude.{◌≡◌, ◌≢◌, ℕ, ◌+◌, ◌<◌, Bool, false, List, ◌++◌, map, filter, Option, Box, ◌⊎◌}
use mathlib.Core.Logic.{inl, inr}
use mathlib.Core.Option.{some}
use lib.ListN.{get_elem?}
use Rattle.std.specs.declared.alloc.Global.{Global}
use base.Stored.{Gv}
use Rattle.atomic_table.specs.Table.{State}
use Rattle.turnstile.specs.declared.board.Held.{Held}
use Rattle.turnstile.specs.declared.board.Opened.{Opened}
use Rattle.turnstile.specs.declared.board.View.{View}
use Rattle.turnstile.specs.declared.sequential.Sequential.{Ghosts as SequenceOf}
use Rattle.turnstile.specs.Laws.{IsOne}
use Rattle.turnstile.specs.Passing.{Token}
use Rattle.turnstile.specs.Orders.{IsOrder, TakesTurns}
use Rattle.turnstile.specs.Turning.{opening_in, stands_in}

module _ {S E : Type 0} (g : SequenceOf S E) where
  abbrev pub StateOf : Type 0
  StateOf = State (Option (Held (Box S Global) E)) View

  -- a state of the turnstile that was opened so, and its one history
  abbrev pub HasOne : Opened (Box S Global) → StateOf → Type 0
  HasOne key s = IsOne g.opening_code.code g.entry_code.code (opening_in g.opening) g.number (stands_in g.stands) key s

module _ {E F : Type 0} (code : E → Gv) (other_code : F → Gv) (used : E ⊎ F → Bool) where
  -- by what a place's two passes have seen it took these entries of both, in this order
  pub record HasTakenIn (p : Token × Token) (took : List (E ⊎ F)) : Type 0 where
    pub seen : List E
    pub codes : p.0.seen ≡ map code seen
    pub other_seen : List F
    pub other_codes : p.1.seen ≡ map other_code other_seen
    pub takes : TakesTurns used p.0.number p.0.stamps seen p.1.stamps other_seen took

  -- and goes on so
  abbrev pub TookOn : Token × Token → Token × Token → Type 0
  TookOn old new = (took : List (E ⊎ F)) → HasTakenIn old took → (more : List (E ⊎ F)) × HasTakenIn new (took ++ more)

module _ {S E T F : Type 0} (g : SequenceOf S E) (j : SequenceOf T F) where
  -- whether a place uses an entry; it uses none of others
  pub record Uses : Type 0 where
    pub used : ℕ → E ⊎ F → Bool
    pub own : (k : ℕ) (e : E) → g.number e ≢ k → used k (inl e) ≡ false
    pub other_own : (k : ℕ) (f : F) → j.number f ≢ k → used k (inr f) ≡ false

  -- By what its two passes have seen the place took these entries of both, in this order.
  pub record HasTaken (used : E ⊎ F → Bool) (place : ℕ) (v w : View) (took : List (E ⊎ F)) : Type 0 where
    pub seen : List E
    pub codes : v.seen ≡ map g.entry_code.code seen
    pub other_seen : List F
    pub other_codes : w.seen ≡ map j.entry_code.code other_seen
    pub takes : TakesTurns used place v.stamps seen w.stamps other_seen took

  -- the place of this number has passes in both
  pub record HasPasses (s : StateOf g) (t : StateOf j) (used : E ⊎ F → Bool) (place : ℕ) (took : List (E ⊎ F)) : Type 0 where
    pub view : View
    pub sits : get_elem? s.views (place + 1) ≡ some view
    pub other : View
    pub other_sits : get_elem? t.views (place + 1) ≡ some other
    pub taken : HasTaken used place view other took

  pub record OneOrder (u : Uses) (places : ℕ) (took : ℕ → List (E ⊎ F)) (h : List E) (i : List F) : Type 0 where
    pub order : List (E ⊎ F)
    pub of_both : IsOrder h i order
    pub own : (k : ℕ) → k < places → filter (u.used k) order ≡ took k

  -- so it is of any two states that their rules allow
  abbrev pub HaveOneOrder : Type 0
  HaveOneOrder = (key : Opened (Box S Global)) (s : StateOf g) (one : HasOne g key s) (other_key : Opened (Box T Global)) (t : StateOf j) (other : HasOne j other_key t)
      (u : Uses) (places : ℕ) (took : ℕ → List (E ⊎ F))
      → ((k : ℕ) → k < places → HasPasses s t (u.used k) k (took k)) → OneOrder u places took one.history other.history

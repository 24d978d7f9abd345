-- What the turnstile of a sequential state tells, by all members of its trait as one.
use Rattle.std.specs.Prelude.{Option, Box}
use Rattle.atomic_table.specs.Table.{State, Me}
use Rattle.turnstile.specs.declared.board.Held.{Held}
use Rattle.turnstile.specs.declared.board.Opened.{Opened}
use Rattle.turnstile.specs.declared.board.View.{View}
use Rattle.turnstile.specs.declared.sequential.Sequential.{Ghosts as SequenceOf}
use Rattle.turnstile.specs.Passing.{TurnstileView, Out, Token}
use Rattle.turnstile.specs.Turning.{Found, Kept, opening_in, stands_in, turned_from}

module _ {S E : Type 0} (g : SequenceOf S E) where
  -- what the table of its turnstile keeps
  abbrev pub IsKept : {Z : Type 0} → Opened (Box S Z) → State (Option (Held (Box S Z) E)) View → Type 0
  IsKept key s = Kept g.opening_code.code g.entry_code.code (opening_in g.opening) g.number (stands_in g.stands) key s

  -- the seat has the turn, and the slot, out of which the state was moved
  abbrev pub Turned : {Z : Type 0} → View → Box S Z → Me (Option (Held (Box S Z) E)) View → Type 0
  Turned v x after = turned_from g.opening_code.code g.entry_code.code (opening_in g.opening) g.number (stands_in g.stands) v x after

  -- what a pass finds that has the turn
  abbrev pub FoundIn : TurnstileView S → Token → Out S → Type 0
  FoundIn turnstile pass turn = Found g.entry_code.code g.opening g.number g.stands turn.own turnstile.passes (g.opening turnstile.first) pass.seen turn.state turn.seen

-- That each read of a session begins where all that was read before was served.
use Rattle.std.proofs.Common.{◌≡◌, ◌≤◌, ℕ, List, [], inl, inr, false, sym, arith}
use Rattle.std.proofs.Math.Nat.{eq-or-lt_of_le}
use Rattle.dxc_causes.specs.Causes.{Counted}
use Rattle.dxc_outside.specs.declared.clock.Moment.{Moment}
use Rattle.dxc_outside.specs.Links.{LinkState}
use Rattle.tl1_text.specs.declared.reader.UnitKind.TheVariants.{More}
use Rattle.tl1_text.specs.Reading.{Reader}
use Rattle.user_admin.specs.Turns.{Saw as SawUsers}
use Rattle.xc_core.specs.Seeing.{Saw}
use Rattle.craft_session.specs.Asks.{Language}
use Rattle.craft_session.specs.Happenings.{Request}
use Rattle.craft_session.specs.Seats.{SeatAt, UserSeatAt}
use Rattle.craft_session.specs.Sessions.{Beginning, IsAt, IsFrom, IsPrompt, Now, Stands}
use Rattle.craft_session.proofs.SessionSteps.{served_here}

module _ (l : Language Request Moment) (begun : LinkState → Type 0) (told clock_told : Type 0) (k : LinkState) (c : List Moment) (old : SeatAt) (users : UserSeatAt) where
  pub prompt_none : IsPrompt l begun told clock_told k k c old users
  prompt_none b at saw users_saw first n from below = absurd (omega (arith, from, below))

  -- a read, and writes after it
  pub prompt_more : (j m : LinkState) (reads : ℕ) (d : List Moment) (now : Now) (r : Reader) → IsPrompt l begun told clock_told k j c old users → begun j
      → ((b : Beginning) → IsAt b old users → Saw b.opening old.seen b.before → SawUsers b.users users.seen b.users_before → IsFrom b old users → Stands l told clock_told k j c d b now false More r [])
      → Counted j.reads reads 1 → m.reads ≡ reads → IsPrompt l begun told clock_told k m c old users
  prompt_more j m reads d now r so_far begun_j stands one same b at saw users_saw first n from below =
      let within : n ≤ j.reads = omega (arith, below, same, one.no_more) in
      elim (eq-or-lt_of_le within) [
        | inl is ↦ record { link = j; begun_at = begun_j; number_is = sym is; clock = d; now = now; served = served_here _ _ _ _ _ _ _ _ _ _ (stands b at saw users_saw first) }
        | inr less ↦ so_far b at saw users_saw first n from less
      ]

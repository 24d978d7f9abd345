-- What ended otherwise, and counts along calls, over plain variables.
use Rattle.std.specs.Prelude.{IsErr, IsOk, is_ok}
use Rattle.std.proofs.Common.{◌≡◌, ◌≢◌, ◌<◌, ◌≤◌, ◌+◌, ℕ, Bool, true, false, Result, Ok, Err, le_of_eq, true≢false, List, ap, refl, sym, ◌∙◌, subst, arith}
use Rattle.dxc_causes.specs.Causes.{Counted, Rose}
use Rattle.dxc_causes.specs.Stops.{RoseOnlyFor}
use Rattle.dxc_causes.proofs.Stops.{has_risen, stands_still}
use Rattle.dxc_outside.specs.declared.clock.Moment.{Moment}
use Rattle.dxc_outside.specs.declared.stopped.Stopped.{Stopped}
use Rattle.dxc_outside.specs.Stops.{the_stop}
use Rattle.dxc_outside.specs.declared.link.Got.TheVariants.{Bytes, Quiet, End as NoMore, Failed as NotRead}
use Rattle.dxc_outside.specs.Links.{LinkState}
use Rattle.craft_session.specs.declared.end.SessionEnd.{SessionEnd}
use Rattle.craft_session.specs.declared.end.SessionEnd.TheVariants as session
use Rattle.craft_session.specs.Asks.{Language}
use Rattle.craft_session.specs.Happenings.{Request}
use Rattle.craft_session.specs.Seats.{SeatAt, UserSeatAt}
use Rattle.craft_session.specs.Sessions.{Beginning, IsServed, IsSession, Now}

-- by a test that holds of the one and not of the other
pub apart : {A : Type 0} (test : A → Bool) (how one other : A) → how ≡ one → test one ≡ true → test other ≡ false → how ≢ other
apart test how one other is holds fails also = true≢false (sym holds ∙ ap test (sym is ∙ also) ∙ fails)

pub unheld : {X : Type 0} (b : Bool) → b ≡ false → b ≡ true → X
unheld b is holds = absurd (true≢false (sym holds ∙ is))

-- what went on isn't what a stop ended
pub went_on : {X A : Type 0} (v : A) → ◌≡◌ {A = Result A Stopped} (Ok v) (Err the_stop) → X
went_on v is = absurd (true≢false (ap is_ok is))

pub no_error : {X A : Type 0} (v : A) → IsErr {E = Stopped} (Ok v) → X
no_error v is = absurd (true≢false (sym is))

-- what an exit by `?` answers
pub by_stop : {A : Type 0} (P : Result A Stopped → Type 0) (r : Result A Stopped) → IsErr r → P (Err the_stop) → P r
by_stop P (Ok v) is holds = no_error v is
by_stop P (Err e) is holds = holds

pub is_stop : {A : Type 0} (r : Result A Stopped) → IsErr r → r ≡ Err the_stop
is_stop r is = by_stop (λ x. x ≡ Err the_stop) r is refl

pub not_ok : {X A : Type 0} (r : Result A Stopped) → IsErr r → IsOk r → X
not_ok (Ok v) is ok = no_error v is
not_ok (Err e) is ok = absurd (true≢false (sym ok))

-- a count of stops where a call goes on that asked nothing, or that nothing stopped
pub no_stop : {A : Type 0} (v : A) (a b : ℕ) → b ≡ a → RoseOnlyFor a b (IsErr {E = Stopped} (Ok v))
no_stop v a b same = stands_still a b (IsErr {E = Stopped} (Ok v)) same (λ is. no_error v is)

-- it stands as it was where a call went on
pub stayed_ok : {A : Type 0} (v : A) (r : Result A Stopped) (a b : ℕ) → r ≡ Ok v → RoseOnlyFor a b (IsErr r) → b ≡ a
stayed_ok {A} v r a b is rose = (subst (λ (x : Result A Stopped). RoseOnlyFor a b (IsErr x)) is rose).only (λ e. no_error v e)

-- the same, whatever it goes on with
pub never : {X : Type 0} → false ≡ true → X
never is = absurd (true≢false (sym is))

pub still : (a b : ℕ) → b ≡ a → RoseOnlyFor a b (false ≡ true)
still a b same = stands_still a b (false ≡ true) same (λ is. never is)

-- where it stood as it was first
pub rose_after : (a b c : ℕ) (came : Type 0) → b ≡ a → RoseOnlyFor b c came → RoseOnlyFor a c came
rose_after a b c came same rose = subst (λ (n : ℕ). RoseOnlyFor n c came) same rose

-- where a stop came, by whatever this was told
pub rose_by : (a b : ℕ) (came then_came : Type 0) → RoseOnlyFor a b came → came → then_came → RoseOnlyFor a b then_came
rose_by a b came then_came rose is then_is = has_risen a b then_came rose.later (rose.cause is) then_is

-- a gate was asked last
pub gate_passed : (r : Result (Unit {0}) Stopped) (a b : ℕ) → (r ≡ Ok tt → b ≡ a) → (r ≡ Err the_stop → Rose a b) → a ≤ b → RoseOnlyFor a b (IsErr r)
gate_passed (Ok x) a b go stop later = still a b (go refl)
gate_passed (Err e) a b go stop later = has_risen a b (true ≡ true) later (stop refl) refl

-- a session's end is no other
abbrev is_end : SessionEnd → Bool
is_end session.End = true
is_end _ = false

abbrev is_read_fault : SessionEnd → Bool
is_read_fault session.ReadFault = true
is_read_fault _ = false

abbrev is_write_fault : SessionEnd → Bool
is_write_fault session.WriteFault = true
is_write_fault _ = false

abbrev is_stopped : SessionEnd → Bool
is_stopped session.Stopped = true
is_stopped _ = false

abbrev is_spent : SessionEnd → Bool
is_spent session.Spent = true
is_spent _ = false

abbrev is_unattended : SessionEnd → Bool
is_unattended session.Unattended = true
is_unattended _ = false

abbrev is_cancelled : SessionEnd → Bool
is_cancelled session.Cancelled = true
is_cancelled _ = false

abbrev is_idle : SessionEnd → Bool
is_idle session.Idle = true
is_idle _ = false

module _ {X : Type 0} (e : SessionEnd) where
  pub end_no : session.End ≡ e → is_end e ≡ false → X
  end_no is other = absurd (apart is_end session.End session.End e refl refl other is)

  pub read_no : session.ReadFault ≡ e → is_read_fault e ≡ false → X
  read_no is other = absurd (apart is_read_fault session.ReadFault session.ReadFault e refl refl other is)

  pub write_no : session.WriteFault ≡ e → is_write_fault e ≡ false → X
  write_no is other = absurd (apart is_write_fault session.WriteFault session.WriteFault e refl refl other is)

  pub stop_no : session.Stopped ≡ e → is_stopped e ≡ false → X
  stop_no is other = absurd (apart is_stopped session.Stopped session.Stopped e refl refl other is)

  pub spent_no : session.Spent ≡ e → is_spent e ≡ false → X
  spent_no is other = absurd (apart is_spent session.Spent session.Spent e refl refl other is)

  pub unattended_no : session.Unattended ≡ e → is_unattended e ≡ false → X
  unattended_no is other = absurd (apart is_unattended session.Unattended session.Unattended e refl refl other is)

  pub cancelled_no : session.Cancelled ≡ e → is_cancelled e ≡ false → X
  cancelled_no is other = absurd (apart is_cancelled session.Cancelled session.Cancelled e refl refl other is)

  pub idle_no : session.Idle ≡ e → is_idle e ≡ false → X
  idle_no is other = absurd (apart is_idle session.Idle session.Idle e refl refl other is)

-- a count that stayed first
pub later_behind : (a b c : ℕ) → b ≡ a → b ≤ c → a ≤ c
later_behind a b c same later = subst (λ (n : ℕ). n ≤ c) same later

pub rose_behind : (a b c : ℕ) → b ≡ a → Rose b c → Rose a c
rose_behind a b c same rose = subst (λ (n : ℕ). Rose n c) same rose

pub stayed : (a b : ℕ) → b ≡ a → a ≤ b
stayed a b same = le_of_eq (sym same)

-- one that didn't fall first
pub later_on : (a b c : ℕ) → a ≤ b → b ≤ c → a ≤ c
later_on a b c first next = omega (arith, first, next)

pub rose_later : (a b c : ℕ) → a ≤ b → Rose b c → Rose a c
rose_later a b c later rose = omega (arith, later, rose)

pub counted_none : (n : ℕ) → Counted n n 0
counted_none n = record { reached = omega arith; no_more = omega arith }

-- so many reads and one more are within a limit
pub few_more : (limit a b c d n : ℕ) → Counted a b n → Counted b c 1 → d ≡ c → n < limit → d ≤ a + limit
few_more limit a b c d n so_far one is within = omega (arith, so_far.no_more, one.no_more, is, within)

-- so many reads are
pub few_here : (limit a b n : ℕ) → Counted a b n → n < limit → b ≤ a + limit
few_here limit a b n so_far within = omega (arith, so_far.no_more, within)

-- a read that answered wasn't Failed
pub bytes_came : (n : ℕ) → Bytes n ≡ NotRead → ⊥
bytes_came n is = cc

pub quiet_came : Quiet ≡ NotRead → ⊥
quiet_came is = cc

pub end_came : NoMore ≡ NotRead → ⊥
end_came is = cc

-- no write failed but for one that ended the session
unfailed : (l : Language Request Moment) (told clock_told : Type 0) (k j : LinkState) (c d : List Moment) (b : Beginning) (now : Now) (end : SessionEnd) → IsSession l told clock_told k j c d b now end → end ≢ session.WriteFault → j.write_faults ≡ k.write_faults
unfailed l told clock_told k j c d b now session.End x other = x.no_fault
unfailed l told clock_told k j c d b now session.ReadFault x other = x.no_fault
unfailed l told clock_told k j c d b now session.Spent x other = x.no_fault
unfailed l told clock_told k j c d b now session.Unattended x other = x.served.no_fault
unfailed l told clock_told k j c d b now session.Idle x other = x.no_fault
unfailed l told clock_told k j c d b now session.Cancelled x other = x.served.no_fault
unfailed l told clock_told k j c d b now session.Stopped x other = x.no_fault
unfailed l told clock_told k j c d b now session.WriteFault x other = absurd (other refl)

pub no_write_fault : (l : Language Request Moment) (told clock_told : Type 0) (k j : LinkState) (c d : List Moment) (old new : SeatAt) (users then_users : UserSeatAt) (end : SessionEnd) → IsServed l told clock_told k j c d old new users then_users end → end ≢ session.WriteFault → j.write_faults ≡ k.write_faults
no_write_fault l told clock_told k j c d old new users then_users end s other = unfailed l told clock_told k j c d _ _ end s.session other

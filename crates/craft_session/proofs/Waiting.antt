-- One read more of a session in which nobody may be logged in.
use Rattle.std.proofs.Common.{◌≡◌, ◌<◌, ◌≤◌, ◌+◌, ◌*◌, ℕ, List, [], zero, inl, inr, false, suc, refl, sym, ◌∙◌, subst, arith}
use Rattle.std.specs.Prelude.{min}
use Rattle.std.proofs.Math.Nat.{eq-or-lt_of_le}
use Rattle.dxc_causes.specs.Causes.{Counted}
use Rattle.dxc_outside.specs.declared.clock.Moment.{Moment}
use Rattle.dxc_outside.specs.Links.{LinkState}
use Rattle.dxc_model.specs.declared.user.SessionUser.{SessionUser}
use Rattle.dxc_model.specs.declared.user.SessionUser.TheVariants.{Nobody, User}
use Rattle.tl1_text.specs.declared.reader.UnitKind.TheVariants.{More}
use Rattle.tl1_text.specs.Reading.{Reader}
use Rattle.craft_session.specs.declared.patience.Patience.TheVariants.{Endless, Limited}
use Rattle.craft_session.specs.Asks.{Language}
use Rattle.craft_session.specs.Happenings.{Request}
use Rattle.craft_session.specs.Seats.{SeatAt, UserSeatAt}
use Rattle.craft_session.specs.Sessions.{Now, Stands}
use Rattle.craft_session.specs.Waiting.{ForEach, IsLetGoBy, WasAlone, WasUnattended, waited_after}
use Rattle.craft_session.proofs.SessionSteps.{served_here}

pub both_no : {X : Type 0} → Limited ≡ Endless → X
both_no is = absurd cc

-- who waited so long made a read
pub some_made : (made waited : ℕ) → 4800 ≤ waited → waited ≤ 16 * made → 0 < made
some_made made waited long few = omega (arith, long, few)

module _ (limited : Type 0) (l : Language Request Moment) (begun : LinkState → Type 0) (told clock_told : Type 0) (k : LinkState) (c : List Moment) (old : SeatAt) (users : UserSeatAt) where
  -- how a session stands that made so many reads, and has waited so long
  pub record Waits (j : LinkState) (made waited : ℕ) : Type 0 where
    pub few : waited ≤ 16 * made
    pub alone : (n : ℕ) → 16 * n ≤ waited + 15 → WasAlone l begun told clock_told k c old users j n
    pub let_go : limited → IsLetGoBy l begun told clock_told k c old users j (min waited 4800)

  pub waits_none : Waits k 0 0
  waits_none = record {
    few = omega arith;
    alone = λ n low below b at saw users_saw first number from less. absurd (omega (arith, low, from, less));
    let_go = λ limits. inl (omega arith);
  }

  -- it stands so, whatever histories the seats had seen
  abbrev pub StandsAt : LinkState → List Moment → Now → Reader → Type 0
  StandsAt j d now r = ForEach l begun told clock_told k c old users (λ b. Stands l told clock_told k j c d b now false More r [])

  -- a wait that is longer
  longer : (j : LinkState) (n m : ℕ) → n ≤ m → IsLetGoBy l begun told clock_told k c old users j n → IsLetGoBy l begun told clock_told k c old users j m
  longer j n m le is = elim is [
    | inl few ↦ inl (omega (arith, few, le))
    | inr some ↦ inr (λ b at saw users_saw first. let s = some b at saw users_saw first in record { number = s.number; since = let since = s.since in omega (arith, since, le); read = s.read; somebody = s.somebody })
  ]

  module _ (j m : LinkState) (reads : ℕ) (d : List Moment) (now : Now) (r : Reader) (begun_j : begun j) (stands : StandsAt j d now r) (one : Counted j.reads reads 1) (same : m.reads ≡ reads) where
    let_go_by : (user : SessionUser) → now.attending.user ≡ user → (waited read : ℕ) → (user ≡ Nobody → waited < 4800) → 1 ≤ read → IsLetGoBy l begun told clock_told k c old users j (min waited 4800) → IsLetGoBy l begun told clock_told k c old users m (min (waited_after user waited read) 4800)
    let_go_by Nobody is waited read short some so_far =
        let low = short refl in
        elim so_far [
          | inl few ↦ inl (let up = one.no_more in omega (arith, few, up, same, low, some))
          | inr attended ↦ inr (λ b at saw users_saw first. let s = attended b at saw users_saw first in record {
            number = s.number;
            since = let since = s.since in let up = one.no_more in omega (arith, since, up, same, low, some);
            read = s.read;
            somebody = s.somebody;
          })
        ]
    let_go_by (User uid class) is waited read short some so_far = inr (λ b at saw users_saw first. record {
      number = j.reads;
      since = let up = one.no_more in omega (arith, up, same);
      read = record { link = j; begun_at = begun_j; number_is = refl; clock = d; now = now; served = served_here _ _ _ _ _ _ _ _ _ _ (stands b at saw users_saw first) };
      somebody = λ nobody. let no : User uid class ≡ Nobody = sym is ∙ nobody in cc;
    })

    alone_by : (user : SessionUser) → now.attending.user ≡ user → (waited read : ℕ) → read ≤ 16 → ((n : ℕ) → 16 * n ≤ waited + 15 → WasAlone l begun told clock_told k c old users j n) → (n : ℕ) → 16 * n ≤ waited_after user waited read + 15 → WasAlone l begun told clock_told k c old users m n
    alone_by Nobody is waited read most so_far zero low below b at saw users_saw first number from less = absurd (omega (arith, from, less))
    alone_by Nobody is waited read most so_far (suc n) low below b at saw users_saw first number from less =
        let next : reads ≡ j.reads + 1 = let up = one.no_more in let reached = one.reached in omega (arith, up, reached, same, below) in
        let within : number ≤ j.reads = omega (arith, less, same, next) in
        elim (eq-or-lt_of_le within) [
          | inl at_j ↦ (record { link = j; begun_at = begun_j; number_is = sym at_j; clock = d; now = now; served = served_here _ _ _ _ _ _ _ _ _ _ (stands b at saw users_saw first) }, is)
          | inr earlier ↦ so_far n (omega (arith, low, most)) (omega (arith, below, same, next)) b at saw users_saw first number (omega (arith, from, same, next)) earlier
        ]
    alone_by (User uid class) is waited read most so_far n low below b at saw users_saw first number from less = absurd (omega (arith, low, from, less))

    few_by : (user : SessionUser) (made waited read : ℕ) → read ≤ 16 → waited ≤ 16 * made → waited_after user waited read ≤ 16 * (made + 1)
    few_by Nobody made waited read most few = omega (arith, most, few)
    few_by (User uid class) made waited read most few = omega arith

    -- a read that was answered, and counts so much
    pub waits_more : (made waited read next : ℕ) → next ≡ waited_after now.attending.user waited read → (limited → now.attending.user ≡ Nobody → waited < 4800) → 1 ≤ read → read ≤ 16 → Waits j made waited → Waits m (made + 1) next
    waits_more made waited read next is short some most w = subst (λ (n : ℕ). Waits m (made + 1) n) (sym is) (record {
      few = few_by now.attending.user made waited read most w.few;
      alone = alone_by now.attending.user refl waited read most w.alone;
      let_go = λ limits. let_go_by now.attending.user refl waited read (short limits) some (w.let_go limits);
    })

    -- a read after which the session ended
    pub let_go_behind : (made waited : ℕ) → (limited → now.attending.user ≡ Nobody → waited < 4800) → Waits j made waited → limited → IsLetGoBy l begun told clock_told k c old users m 4800
    let_go_behind made waited short w limits = longer m (min (waited_after now.attending.user waited 1) 4800) 4800 (omega arith) (let_go_by now.attending.user refl waited 1 (short limits) (omega arith) (w.let_go limits))

  -- the session ended without a read
  pub let_go_here : (j : LinkState) (made waited : ℕ) → Waits j made waited → limited → IsLetGoBy l begun told clock_told k c old users j 4800
  let_go_here j made waited w limits = longer j (min waited 4800) 4800 (omega arith) (w.let_go limits)

  -- it had waited for a minute
  pub unattended_at : (j : LinkState) (made waited : ℕ) → Counted k.reads j.reads made → 4800 ≤ waited → Waits j made waited → WasUnattended l begun told clock_told k c old users j
  unattended_at j made waited counted long w = record {
    reads = let few = w.few in let reached = counted.reached in omega (arith, few, reached, long);
    alone = w.alone 300 (omega (arith, long));
  }

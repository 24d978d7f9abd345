-- One read more of a session in which nothing may come.
use Rattle.std.proofs.Common.{◌≡◌, ◌<◌, ◌≤◌, ◌+◌, ◌*◌, ℕ, List, [], ◌∷◌, ◌++◌, zero, suc, inl, inr, refl, sym, ap, subst, ◌∙◌, arith}
use Rattle.std.specs.Prelude.{◌⊎◌, length, replicate, take}
use Rattle.dxc_causes.specs.Causes.{Counted}
use Rattle.dxc_outside.specs.declared.clock.Moment.{Moment}
use Rattle.dxc_outside.specs.Items.{Item, byte, bytes, quiet}
use Rattle.dxc_outside.specs.Links.{LinkState}
use Rattle.dxc_model.specs.declared.user.SessionUser.{SessionUser}
use Rattle.shelf_file.specs.declared.idle.IdleLimits.{IdleLimits}
use Rattle.tl1_text.specs.Reading.{Reader}
use Rattle.user_admin.specs.Turns.{Saw as SawUsers}
use Rattle.xc_core.specs.Seeing.{Saw}
use Rattle.craft_session.specs.Asks.{Language}
use Rattle.craft_session.specs.Happenings.{Request}
use Rattle.craft_session.specs.Idling.{IsHeardBy, IsInTime, IsTooLong, WasAwake, WasIdle, WasSilent}
use Rattle.craft_session.specs.Seats.{SeatAt, UserSeatAt}
use Rattle.craft_session.specs.Sessions.{Beginning, IsAt, IsFrom, Now}
use Rattle.craft_session.specs.Waiting.{ForEach, Read}
use Rattle.craft_session.proofs.SessionSteps.{served_here}
use Rattle.craft_session.proofs.Waiting.{StandsAt}

-- one Quiet more after these
quiet_at_last : (many : ℕ) (items : List Item) → replicate many quiet ++ quiet ∷ items ≡ replicate (suc many) quiet ++ items
quiet_at_last zero items = refl
quiet_at_last (suc n) items = ap (λ (is : List Item). quiet ∷ is) (quiet_at_last n items)

one_quiet_more : (many : ℕ) (items : List Item) → replicate many quiet ++ quiet ∷ items ≡ replicate (many + 1) quiet ++ items
one_quiet_more many items = let same : suc many ≡ many + 1 = omega arith in quiet_at_last many items ∙ ap (λ (n : ℕ). replicate n quiet ++ items) same

-- a read that brought bytes found one
pub byte_came : (count : ℕ) (buffer : List ℕ) (rest left : List Item) → (1 ≤ count) × (count ≤ length buffer) → left ≡ bytes (take count buffer) ++ rest → (x : ℕ) × (more : List Item) × (left ≡ byte x ∷ more)
byte_came zero buffer rest left fits is = let some = fits.0 in absurd (omega (arith, some))
byte_came (suc n) [] rest left fits is = let few = fits.1 in absurd (omega (arith, few))
byte_came (suc n) (b ∷ bs) rest left fits is = (b, bytes (take n bs) ++ rest, is)

-- who was silent for too long made a read
pub some_silent : (limits : IdleLimits) (user : SessionUser) (made silent : ℕ) → IsTooLong limits user silent → silent ≤ made → 0 < made
some_silent limits user made silent long few = let more = long.2 in omega (arith, more, few)

module _ (limited : Type 0) (limits : IdleLimits) (l : Language Request Moment) (begun : LinkState → Type 0) (told clock_told : Type 0) (k : LinkState) (c : List Moment) (old : SeatAt) (users : UserSeatAt) where
  -- how a session stands that made so many reads, of which the last ones, so many, brought nothing
  pub record Idles (j : LinkState) (user : SessionUser) (made silent : ℕ) : Type 0 where
    pub few : silent ≤ made
    pub heard : IsHeardBy l begun told clock_told k c old users j silent
    pub nothing : (silent ≡ 0) ⊎ ForEach l begun told clock_told k c old users (WasSilent l begun told clock_told k c old users j user silent)
    pub awake : limited → WasAwake l begun told clock_told k c old users limits j

  pub idles_none : (user : SessionUser) → Idles k user 0 0
  idles_none user = record {
    few = omega arith;
    heard = inl (omega arith);
    nothing = inl refl;
    awake = λ limits. inl (omega arith);
  }

  module _ (j m : LinkState) (reads : ℕ) (d : List Moment) (now : Now) (r : Reader) (begun_j : begun j) (stands : StandsAt limited l begun told clock_told k c old users j d now r) (one : Counted j.reads reads 1) (same : m.reads ≡ reads) where
    abbrev read_here : (b : Beginning) → IsAt b old users → Saw b.opening old.seen b.before → SawUsers b.users users.seen b.users_before → IsFrom b old users → Read l begun told clock_told k c old users b j.reads
    read_here b at saw users_saw first = record { link = j; begun_at = begun_j; number_is = refl; clock = d; now = now; served = served_here _ _ _ _ _ _ _ _ _ _ (stands b at saw users_saw first) }

    heard_more : (silent many : ℕ) → silent < many → IsHeardBy l begun told clock_told k c old users j silent → IsHeardBy l begun told clock_told k c old users m many
    heard_more silent many less so_far = let up = one.no_more in elim so_far [
      | inl few ↦ inl (omega (arith, few, up, same, less))
      | inr heard ↦ inr (λ b at saw users_saw first. let h = heard b at saw users_saw first in record {
        number = h.number;
        since = let since = h.since in omega (arith, since, up, same, less);
        read = h.read;
        something = h.something;
      })
    ]

    -- a read, after which the session went on or ended
    pub awake_behind : (made silent : ℕ) → IsInTime limits now.attending.user silent → Idles j now.attending.user made silent → WasAwake l begun told clock_told k c old users limits m
    awake_behind made silent short i = inr (
      now.attending.user,
      (λ b at saw users_saw first. record {
        number = j.reads;
        since = let up = one.no_more in omega (arith, up, same);
        read = read_here b at saw users_saw first;
        logged_in = refl;
      }),
      (λ minutes is. let in_time = short minutes is in heard_more silent (300 * minutes + 1) (omega (arith, in_time)) i.heard),
    )

    -- a read that brought something and was answered
    pub idles_heard : (user : SessionUser) (made silent next : ℕ) → (told → (x : ℕ) × (rest : List Item) × (j.left ≡ byte x ∷ rest)) → next ≡ 0 → (limited → IsInTime limits now.attending.user silent) → Idles j now.attending.user made silent → Idles m user (made + 1) next
    idles_heard user made silent next some is short i = record {
      few = omega (arith, is);
      heard = inr (λ b at saw users_saw first. record {
        number = j.reads;
        since = let up = one.no_more in omega (arith, up, same);
        read = read_here b at saw users_saw first;
        something = some;
      });
      nothing = inl is;
      awake = λ limits. awake_behind made silent (short limits) i;
    }

    silent_more : (silent : ℕ) → (told → j.left ≡ quiet ∷ m.left) → ((silent ≡ 0) ⊎ ForEach l begun told clock_told k c old users (WasSilent l begun told clock_told k c old users j now.attending.user silent))
        → ForEach l begun told clock_told k c old users (WasSilent l begun told clock_told k c old users m now.attending.user (silent + 1))
    silent_more silent left (inl none) b at saw users_saw first = record {
      number = j.reads;
      since = λ below. let up = one.no_more in let reached = one.reached in omega (arith, up, reached, same, below, none);
      read = read_here b at saw users_saw first;
      logged_in = refl;
      nothing = λ t. left t ∙ ap (λ (n : ℕ). replicate (n + 1) quiet ++ m.left) (sym none);
    }
    silent_more silent left (inr so_far) b at saw users_saw first =
        let s = so_far b at saw users_saw first in
        record {
          number = s.number;
          since = λ below. let up = one.no_more in let reached = one.reached in let next : reads ≡ j.reads + 1 = omega (arith, up, reached, same, below) in let since = s.since (omega (arith, below, same, next)) in omega (arith, since, next, same);
          read = s.read;
          logged_in = s.logged_in;
          nothing = λ t. s.nothing t ∙ ap (λ (items : List Item). replicate silent quiet ++ items) (left t) ∙ one_quiet_more silent m.left;
        }

    -- a read that brought nothing, after which reports were written
    pub idles_silent : (user : SessionUser) (made silent next : ℕ) → user ≡ now.attending.user → (told → j.left ≡ quiet ∷ m.left) → next ≡ silent + 1 → (limited → IsInTime limits now.attending.user silent) → Idles j now.attending.user made silent → Idles m user (made + 1) next
    idles_silent user made silent next same_user left is short i = subst (λ (n : ℕ). Idles m user (made + 1) n) (sym is) (subst (λ (u : SessionUser). Idles m u (made + 1) (silent + 1)) (sym same_user) (record {
      few = let few = i.few in omega (arith, few);
      heard = heard_more silent (silent + 1) (omega arith) i.heard;
      nothing = inr (silent_more silent left i.nothing);
      awake = λ limits. awake_behind made silent (short limits) i;
    }))

  -- it was silent for too long
  pub idle_at : (j : LinkState) (user : SessionUser) (made silent : ℕ) → IsTooLong limits user silent → Idles j user made silent → WasIdle l begun told clock_told k c old users limits j
  idle_at j user made silent long i = record {
    user = user;
    many = silent;
    too_long = long;
    silent = elim i.nothing [
      | inl none ↦ let more = long.2 in absurd (omega (arith, more, none))
      | inr nothing ↦ nothing
    ];
  }

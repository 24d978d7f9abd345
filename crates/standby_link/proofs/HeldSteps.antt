-- Where a primary is Joined, and waits for nothing, its standby made a Sync.
use Rattle.std.specs.Prelude.{◌<◌}
use Rattle.std.proofs.Common.{◌≡◌, ℕ, zero, suc, ◌+◌, max, Bool, true, false, not, ◌&&◌, List, [], ◌∷◌, length, Option, Some, None, slice_get, if◌then◌else◌, nat_eq, nat_le, refl, ◌∙◌, ap, arith}
use Rattle.std.proofs.Math.Dec.{eqb-suc-zero}
use Rattle.std.proofs.lemmas.Bool.{leb-true}
use Rattle.standby_link.specs.Acts.{Act, write as put, sync, acted, pieces}
use Rattle.standby_link.specs.Laws.{AreShort, JoinedHaveCopies, named}
use Rattle.standby_link.specs.Mirrors.{Event, Pair, Primary, Standby, called, failed, failing, has_place, have, heard, is_awaited, is_next, item, joined, loss, makes, run, step, synced, syncing, taken, written}
use Rattle.standby_link.proofs.PairSteps.{Kept, kept_joined, kept_step}

-- a Sync was made where the primary is so
abbrev Holds : Primary → ℕ → Type 0
Holds p made = p.lost ≡ false → p.waits ≡ false → 0 < made

unless_by : (b : Bool) (p next : Primary) (made : ℕ) → Holds p made → Holds next made → Holds (if b then p else next) made
unless_by true p next made was is = was
unless_by false p next made was is = is

-- a sync waits where it was sent
waits_then : (lost : Bool) (made : ℕ) → lost ≡ false → not lost ≡ false → 0 < made
waits_then true made here idle = absurd (let no : true ≡ false = here in cc)
waits_then false made here idle = absurd (let no : true ≡ false = idle in cc)

-- a Sync that was made stays
makes_some : (s : Standby) (n : ℕ) (a : Act) → 0 < n → 0 < s.synced → 0 < (makes s n a).synced
makes_some s n (put at bs) some made = made
makes_some s n sync some made = some

considers_by : (b : Bool) (s : Standby) (n : ℕ) (a : Act) → 0 < n → 0 < s.synced → 0 < (if b then makes s n a else s).synced
considers_by true s n a some made = makes_some s n a some made
considers_by false s n a some made = made

heard_some : (s : Standby) (place : ℕ) (came : Option Act) → 0 < s.synced → 0 < (heard s (place + 1) came).synced
heard_some s place None made = made
heard_some s place (Some a) made = considers_by (is_next s (place + 1) && has_place s a) s (place + 1) a (omega arith) made

first_of : (a b : Bool) → (a && b) ≡ true → b ≡ true
first_of true b both = both
first_of false b both = absurd (let no : false ≡ true = both in cc)

-- a Have that is waited for is of a Sync that was made
takes_by : (b : Bool) (p : Primary) (number made : ℕ) → (b ≡ true → 0 < made) → Holds p made → Holds (if b then record p { greatest = max p.greatest number; waits = false; answered = length p.before } else record p { greatest = max p.greatest number }) made
takes_by true p number made awaited was = λ here idle. awaited refl
takes_by false p number made awaited was = was

module _ (first : ℕ) (some : 0 < first) (s : Pair) (kept : Kept first s) (was : Holds s.primary s.standby.synced) where
  taken_by : (place : ℕ) (came : Option ℕ) → slice_get s.standby.sent place ≡ came → Holds (taken s.primary came) s.standby.synced
  taken_by place None is = was
  taken_by place (Some number) is = takes_by (is_awaited s.primary number) s.primary number s.standby.synced
      (λ awaited.
      let all = leb-true (length s.primary.acts) number (first_of s.primary.waits (nat_le (length s.primary.acts) number) awaited) in
      omega (arith, some, kept.sends.joined, all, kept.haves place number is))
      was

  held_step : (e : Event) → Holds (step s e).primary (step s e).standby.synced
  held_step (written at bs) = unless_by s.primary.waits s.primary (called s.primary (acted s.primary.file (put at bs)) (pieces at bs)) s.standby.synced was was
  held_step synced = unless_by s.primary.waits s.primary (syncing s.primary) s.standby.synced was (λ here idle. waits_then s.primary.lost s.standby.synced here idle)
  held_step (failing file) = unless_by s.primary.waits s.primary (failed s.primary file) s.standby.synced was (λ here idle. absurd (let no : true ≡ false = here in cc))
  held_step (item place) = λ here idle. heard_some s.standby place (slice_get s.primary.acts place) (was here idle)
  held_step (have place) = taken_by place (slice_get s.standby.sent place) refl
  held_step loss = λ here idle. absurd (let no : true ≡ false = here in cc)

held_run : (first : ℕ) → 0 < first → (es : List Event) (s : Pair) → AreShort es → Kept first s → Holds s.primary s.standby.synced → Holds (run s es).primary (run s es).standby.synced
held_run first some [] s short kept was = was
held_run first some (e ∷ es) s short kept was = held_run first some es (step s e) short.1 (kept_step first s kept e short.0) (held_step first some s kept was e)

named_by : (s : Standby) (made : ℕ) → s.synced ≡ made → 0 < made → named s ≡ Some s.file
named_by s zero is some = absurd (omega (arith, some))
named_by s (suc n) is some = ap (λ (m : ℕ). if nat_eq m 0 then None else Some s.file) is ∙ ap (λ (b : Bool). if b then None else Some s.file) (eqb-suc-zero n)

pub joined_have : JoinedHaveCopies
joined_have file events short here idle =
    let end = run (joined file) events in
    named_by end.standby end.standby.synced refl (held_run (length (pieces 0 file) + 1) (omega arith) events (joined file) short (kept_joined file) (λ here idle. absurd (let no : true ≡ false = idle in cc)) here idle)

-- The moment of the last answered sync never falls.
use Rattle.std.proofs.Common.{ℕ, ◌≤◌, max, Bool, true, false, not, List, [], ◌∷◌, ◌++◌, length, Option, Some, None, slice_get, if◌then◌else◌, arith, length-append}
use Rattle.standby_link.specs.Acts.{Act, write, sync, acted, pieces}
use Rattle.standby_link.specs.Laws.{AnsweredNeverFalls}
use Rattle.standby_link.specs.Mirrors.{Event, Pair, Primary, called, failing, failed, have, is_awaited, item, joined, loss, run, sends, step, synced, syncing, taken, written}

-- it is one of the moments that came, and none before the one that it was
record Rises (p q : Primary) : Type 0 where
  low : q.answered ≤ length q.before
  rises : p.answered ≤ q.answered

stays : (p : Primary) → p.answered ≤ length p.before → Rises p p
stays p low = record { low = low; rises = omega arith }

takes_by : (b : Bool) (p : Primary) (n : ℕ) → p.answered ≤ length p.before → Rises p (if b then record p { greatest = max p.greatest n; waits = false; answered = length p.before } else record p { greatest = max p.greatest n })
takes_by true p n low = record { low = omega arith; rises = low }
takes_by false p n low = record { low = low; rises = omega arith }

taken_rises : (p : Primary) (came : Option ℕ) → p.answered ≤ length p.before → Rises p (taken p came)
taken_rises p None low = stays p low
taken_rises p (Some n) low = takes_by (is_awaited p n) p n low

called_rises : (p : Primary) (file : List ℕ) (acts : List Act) (waits lost : Bool) → p.answered ≤ length p.before → Rises p (record p { file = file; before = p.before ++ p.file ∷ []; acts = acts; waits = waits; lost = lost })
called_rises p file acts waits lost low = record { low = omega (arith, low, length-append p.before (p.file ∷ [])); rises = omega arith }

unless_by : (b : Bool) (p next : Primary) → p.answered ≤ length p.before → Rises p next → Rises p (if b then p else next)
unless_by true p next low rises = stays p low
unless_by false p next low rises = rises

step_rises : (s : Pair) (e : Event) → s.primary.answered ≤ length s.primary.before → Rises s.primary (step s e).primary
step_rises s (written at bs) low =
    let p = s.primary in
    let file = acted p.file (write at bs) in
    unless_by p.waits p (called p file (pieces at bs)) low (called_rises p file (sends p.lost p.acts (pieces at bs)) p.waits p.lost low)
step_rises s synced low = let p = s.primary in unless_by p.waits p (syncing p) low (called_rises p p.file (sends p.lost p.acts (sync ∷ [])) (not p.lost) p.lost low)
step_rises s (failing file) low = let p = s.primary in unless_by p.waits p (failed p file) low (called_rises p file (sends p.lost p.acts []) p.waits true low)
step_rises s (item place) low = stays s.primary low
step_rises s (have place) low = taken_rises s.primary (slice_get s.standby.sent place) low
step_rises s loss low = record { low = low; rises = omega arith }

run_rises : (s : Pair) (es : List Event) → s.primary.answered ≤ length s.primary.before → Rises s.primary (run s es).primary
run_rises s [] low = stays s.primary low
run_rises s (e ∷ es) low =
    let one = step_rises s e low in
    let rest = run_rises (step s e) es one.low in
    record { low = rest.low; rises = omega (arith, one.rises, rest.rises) }

pub answered_stays : AnsweredNeverFalls
answered_stays file events more = (run_rises (run (joined file) events) more (run_rises (joined file) events (let first : 0 ≤ length {A = List ℕ} [] = omega arith in first)).low).rises

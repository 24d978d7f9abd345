-- What a place knows of the history of its turnstile and what a turn of it adds, for any state and any entries, by what it is to have seen a history.
use Rattle.std.specs.Prelude.{◌≡◌, ◌≢◌, ◌<◌, ℕ, true, List, [], ◌∷◌, ◌++◌, length}
use base.Stored.{Gv}
use Rattle.turnstile.specs.Passing.{GoesOn, TurnstileView, Token}
use Rattle.turnstile.specs.Turning.{Each}

module _ {E : Type 0} (codes : List E → List Gv) (place : E → ℕ) where
  -- each entry that was seen carries the number of one of so many passes
  abbrev pub AreNumberedBy : ℕ → List Gv → Type 0
  AreNumberedBy passes seen = (h : List E) → seen ≡ codes h → Each (λ e. place e < passes) h

  -- the pass is one of the turnstile's, no turn of it is out, and what it has seen are entries of the turnstile's passes, each with a stamp
  abbrev pub HasPassBy : {X : Type 0} → TurnstileView X → Token → Type 0
  HasPassBy t p = (p.free ≡ true) × (p.id ≡ t.id) × (p.number < t.passes) × AreNumberedBy t.passes p.seen × (length p.stamps ≡ length p.seen)

  -- after turns of it the pass is so, and it is the same pass at a later time, which has seen what it had seen, and maybe more
  pub record KeepsPassBy {X : Type 0} (t : TurnstileView X) (old new : Token) : Type 0 where
    pub has : HasPassBy t new
    pub goes : GoesOn old new
    pub sees : (more : List Gv) × (new.seen ≡ old.seen ++ more)

module _ {O E : Type 0} (Saw : O → List Gv → List E → Type 0) (place : E → ℕ) where
  -- after the history stand others' entries, and then this one
  pub record TurnedBy (o : O) (own : ℕ) (h : List E) (e : E) (then_seen : List Gv) : Type 0 where
    pub later : List E
    pub others : Each (λ x. place x ≢ own) later
    pub saw : Saw o then_seen ((h ++ later) ++ e ∷ [])

  -- after it stand others' entries alone
  pub record TurnedBackBy (o : O) (own : ℕ) (h : List E) (then_seen : List Gv) : Type 0 where
    pub later : List E
    pub others : Each (λ x. place x ≢ own) later
    pub saw : Saw o then_seen (h ++ later)

-- where a history began, and whose pass it is
pub record ViewOf (O : Type 0) : Type 0 where
  pub opening : O
  pub own : ℕ

module _ {X O E : Type 0} (opening : X → O) (Saw : O → List Gv → List E → Type 0) where
  abbrev pub view_of : TurnstileView X → Token → ViewOf O
  view_of t p = record { opening = opening t.first; own = p.number }

  -- what the pass has seen is a history
  abbrev pub HasSeenBy : TurnstileView X → Token → Type 0
  HasSeenBy t p = (h : List E) × Saw (opening t.first) p.seen h

  -- after a history that was seen this holds
  abbrev pub UponBy : TurnstileView X → Token → (ViewOf O → List E → Type 0) → Type 0
  UponBy t p P = (h : List E) × Saw (opening t.first) p.seen h × P (view_of t p) h

  -- after each history that was seen this holds
  abbrev pub AfterBy : TurnstileView X → Token → (ViewOf O → List E → Type 0) → Type 0
  AfterBy t p P = (h : List E) → Saw (opening t.first) p.seen h → P (view_of t p) h

-- What a turnstile's state stands for at which its passes rest.
use Rattle.std.proofs.Common.{◌≡◌, ◌≢◌, ◌<◌, ◌+◌, ℕ, zero, suc, arith, true, List, [], ◌∷◌, length, Option, Some, None, refl, sym, ◌∙◌, ap, subst}
use Rattle.std.specs.List.{slice_get}
use mathlib.Core.Option.{some, some-injective}
use lib.ListN.{get_elem?}
use base.Stored.{Gv}
use Rattle.atomic_table.specs.Table.{State}
use Rattle.fabric_core.proofs.Noting.{at_below}
use Rattle.turnstile.specs.declared.board.Stage.{Stage}
use Rattle.turnstile.specs.declared.board.Stage.TheVariants.{Deals, Idle, Drawn, Inside}
use Rattle.turnstile.specs.declared.board.View.{View}
use Rattle.turnstile.specs.declared.board.Held.{Held}
use Rattle.turnstile.specs.declared.board.Opened.{Opened}
use Rattle.turnstile.specs.Laws.{HasSeen, IsOne}
use Rattle.turnstile.specs.Passing.{Ident, Token}
use Rattle.turnstile.specs.Shown.{newest_of, token}
use Rattle.turnstile.specs.Turning.{Each, Sits}
use Rattle.turnstile.proofs.OneHistory.{one_history}
use Rattle.craft_session.specs.Places.{IsMadeFor}
use Rattle.serve_laws.specs.Passes.{ArePassesIn, IsPassIn, IsRestOf, Seen}

-- what a list has at a number below its length
pub get_below : {A : Type 0} (xs : List A) (k : ℕ) → k < length xs → (x : A) × (slice_get xs k ≡ Some x)
get_below [] k lt = absurd (omega (arith, lt))
get_below (x ∷ xs) zero lt = (x, refl)
get_below (x ∷ xs) (suc k) lt = get_below xs k (omega (arith, lt))

pass_from : {H : Type 0} (z : State H View) (id : Ident) (n : ℕ) (ss : List Seen) (k : ℕ) (s : Seen) → ArePassesIn z id n ss → slice_get ss k ≡ Some s → IsPassIn z id (n + k) s
pass_from z id n [] k s all e = let no : None ≡ Some s = e in cc
pass_from z id n (x ∷ xs) zero s all e =
    let there : Some x ≡ Some s = e in
    let same : x ≡ s = cc in
    subst (λ (y : Seen). IsPassIn z id (n + 0) y) same (subst (λ (m : ℕ). IsPassIn z id m x) (omega arith) all.0)
pass_from z id n (x ∷ xs) (suc k) s all e = subst (λ (m : ℕ). IsPassIn z id m s) (omega arith) (pass_from z id (n + 1) xs k s all.1 e)

-- the seat of a pass that has the turn
seat_inside : (st : Stage) (number dealt j : ℕ) → st ≡ Inside → Sits st number dealt j → number + 1 ≡ j
seat_inside Deals number dealt j is x = let no : Deals ≡ Inside = is in cc
seat_inside Idle number dealt j is x = x
seat_inside Drawn number dealt j is x = x
seat_inside Inside number dealt j is x = x

module _ {X E O : Type 0} (mark : O → Gv) (code : E → Gv) (opening : X → O) (number : E → ℕ) (stands : X → List E → Type 0) (id : Ident) (seen : List Seen) (key : Opened X) (z : State (Option (Held X E)) View) (r : IsRestOf mark code opening number stands id seen key z) where
  one : IsOne mark code opening number stands key z
  one = one_history mark code opening number stands key z r.kept

  pub history : List E
  history = one.history

  pass : (k : ℕ) (s : Seen) → slice_get seen k ≡ Some s → IsPassIn z id k s
  pass k s e = subst (λ (m : ℕ). IsPassIn z id m s) (omega arith) (pass_from z id 0 seen k s r.passes e)

  -- what a place has seen is a beginning of the history, and what follows is by others
  pub seen_at : (k : ℕ) (s : Seen) → slice_get seen k ≡ Some s → HasSeen code number history k s.codes
  unfolding history
  seen_at k s e =
      let p = pass k s e in
      let own : p.view.number ≡ k = p.rests.1 in
      let saw : p.view.seen ≡ s.codes = ap (λ (t : Token). t.seen) p.is in
      subst (λ (y : ℕ × List Gv). HasSeen code number one.history y.0 y.1) (λ i. (own i, saw i)) (one.seen (k + 1) p.view p.there)

  -- the same history, as the turnstile's law tells it
  pub has_one : (x : IsOne mark code opening number stands key z) × (x.history ≡ history)
  unfolding history
  has_one = (one, refl)

  -- a place's pass is there, and knows what it has seen
  pub view_at : (k : ℕ) (s : Seen) → slice_get seen k ≡ Some s → (v : View) × (get_elem? z.views (k + 1) ≡ some v) × (v.seen ≡ s.codes) × (v.stamps ≡ s.stamps)
  view_at k s e = let p = pass k s e in (p.view, p.there, ap (λ (t : Token). t.seen) p.is, ap (λ (t : Token). t.stamps) p.is)

  -- where the turnstile was made with a state of this opening, for as many passes as rest
  module _ (inj : (x y : O) → mark x ≡ mark y → x ≡ y) (o : O) (n : ℕ) (made : IsMadeFor (mark o) n id) (many : length seen ≡ n) (pos : 0 < n) where
    -- a pass of it tells how it was made
    told_by : (v : View) (own : ℕ) (s : Seen) (other : List View) → token own id.table (v ∷ []) other ≡ record { number = own; free = true; id = id; seen = s.codes; stamps = s.stamps; heard = newest_of other } → (v.first ≡ mark (opening key.first.value)) × (v.passes ≡ key.passes) → (mark (opening key.first.value) ≡ mark o) × (key.passes ≡ n)
    told_by v own s other is same = (sym same.0 ∙ ap (λ (t : Token). t.id.first) is ∙ made.0, sym same.1 ∙ ap (λ (t : Token). t.id.passes) is ∙ made.1)

    key_is : (mark (opening key.first.value) ≡ mark o) × (key.passes ≡ n)
    key_is =
        let s = get_below seen 0 (omega (arith, many, pos)) in
        let p = pass 0 s.0 s.1 in
        told_by p.view 0 s.0 p.other p.is (r.kept.each 1 p.view p.there).same

    pub count : key.passes ≡ n
    count = key_is.1

    pub numbers : Each (λ e. number e < n) history
    unfolding history
    numbers = subst (λ (m : ℕ). Each (λ e. number e < m) one.history) key_is.1 one.numbers

    -- no pass has the turn
    all_rest : (j : ℕ) (v : View) → get_elem? z.views j ≡ some v → v.stage ≢ Inside
    all_rest j v at = λ inside.
        let here : v.number + 1 ≡ j = seat_inside v.stage v.number r.kept.dealt j inside (r.kept.each j v at).sits in
        let below : j < length z.views = at_below z.views v j at in
        let seats = r.kept.seats in
        let few = r.kept.few.0 in
        let count = key_is.1 in
        let low : v.number < length seen = omega (arith, here, below, seats, few, count, many) in
        let s = get_below seen v.number low in
        let p = pass v.number s.0 s.1 in
        let same : p.view ≡ v = some-injective p.view v (sym p.there ∙ ap (get_elem? z.views) here ∙ at) in
        let no : Idle ≡ Inside = sym p.rests.0 ∙ ap (λ (x : View). x.stage) same ∙ inside in
        cc

    -- the state that lies there stands for it
    pub lying : Held X E
    lying = (one.home all_rest).0

    pub at_home : z.homes ≡ some (Some lying) ∷ []
    unfolding lying
    at_home = (one.home all_rest).1

    -- the turnstile was made with a state of this opening
    pub begun : opening key.first.value ≡ o
    begun = inj (opening key.first.value) o key_is.0

    pub opening_is : opening lying.state ≡ o
    unfolding lying
    opening_is = (one.home all_rest).2 ∙ begun

    pub stand : stands lying.state history
    unfolding lying history
    stand = (one.home all_rest).3

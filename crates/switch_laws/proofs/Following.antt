-- What the plain element comes to behind an entry of the history.
use Rattle.std.specs.Prelude.{option_to_list}
use Rattle.std.specs.List.{AllByRecursion}
use Rattle.std.proofs.Common.{◌≡◌, ◌⊎◌, ℕ, ◌<◌, List, [], ◌∷◌, ◌++◌, Option, None, refl, sym, ◌∙◌, ap, subst, append-nil, inl, inr}
use Rattle.dxc_model.specs.declared.op.Op.{Op}
use Rattle.dxc_model.specs.declared.op.Change.{Change}
use Rattle.dxc_model.specs.declared.entry.Outcome.{Outcome}
use Rattle.dxc_model.specs.declared.entry.Outcome.TheVariants.{Done, Denied, Failed, Answered, Restarted, Cut, Taken}
use Rattle.dxc_model.specs.declared.entry.Entry.{Entry}
use Rattle.dxc_model.specs.Steps.{made, with_change}
use Rattle.dxc_model.specs.Histories.{IsLegal, Rules, changes_of, table_after}
use Rattle.dxc_model.proofs.Growth.{changes_append, legal_so_far, table_more}
use Rattle.craft_session.specs.declared.ask.Ask.{Ask}
use Rattle.craft_session.specs.declared.ask.Ask.TheVariants.{Refused, LogsIn, LogsOut, Completes, Allows, Inhibits, Lists, Shows, Restarts, Changes}
use Rattle.craft_session.specs.Asks.{Language}
use Rattle.craft_session.specs.Plain.{Excuse}
use Rattle.craft_session.specs.Walks.{CutsAt, FrontOf, Mends}
use Rattle.craft_session.proofs.Changing.{unused_mends}
use Rattle.craft_session.proofs.Playing.{each_front}
use Rattle.switch_laws.specs.Element.{Element, IsPlayed, MayCut, Session, Standing, Turn, ready}
use Rattle.switch_laws.specs.Laws.{IsExcused, doubted_by_entry, doubted_in, standing_by_entry, standing_in, element}
use Rattle.switch_laws.specs.Placed.{placed}
use Rattle.switch_laws.proofs.Doubting.{doubted_more}
use Rattle.switch_laws.proofs.Placing.{placed_again}
use Rattle.switch_laws.proofs.Standings.{is_due, not_stopped, standing_more}

-- an entry of a turn that ended with the work under way
abbrev pub IsTaken : Entry → Type 0
IsTaken e = e.outcome ≡ Taken

taken_or : (o : Outcome) → (o ≡ Taken) ⊎ (o ≡ Taken → ⊥)
taken_or (Done c) = inr (λ e. cc)
taken_or (Denied q) = inr (λ e. cc)
taken_or (Failed q) = inr (λ e. cc)
taken_or Answered = inr (λ e. cc)
taken_or (Restarted c) = inr (λ e. cc)
taken_or Cut = inr (λ e. cc)
taken_or Taken = inl refl

pub taken_too : (e : Entry) → IsTaken e ⊎ (IsTaken e → ⊥)
taken_too e = taken_or e.outcome

module _ {U M : Type 0} (l : Language U M) (r : Rules) (excused : Excuse) (past : List Entry) (n : ℕ) where
  abbrev Desk : Type 0
  Desk = List (Session U M)

  abbrev none_yet : Desk
  none_yet = []

  abbrev pub start : Element U M
  start = element r.table past (λ p. none_yet)

  abbrev pub Good : List Entry → Type 0
  Good h = IsLegal r h × AllByRecursion (IsExcused excused) h × AllByRecursion (λ e. e.place < n) h

  abbrev pub At : List (Turn U M) → Element U M → Type 0
  At = IsPlayed l r.limit excused start

  changes_more : (h : List Entry) (e : Entry) → changes_of (h ++ e ∷ []) ≡ changes_of h ++ option_to_list (made e.outcome)
  changes_more h e = changes_append h (e ∷ []) ∙ ap (λ (cs : List Change). changes_of h ++ cs) (append-nil (option_to_list (made e.outcome)))

  -- where the element stands after an entry
  pub lands : (ts : List (Turn U M)) (h : List Entry) (e : Entry) (p : ℕ) (x y : Desk) (f : ℕ → Desk) (did : Option Change) (ops : List Op) (st : Standing) → did ≡ made e.outcome → ops ≡ doubted_by_entry (doubted_in [] h) e.op e.outcome
      → st ≡ standing_by_entry (standing_in ready h) e.op e.outcome
      → At ts (record { table = with_change (table_after r.table h) did; changes = changes_of h ++ option_to_list did; doubted = ops; standing = st; sessions = placed p x (placed p y f) })
      → At ts (element r.table (h ++ e ∷ []) (placed p x f))
  lands ts h e p x y f did ops st did_is ops_is st_is played =
      let table : with_change (table_after r.table h) did ≡ table_after r.table (h ++ e ∷ []) = ap (with_change (table_after r.table h)) did_is ∙ sym (table_more r.table h e) in
      let changes : changes_of h ++ option_to_list did ≡ changes_of (h ++ e ∷ []) = ap (λ (o : Option Change). changes_of h ++ option_to_list o) did_is ∙ sym (changes_more h e) in
      let doubted : ops ≡ doubted_in [] (h ++ e ∷ []) = ops_is ∙ sym (doubted_more [] h e) in
      let standing : st ≡ standing_in ready (h ++ e ∷ []) = st_is ∙ sym (standing_more ready h e) in
      subst (λ (k : Element U M). At ts k) (λ i. record { table = table i; changes = changes i; doubted = doubted i; standing = standing i; sessions = placed_again p x y f i }) played

  -- and where there was none
  pub lands_there : (ts : List (Turn U M)) (h : List Entry) (p : ℕ) (x y : Desk) (f : ℕ → Desk) (ops : List Op) (st : Standing) → ops ≡ doubted_in [] h → st ≡ standing_in ready h
      → At ts (record { table = table_after r.table h; changes = changes_of h ++ []; doubted = ops; standing = st; sessions = placed p x (placed p y f) }) → At ts (element r.table h (placed p x f))
  lands_there ts h p x y f ops st ops_is st_is played =
      subst (λ (k : Element U M). At ts k) (λ i. record { table = table_after r.table h; changes = append-nil (changes_of h) i; doubted = ops_is i; standing = st_is i; sessions = placed_again p x y f i }) played

  pub lands_still : (ts : List (Turn U M)) (h : List Entry) (p : ℕ) (x z y : Desk) (f : ℕ → Desk) → x ≡ z → At ts (element r.table h (placed p x (placed p y f))) → At ts (element r.table h (placed p z f))
  lands_still ts h p x z y f is played =
      subst (λ (k : Element U M). At ts k) (λ i. record { table = table_after r.table h; changes = changes_of h; doubted = doubted_in [] h; standing = standing_in ready h; sessions = (placed_again p x y f ∙ ap (λ (d : Desk). placed p d f) is) i }) played

  -- behind one of a turn that only took the Provisioner it stands as before
  pub lands_idle : (ts : List (Turn U M)) (h : List Entry) (e : Entry) (f : ℕ → Desk) → IsTaken e → At ts (element r.table h f) → At ts (element r.table (h ++ e ∷ []) f)
  lands_idle ts h e f is x =
      let made_none : made e.outcome ≡ None = ap made is in
      let table : table_after r.table h ≡ table_after r.table (h ++ e ∷ []) = sym (table_more r.table h e ∙ ap (with_change (table_after r.table h)) made_none) in
      let changes : changes_of h ≡ changes_of (h ++ e ∷ []) = sym (changes_more h e ∙ ap (λ (o : Option Change). changes_of h ++ option_to_list o) made_none ∙ append-nil (changes_of h)) in
      let doubted : doubted_in [] h ≡ doubted_in [] (h ++ e ∷ []) = sym (doubted_more [] h e ∙ ap (doubted_by_entry (doubted_in [] h) e.op) is) in
      let standing : standing_in ready h ≡ standing_in ready (h ++ e ∷ []) = sym (standing_more ready h e ∙ ap (standing_by_entry (standing_in ready h) e.op) is) in
      subst (λ (k : Element U M). At ts k) (λ i. record { table = table i; changes = changes i; doubted = doubted i; standing = standing i; sessions = f }) x

  module _ (p : ℕ) where
    -- what stands in front of a cut
    pub in_front : (h : List Entry) (k : Ask) (front : List Entry) → FrontOf p h k front → Mends p h front
    in_front h (Refused q) front x = absurd x
    in_front h (LogsIn u) front x = absurd x
    in_front h LogsOut front x = absurd x
    in_front h Completes front x = absurd x
    in_front h Allows front x = absurd x
    in_front h Inhibits front x = absurd x
    in_front h (Lists which) front x = absurd x
    in_front h (Shows what) front x = absurd x
    in_front h Restarts front x = unused_mends p h front x
    in_front h (Changes op) front x = x

    pub may_cut : (h : List Entry) (k : Ask) (op : Op) → CutsAt h k op → MayCut (standing_in ready h) k op
    may_cut h (Refused q) op x = absurd x
    may_cut h (LogsIn u) op x = absurd x
    may_cut h LogsOut op x = absurd x
    may_cut h Completes op x = absurd x
    may_cut h Allows op x = absurd x
    may_cut h Inhibits op x = absurd x
    may_cut h (Lists which) op x = absurd x
    may_cut h (Shows what) op x = absurd x
    may_cut h Restarts op x = x
    may_cut h (Changes asked) op x = elim x [ inl y ↦ inl (y.0, not_stopped h y.1) | inr y ↦ inr (y.0, is_due h y.1) ]

  pub shorter : (h : List Entry) (e : Entry) → Good (h ++ e ∷ []) → Good h
  shorter h e g = (legal_so_far r h (e ∷ []) g.0, each_front (IsExcused excused) h (e ∷ []) g.1, each_front (λ (x : Entry). x.place < n) h (e ∷ []) g.2)

  pub last_within : (h : List Entry) (e : Entry) → AllByRecursion (λ x. x.place < n) (h ++ e ∷ []) → e.place < n
  last_within [] e a = a.0
  last_within (x ∷ xs) e a = last_within xs e a.1

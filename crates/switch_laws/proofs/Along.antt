-- What the places did along both histories, in any one order of these, on the plain element and the list of users beside it.
use Rattle.std.specs.Prelude.{option_to_list}
use Rattle.std.specs.List.{AllByRecursion}
use Rattle.std.proofs.Common.{◌≡◌, ◌≢◌, ◌⊎◌, ℕ, ◌+◌, ◌<◌, ◌≤◌, ◌&&◌, arith, Bool, true, false, cond, not, length, length-append, filter, List, [], ◌∷◌, ◌++◌, Option, Some, None, refl, sym, ◌∙◌, ap, subst, append_assoc, append-nil, inl, inr}
use Rattle.std.proofs.lemmas.Bool.Decides.{eqb_tells}
use Rattle.std.proofs.lemmas.List.Elements.{filter-append}
use Rattle.dxc_model.specs.declared.op.Op.{Op}
use Rattle.dxc_model.specs.declared.op.Op.TheVariants.{Look}
use Rattle.dxc_model.specs.declared.op.Change.{Change}
use Rattle.dxc_model.specs.declared.entry.Outcome.{Outcome}
use Rattle.dxc_model.specs.declared.entry.Outcome.TheVariants.{Done, Denied, Failed, Answered, Restarted, Cut, Taken}
use Rattle.dxc_model.specs.declared.entry.Entry.{Entry}
use Rattle.dxc_model.specs.Steps.{made, with_change}
use Rattle.dxc_model.specs.Histories.{Rules, changes_of, table_after}
use Rattle.dxc_model.proofs.Growth.{changes_append, table_more}
use Rattle.user_admin.specs.declared.op.UserEntry.{UserEntry}
use Rattle.tl1_users.specs.declared.op.UserOp.{UserOp}
use Rattle.user_admin.specs.declared.op.UserOutcome.{UserOutcome}
use Rattle.user_admin.specs.declared.op.UserOutcome.TheVariants.{Answered as Told}
use Rattle.user_admin.specs.Histories.{MayCome, Opening as UsersOpening, users_after}
use Rattle.user_admin.specs.Occupants.{login_op}
use Rattle.user_admin.specs.States.{entry as user_entry}
use Rattle.user_admin.specs.Users.{Users}
use Rattle.user_admin.specs.Verdicts.{IsChanging, login}
use Rattle.user_admin.proofs.Standing.{users_more}
use Rattle.xc_core.specs.Seeing.{entry}
use Rattle.craft_session.specs.declared.ask.Ask.{Ask}
use Rattle.craft_session.specs.declared.ask.Ask.TheVariants.{Refused, LogsIn, LogsOut, Completes, Allows, Inhibits, Lists, Shows, Restarts, Changes}
use Rattle.craft_session.specs.declared.attending.Attending.{Attending}
use Rattle.craft_session.specs.Asks.{Language, Reply}
use Rattle.craft_session.specs.Doing.{AnyEntry, at_table, at_users, is_taking, is_used, of_table, of_users, used_of}
use Rattle.craft_session.specs.Hearing.{Heard, Hears, Wanted, nothing, to_do, to_look, unasked}
use Rattle.craft_session.specs.Notices.{AreReported, notices}
use Rattle.craft_session.specs.Plain.{Excuse, Said}
use Rattle.craft_session.specs.PlainUsers.{HearsOf, IsExcusedBy}
use Rattle.craft_session.specs.Walks.{CutsAt, FrontOf, IsMend, IsUnused, Mends, Serves, attending_after}
use Rattle.craft_session.proofs.Playing.{fits_last}
use Rattle.switch_laws.specs.Element.{Element, Session, Standing, Turn, answered, answers, comes, fresh, halted, mends, opens, ready, reported, reports, rested, rests, stops, stops_at_users, unanswered, call, answer, rest as rest_turn, look as look_turn, mend as mend_turn, stop as stop_turn, stop_at_users as users_turn}
use Rattle.switch_laws.specs.Laws.{doubted_by_entry, doubted_in, standing_by_entry, standing_in, element}
use Rattle.switch_laws.specs.Orders.{ActsAlong, ArePlayedAlong, ArePlayedInOrder, IsOrderOf, acts_at_table, acts_at_users, caller_acts, looks_on, nobody_acts, nothing_came, stopped_before_users, stopped_short, table_goes_on, users_go_on}
use Rattle.switch_laws.specs.Moments.{AreBegun, IsBegun}
use Rattle.switch_laws.specs.Placed.{placed}
use Rattle.switch_laws.proofs.Doubting.{doubted_more}
use Rattle.switch_laws.proofs.Following.{Good as GoodTable, in_front, last_within, may_cut, shorter as table_shorter, taken_too}
use Rattle.switch_laws.proofs.Listening.{Good as GoodUsers, last_came, last_within as last_user, shorter as users_shorter}
use Rattle.switch_laws.proofs.Merging.{merged, snoc_once}
use Rattle.switch_laws.proofs.Ordering.{Anywhere, ended, HearsAt, Laid, Script, TakesAt, does_free, hears, laid, nothing_done, table_append, table_passes, takes, users_append, users_pass}
use Rattle.switch_laws.proofs.Passing.{all_stay, answered_on, begun_on, goes_further, newest_went_on, one_came, reported_on, rested_on, stays, step_begun, unanswered_on}
use Rattle.switch_laws.proofs.Placing.{placed_again, placed_here}
use Rattle.switch_laws.proofs.Replying.{Free, Takes, recalled, uses}
use Rattle.switch_laws.proofs.Standings.{is_due, standing_more}

-- what a place uses
taking_is : (o : Outcome) → ((is_taking o ≡ true) × (o ≡ Taken)) ⊎ ((is_taking o ≡ false) × (o ≡ Taken → ⊥))
taking_is (Done c) = inr (refl, λ e. cc)
taking_is (Denied q) = inr (refl, λ e. cc)
taking_is (Failed q) = inr (refl, λ e. cc)
taking_is Answered = inr (refl, λ e. cc)
taking_is (Restarted c) = inr (refl, λ e. cc)
taking_is Cut = inr (refl, λ e. cc)
taking_is Taken = inl (refl, refl)

abbrev pub Idles : AnyEntry → Type 0
Idles (inl e) = e.outcome ≡ Taken
Idles (inr e) = ⊥

idles_or : (x : AnyEntry) → Idles x ⊎ (Idles x → ⊥)
idles_or (inl e) = taken_too e
idles_or (inr e) = inr (λ none. none)

abbrev place_in : AnyEntry → ℕ
place_in (inl e) = e.place
place_in (inr e) = e.place

used_tells : (p : ℕ) (x : AnyEntry) → ((is_used p x ≡ true) × (Idles x → ⊥) × (place_in x ≡ p)) ⊎ ((is_used p x ≡ false) × ((place_in x ≢ p) ⊎ Idles x))
used_tells p (inl e) = elim (eqb_tells e.place p) [
  | inl here ↦ elim (taking_is e.outcome) [
    | inl is ↦ inr ((λ i. here.0 i && not (is.0 i)), inr is.1)
    | inr none ↦ inl ((λ i. here.0 i && not (none.0 i)), none.1, here.1)
  ]
  | inr off ↦ inr (ap (λ (b : Bool). b && not (is_taking e.outcome)) off.0, inl off.1)
]
used_tells p (inr e) = elim (eqb_tells e.place p) [
  | inl here ↦ inl (here.0, (λ none. none), here.1)
  | inr off ↦ inr (off.0, inl off.1)
]

pub own_used : (p : ℕ) (x : AnyEntry) → place_in x ≡ p → (Idles x → ⊥) → is_used p x ≡ true
own_used p x here does = elim (used_tells p x) [ inl own ↦ own.0 | inr other ↦ elim other.1 [ inl off ↦ absurd (off here) | inr idle ↦ absurd (does idle) ] ]

pub not_used : (p : ℕ) (x : AnyEntry) → (place_in x ≢ p) ⊎ Idles x → is_used p x ≡ false
not_used p x (inl off) = elim (used_tells p x) [ inl own ↦ absurd (off own.2) | inr other ↦ other.0 ]
not_used p x (inr idle) = elim (used_tells p x) [ inl own ↦ absurd (own.1 idle) | inr other ↦ other.0 ]

one_used : (p : ℕ) (x : AnyEntry) (w : List AnyEntry) → is_used p x ≡ true → w ++ x ∷ [] ≡ w ++ filter (is_used p) (x ∷ [])
one_used p x w is = ap (λ (b : Bool). w ++ cond b (x ∷ []) []) (sym is)

none_used : (p : ℕ) (x : AnyEntry) (w : List AnyEntry) → is_used p x ≡ false → w ≡ w ++ filter (is_used p) (x ∷ [])
none_used p x w is = sym (append-nil w) ∙ ap (λ (b : Bool). w ++ cond b (x ∷ []) []) (sym is)

pub of_table_append : (es fs : List Entry) → of_table (es ++ fs) ≡ of_table es ++ of_table fs
of_table_append [] fs = refl
of_table_append (e ∷ es) fs = ap (λ (l : List AnyEntry). let x : AnyEntry = inl e in x ∷ l) (of_table_append es fs)

used_behind : (p : ℕ) (w : List AnyEntry) (es fs : List Entry) → (w ++ used_of p es) ++ used_of p fs ≡ w ++ used_of p (es ++ fs)
used_behind p w es fs = append_assoc w (used_of p es) (used_of p fs) ∙ ap (λ (l : List AnyEntry). w ++ l) (sym (filter-append (is_used p) (of_table es) (of_table fs)) ∙ ap (filter (is_used p)) (sym (of_table_append es fs)))

-- what takes no entry may be asked after any history
module _ (r : Rules) (p : ℕ) (excused : Excuse) where
  no_one : {X : Type 0} (x : X) → [] ≡ x ∷ [] → ⊥
  no_one x is = let k = ap length is in omega (arith, k)

  serves_there : (h g : List Entry) (k : Ask) (reply : Reply) → Serves p r.table h k [] reply → Serves p r.table g k [] reply
  serves_there h g (Refused q) reply x = x
  serves_there h g (LogsIn u) reply x = x
  serves_there h g LogsOut reply x = x
  serves_there h g Completes reply x = x
  serves_there h g Allows reply x = absurd (no_one _ x.0)
  serves_there h g Inhibits reply x = x
  serves_there h g (Lists which) reply x = absurd (no_one _ x.0)
  serves_there h g (Shows what) reply x = absurd (no_one _ x.0)
  serves_there h g Restarts reply x = absurd (no_one _ x.1)
  serves_there h g (Changes op) reply x = absurd (let k = ap length x.all in let m = length-append x.front (entry p op x.outcome ∷ []) in omega (arith, k, m))

  attends_there : (h g : List Entry) (s : Attending) (k : Ask) (reply : Reply) → Serves p r.table h k [] reply → attending_after s (length (changes_of g)) k ≡ attending_after s (length (changes_of h)) k
  attends_there h g s (Refused q) reply x = refl
  attends_there h g s (LogsIn u) reply x = refl
  attends_there h g s LogsOut reply x = refl
  attends_there h g s Completes reply x = refl
  attends_there h g s Allows reply x = absurd (no_one _ x.0)
  attends_there h g s Inhibits reply x = refl
  attends_there h g s (Lists which) reply x = refl
  attends_there h g s (Shows what) reply x = refl
  attends_there h g s Restarts reply x = refl
  attends_there h g s (Changes op) reply x = refl

  free_there : (h g : List Entry) (s : Attending) (k : Ask) (reply : Reply) → Serves p r.table h k [] reply → Free r p excused g [] s k reply
  free_there h g s k reply x = elim (uses r p excused g [] s k reply (serves_there h g k reply x)) [
    | inl a ↦ a
    | inr a ↦ absurd (let k = ap length a.whole in let m = length-append a.front (a.last ∷ []) in omega (arith, k, m))
  ]

module _ {U M : Type 0} (l : Language U M) (r : Rules) (excused : Excuse) (past : List Entry) (o : UsersOpening) (failing : Type 0) (n : ℕ) where
  abbrev Desk : Type 0
  Desk = List (Session U M)

  abbrev none_yet : Desk
  none_yet = []

  abbrev start : Element U M
  start = element r.table past (λ p. none_yet)

  abbrev At : List (Turn U M) → Element U M → Users → Type 0
  At ts e us = ArePlayedAlong l r.limit excused start o failing ts e us

  -- a moment of these turns, after these entries, since which the sessions came to those
  pub record Passed (front : List AnyEntry) (ts : List (Turn U M)) (f : ℕ → Desk) : Type 0 where
    pub later : List (Turn U M)
    pub earlier : List (Turn U M)
    pub order : ts ≡ later ++ earlier
    pub sessions : ℕ → Desk
    pub come : At earlier (element r.table (past ++ at_table front) sessions) (users_after o (at_users front))
    pub begun : (p : ℕ) → AreBegun IsBegun (sessions p) (f p)

  abbrev Passes : List AnyEntry → List (Turn U M) → (ℕ → Desk) → Type 0
  Passes m ts f = (front back : List AnyEntry) → m ≡ front ++ back → Passed front ts f

  abbrev pub Good : List AnyEntry → Type 0
  Good m = GoodTable l r excused past n (past ++ at_table m) × GoodUsers l o failing n (at_users m)

  abbrev pub Pl : List AnyEntry → (ℕ → Desk) → Type 0
  Pl m f = (ts : List (Turn U M)) × At ts (element r.table (past ++ at_table m) f) (users_after o (at_users m)) × Passes m ts f

  abbrev Did : ℕ → List Entry → List UserEntry → List AnyEntry → Desk → Type 0
  Did p h g w ss = Script place_in Idles idles_or is_used used_tells past none_yet Good Pl p h g w ss

  abbrev Free_step : ℕ → Desk → Desk → Type 0
  Free_step p v w = Anywhere place_in Idles idles_or is_used used_tells past none_yet Good Pl p v w

  abbrev Table_step : ℕ → List Entry → Entry → Desk → Desk → Type 0
  Table_step p h e v w = TakesAt place_in Idles idles_or is_used used_tells past none_yet Good Pl p h e v w

  abbrev Users_step : ℕ → List UserEntry → UserEntry → Desk → Desk → Type 0
  Users_step p g e v w = HearsAt place_in Idles idles_or is_used used_tells past none_yet Good Pl p g e v w

  table_on : (m : List AnyEntry) (e : Entry) → (past ++ at_table m) ++ e ∷ [] ≡ past ++ at_table (m ++ inl e ∷ [])
  table_on m e = append_assoc past (at_table m) (e ∷ []) ∙ ap (λ (es : List Entry). past ++ es) (sym (table_append m (inl e ∷ [])))

  table_still : (m : List AnyEntry) (e : UserEntry) → past ++ at_table m ≡ past ++ at_table (m ++ inr e ∷ [])
  table_still m e = ap (λ (es : List Entry). past ++ es) (sym (table_append m (inr e ∷ []) ∙ append-nil (at_table m)))

  users_still : (m : List AnyEntry) (e : Entry) → at_users m ≡ at_users (m ++ inl e ∷ [])
  users_still m e = sym (users_append m (inl e ∷ []) ∙ append-nil (at_users m))

  users_on : (m : List AnyEntry) (e : UserEntry) → at_users m ++ e ∷ [] ≡ at_users (m ++ inr e ∷ [])
  users_on m e = sym (users_append m (inr e ∷ []))

  -- one turn more
  turned : (front : List AnyEntry) (ts : List (Turn U M)) (turn : Turn U M) (p : ℕ) (v w : Desk) (f : ℕ → Desk) → AreBegun IsBegun v w → Passed front ts (placed p v f) → Passed front (turn ∷ ts) (placed p w f)
  turned front ts turn p v w f x y = record {
    later = turn ∷ y.later;
    earlier = y.earlier;
    order = ap (λ (us : List (Turn U M)). turn ∷ us) y.order;
    sessions = y.sessions;
    come = y.come;
    begun = λ k. begun_on IsBegun stays goes_further (y.sessions k) (placed p v f k) (placed p w f k) (y.begun k) (step_begun p v w f x k);
  }

  this_moment : (m : List AnyEntry) (ts : List (Turn U M)) (f : ℕ → Desk) → At ts (element r.table (past ++ at_table m) f) (users_after o (at_users m)) → Passed m ts f
  this_moment m ts f x = record { later = []; earlier = ts; order = refl; sessions = f; come = x; begun = λ p. all_stay IsBegun stays goes_further (f p) }

  -- one entry more, after which the element stands so
  entered : (m : List AnyEntry) (x : AnyEntry) (ts : List (Turn U M)) (f : ℕ → Desk) → Passes m ts f → At ts (element r.table (past ++ at_table (m ++ x ∷ [])) f) (users_after o (at_users (m ++ x ∷ []))) → Passes (m ++ x ∷ []) ts f
  entered m x ts f before now = λ front back is. elim (ended back) [
    | inl none ↦ subst (λ (k : List AnyEntry). Passed k ts f) (is ∙ ap (λ (k : List AnyEntry). front ++ k) none ∙ append-nil front) (this_moment (m ++ x ∷ []) ts f now)
    | inr t ↦ before front t.0 (snoc_once m (front ++ t.0) x t.1 (is ∙ ap (λ (k : List AnyEntry). front ++ k) t.2 ∙ sym (append_assoc front t.0 (t.1 ∷ [])))).0
  ]

  anywhere : (p : ℕ) (v w : Desk) (turn : Turn U M) → AreBegun IsBegun v w → ((h : List Entry) (us : Users) (f : ℕ → Desk) (ts : List (Turn U M)) → At ts (element r.table h (placed p v f)) us → At (turn ∷ ts) (element r.table h (placed p w f)) us) → Free_step p v w
  anywhere p v w turn begun on = λ m f good x.
      (turn ∷ x.0, on (past ++ at_table m) (users_after o (at_users m)) f x.0 x.1, λ front back is. turned front x.0 turn p v w f begun (x.2 front back is))

  at_entry : (p : ℕ) (h : List Entry) (e : Entry) (v w : Desk) (turn : Turn U M) → AreBegun IsBegun v w → ((us : Users) (f : ℕ → Desk) (ts : List (Turn U M)) → GoodTable l r excused past n (h ++ e ∷ []) → At ts (element r.table h (placed p v f)) us → At (turn ∷ ts) (element r.table (h ++ e ∷ []) (placed p w f)) us) → Table_step p h e v w
  at_entry p h e v w turn begun on = λ m f is good x.
      let there : (past ++ at_table m) ++ e ∷ [] ≡ h ++ e ∷ [] = ap (λ (g : List Entry). g ++ e ∷ []) is in
      let us = users_after o (at_users m) in
      let ts = turn ∷ x.0 in
      let legal : GoodTable l r excused past n (h ++ e ∷ []) = subst (λ (g : List Entry). GoodTable l r excused past n g) (sym (table_on m e) ∙ there) good.0 in
      let now : At ts (element r.table (h ++ e ∷ []) (placed p w f)) us = on us f x.0 legal (subst (λ (g : List Entry). At x.0 (element r.table g (placed p v f)) us) is x.1) in
      let moved : At ts (element r.table (past ++ at_table (m ++ inl e ∷ [])) (placed p w f)) (users_after o (at_users (m ++ inl e ∷ []))) =
      subst (λ (y : List Entry × List UserEntry). At ts (element r.table y.0 (placed p w f)) (users_after o y.1)) (λ i. ((sym there ∙ table_on m e) i, users_still m e i)) now in
      (ts, moved, entered m (inl e) ts (placed p w f) (λ front back split. turned front x.0 turn p v w f begun (x.2 front back split)) moved)

  at_user : (p : ℕ) (g : List UserEntry) (e : UserEntry) (v w : Desk) (turn : Turn U M) → AreBegun IsBegun v w → ((h : List Entry) (f : ℕ → Desk) (ts : List (Turn U M)) → GoodUsers l o failing n (g ++ e ∷ []) → At ts (element r.table h (placed p v f)) (users_after o g) → At (turn ∷ ts) (element r.table h (placed p w f)) (users_after o (g ++ e ∷ []))) → Users_step p g e v w
  at_user p g e v w turn begun on = λ m f is good x.
      let there : at_users m ++ e ∷ [] ≡ g ++ e ∷ [] = ap (λ (k : List UserEntry). k ++ e ∷ []) is in
      let h = past ++ at_table m in
      let ts = turn ∷ x.0 in
      let legal : GoodUsers l o failing n (g ++ e ∷ []) = subst (λ (k : List UserEntry). GoodUsers l o failing n k) (sym (users_on m e) ∙ there) good.1 in
      let now : At ts (element r.table h (placed p w f)) (users_after o (g ++ e ∷ [])) = on h f x.0 legal (subst (λ (k : List UserEntry). At x.0 (element r.table h (placed p v f)) (users_after o k)) is x.1) in
      let moved : At ts (element r.table (past ++ at_table (m ++ inr e ∷ [])) (placed p w f)) (users_after o (at_users (m ++ inr e ∷ []))) =
      subst (λ (y : List Entry × List UserEntry). At ts (element r.table y.0 (placed p w f)) (users_after o y.1)) (λ i. (table_still m e i, (sym there ∙ users_on m e) i)) now in
      (ts, moved, entered m (inr e) ts (placed p w f) (λ front back split. turned front x.0 turn p v w f begun (x.2 front back split)) moved)

  changes_more : (h : List Entry) (e : Entry) → changes_of (h ++ e ∷ []) ≡ changes_of h ++ option_to_list (made e.outcome)
  changes_more h e = changes_append h (e ∷ []) ∙ ap (λ (cs : List Change). changes_of h ++ cs) (append-nil (option_to_list (made e.outcome)))

  -- where the element stands after an entry
  lands : (ts : List (Turn U M)) (h : List Entry) (e : Entry) (p : ℕ) (x y : Desk) (f : ℕ → Desk) (did : Option Change) (ops : List Op) (st : Standing) (us : Users) → did ≡ made e.outcome → ops ≡ doubted_by_entry (doubted_in [] h) e.op e.outcome
      → st ≡ standing_by_entry (standing_in ready h) e.op e.outcome
      → At ts (record { table = with_change (table_after r.table h) did; changes = changes_of h ++ option_to_list did; doubted = ops; standing = st; sessions = placed p x (placed p y f) }) us
      → At ts (element r.table (h ++ e ∷ []) (placed p x f)) us
  lands ts h e p x y f did ops st us did_is ops_is st_is played =
      let table : with_change (table_after r.table h) did ≡ table_after r.table (h ++ e ∷ []) = ap (with_change (table_after r.table h)) did_is ∙ sym (table_more r.table h e) in
      let changes : changes_of h ++ option_to_list did ≡ changes_of (h ++ e ∷ []) = ap (λ (q : Option Change). changes_of h ++ option_to_list q) did_is ∙ sym (changes_more h e) in
      let doubted : ops ≡ doubted_in [] (h ++ e ∷ []) = ops_is ∙ sym (doubted_more [] h e) in
      let standing : st ≡ standing_in ready (h ++ e ∷ []) = st_is ∙ sym (standing_more ready h e) in
      subst (λ (k : Element U M). At ts k us) (λ i. record { table = table i; changes = changes i; doubted = doubted i; standing = standing i; sessions = placed_again p x y f i }) played

  -- and where there was none
  lands_there : (ts : List (Turn U M)) (h : List Entry) (p : ℕ) (x y : Desk) (f : ℕ → Desk) (ops : List Op) (st : Standing) (us : Users) → ops ≡ doubted_in [] h → st ≡ standing_in ready h
      → At ts (record { table = table_after r.table h; changes = changes_of h ++ []; doubted = ops; standing = st; sessions = placed p x (placed p y f) }) us → At ts (element r.table h (placed p x f)) us
  lands_there ts h p x y f ops st us ops_is st_is played =
      subst (λ (k : Element U M). At ts k us) (λ i. record { table = table_after r.table h; changes = append-nil (changes_of h) i; doubted = ops_is i; standing = st_is i; sessions = placed_again p x y f i }) played

  lands_still : (ts : List (Turn U M)) (h : List Entry) (p : ℕ) (x y : Desk) (f : ℕ → Desk) (us : Users) → At ts (element r.table h (placed p x (placed p y f))) us → At ts (element r.table h (placed p x f)) us
  lands_still ts h p x y f us played =
      subst (λ (k : Element U M). At ts k us) (λ i. record { table = table_after r.table h; changes = changes_of h; doubted = doubted_in [] h; standing = standing_in ready h; sessions = placed_again p x y f i }) played

  module _ (p : ℕ) where
    -- a mend of its own, or an entry that it doesn't use
    mended : (h : List Entry) (g : List UserEntry) (w : List AnyEntry) (e : Entry) (ss : Desk) → IsUnused p e ⊎ IsMend p h e → Did p h g w ss → Did p (h ++ e ∷ []) g (w ++ used_of p (e ∷ [])) ss
    mended h g w e ss (inl unused) d =
        let off = not_used p (inl e) unused in
        subst (λ (x : List AnyEntry). Did p (h ++ e ∷ []) g x ss) (none_used p (inl e) w off) (table_passes h g w e ss off d)
    mended h g w e ss (inr mend) d =
        let is = mend.made.1 in
        let own = own_used p (inl e) mend.mine (λ taken. let wrong = sym is ∙ taken in cc) in
        let step : Table_step p h e ss ss = at_entry p h e ss ss (mend_turn mend.made.0) (all_stay IsBegun stays goes_further ss) (λ us f ts good x.
        let fits = fits_last r h e good.0 in
        lands (mend_turn mend.made.0 ∷ ts) h e p ss ss f mend.made.0 [] ready us (ap made (sym is)) (ap (doubted_by_entry (doubted_in [] h) e.op) (sym is)) (ap (standing_by_entry (standing_in ready h) e.op) (sym is))
        (subst (λ (k : ℕ → Desk). At (mend_turn mend.made.0 ∷ ts) (record { table = with_change (table_after r.table h) mend.made.0; changes = changes_of h ++ option_to_list mend.made.0; doubted = []; standing = ready; sessions = k }) us) (sym (placed_again p ss ss f))
        (mends ts (element r.table h (placed p ss f)) mend.made.0 (is_due h mend.due) (recalled r p excused h e mend.made.0 fits is) x.0, x.1))) in
        subst (λ (x : List AnyEntry). Did p (h ++ e ∷ []) g x ss) (one_used p (inl e) w own) (takes h g w e ss ss own step d)

    mended_all : (h : List Entry) (g : List UserEntry) (w : List AnyEntry) (front : List Entry) (ss : Desk) → Mends p h front → Did p h g w ss → Did p (h ++ front) g (w ++ used_of p front) ss
    mended_all h g w [] ss m d = subst (λ (x : List Entry × List AnyEntry). Did p x.0 g x.1 ss) (λ i. (sym (append-nil h) i, sym (append-nil w) i)) d
    mended_all h g w (e ∷ es) ss m d =
        subst (λ (x : List Entry × List AnyEntry). Did p x.0 g x.1 ss) (λ i. (append_assoc h (e ∷ []) es i, used_behind p w (e ∷ []) es i))
        (mended_all (h ++ e ∷ []) g (w ++ used_of p (e ∷ [])) es ss m.1 (mended h g w e ss m.0 d))

    module _ (s : Session U M) (u : U) (m : M) (reply : Reply) (ss : Desk) (on : s.ended ≡ false) (none : s.due ≡ false) where
      abbrev k : Ask
      k = l.asks s.attending.user u

      abbrev x : Said M
      x = record { moments = m ∷ []; bytes = l.response m u reply }

      abbrev first : Desk
      first = s ∷ ss

      abbrev then : List Entry → Desk
      then h = answered u x (attending_after s.attending (length (changes_of h)) k) s ∷ ss

      goes : (h : List Entry) → AreBegun IsBegun first (then h)
      goes h = newest_went_on IsBegun stays goes_further s (answered u x (attending_after s.attending (length (changes_of h)) k) s) ss first refl (answered_on u x (attending_after s.attending (length (changes_of h)) k) s)

      -- a unit that takes no entry of the table is answered after any history of it, by what the users tell
      free : (h g : List Entry) (before after : Users) (f : ℕ → Desk) (ts : List (Turn U M)) → Serves p r.table h k [] reply → HearsOf o.shelf.sid failing before (l.wants s.attending.user u) (l.heard u) after
          → At ts (element r.table g (placed p first f)) before → At (answer p u m ∷ ts) (element r.table g (placed p (then h) f)) after
      free h g before after f ts serves tells c =
          let a = free_there r p excused h g s.attending k reply serves in
          subst (λ (z : Attending). At (answer p u m ∷ ts) (element r.table g (placed p (answered u x z s ∷ ss) f)) after) (attends_there r p excused h g s.attending k reply serves)
          (lands_there (answer p u m ∷ ts) g p (then g) first f _ _ after a.doubted a.stands
          (answers ts (element r.table g (placed p first f)) p s ss u m reply None (placed_here p first f) on none a.replies a.recalls_none a.may c.0, (before, c.1, tells)))

      module _ (wants : l.wants s.attending.user u ≡ nothing) (heard : l.heard u ≡ unasked) where
        nothing_heard : (us : Users) → HearsOf o.shelf.sid failing us (l.wants s.attending.user u) (l.heard u) us
        nothing_heard us =
            let none : HearsOf o.shelf.sid failing us nothing unasked us = (refl, refl) in
            subst (λ (y : Wanted × Heard). HearsOf o.shelf.sid failing us y.0 y.1 us) (λ i. (sym wants i, sym heard i)) none

        taken : (h es : List Entry) (g : List UserEntry) (w : List AnyEntry) → Takes r p excused h es s.attending k reply → Did p h g w first → Did p (h ++ es) g (w ++ used_of p es) (then h)
        taken h es g w a d =
            let now = h ++ a.front in
            let e = a.last in
            let own = own_used p (inl e) a.mine a.does in
            let near_is : then now ≡ then h = ap (λ (y : Attending). let v : Desk = answered u x y s ∷ ss in v) a.attends in
            let step : Table_step p now e first (then now) = at_entry p now e first (then now) (answer p u m) (goes now) (λ us f ts good c.
            lands (answer p u m ∷ ts) now e p (then now) first f (made e.outcome) _ _ us refl (a.doubted (doubted_in [] now)) (a.leaves (standing_in ready now))
            (answers ts (element r.table now (placed p first f)) p s ss u m reply (made e.outcome) (placed_here p first f) on none (a.replies good.0 good.1) (a.recalls_it good.0) a.may c.0, (us, c.1, nothing_heard us))) in
            let behind : Did p (now ++ e ∷ []) g ((w ++ used_of p a.front) ++ inl e ∷ []) (then now) = takes now g (w ++ used_of p a.front) e first (then now) own step (mended_all h g w a.front first a.stands d) in
            let table : now ++ e ∷ [] ≡ h ++ es = append_assoc h a.front (e ∷ []) ∙ ap (λ (l2 : List Entry). h ++ l2) (sym a.whole) in
            let used : (w ++ used_of p a.front) ++ inl e ∷ [] ≡ w ++ used_of p es = one_used p (inl e) (w ++ used_of p a.front) own ∙ used_behind p w a.front (e ∷ []) ∙ ap (λ (l2 : List Entry). w ++ used_of p l2) (sym a.whole) in
            subst (λ (y : List Entry × List AnyEntry × Desk). Did p y.0 g y.1 y.2) (λ i. (table i, used i, near_is i)) behind

        untaken : (h es : List Entry) (g : List UserEntry) (w : List AnyEntry) → es ≡ [] → Serves p r.table h k es reply → Did p h g w first → Did p (h ++ es) g (w ++ used_of p es) (then h)
        untaken h es g w is serves d =
            let free_of = subst (λ (l2 : List Entry). Serves p r.table h k l2 reply) is serves in
            let behind : Did p h g w (then h) = does_free h g w first (then h) (anywhere p first (then h) (answer p u m) (goes h) (λ h2 us f ts c. free h h2 us us f ts free_of (nothing_heard us) c)) d in
            let table : h ≡ h ++ es = sym (ap (λ (l2 : List Entry). h ++ l2) is ∙ append-nil h) in
            let used : w ≡ w ++ used_of p es = sym (ap (λ (l2 : List Entry). w ++ used_of p l2) is ∙ append-nil w) in
            subst (λ (y : List Entry × List AnyEntry). Did p y.0 g y.1 (then h)) (λ i. (table i, used i)) behind

        at_the_table : (h es : List Entry) (g : List UserEntry) (w : List AnyEntry) → Serves p r.table h k es reply → Did p h g w first → Did p (h ++ es) g (w ++ used_of p es) (then h)
        at_the_table h es g w serves d = elim (uses r p excused h es s.attending k reply serves) [ inl a ↦ untaken h es g w a.no_entry serves d | inr a ↦ taken h es g w a d ]

      -- one that asks the users
      own_told : (h : List Entry) (g : List UserEntry) (w : List AnyEntry) (what : UserOp) (out : UserOutcome) → Serves p r.table h k [] reply
          → (MayCome o.shelf.sid what (users_after o g) out → IsExcusedBy failing out → HearsOf o.shelf.sid failing (users_after o g) (l.wants s.attending.user u) (l.heard u) (users_after o (g ++ user_entry p what out ∷ [])))
          → Did p h g w first → Did p h (g ++ user_entry p what out ∷ []) (w ++ inr (user_entry p what out) ∷ []) (then h)
      own_told h g w what out serves tells d =
          let e = user_entry p what out in
          hears h g w e first (then h) (own_used p (inr e) refl (λ nobody. nobody)) (at_user p g e first (then h) (answer p u m) (goes h) (λ h2 f ts good c.
          let came = last_came l o failing n g e good in
          free h h2 (users_after o g) (users_after o (g ++ e ∷ [])) f ts serves (tells came.0 came.1) c)) d

      by_wanted : (h : List Entry) (g us : List UserEntry) (w : List AnyEntry) (want : Wanted) (y : Heard) → want ≡ l.wants s.attending.user u → y ≡ l.heard u → Hears o p g want us y → Serves p r.table h k [] reply → Did p h g w first → Did p h (g ++ us) (w ++ of_users us) (then h)
      by_wanted h g us w nothing y want_is y_is got serves d =
          let tells : (vs : Users) → HearsOf o.shelf.sid failing vs (l.wants s.attending.user u) (l.heard u) vs = λ vs.
          let here : HearsOf o.shelf.sid failing vs nothing y vs = (got.1, refl) in
          subst (λ (q : Wanted × Heard). HearsOf o.shelf.sid failing vs q.0 q.1 vs) (λ i. (want_is i, y_is i)) here in
          let behind : Did p h g w (then h) = does_free h g w first (then h) (anywhere p first (then h) (answer p u m) (goes h) (λ h2 vs f ts c. free h h2 vs vs f ts serves (tells vs) c)) d in
          let users : g ≡ g ++ us = sym (ap (λ (l2 : List UserEntry). g ++ l2) got.0 ∙ append-nil g) in
          let used : w ≡ w ++ of_users us = sym (ap (λ (l2 : List UserEntry). w ++ of_users l2) got.0 ∙ append-nil w) in
          subst (λ (z : List UserEntry × List AnyEntry). Did p h z.0 z.1 (then h)) (λ i. (users i, used i)) behind
      by_wanted h g us w (to_look vacant uid pid) y want_is y_is got serves d =
          let how = login_op vacant uid (login uid pid (users_after o g)) in
          let e = user_entry p how Told in
          let here : HearsOf o.shelf.sid failing (users_after o g) (to_look vacant uid pid) y (users_after o (g ++ e ∷ [])) = (got.1, users_more o g e) in
          let behind = own_told h g w how Told serves (λ may excuse. subst (λ (q : Wanted × Heard). HearsOf o.shelf.sid failing (users_after o g) q.0 q.1 (users_after o (g ++ e ∷ []))) (λ i. (want_is i, y_is i)) here) d in
          subst (λ (l2 : List UserEntry). Did p h (g ++ l2) (w ++ of_users l2) (then h)) (sym got.0) behind
      by_wanted h g us w (to_do what) y want_is y_is got serves d =
          let e = user_entry p what got.0 in
          let tells : MayCome o.shelf.sid what (users_after o g) got.0 → IsExcusedBy failing got.0 → HearsOf o.shelf.sid failing (users_after o g) (to_do what) y (users_after o (g ++ e ∷ [])) = λ may excuse. (got.0, may, excuse, got.2, users_more o g e) in
          let behind = own_told h g w what got.0 serves (λ may excuse. subst (λ (q : Wanted × Heard). HearsOf o.shelf.sid failing (users_after o g) q.0 q.1 (users_after o (g ++ e ∷ []))) (λ i. (want_is i, y_is i)) (tells may excuse)) d in
          subst (λ (l2 : List UserEntry). Did p h (g ++ l2) (w ++ of_users l2) (then h)) (sym got.1) behind

    come : (h : List Entry) (g : List UserEntry) (w : List AnyEntry) (ss : Desk) → Did p h g w ss → Did p h g w (fresh l ∷ ss)
    come h g w ss d = does_free h g w ss (fresh l ∷ ss) (anywhere p ss (fresh l ∷ ss) (call p) (one_came IsBegun stays goes_further (fresh l) ss) (λ h2 us f ts c.
        let is : placed p ss f p ≡ ss = placed_here p ss f in
        subst (λ (v : Desk). At (call p ∷ ts) (element r.table h2 (placed p (fresh l ∷ v) f)) us) is
        (lands_still (call p ∷ ts) h2 p (fresh l ∷ placed p ss f p) ss f us (comes ts (element r.table h2 (placed p ss f)) p c.0, c.1)))) d

    rest : (h : List Entry) (g : List UserEntry) (w : List AnyEntry) (ss : Desk) (s : Session U M) → s.ended ≡ false → s.due ≡ false → Did p h g w (s ∷ ss) → Did p h g w (rested s ∷ ss)
    rest h g w ss s on none d = does_free h g w (s ∷ ss) (rested s ∷ ss) (anywhere p (s ∷ ss) (rested s ∷ ss) (rest_turn p) (newest_went_on IsBegun stays goes_further s (rested s) ss (s ∷ ss) refl (rested_on s)) (λ h2 us f ts c.
        lands_still (rest_turn p ∷ ts) h2 p (rested s ∷ ss) (s ∷ ss) f us (rests ts (element r.table h2 (placed p (s ∷ ss) f)) p s ss (placed_here p (s ∷ ss) f) on none c.0, c.1))) d

    stop_users : (h : List Entry) (g : List UserEntry) (w : List AnyEntry) (ss : Desk) (s : Session U M) (u : U) (what : UserOp) → s.ended ≡ false → s.due ≡ false → l.wants s.attending.user u ≡ to_do what → IsChanging what → Did p h g w (s ∷ ss) → Did p h g w (unanswered u s ∷ ss)
    stop_users h g w ss s u what on none wants changing d = does_free h g w (s ∷ ss) (unanswered u s ∷ ss) (anywhere p (s ∷ ss) (unanswered u s ∷ ss) (users_turn p u) (newest_went_on IsBegun stays goes_further s (unanswered u s) ss (s ∷ ss) refl (unanswered_on u s)) (λ h2 us f ts c.
        lands_still (users_turn p u ∷ ts) h2 p (unanswered u s ∷ ss) (s ∷ ss) f us (stops_at_users ts (element r.table h2 (placed p (s ∷ ss) f)) p s ss u what (placed_here p (s ∷ ss) f) on none wants changing c.0, c.1))) d

    look : (h : List Entry) (g : List UserEntry) (w : List AnyEntry) (ss : Desk) (s : Session U M) (cursor : ℕ) (ms : List M) (bytes : List ℕ) → s.ended ≡ false → s.due ≡ true → s.attending.watch ≡ Some cursor → AreReported l.report (notices (changes_of h) cursor) ms bytes → Did p h g w (s ∷ ss)
        → Did p (h ++ entry p (Look cursor) Answered ∷ []) g (w ++ inl (entry p (Look cursor) Answered) ∷ []) (reported (length (changes_of h)) (record { moments = ms; bytes = bytes }) s ∷ ss)
    look h g w ss s cursor ms bytes on due watch told d =
        let e = entry p (Look cursor) Answered in
        let said : Said M = record { moments = ms; bytes = bytes } in
        let first : Desk = s ∷ ss in
        let near : Desk = reported (length (changes_of h)) said s ∷ ss in
        let step : Table_step p h e first near = at_entry p h e first near (look_turn p ms) (newest_went_on IsBegun stays goes_further s (reported (length (changes_of h)) said s) ss first refl (reported_on (length (changes_of h)) said s)) (λ us f ts good c. lands (look_turn p ms ∷ ts) h e p near first f None (doubted_in [] h) (standing_in ready h) us refl refl refl
        (subst (λ (cs : List Change). At (look_turn p ms ∷ ts) (record { table = table_after r.table h; changes = cs; doubted = doubted_in [] h; standing = standing_in ready h; sessions = placed p near (placed p first f) }) us) (sym (append-nil (changes_of h)))
        (reports ts (element r.table h (placed p first f)) p s ss cursor ms bytes (placed_here p first f) on due watch told c.0, c.1))) in
        takes h g w e first near (own_used p (inl e) refl (λ is. let wrong : Answered ≡ Taken = is in cc)) step d

    stop : (h : List Entry) (g : List UserEntry) (w : List AnyEntry) (ss : Desk) (s : Session U M) (u : U) (front : List Entry) (what : Op) → s.ended ≡ false → s.due ≡ false → l.wants s.attending.user u ≡ nothing → l.heard u ≡ unasked
        → FrontOf p h (l.asks s.attending.user u) front → CutsAt (h ++ front) (l.asks s.attending.user u) what → Did p h g w (s ∷ ss)
        → Did p ((h ++ front) ++ entry p what Cut ∷ []) g ((w ++ used_of p front) ++ inl (entry p what Cut) ∷ []) (unanswered u s ∷ ss)
    stop h g w ss s u front what on none wants heard fronts cuts d =
        let k = l.asks s.attending.user u in
        let now = h ++ front in
        let e = entry p what Cut in
        let first : Desk = s ∷ ss in
        let then : Desk = unanswered u s ∷ ss in
        let tells : (vs : Users) → HearsOf o.shelf.sid failing vs (l.wants s.attending.user u) (l.heard u) vs = λ vs.
        let here : HearsOf o.shelf.sid failing vs nothing unasked vs = (refl, refl) in
        subst (λ (q : Wanted × Heard). HearsOf o.shelf.sid failing vs q.0 q.1 vs) (λ i. (sym wants i, sym heard i)) here in
        let step : Table_step p now e first then = at_entry p now e first then (stop_turn p u what) (newest_went_on IsBegun stays goes_further s (unanswered u s) ss first refl (unanswered_on u s)) (λ us f ts good c.
        let fits = fits_last r now e good.0 in
        lands (stop_turn p u what ∷ ts) now e p then first f None (what ∷ doubted_in [] now) halted us refl refl refl
        (stops ts (element r.table now (placed p first f)) p s ss u what (placed_here p first f) on none (may_cut l r excused past n p now k what cuts) fits.step.0 c.0, (us, c.1, tells us))) in
        takes now g (w ++ used_of p front) e first then (own_used p (inl e) refl (λ is. let wrong : Cut ≡ Taken = is in cc)) step (mended_all h g w front first (in_front l r excused past n p h k front fronts) d)

    acted : (h : List Entry) (g : List UserEntry) (w : List AnyEntry) (ss : Desk) → ActsAlong l p r.table o past h g w ss → Did p h g w ss
    acted _ _ _ _ nobody_acts = nothing_done past none_yet refl refl
    acted _ _ _ _ (table_goes_on h g w ss e unused x) = table_passes h g w e ss (not_used p (inl e) unused) (acted h g w ss x)
    acted _ _ _ _ (users_go_on h g w ss e other x) = users_pass h g w e ss (not_used p (inr e) (inl other)) (acted h g w ss x)
    acted _ _ _ _ (caller_acts h g w ss x) = come h g w ss (acted h g w ss x)
    acted _ _ _ _ (acts_at_table h g w ss s u m es reply on none wants heard serves x) = at_the_table s u m reply ss on none wants heard h es g w serves (acted h g w (s ∷ ss) x)
    acted _ _ _ _ (acts_at_users h g w ss s u m us reply on none got serves x) = by_wanted s u m reply ss on none h g us w (l.wants s.attending.user u) (l.heard u) refl refl got serves (acted h g w (s ∷ ss) x)
    acted _ _ _ _ (nothing_came h g w ss s on none x) = rest h g w ss s on none (acted h g w (s ∷ ss) x)
    acted _ _ _ _ (looks_on h g w ss s cursor ms bytes on due watch told x) = look h g w ss s cursor ms bytes on due watch told (acted h g w (s ∷ ss) x)
    acted _ _ _ _ (stopped_short h g w ss s u front what on none wants heard fronts cuts x) = stop h g w ss s u front what on none wants heard fronts cuts (acted h g w (s ∷ ss) x)
    acted _ _ _ _ (stopped_before_users h g w ss s u what on none wants changing x) = stop_users h g w ss s u what on none wants changing (acted h g w (s ∷ ss) x)

    along : (m : List AnyEntry) (w : List AnyEntry) (ss : Desk) → ActsAlong l p r.table o past (past ++ at_table m) (at_users m) w ss → w ≡ filter (is_used p) m → Laid place_in Idles idles_or is_used used_tells past none_yet Good Pl p m ss
    along m w ss x is = laid place_in Idles idles_or is_used used_tells past none_yet Good Pl p (length m + 1) m (omega arith) (past ++ at_table m) (at_users m) w ss (acted (past ++ at_table m) (at_users m) w ss x) refl refl is

  shorter_by : (m : List AnyEntry) (x : AnyEntry) → Good (m ++ x ∷ []) → Good m
  shorter_by m (inl e) good = (
    table_shorter l r excused past n (past ++ at_table m) e (subst (λ (h : List Entry). GoodTable l r excused past n h) (sym (table_on m e)) good.0),
    subst (λ (g : List UserEntry). GoodUsers l o failing n g) (sym (users_still m e)) good.1,
  )
  shorter_by m (inr e) good = (
    subst (λ (h : List Entry). GoodTable l r excused past n h) (sym (table_still m e)) good.0,
    users_shorter l o failing n (at_users m) e (subst (λ (g : List UserEntry). GoodUsers l o failing n g) (sym (users_on m e)) good.1),
  )

  within : (m : List AnyEntry) (x : AnyEntry) → Good (m ++ x ∷ []) → place_in x < n
  within m (inl e) good = last_within l r excused past n (past ++ at_table m) e (subst (λ (h : List Entry). AllByRecursion (λ y. y.place < n) h) (sym (table_on m e)) good.0.2)
  within m (inr e) good = last_user l o failing n (at_users m) e (subst (λ (g : List UserEntry). AllByRecursion (λ y. y.place < n) g) (sym (users_on m e)) good.1.2)

  -- an entry at which a place took the Provisioner changes nothing
  idly : (m : List AnyEntry) (x : AnyEntry) (f : ℕ → Desk) → Idles x → Good (m ++ x ∷ []) → Pl m f → Pl (m ++ x ∷ []) f
  idly m (inl e) f is good c =
      let h = past ++ at_table m in
      let made_none : made e.outcome ≡ None = ap made is in
      let table : table_after r.table h ≡ table_after r.table (h ++ e ∷ []) = sym (table_more r.table h e ∙ ap (with_change (table_after r.table h)) made_none) in
      let changes : changes_of h ≡ changes_of (h ++ e ∷ []) = sym (changes_more h e ∙ ap (λ (q : Option Change). changes_of h ++ option_to_list q) made_none ∙ append-nil (changes_of h)) in
      let doubted : doubted_in [] h ≡ doubted_in [] (h ++ e ∷ []) = sym (doubted_more [] h e ∙ ap (doubted_by_entry (doubted_in [] h) e.op) is) in
      let standing : standing_in ready h ≡ standing_in ready (h ++ e ∷ []) = sym (standing_more ready h e ∙ ap (standing_by_entry (standing_in ready h) e.op) is) in
      let now : At c.0 (element r.table (h ++ e ∷ []) f) (users_after o (at_users m)) = subst (λ (k : Element U M). At c.0 k (users_after o (at_users m))) (λ i. record { table = table i; changes = changes i; doubted = doubted i; standing = standing i; sessions = f }) c.1 in
      let moved : At c.0 (element r.table (past ++ at_table (m ++ inl e ∷ [])) f) (users_after o (at_users (m ++ inl e ∷ []))) = subst (λ (y : List Entry × List UserEntry). At c.0 (element r.table y.0 f) (users_after o y.1)) (λ i. (table_on m e i, users_still m e i)) now in
      (c.0, moved, entered m (inl e) c.0 f c.2 moved)
  idly m (inr e) f is good c = absurd is

  opening : Pl [] (λ p. none_yet)
  opening =
      let here : At [] start (users_after o []) = (opens, refl) in
      let now : At [] (element r.table (past ++ []) (λ p. none_yet)) (users_after o []) = subst (λ (h : List Entry). At [] (element r.table h (λ p. none_yet)) (users_after o [])) (sym (append-nil past)) here in
      ([], now, λ front back is. subst (λ (k : List AnyEntry). Passed k [] (λ p. none_yet)) (first_none front back is) (this_moment [] [] (λ p. none_yet) now))
    where
      first_none : (front back : List AnyEntry) → [] ≡ front ++ back → [] ≡ front
      first_none [] back is = refl
      first_none (x ∷ front) back is = absurd (let k = ap length is in omega (arith, k))

  in_this_order : (m : List AnyEntry) (used : ℕ → List AnyEntry) (f : ℕ → Desk) → 0 < n → Good m → ((p : ℕ) → p < n → ActsAlong l p r.table o past (past ++ at_table m) (at_users m) (used p) (f p)) → ((p : ℕ) → p < n → used p ≡ filter (is_used p) m) → ((p : ℕ) → n ≤ p → f p ≡ none_yet) → Pl m f
  in_this_order m used f pos good acts as_used beyond =
      merged place_in Idles idles_or [] none_yet Good Pl Pl (λ p g w. Unit {0}) n within shorter_by opening (λ g f met x. x) idly pos (length m + 1) m f (omega arith) (λ p lt. along p m (used p) (f p) (acts p lt) (as_used p lt)) beyond good

  pub in_one_order : (h : List Entry) (g : List UserEntry) (used : ℕ → List AnyEntry) (m : List AnyEntry) (f : ℕ → Desk) → 0 < n → GoodTable l r excused past n (past ++ h) → GoodUsers l o failing n g → ((p : ℕ) → p < n → ActsAlong l p r.table o past (past ++ h) g (used p) (f p)) → ((p : ℕ) → n ≤ p → f p ≡ none_yet) → IsOrderOf h g n used m
      → ArePlayedInOrder l r.limit excused start o failing r.table past m h g f
  in_one_order h g used m f pos good users_good acts beyond x =
      let c = in_this_order m used f pos (subst (λ (y : List Entry). GoodTable l r excused past n (past ++ y)) (sym x.table) good, subst (λ (y : List UserEntry). GoodUsers l o failing n y) (sym x.users) users_good)
      (λ p lt. subst (λ (y : List Entry × List UserEntry). ActsAlong l p r.table o past (past ++ y.0) y.1 (used p) (f p)) (λ i. (sym x.table i, sym x.users i)) (acts p lt)) x.own beyond in
      record {
        turns = c.0;
        along = subst (λ (y : List Entry × List UserEntry). At c.0 (element r.table (past ++ y.0) f) (users_after o y.1)) (λ i. (x.table i, x.users i)) c.1;
        moments = λ front back is.
            let y = c.2 front back is in
            record { later = y.later; earlier = y.earlier; order = y.order; sessions = y.sessions; come = y.come; begun = y.begun };
      }

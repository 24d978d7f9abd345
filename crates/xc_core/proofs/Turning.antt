-- What a place sees in a turn, and after it.
use Rattle.std.proofs.Common.{◌≡◌, ◌≢◌, ◌≤◌, ◌<◌, ℕ, arith, cond, inl, inr, length, length-append, List, [], ◌∷◌, ◌++◌, append-nil, Option, Some, None, refl, sym, ◌∙◌, ap, subst, append_assoc}
use Rattle.std.proofs.lemmas.Bool.Decides.{eqb_tells}
use Rattle.std.proofs.lemmas.List.{map-append}
use base.Stored.{Gv}
use Rattle.turnstile.specs.Turning.{Each, Found}
use Rattle.turnstile.proofs.Lists.{each_append, map_once}
use Rattle.dxc_disk.specs.Disks.{DiskState}
use Rattle.dxc_model.specs.declared.op.Op.{Op}
use Rattle.dxc_model.specs.declared.op.Op.TheVariants.{Restart}
use Rattle.dxc_model.specs.declared.op.Change.{Change}
use Rattle.dxc_model.specs.declared.entry.Outcome.{Outcome}
use Rattle.dxc_model.specs.declared.entry.Outcome.TheVariants as outcome
use Rattle.dxc_model.specs.declared.entry.Entry.{Entry}
use Rattle.dxc_model.specs.Tables.{Board}
use Rattle.dxc_model.specs.Steps.{IsRetrieval, made, with_change}
use Rattle.dxc_model.specs.Histories.{changes_of, holder, holder_after, table_after, taker}
use Rattle.dxc_model.proofs.Growth.{changes_append, holder_more}
use Rattle.xc_recovery.proofs.Placing.{effect_shape}
use Rattle.xc_core.specs.declared.state.State.{State}
use Rattle.xc_core.specs.declared.turns.Took.{Took}
use Rattle.xc_core.specs.declared.turns.Took.TheVariants as took
use Rattle.xc_core.specs.declared.restarts.Held.{Held}
use Rattle.xc_core.specs.declared.restarts.Held.TheVariants as held
use Rattle.xc_core.specs.States.{IsNeverAstray, Opening, Stands, StandsFor, began, opening_in, opening_of}
use Rattle.xc_core.specs.Seeing.{IsHistory, Rests, Saw, Turned, TurnedBack, codes, entry, entry_coded, place_of, refused}
use Rattle.xc_core.specs.Turns.{AreNumbered, HeldIs, HoldIs, SawNoneAstray, TakenIs, TookIs, held_entry_of, outcome_of}
use Rattle.xc_core.proofs.Standing.{stands_read, table_is}

-- no entry changes the shape
change_shape : (t : Board) (o : Option Change) → (with_change t o).shape ≡ t.shape
change_shape t None = refl
change_shape t (Some c) = effect_shape t c

pub table_shape : (t : Board) (h : List Entry) → (table_after t h).shape ≡ t.shape
table_shape t [] = refl
table_shape t (e ∷ es) = table_shape (with_change t (made e.outcome)) es ∙ change_shape t (made e.outcome)

rests_taker : (own : ℕ) (e : Entry) (out : Outcome) → e.place ≢ own → (t : Entry) → taker out e ≡ Some t → t.place ≢ own
rests_taker own e (outcome.Done c) other t is = absurd cc
rests_taker own e (outcome.Denied q) other t is = absurd cc
rests_taker own e (outcome.Failed q) other t is = absurd cc
rests_taker own e outcome.Answered other t is = absurd cc
rests_taker own e (outcome.Restarted c) other t is = absurd cc
rests_taker own e outcome.Cut other t is = absurd cc
rests_taker own e outcome.Taken other t is = let k : e ≡ t = cc in subst (λ (x : Entry). x.place ≢ own) k other

-- others don't give the place the Provisioner
rests_after : (own : ℕ) (o : Option Entry) (e : Entry) → e.place ≢ own → ((t : Entry) → o ≡ Some t → t.place ≢ own) → (t : Entry) → holder_after o e ≡ Some t → t.place ≢ own
rests_after own None e other rests t is = rests_taker own e e.outcome other t is
rests_after own (Some x) e other rests t is = elim (eqb_tells e.place x.place) [
  | inl same ↦ absurd (let k : None ≡ Some t = sym (ap (λ b. cond b None (Some x)) same.0) ∙ is in cc)
  | inr differ ↦ rests t (sym (ap (λ b. cond b None (Some x)) differ.0) ∙ is)
]

pub rests_behind : (own : ℕ) (h later : List Entry) → Each (λ e. e.place ≢ own) later → Rests own h → Rests own (h ++ later)
rests_behind own h [] others rests = subst (λ (l : List Entry). Rests own l) (sym (append-nil h)) rests
rests_behind own h (e ∷ es) others rests = subst (λ (l : List Entry). Rests own l) (append_assoc h (e ∷ []) es)
    (rests_behind own (h ++ e ∷ []) es others.1 (λ t is. rests_after own (holder None h) e others.0 rests t (sym (holder_more None h e) ∙ is)))

-- an entry of its own, but one that takes the Provisioner, leaves it without
not_taker : (e : Entry) (out : Outcome) → out ≢ outcome.Taken → taker out e ≡ None
not_taker e (outcome.Done c) not = refl
not_taker e (outcome.Denied q) not = refl
not_taker e (outcome.Failed q) not = refl
not_taker e outcome.Answered not = refl
not_taker e (outcome.Restarted c) not = refl
not_taker e outcome.Cut not = refl
not_taker e outcome.Taken not = absurd (not refl)

rests_own : (own : ℕ) (o : Option Entry) (e : Entry) → e.place ≡ own → e.outcome ≢ outcome.Taken → (t : Entry) → holder_after o e ≡ Some t → t.place ≢ own
rests_own own None e mine not t is = absurd (let k : None ≡ Some t = sym (not_taker e e.outcome not) ∙ is in cc)
rests_own own (Some x) e mine not t is = elim (eqb_tells e.place x.place) [
  | inl same ↦ absurd (let k : None ≡ Some t = sym (ap (λ b. cond b None (Some x)) same.0) ∙ is in cc)
  | inr differ ↦ (let k : Some x ≡ Some t = sym (ap (λ b. cond b None (Some x)) differ.0) ∙ is in let w : x ≡ t = cc in λ at. differ.1 (mine ∙ sym at ∙ ap (λ (y : Entry). y.place) (sym w)))
]

pub rests_now : (own : ℕ) (g : List Entry) (e : Entry) → e.place ≡ own → e.outcome ≢ outcome.Taken → Rests own (g ++ e ∷ [])
rests_now own g e mine not = λ t is. rests_own own (holder None g) e mine not t (sym (holder_more None g e) ∙ is)

-- what was seen is one history
pub saw_once : (o : Opening) (seen : List Gv) (h g : List Entry) → Saw o seen h → Saw o seen g → h ≡ g
saw_once o seen h g a b = map_once entry_coded.code entry_coded.inj h g (sym a.codes_are ∙ b.codes_are)

pub changes_longer : (h later : List Entry) → length (changes_of h) ≤ length (changes_of (h ++ later))
changes_longer h later =
    let joined = ap length (changes_append h later) in
    let number = length-append (changes_of h) (changes_of later) in
    omega (arith, joined, number)

-- what holds of all entries holds of those after some
never_behind : (h l : List Entry) → IsNeverAstray (h ++ l) → IsNeverAstray l
never_behind [] l never = never
never_behind (e ∷ es) l never = never_behind es l never.1

-- operation and outcome of an entry
abbrev ends : Op → Outcome → Op × Outcome
ends op out = (op, out)

module _ {D : Type 0} (told : Type 0) (state : D → DiskState) where
  module _ (o : Opening) (by passes : ℕ) (seen in_turn : List Gv) (x : State D) (f : Found entry_coded.code (opening_of state) place_of (Stands told state) by passes o seen x in_turn) where
    -- what a turn finds carries the numbers of the turnstile's passes
    pub numbered_back : (then_seen : List Gv) → then_seen ≡ in_turn → AreNumbered passes then_seen
    numbered_back then_seen is = λ h codes_are. subst (λ (l : List Entry). Each (λ e. e.place < passes) l) (sym (map_once entry_coded.code entry_coded.inj h (f.begun ++ f.later) (sym codes_are ∙ is ∙ f.after))) f.numbers

    -- and so does the entry with which it ends
    pub numbered_own : (own n : ℕ) (op : Op) (out : Outcome) (then_seen : List Gv) → n ≡ own → own < passes → then_seen ≡ in_turn ++ entry_coded.code (entry n op out) ∷ [] → AreNumbered passes then_seen
    numbered_own own n op out then_seen is less saw = λ h codes_are.
        let e = entry n op out in
        let l = f.begun ++ f.later in
        let same : h ≡ l ++ e ∷ [] = map_once entry_coded.code entry_coded.inj h (l ++ e ∷ []) (sym codes_are ∙ saw ∙ ap (λ (s : List Gv). s ++ entry_coded.code e ∷ []) f.after ∙ sym (map-append entry_coded.code l (e ∷ []))) in
        subst (λ (g : List Entry). Each (λ y. y.place < passes) g) (sym same) (each_append (λ (y : Entry). y.place < passes) l (e ∷ []) f.numbers (subst (λ (k : ℕ). k < passes) (sym is) less, tt))

  pub history_of : (o : Opening) (s : State D) (h : List Entry) → StandsFor told state o s h → IsHistory o h
  history_of o s h st = record { legal = st.legal; turns = st.turns; paid = st.paid }

  pub state_shape : (o : Opening) (s : State D) (h : List Entry) → StandsFor told state o s h → s.table.shape ≡ o.first.fold.table.shape
  state_shape o s h st = ap (λ (b : Board). b.shape) (table_is told state o s h st) ∙ table_shape o.first.fold.table h

  -- a turn of the place finds a state that stands for the history, and for others' entries after it
  pub record FoundAt (o : Opening) (own : ℕ) (h : List Entry) (x : State D) (in_turn : List Gv) : Type 0 where
    pub later : List Entry
    pub others : Each (λ e. e.place ≢ own) later
    pub opening_is : opening_of state x ≡ o
    pub stands : StandsFor told state o x (h ++ later)
    -- those that the turnstile has had
    pub entries : List Entry
    pub in_turn_is : in_turn ≡ codes entries
    pub whole : began o.due ++ entries ≡ h ++ later

  pub found_at : (o : Opening) (own by passes : ℕ) (h : List Entry) (seen in_turn : List Gv) (x : State D) → by ≡ own → Found entry_coded.code (opening_of state) place_of (Stands told state) by passes o seen x in_turn → codes (began o.due) ++ seen ≡ codes h → FoundAt o own h x in_turn
  found_at o own by passes h seen in_turn x is f saw =
      let d = began o.due in
      let same : d ++ f.begun ≡ h = map_once entry_coded.code entry_coded.inj (d ++ f.begun) h (map-append entry_coded.code d f.begun ∙ ap (λ (s : List Gv). codes d ++ s) (sym f.before) ∙ saw) in
      let whole : d ++ (f.begun ++ f.later) ≡ h ++ f.later = sym (append_assoc d f.begun f.later) ∙ ap (λ (l : List Entry). l ++ f.later) same in
      record {
        later = f.later;
        others = subst (λ (n : ℕ). Each (λ e. e.place ≢ n) f.later) is f.others;
        opening_is = f.opening_is;
        stands = subst (λ (l : List Entry). StandsFor told state o x l) whole (subst (λ (y : Opening). StandsFor told state y x (began y.due ++ (f.begun ++ f.later))) f.opening_is f.stands_for);
        entries = f.begun ++ f.later;
        in_turn_is = f.after;
        whole = whole;
      }

  module _ (o : Opening) (own : ℕ) (h : List Entry) (x : State D) (in_turn : List Gv) (f : FoundAt o own h x in_turn) where
    -- a state of the same origin keeps the opening
    pub same_opening : (y : State D) → y.origin ≡ x.origin → opening_of state y ≡ o
    same_opening y is = ap (opening_in state) is ∙ f.opening_is

    leaves : (y : State D) (l : List Entry) → y.origin ≡ x.origin → StandsFor told state o y (began o.due ++ l) → Stands told state y l
    leaves y l is st = subst (λ (z : Opening). StandsFor told state z y (began z.due ++ l)) (sym (same_opening y is)) st

    pub codes_are : codes (began o.due) ++ in_turn ≡ codes (h ++ f.later)
    codes_are = ap (λ (s : List Gv). codes (began o.due) ++ s) f.in_turn_is ∙ sym (map-append entry_coded.code (began o.due) f.entries) ∙ ap codes f.whole

    whole_more : (e : Entry) → began o.due ++ (f.entries ++ e ∷ []) ≡ (h ++ f.later) ++ e ∷ []
    whole_more e = sym (append_assoc (began o.due) f.entries (e ∷ [])) ∙ ap (λ (l : List Entry). l ++ e ∷ []) f.whole

    -- what a turn that ends with an entry owes
    pub leave_stands : (y : State D) (n : ℕ) (op : Op) (out : Outcome) → n ≡ own → y.origin ≡ x.origin → StandsFor told state o y ((h ++ f.later) ++ entry own op out ∷ []) → (l : List Entry) × (in_turn ≡ codes l) × Stands told state y (l ++ entry n op out ∷ [])
    leave_stands y n op out is origin st =
        let e = entry own op out in
        let behind = leaves y (f.entries ++ e ∷ []) origin (subst (λ (l : List Entry). StandsFor told state o y l) (sym (whole_more e)) st) in
        (f.entries, f.in_turn_is, subst (λ (k : ℕ). Stands told state y (f.entries ++ entry k op out ∷ [])) (sym is) behind)

    -- and one that is given back
    pub back_stands : (y : State D) → y.origin ≡ x.origin → StandsFor told state o y (h ++ f.later) → (l : List Entry) × (in_turn ≡ codes l) × Stands told state y l
    back_stands y origin st = (f.entries, f.in_turn_is, leaves y f.entries origin (subst (λ (l : List Entry). StandsFor told state o y l) (sym f.whole) st))

    pub seen_own : (n : ℕ) (op : Op) (out : Outcome) (then_seen : List Gv) → n ≡ own → then_seen ≡ in_turn ++ entry_coded.code (entry n op out) ∷ [] → then_seen ≡ in_turn ++ entry_coded.code (entry own op out) ∷ []
    seen_own n op out then_seen is seen = subst (λ (k : ℕ). then_seen ≡ in_turn ++ entry_coded.code (entry k op out) ∷ []) is seen

    pub codes_more : (e : Entry) (then_seen : List Gv) → then_seen ≡ in_turn ++ entry_coded.code e ∷ [] → codes (began o.due) ++ then_seen ≡ codes ((h ++ f.later) ++ e ∷ [])
    codes_more e then_seen is =
        let d = codes (began o.due) in
        let c = entry_coded.code e ∷ [] in
        ap (λ (s : List Gv). d ++ s) is ∙ sym (append_assoc d in_turn c) ∙ ap (λ (l : List Gv). l ++ c) codes_are ∙ sym (map-append entry_coded.code (h ++ f.later) (e ∷ []))

    abbrev pub turned : (y : State D) (e : Entry) (then_seen : List Gv) → StandsFor told state o y ((h ++ f.later) ++ e ∷ []) → then_seen ≡ in_turn ++ entry_coded.code e ∷ [] → Turned o own h e then_seen
    turned y e then_seen st is = record {
      later = f.later;
      others = f.others;
      saw = record { codes_are = codes_more e then_seen is; history = history_of o y ((h ++ f.later) ++ e ∷ []) st };
    }

    abbrev pub turned_back : (y : State D) (then_seen : List Gv) → StandsFor told state o y (h ++ f.later) → then_seen ≡ in_turn → TurnedBack o own h then_seen
    turned_back y then_seen st is = record { later = f.later; others = f.others; saw = record { codes_are = ap (λ (s : List Gv). codes (began o.due) ++ s) is ∙ codes_are; history = history_of o y (h ++ f.later) st } }

    -- of a disk that tells its content no entry is astray
    never_astray : (all l : List Entry) (g : List Entry) → began o.due ++ l ≡ all → IsNeverAstray all → codes l ≡ codes g → IsNeverAstray g
    never_astray all l g whole never same = subst (λ (x : List Entry). IsNeverAstray x) (map_once entry_coded.code entry_coded.inj l g same) (never_behind (began o.due) l (subst (λ (x : List Entry). IsNeverAstray x) (sym whole) never))

    pub astray_own : (y : State D) (n : ℕ) (op : Op) (out : Outcome) (then_seen : List Gv) → n ≡ own → StandsFor told state o y ((h ++ f.later) ++ entry own op out ∷ []) → then_seen ≡ in_turn ++ entry_coded.code (entry n op out) ∷ [] → SawNoneAstray told then_seen
    astray_own y n op out then_seen is st seen = λ t g seen_is.
        let e = entry own op out in
        let here : then_seen ≡ codes (f.entries ++ e ∷ []) = seen_own n op out then_seen is seen ∙ ap (λ (s : List Gv). s ++ entry_coded.code e ∷ []) f.in_turn_is ∙ sym (map-append entry_coded.code f.entries (e ∷ [])) in
        never_astray ((h ++ f.later) ++ e ∷ []) (f.entries ++ e ∷ []) g (whole_more e) (st.astray t) (sym here ∙ seen_is)

    pub astray_back : (y : State D) (then_seen : List Gv) → StandsFor told state o y (h ++ f.later) → then_seen ≡ in_turn → SawNoneAstray told then_seen
    astray_back y then_seen st seen = λ t g seen_is. never_astray (h ++ f.later) f.entries g f.whole (st.astray t) (sym (seen ∙ f.in_turn_is) ∙ seen_is)

    entered : (y : State D) (op z : Op) (out w : Outcome) → Some (ends z w) ≡ Some (ends op out) → StandsFor told state o y ((h ++ f.later) ++ entry own z w ∷ []) → StandsFor told state o y ((h ++ f.later) ++ entry own op out ∷ [])
    entered y op z out w is at = subst (λ (x : Op × Outcome). StandsFor told state o y ((h ++ f.later) ++ entry own x.0 x.1 ∷ [])) (let e : ends z w ≡ ends op out = cc in e) at

    entered_code : (op z : Op) (out w : Outcome) (then_seen : List Gv) → Some (ends z w) ≡ Some (ends op out) → then_seen ≡ in_turn ++ entry_coded.code (entry own op out) ∷ [] → then_seen ≡ in_turn ++ entry_coded.code (entry own z w) ∷ []
    entered_code op z out w then_seen is seen = subst (λ (x : Op × Outcome). then_seen ≡ in_turn ++ entry_coded.code (entry own x.0 x.1) ∷ []) (sym (let e : ends z w ≡ ends op out = cc in e)) seen

    -- with an outcome of this operation
    outcome_entry : (op : Op) (out w : Outcome) → Some w ≡ Some out → Some (ends op w) ≡ Some (ends op out)
    outcome_entry op out w is = ap (λ (x : Outcome). Some (ends op x)) (let e : w ≡ out = cc in e)

    -- a turn that ends with an entry
    pub taken_stands : (op : Op) (y : State D) (t : Took D) (out : Outcome) → outcome_of t ≡ Some out → TakenIs told state o own (h ++ f.later) op y t → StandsFor told state o y ((h ++ f.later) ++ entry own op out ∷ [])
    taken_stands op y (took.Rolling d bytes) out is at = entered y op op out outcome.Taken (outcome_entry op out outcome.Taken is) at.0
    taken_stands op y (took.Denied q) out is at = entered y op op out (refused q) (outcome_entry op out (refused q) is) at.0
    taken_stands op y took.Halted out is at = absurd cc
    taken_stands op y took.Waits out is at = absurd cc

    -- or with none
    pub waits_stands : (op : Op) (y : State D) (t : Took D) → outcome_of t ≡ None → TakenIs told state o own (h ++ f.later) op y t → StandsFor told state o y (h ++ f.later)
    waits_stands op y (took.Rolling d bytes) is at = absurd cc
    waits_stands op y (took.Denied q) is at = absurd cc
    waits_stands op y took.Halted is at = at.0
    waits_stands op y took.Waits is at = at.0

    pub took_entry : (op : Op) (y : State D) (t : Took D) (out : Outcome) (then_seen : List Gv) → outcome_of t ≡ Some out → TakenIs told state o own (h ++ f.later) op y t → then_seen ≡ in_turn ++ entry_coded.code (entry own op out) ∷ [] → TookIs told state o own h op then_seen t
    took_entry op y (took.Rolling d bytes) out then_seen is at seen = (turned y (entry own op outcome.Taken) then_seen at.0 (entered_code op op out outcome.Taken then_seen (outcome_entry op out outcome.Taken is) seen), at.1)
    took_entry op y (took.Denied q) out then_seen is at seen = (turned y (entry own op (refused q)) then_seen at.0 (entered_code op op out (refused q) then_seen (outcome_entry op out (refused q) is) seen), at.1, at.2)
    took_entry op y took.Halted out then_seen is at seen = absurd cc
    took_entry op y took.Waits out then_seen is at seen = absurd cc

    pub took_back : (op : Op) (y : State D) (t : Took D) (then_seen : List Gv) → outcome_of t ≡ None → TakenIs told state o own (h ++ f.later) op y t → then_seen ≡ in_turn → TookIs told state o own h op then_seen t
    took_back op y (took.Rolling d bytes) then_seen is at seen = absurd cc
    took_back op y (took.Denied q) then_seen is at seen = absurd cc
    took_back op y took.Halted then_seen is at seen = (turned_back y then_seen at.0 seen, at.1)
    took_back op y took.Waits then_seen is at seen = (turned_back y then_seen at.0 seen, at.1)

    -- a turn in which a restart was to begin
    pub held_stands : (asked : Op) (y : State D) (t : Held D) (op : Op) (out : Outcome) → held_entry_of t ≡ Some (ends op out) → HeldIs told state o own (h ++ f.later) asked y t → StandsFor told state o y ((h ++ f.later) ++ entry own op out ∷ [])
    held_stands asked y (held.Held d) op out is at = entered y op Restart out outcome.Taken is at.0
    held_stands asked y held.Waits op out is at = absurd cc

    pub not_held_stands : (asked : Op) (y : State D) (t : Held D) → held_entry_of t ≡ None → HeldIs told state o own (h ++ f.later) asked y t → StandsFor told state o y (h ++ f.later)
    not_held_stands asked y (held.Held d) is at = absurd cc
    not_held_stands asked y held.Waits is at = at.0

    pub held_entry : (asked : Op) (y : State D) (t : Held D) (op : Op) (out : Outcome) (then_seen : List Gv) → held_entry_of t ≡ Some (ends op out) → HeldIs told state o own (h ++ f.later) asked y t → then_seen ≡ in_turn ++ entry_coded.code (entry own op out) ∷ [] → HoldIs told state o own h asked then_seen t
    held_entry asked y (held.Held d) op out then_seen is at seen = (turned y (entry own Restart outcome.Taken) then_seen at.0 (entered_code op Restart out outcome.Taken then_seen is seen), at.1)
    held_entry asked y held.Waits op out then_seen is at seen = absurd cc

    pub held_back : (asked : Op) (y : State D) (t : Held D) (then_seen : List Gv) → held_entry_of t ≡ None → HeldIs told state o own (h ++ f.later) asked y t → then_seen ≡ in_turn → HoldIs told state o own h asked then_seen t
    held_back asked y (held.Held d) then_seen is at seen = absurd cc
    held_back asked y held.Waits then_seen is at seen = (turned_back y then_seen at.0 seen, at.1)

  -- a retrieval
  pub turned_read : (o : Opening) (own : ℕ) (h : List Entry) (x : State D) (in_turn : List Gv) (f : FoundAt o own h x in_turn) → Rests own h → (op : Op) → IsRetrieval op → StandsFor told state o x ((h ++ f.later) ++ entry own op outcome.Answered ∷ [])
  turned_read o own h x in_turn f rests op reads = stands_read told state o x (h ++ f.later) f.stands own op reads (rests_behind own h f.later f.others rests)

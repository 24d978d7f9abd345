-- An order of turns passes each beginning of the changes that are made by it.
use Rattle.std.proofs.Common.{◌≡◌, ◌+◌, ℕ, suc, arith, length, length-append, List, [], ◌∷◌, ◌++◌, append-nil, append_assoc, option_to_list, Option, Some, None, refl, sym, ◌∙◌, ap, subst, inl, inr}
use Rattle.std.proofs.lemmas.Bool.Decides.{eqb_tells}
use Rattle.dxc_model.specs.declared.op.Change.{Change}
use Rattle.dxc_model.specs.Tables.{Board}
use Rattle.dxc_model.specs.Verdicts.{effect}
use Rattle.dxc_model.specs.declared.entry.Entry.{Entry}
use Rattle.dxc_model.specs.Histories.{changes_of, table_after}
use Rattle.dxc_model.specs.Steps.{after, made, with_change}
use Rattle.turnstile.proofs.OneHistory.{Either, beginnings, first_longer, first_shorter}
use Rattle.craft_session.specs.Asks.{Language}
use Rattle.craft_session.specs.Happenings.{quiet, unit}
use Rattle.craft_session.specs.Plain.{Excuse, Limit, Said}
use Rattle.craft_session.specs.declared.attending.Attending.{Attending}
use Rattle.craft_session.specs.Walks.{attending_after}
use Rattle.switch_laws.specs.Element.{Element, IsPlayed, Session, Turn, answer, answered, answers, call, comes, fresh, look, mend, mends, opens, reported, reports, rest, rested, rests, stop, stop_at_users, stops, stops_at_users, unanswered}
use Rattle.switch_laws.specs.Moments.{AreBegun, IsBegun, IsMoment, changed}
use Rattle.switch_laws.specs.Placed.{placed}
use Rattle.switch_laws.proofs.Placing.{placed_again, placed_else, placed_here}

abbrev hd : {A : Type 0} → A → List A → A
hd d [] = d
hd d (x ∷ xs) = x

abbrev tl : {A : Type 0} → List A → List A
tl [] = []
tl (x ∷ xs) = xs

same_rest : {A : Type 0} (xs ys zs : List A) → xs ++ ys ≡ xs ++ zs → ys ≡ zs
same_rest [] ys zs e = e
same_rest (x ∷ xs) ys zs e = same_rest xs ys zs (ap tl e)

no_more : {A : Type 0} (c d x : A) (more front : List A) → c ∷ [] ≡ x ∷ (front ++ d ∷ more) → ⊥
no_more c d x more front e =
    let long : 1 ≡ suc (length (front ++ d ∷ more)) = ap length e in
    let joined : length (front ++ d ∷ more) ≡ length front + suc (length more) = length-append front (d ∷ more) in
    omega (arith, long, joined)

changed_more : (t : Board) (cs : List Change) (c : Change) → effect (changed t cs) c ≡ changed t (cs ++ c ∷ [])
changed_more t [] c = refl
changed_more t (d ∷ cs) c = changed_more (effect t d) cs c

changed_made : (t : Board) (o : Option Change) (cs : List Change) → changed t (option_to_list o ++ cs) ≡ changed (with_change t o) cs
changed_made t None cs = refl
changed_made t (Some c) cs = refl

-- the table after a history is that with its changes made
pub table_changed : (t : Board) (h : List Entry) → table_after t h ≡ changed t (changes_of h)
table_changed t [] = refl
table_changed t (e ∷ es) = table_changed (after t e.outcome) es ∙ sym (changed_made t (made e.outcome) (changes_of es))

-- what a place had, where each goes on like this
module _ {S : Type 0} (goes_on : S → S → Type 0) (stay : (s : S) → goes_on s s) (further : (s t u : S) → goes_on s t → goes_on t u → goes_on s u) where
  pub all_stay : (ss : List S) → AreBegun goes_on ss ss
  all_stay [] = tt
  all_stay (s ∷ older) = ([], s, refl, stay s)

  pub one_came : (s : S) (ss : List S) → AreBegun goes_on ss (s ∷ ss)
  one_came s [] = tt
  one_came s (t ∷ older) = (s ∷ [], t, refl, stay t)

  pub newest_went_on : (s t : S) (older ss : List S) → ss ≡ s ∷ older → goes_on s t → AreBegun goes_on ss (t ∷ older)
  newest_went_on s t older ss is x = subst (λ (rs : List S). AreBegun goes_on rs (t ∷ older)) (sym is) ([], t, refl, x)

  begun_behind : (s t : S) (newer older us : List S) → goes_on s t → AreBegun goes_on (newer ++ t ∷ older) us → AreBegun goes_on (s ∷ older) us
  begun_behind s t [] older us x (more, u, is, y) = (more, u, is, further s t u x y)
  begun_behind s t (n ∷ newer) older us x (more, u, is, y) = (more ++ u ∷ newer, t, is ∙ sym (append_assoc more (u ∷ newer) (t ∷ older)), x)

  pub begun_on : (ss ts us : List S) → AreBegun goes_on ss ts → AreBegun goes_on ts us → AreBegun goes_on ss us
  begun_on [] ts us x y = tt
  begun_on (s ∷ older) ts us (newer, t, is, x) y = begun_behind s t newer older us x (subst (λ (rs : List S). AreBegun goes_on rs us) is y)

  -- only what one place had went on
  pub begun_at : (p : ℕ) (ss : List S) (f : ℕ → List S) → AreBegun goes_on (f p) ss → (k : ℕ) → AreBegun goes_on (f k) (placed p ss f k)
  begun_at p ss f x k = elim (eqb_tells k p) [
    | inl t ↦ subst (λ (n : ℕ). AreBegun goes_on (f n) (placed p ss f n)) (sym t.1) (subst (λ (rs : List S). AreBegun goes_on (f p) rs) (sym (placed_here p ss f)) x)
    | inr t ↦ subst (λ (rs : List S). AreBegun goes_on (f k) rs) (sym (placed_else p k ss f t.1)) (all_stay (f k))
  ]

module _ {U M : Type 0} where
  pub stays : (s : Session U M) → IsBegun s s
  stays s = record {
    happenings = [];
    happened = sym (append-nil s.happenings);
    moments = [];
    took = sym (append-nil s.said.moments);
    bytes = [];
    written = sym (append-nil s.said.bytes);
  }

  pub goes_further : (s t u : Session U M) → IsBegun s t → IsBegun t u → IsBegun s u
  goes_further s t u x y = record {
    happenings = x.happenings ++ y.happenings;
    happened = y.happened ∙ ap (λ hs. hs ++ y.happenings) x.happened ∙ append_assoc s.happenings x.happenings y.happenings;
    moments = x.moments ++ y.moments;
    took = y.took ∙ ap (λ ms. ms ++ y.moments) x.took ∙ append_assoc s.said.moments x.moments y.moments;
    bytes = x.bytes ++ y.bytes;
    written = y.written ∙ ap (λ bs. bs ++ y.bytes) x.written ∙ append_assoc s.said.bytes x.bytes y.bytes;
  }

  pub answered_on : (u : U) (x : Said M) (z : Attending) (s : Session U M) → IsBegun s (answered u x z s)
  answered_on u x z s = record { happenings = unit u ∷ []; happened = refl; moments = x.moments; took = refl; bytes = x.bytes; written = refl }

  pub unanswered_on : (u : U) (s : Session U M) → IsBegun s (unanswered u s)
  unanswered_on u s = record {
    happenings = unit u ∷ [];
    happened = refl;
    moments = [];
    took = sym (append-nil s.said.moments);
    bytes = [];
    written = sym (append-nil s.said.bytes);
  }

  pub rested_on : (s : Session U M) → IsBegun s (rested s)
  rested_on s = record {
    happenings = quiet ∷ [];
    happened = refl;
    moments = [];
    took = sym (append-nil s.said.moments);
    bytes = [];
    written = sym (append-nil s.said.bytes);
  }

  pub reported_on : (newest : ℕ) (x : Said M) (s : Session U M) → IsBegun s (reported newest x s)
  reported_on newest x s = record {
    happenings = [];
    happened = sym (append-nil s.happenings);
    moments = x.moments;
    took = refl;
    bytes = x.bytes;
    written = refl;
  }

  -- what one place had goes on
  pub step_begun : (p : ℕ) (v w : List (Session U M)) (f : ℕ → List (Session U M)) → AreBegun IsBegun v w → (k : ℕ) → AreBegun IsBegun (placed p v f k) (placed p w f k)
  step_begun p v w f x k =
      subst (λ (g : ℕ → List (Session U M)). AreBegun IsBegun (placed p v f k) (g k)) (placed_again p w v f)
      (begun_at IsBegun stays goes_further p w (placed p v f) (subst (λ (d : List (Session U M)). AreBegun IsBegun d w) (sym (placed_here p v f)) x) k)

module _ {U M : Type 0} (l : Language U M) (limit : Limit) (excused : Excuse) (start : Element U M) where
  abbrev Played : List (Turn U M) → Element U M → Type 0
  Played = IsPlayed l limit excused start

  abbrev MomentOf : List (Turn U M) → Element U M → List Change → List Change → Type 0
  MomentOf = IsMoment l limit excused start

  -- the changes so far, which the table has, and the moments so far
  record Passed (ts : List (Turn U M)) (e : Element U M) : Type 0 where
    pub so_far : List Change
    pub changes_are : e.changes ≡ start.changes ++ so_far
    pub table_is : e.table ≡ changed start.table so_far
    pub moment : (changes more : List Change) → e.changes ≡ start.changes ++ (changes ++ more) → MomentOf ts e changes more

  -- the table has whatever changes were made
  table_of : (ts : List (Turn U M)) (e : Element U M) (x : Passed ts e) (changes : List Change) → e.changes ≡ start.changes ++ changes → e.table ≡ changed start.table changes
  table_of ts e x changes is = x.table_is ∙ ap (changed start.table) (same_rest start.changes x.so_far changes (sym x.changes_are ∙ is))

  -- this moment, where no change follows
  now : (ts : List (Turn U M)) (e : Element U M) → Played ts e → (changes : List Change) → e.changes ≡ start.changes ++ changes → e.table ≡ changed start.table changes → MomentOf ts e changes []
  now ts e played changes is table = record {
    later = [];
    earlier = ts;
    order = refl;
    element = e;
    played = played;
    changes_are = is;
    table_is = table;
    begun = λ p. all_stay IsBegun stays goes_further (e.sessions p);
    next = λ c cs same. absurd (let long : 0 ≡ suc (length cs) = ap length same in omega (arith, long));
  }

  -- one turn more, by which one change was made or none
  module _ (t : Turn U M) (ts : List (Turn U M)) (e f : Element U M) (before : Played ts e) (played : Played (t ∷ ts) f) (begun : (p : ℕ) → AreBegun IsBegun (e.sessions p) (f.sessions p)) (x : Passed ts e) where
    longer : (changes more then_more : List Change) → MomentOf ts e changes more → ((c : Change) (cs : List Change) → then_more ≡ c ∷ cs → (also : List Change) × (more ≡ c ∷ also)) → MomentOf (t ∷ ts) f changes then_more
    longer changes more then_more m follows = record {
      later = t ∷ m.later;
      earlier = m.earlier;
      order = ap (λ (us : List (Turn U M)). t ∷ us) m.order;
      element = m.element;
      played = m.played;
      changes_are = m.changes_are;
      table_is = m.table_is;
      begun = λ p. begun_on IsBegun stays goes_further (m.element.sessions p) (e.sessions p) (f.sessions p) (m.begun p) (begun p);
      next = λ c cs is.
          let also = follows c cs is in
          let n = m.next c also.0 also.1 in
          record { turn = n.turn; others = t ∷ n.others; first = ap (λ (us : List (Turn U M)). t ∷ us) n.first; made = n.made; played = n.played; one_more = n.one_more };
    }

    module _ (none : f.changes ≡ e.changes) (table : f.table ≡ e.table) where
      unchanged_at : (changes more : List Change) → f.changes ≡ start.changes ++ (changes ++ more) → MomentOf (t ∷ ts) f changes more
      unchanged_at changes [] is =
          let all = is ∙ ap (λ (cs : List Change). start.changes ++ cs) (append-nil changes) in
          now (t ∷ ts) f played changes all (table ∙ table_of ts e x changes (sym none ∙ all))
      unchanged_at changes (c ∷ more) is = longer changes (c ∷ more) (c ∷ more) (x.moment changes (c ∷ more) (sym none ∙ is)) (λ d cs same. (cs, same))

      unchanged : Passed (t ∷ ts) f
      unchanged = record { so_far = x.so_far; changes_are = none ∙ x.changes_are; table_is = table ∙ x.table_is; moment = unchanged_at }

    module _ (d : Change) (one : f.changes ≡ e.changes ++ d ∷ []) (table : f.table ≡ effect e.table d) where
      abbrev made_now : List Change
      made_now = x.so_far ++ d ∷ []

      changes_now : f.changes ≡ start.changes ++ made_now
      changes_now = one ∙ ap (λ (cs : List Change). cs ++ d ∷ []) x.changes_are ∙ append_assoc start.changes x.so_far (d ∷ [])

      table_now : f.table ≡ changed start.table made_now
      table_now = table ∙ ap (λ (b : Board). effect b d) x.table_is ∙ changed_more start.table x.so_far d

      -- the moment before this turn
      before_it : (changes more : List Change) → e.changes ≡ start.changes ++ changes → more ≡ d ∷ [] → MomentOf (t ∷ ts) f changes more
      before_it changes more is all = record {
        later = t ∷ [];
        earlier = ts;
        order = refl;
        element = e;
        played = before;
        changes_are = is;
        table_is = table_of ts e x changes is;
        begun = begun;
        next = λ c cs same.
            let change : d ≡ c = ap (hd d) (sym all ∙ same) in
            record { turn = t; others = []; first = refl; made = f; played = played; one_more = subst (λ (y : Change). f.changes ≡ e.changes ++ y ∷ []) change one };
      }

      by_beginning : (changes : List Change) (c : Change) (more : List Change) → Either e.changes (d ∷ []) (start.changes ++ changes) (c ∷ more) → MomentOf (t ∷ ts) f changes (c ∷ more)
      by_beginning changes c more (first_shorter [] p q) = before_it changes (c ∷ more) (sym (append-nil e.changes) ∙ sym p) (sym q)
      by_beginning changes c more (first_shorter (y ∷ m) p q) = absurd (no_more d c y more m q)
      by_beginning changes c more (first_longer [] p q) = before_it changes (c ∷ more) (p ∙ append-nil (start.changes ++ changes)) q
      by_beginning changes c more (first_longer (y ∷ m) p q) =
          longer changes (y ∷ m) (c ∷ more) (x.moment changes (y ∷ m) (p ∙ append_assoc start.changes changes (y ∷ m)))
          (λ b cs same. (m, ap (λ (z : Change). z ∷ m) (ap (hd y) (sym q ∙ same))))

      changed_at : (changes more : List Change) → f.changes ≡ start.changes ++ (changes ++ more) → MomentOf (t ∷ ts) f changes more
      changed_at changes [] is =
          let all = is ∙ ap (λ (cs : List Change). start.changes ++ cs) (append-nil changes) in
          now (t ∷ ts) f played changes all (table_now ∙ ap (changed start.table) (same_rest start.changes made_now changes (sym changes_now ∙ all)))
      changed_at changes (c ∷ more) is =
          let whole : e.changes ++ d ∷ [] ≡ (start.changes ++ changes) ++ c ∷ more = sym one ∙ is ∙ sym (append_assoc start.changes changes (c ∷ more)) in
          by_beginning changes c more (beginnings e.changes (d ∷ []) (start.changes ++ changes) (c ∷ more) whole)

      one_changed : Passed (t ∷ ts) f
      one_changed = record { so_far = made_now; changes_are = changes_now; table_is = table_now; moment = changed_at }

    went : (did : Option Change) → f.changes ≡ e.changes ++ option_to_list did → f.table ≡ with_change e.table did → Passed (t ∷ ts) f
    went None changes table = unchanged (changes ∙ append-nil e.changes) table
    went (Some d) changes table = one_changed d changes table

  none_made : (changes more : List Change) → [] ≡ changes ++ more → MomentOf [] start changes more
  none_made [] [] is = now [] start opens [] (sym (append-nil start.changes)) refl
  none_made [] (c ∷ more) is = absurd (let long : 0 ≡ suc (length more) = ap length is in omega (arith, long))
  none_made (c ∷ changes) more is = absurd (let long : 0 ≡ suc (length (changes ++ more)) = ap length is in omega (arith, long))

  begins : Passed [] start
  begins = record {
    so_far = [];
    changes_are = sym (append-nil start.changes);
    table_is = refl;
    moment = λ changes more is. none_made changes more (same_rest start.changes [] (changes ++ more) (append-nil start.changes ∙ is));
  }

  passes : (ts : List (Turn U M)) (e : Element U M) → Played ts e → Passed ts e
  passes _ _ opens = begins
  passes _ _ (comes ts e p x) =
      went (call p) ts e _ x (comes ts e p x) (begun_at IsBegun stays goes_further p (fresh l ∷ e.sessions p) e.sessions (one_came IsBegun stays goes_further (fresh l) (e.sessions p))) (passes ts e x) None (sym (append-nil e.changes)) refl
  passes _ _ (answers ts e p s older u m r did at on none replies recalls may x) =
      let now_is = answered u (record { moments = m ∷ []; bytes = l.response m u r }) (attending_after s.attending (length e.changes) (l.asks s.attending.user u)) s in
      went (answer p u m) ts e _ x (answers ts e p s older u m r did at on none replies recalls may x) (begun_at IsBegun stays goes_further p (now_is ∷ older) e.sessions (newest_went_on IsBegun stays goes_further s now_is older (e.sessions p) at (answered_on u _ _ s))) (passes ts e x) did refl refl
  passes _ _ (rests ts e p s older at on none x) =
      went (rest p) ts e _ x (rests ts e p s older at on none x) (begun_at IsBegun stays goes_further p (rested s ∷ older) e.sessions (newest_went_on IsBegun stays goes_further s (rested s) older (e.sessions p) at (rested_on s))) (passes ts e x) None (sym (append-nil e.changes)) refl
  passes _ _ (reports ts e p s older cursor ms bytes at on due watch told x) =
      let now_is = reported (length e.changes) (record { moments = ms; bytes = bytes }) s in
      went (look p ms) ts e _ x (reports ts e p s older cursor ms bytes at on due watch told x) (begun_at IsBegun stays goes_further p (now_is ∷ older) e.sessions (newest_went_on IsBegun stays goes_further s now_is older (e.sessions p) at (reported_on (length e.changes) _ s))) (passes ts e x) None (sym (append-nil e.changes)) refl
  passes _ _ (mends ts e did due recalls x) =
      went (mend did) ts e _ x (mends ts e did due recalls x) (λ p. all_stay IsBegun stays goes_further (e.sessions p)) (passes ts e x) did refl refl
  passes _ _ (stops ts e p s older u op at on none cut under x) =
      went (stop p u op) ts e _ x (stops ts e p s older u op at on none cut under x) (begun_at IsBegun stays goes_further p (unanswered u s ∷ older) e.sessions (newest_went_on IsBegun stays goes_further s (unanswered u s) older (e.sessions p) at (unanswered_on u s))) (passes ts e x) None refl refl
  passes _ _ (stops_at_users ts e p s older u op at on none wants changing x) =
      went (stop_at_users p u) ts e _ x (stops_at_users ts e p s older u op at on none wants changing x) (begun_at IsBegun stays goes_further p (unanswered u s ∷ older) e.sessions (newest_went_on IsBegun stays goes_further s (unanswered u s) older (e.sessions p) at (unanswered_on u s))) (passes ts e x) None (sym (append-nil e.changes)) refl

  pub moment_of : (ts : List (Turn U M)) (e : Element U M) (changes more : List Change) → Played ts e → e.changes ≡ start.changes ++ (changes ++ more) → MomentOf ts e changes more
  moment_of ts e changes more played is = (passes ts e played).moment changes more is

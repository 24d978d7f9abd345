-- The histories of two turnstiles have one order, in which the entries of each place come as it took them.
use Rattle.std.proofs.Common.{◌≡◌, ◌≢◌, ℕ, ◌+◌, ◌<◌, Bool, true, false, cond, List, [], ◌∷◌, ◌++◌, map, filter, length, ◌⊎◌, inl, inr, sym, refl, ap, ap₂, ◌∙◌, subst, arith, append-nil, length-append}
use Rattle.std.proofs.lemmas.List.{length-map}
use Rattle.std.proofs.lemmas.List.Elements.{filter-append}
use mathlib.Core.Logic.{dite}
use native.Mathlib.Decide.{ℕ_discrete}
use Rattle.std.proofs.lemmas.Bool.{true≢false}
use base.Stored.{Gv}
use Rattle.turnstile.specs.declared.board.View.{View}
use Rattle.turnstile.specs.declared.sequential.Sequential.{Ghosts as SequenceOf}
use Rattle.turnstile.specs.Dating.{AreAll, AreRising, Stamp}
use Rattle.turnstile.specs.Laws.{HasSeen}
use Rattle.turnstile.specs.Orders.{TakesTurns, no_turns, turns_of_one, turns_of_other}
use Rattle.turnstile.proofs.Dated.{AreHigher, Dated, Takes, bare, dated, of_one, of_other, takes_none, takes_of_one, takes_of_other, used_of, with_dates}
use Rattle.turnstile.specs.Together.{HaveOneOrder}
use Rattle.turnstile.specs.Turning.{Each}
use Rattle.turnstile.specs.Turning.{Dated as IsDated}
use Rattle.turnstile.proofs.Dates.{all_after, all_weak}
use Rattle.turnstile.proofs.Lists.{each_append, map_once}
use Rattle.turnstile.proofs.Orders.{bare_one, bare_other, bare_used, merged, ones_merged, others_merged, takes_ones, takes_others, takes_rise, used_is}

abbrev hd : {A : Type 0} → A → List A → A
hd d [] = d
hd d (x ∷ xs) = x

abbrev tl : {A : Type 0} → List A → List A
tl [] = []
tl (x ∷ xs) = xs

numbers_front : {E : Type 0} (number : E → ℕ) (ss ts : List Stamp) (es fs : List E) → length ss ≡ length es → map (λ (t : Stamp). t.number) (ss ++ ts) ≡ map number (es ++ fs)
    → (map (λ (t : Stamp). t.number) ss ≡ map number es) × (map (λ (t : Stamp). t.number) ts ≡ map number fs)
numbers_front number [] ts [] fs l same = (refl, same)
numbers_front number [] ts (e ∷ es) fs l same = absurd (omega (arith, l))
numbers_front number (s ∷ ss) ts [] fs l same = absurd (omega (arith, l))
numbers_front number (s ∷ ss) ts (e ∷ es) fs l same = let r = numbers_front number ss ts es fs (omega (arith, l)) (ap tl same) in ((λ i. ap (hd s.number) same i ∷ r.0 i), r.1)

module _ {E : Type 0} where
  above_dates : (d : ℕ) (ss : List Stamp) (es : List E) → AreAll (λ t. d < t.date) ss → Each (λ y. d < y.date) (with_dates ss es)
  above_dates d [] es a = tt
  above_dates d (s ∷ ss) [] a = tt
  above_dates d (s ∷ ss) (e ∷ es) a = (a.0, above_dates d ss es a.1)

  dates_rise : (ss : List Stamp) (es : List E) → AreRising ss → AreHigher (with_dates ss es)
  dates_rise [] es r = tt
  dates_rise (s ∷ ss) [] r = tt
  dates_rise (s ∷ ss) (e ∷ es) r = (above_dates s.date ss es r.0, dates_rise ss es r.1)

  dates_append : (ss ts : List Stamp) (es fs : List E) → length ss ≡ length es → with_dates (ss ++ ts) (es ++ fs) ≡ with_dates ss es ++ with_dates ts fs
  dates_append [] ts [] fs l = refl
  dates_append [] ts (e ∷ es) fs l = absurd (omega (arith, l))
  dates_append (s ∷ ss) ts [] fs l = absurd (omega (arith, l))
  dates_append (s ∷ ss) ts (e ∷ es) fs l = ap (λ (x : List (Dated E)). dated s.date e ∷ x) (dates_append ss ts es fs (omega (arith, l)))

  bare_dates : (ss : List Stamp) (es : List E) → length ss ≡ length es → bare (with_dates ss es) ≡ es
  bare_dates [] [] l = refl
  bare_dates [] (e ∷ es) l = absurd (omega (arith, l))
  bare_dates (s ∷ ss) [] l = absurd (omega (arith, l))
  bare_dates (s ∷ ss) (e ∷ es) l = ap (λ (x : List E). e ∷ x) (bare_dates ss es (omega (arith, l)))

  none_used : (test : E → Bool) (ss : List Stamp) (es : List E) → Each (λ e. test e ≡ false) es → filter (λ (x : Dated E). test x.entry) (with_dates ss es) ≡ []
  none_used test [] es a = refl
  none_used test (s ∷ ss) [] a = refl
  none_used test (s ∷ ss) (e ∷ es) a = ap (λ (b : Bool). cond b (dated s.date e ∷ filter (λ (x : Dated E). test x.entry) (with_dates ss es)) (filter (λ (x : Dated E). test x.entry) (with_dates ss es))) a.0
      ∙ none_used test ss es a.1

  each_mapped : (P Q : E → Type 0) → ((e : E) → P e → Q e) → (es : List E) → Each P es → Each Q es
  each_mapped P Q f [] a = tt
  each_mapped P Q f (e ∷ es) a = (f e a.0, each_mapped P Q f es a.1)

  -- what a place uses of a history is what it uses of what it has seen
  module _ (code : E → Gv) (once : (x y : E) → code x ≡ code y → x ≡ y) (number : E → ℕ) (history : List E) (stamps : List Stamp) (place : ℕ) (v : View) (test : E → Bool) where
    used_seen : ((e : E) → number e ≢ place → test e ≡ false) → v.number ≡ place → HasSeen code number history v.number v.seen → IsDated stamps v → (seen : List E) → v.seen ≡ map code seen
        → filter (λ (x : Dated E). test x.entry) (with_dates v.stamps seen) ≡ filter (λ (x : Dated E). test x.entry) (with_dates stamps history)
    used_seen own is x dates seen codes =
        let same : x.begun ≡ seen = map_once code once x.begun seen (sym x.codes ∙ codes) in
        let many : length v.stamps ≡ length seen = dates.as_many ∙ (ap length codes ∙ length-map seen code) in
        let whole : seen ++ x.later ≡ history = ap (λ (l : List E). l ++ x.later) (sym same) ∙ x.whole in
        let parts : with_dates stamps history ≡ with_dates v.stamps seen ++ with_dates dates.front.more x.later = ap₂ (λ (ss : List Stamp) (es : List E). with_dates ss es) dates.front.whole (sym whole) ∙ dates_append v.stamps dates.front.more seen x.later many in
        let rest : filter (λ (y : Dated E). test y.entry) (with_dates dates.front.more x.later) ≡ [] = none_used test dates.front.more x.later
        (each_mapped (λ e. number e ≢ v.number) (λ e. test e ≡ false) (λ e ne. own e (subst (λ (k : ℕ). number e ≢ k) is ne)) x.later x.others) in
        sym (ap (filter (λ (y : Dated E). test y.entry)) parts ∙ (filter-append (λ (y : Dated E). test y.entry) (with_dates v.stamps seen) (with_dates dates.front.more x.later)
        ∙ (ap (λ (l : List (Dated E)). filter (λ (y : Dated E). test y.entry) (with_dates v.stamps seen) ++ l) rest ∙ append-nil (filter (λ (y : Dated E). test y.entry) (with_dates v.stamps seen)))))

-- the stamps that a pass has seen carry the numbers of the entries that it has seen
numbers_seen : {E : Type 0} (code : E → Gv) → ((x y : E) → code x ≡ code y → x ≡ y) → (number : E → ℕ) (history : List E) (stamps : List Stamp) (v : View) → map (λ (t : Stamp). t.number) stamps ≡ map number history
    → HasSeen code number history v.number v.seen → IsDated stamps v → (seen : List E) → v.seen ≡ map code seen → map (λ (t : Stamp). t.number) v.stamps ≡ map number seen
numbers_seen {E} code once number history stamps v stamped x dates seen codes =
    let same : x.begun ≡ seen = map_once code once x.begun seen (sym x.codes ∙ codes) in
    let many : length v.stamps ≡ length seen = dates.as_many ∙ (ap length codes ∙ length-map seen code) in
    let whole : seen ++ x.later ≡ history = ap (λ (l : List E). l ++ x.later) (sym same) ∙ x.whole in
    (numbers_front number v.stamps dates.front.more seen x.later many (ap (map (λ (t : Stamp). t.number)) (sym dates.front.whole) ∙ (stamped ∙ ap (map number) (sym whole)))).0

as_many : {E : Type 0} (number : E → ℕ) (ss : List Stamp) (es : List E) → map (λ (t : Stamp). t.number) ss ≡ map number es → length ss ≡ length es
as_many number ss es same = sym (length-map ss (λ (t : Stamp). t.number)) ∙ (ap length same ∙ length-map es number)

bare_append : {C : Type 0} (xs ys : List (Dated C)) → bare (xs ++ ys) ≡ bare xs ++ bare ys
bare_append [] ys = refl
bare_append {C} (x ∷ xs) ys = ap (λ (l : List C). x.entry ∷ l) (bare_append xs ys)

all_front : (P : Stamp → Type 0) (ss ts : List Stamp) → AreAll P (ss ++ ts) → AreAll P ss
all_front P [] ts a = tt
all_front P (s ∷ ss) ts a = (a.0, all_front P ss ts a.1)

rising_front : (ss ts : List Stamp) → AreRising (ss ++ ts) → AreRising ss
rising_front [] ts r = tt
rising_front (s ∷ ss) ts r = (all_front (λ t. s.date < t.date) ss ts r.0, rising_front ss ts r.1)

all_two : (P Q R : Stamp → Type 0) → ((s : Stamp) → P s → Q s → R s) → (ss : List Stamp) → AreAll P ss → AreAll Q ss → AreAll R ss
all_two P Q R f [] a b = tt
all_two P Q R f (s ∷ ss) a b = (f s a.0 b.0, all_two P Q R f ss a.1 b.1)

all_any : (ss : List Stamp) → AreAll (λ s. Unit {0}) ss
all_any [] = tt
all_any (s ∷ ss) = (tt, all_any ss)

-- those behind have higher dates than those before
rising_across : (ss more : List Stamp) → AreRising (ss ++ more) → AreAll (λ s. AreAll (λ u. u.date < s.date) ss) more
rising_across [] more r = all_any more
rising_across (t ∷ ss) more r = all_two (λ s. t.date < s.date) (λ s. AreAll (λ u. u.date < s.date) ss) (λ s. AreAll (λ u. u.date < s.date) (t ∷ ss)) (λ s a b. (a, b)) more
    (all_after (λ s. t.date < s.date) ss more r.0) (rising_across ss more r.1)

many_append : {C : Type 0} (ss more : List Stamp) (h es : List C) → length ss ≡ length h → length more ≡ length es → length (ss ++ more) ≡ length (h ++ es)
many_append ss more h es l m = length-append ss more ∙ (ap₂ (λ (a b : ℕ). a + b) l m ∙ sym (length-append h es))

-- What a place took is dated by its stamps
module _ {A B : Type 0} (used : A ⊎ B → Bool) (place : ℕ) (number : A → ℕ) (other_number : B → ℕ) (own : (a : A) → number a ≢ place → used (inl a) ≡ false) (other_own : (b : B) → other_number b ≢ place → used (inr b) ≡ false) where
  mine_one : (s : Stamp) (e : A) → s.number ≡ number e → used (inl e) ≡ true → s.number ≡ place
  mine_one s e same is = dite (ℕ_discrete s.number place) (λ y. y) (λ n. absurd (true≢false (sym is ∙ own e (λ q. n (same ∙ q)))))

  used_at_one : (P : ℕ → Type 0) (more : List Stamp) (es : List A) → map (λ (t : Stamp). t.number) more ≡ map number es → AreAll (λ s. s.number ≡ place → P s.date) more
      → Each (λ (u : Dated (A ⊎ B)). P u.date) (used_of used (of_one (with_dates more es)))
  used_at_one P [] es same a = tt
  used_at_one P (s ∷ more) [] same a = tt
  used_at_one P (s ∷ more) (e ∷ es) same a = by_case (used (inl e)) refl (used_at_one P more es (ap tl same) a.1) where
    by_case : (b : Bool) → used (inl e) ≡ b → Each (λ (u : Dated (A ⊎ B)). P u.date) (used_of used (of_one (with_dates more es)))
        → Each (λ (u : Dated (A ⊎ B)). P u.date) (cond b (dated s.date (inl e) ∷ used_of used (of_one (with_dates more es))) (used_of used (of_one (with_dates more es))))
    by_case true is ih = (a.0 (mine_one s e (ap (hd s.number) same) is), ih)
    by_case false is ih = ih

  bare_of_one : (ss : List Stamp) (es : List A) → length ss ≡ length es → bare (of_one (with_dates ss es)) ≡ map {B = A ⊎ B} inl es
  bare_of_one [] [] l = refl
  bare_of_one [] (e ∷ es) l = absurd (omega (arith, l))
  bare_of_one (s ∷ ss) [] l = absurd (omega (arith, l))
  bare_of_one (s ∷ ss) (e ∷ es) l = ap (λ (x : List (A ⊎ B)). inl e ∷ x) (bare_of_one ss es (omega (arith, l)))

  used_bare_one : (us : List (A ⊎ B)) (took : List (Dated (A ⊎ B))) (more : List Stamp) (es : List A) → length more ≡ length es → bare took ≡ us
      → bare (took ++ used_of used (of_one (with_dates more es))) ≡ us ++ filter used (map inl es)
  used_bare_one us took more es l same = bare_append took (used_of used (of_one (with_dates more es)))
      ∙ ap₂ (λ (x y : List (A ⊎ B)). x ++ y) same (sym (bare_used used (of_one (with_dates more es))) ∙ ap (filter used) (bare_of_one more es l))

  mine_other : (s : Stamp) (e : B) → s.number ≡ other_number e → used (inr e) ≡ true → s.number ≡ place
  mine_other s e same is = dite (ℕ_discrete s.number place) (λ y. y) (λ n. absurd (true≢false (sym is ∙ other_own e (λ q. n (same ∙ q)))))

  used_at_other : (P : ℕ → Type 0) (more : List Stamp) (es : List B) → map (λ (t : Stamp). t.number) more ≡ map other_number es → AreAll (λ s. s.number ≡ place → P s.date) more
      → Each (λ (u : Dated (A ⊎ B)). P u.date) (used_of used (of_other (with_dates more es)))
  used_at_other P [] es same a = tt
  used_at_other P (s ∷ more) [] same a = tt
  used_at_other P (s ∷ more) (e ∷ es) same a = by_case (used (inr e)) refl (used_at_other P more es (ap tl same) a.1) where
    by_case : (b : Bool) → used (inr e) ≡ b → Each (λ (u : Dated (A ⊎ B)). P u.date) (used_of used (of_other (with_dates more es)))
        → Each (λ (u : Dated (A ⊎ B)). P u.date) (cond b (dated s.date (inr e) ∷ used_of used (of_other (with_dates more es))) (used_of used (of_other (with_dates more es))))
    by_case true is ih = (a.0 (mine_other s e (ap (hd s.number) same) is), ih)
    by_case false is ih = ih

  bare_of_other : (ss : List Stamp) (es : List B) → length ss ≡ length es → bare (of_other (with_dates ss es)) ≡ map {B = A ⊎ B} inr es
  bare_of_other [] [] l = refl
  bare_of_other [] (e ∷ es) l = absurd (omega (arith, l))
  bare_of_other (s ∷ ss) [] l = absurd (omega (arith, l))
  bare_of_other (s ∷ ss) (e ∷ es) l = ap (λ (x : List (A ⊎ B)). inr e ∷ x) (bare_of_other ss es (omega (arith, l)))

  used_bare_other : (us : List (A ⊎ B)) (took : List (Dated (A ⊎ B))) (more : List Stamp) (es : List B) → length more ≡ length es → bare took ≡ us
      → bare (took ++ used_of used (of_other (with_dates more es))) ≡ us ++ filter used (map inr es)
  used_bare_other us took more es l same = bare_append took (used_of used (of_other (with_dates more es)))
      ∙ ap₂ (λ (x y : List (A ⊎ B)). x ++ y) same (sym (bare_used used (of_other (with_dates more es))) ∙ ap (filter used) (bare_of_other more es l))

  as_many_turns : (ss : List Stamp) (h : List A) (ts : List Stamp) (g : List B) (us : List (A ⊎ B)) → TakesTurns used place ss h ts g us → (length ss ≡ length h) × (length ts ≡ length g)
  as_many_turns _ _ _ _ _ no_turns = (refl, refl)
  as_many_turns _ _ _ _ _ (turns_of_one ss more h es ts g us l higher t) = let m = as_many_turns ss h ts g us t in (many_append ss more h es m.0 l, m.1)
  as_many_turns _ _ _ _ _ (turns_of_other ss h ts more g es us l higher t) = let m = as_many_turns ss h ts g us t in (m.0, many_append ts more g es m.1 l)

  -- own stamps have lower dates than this
  abbrev OwnBelow : ℕ → List Stamp → Type 0
  OwnBelow d ss = AreAll (λ s. s.number ≡ place → s.date < d) ss

  record IsDatedBy (ss : List Stamp) (h : List A) (ts : List Stamp) (g : List B) (us : List (A ⊎ B)) : Type 0 where
    pub took : List (Dated (A ⊎ B))
    pub bare_is : bare took ≡ us
    pub takes : Takes used (with_dates ss h) (with_dates ts g) took
    pub below : (d : ℕ) → OwnBelow d ss → OwnBelow d ts → Each (λ (z : Dated (A ⊎ B)). z.date < d) took

  takes_dated : (ss : List Stamp) (h : List A) (ts : List Stamp) (g : List B) (us : List (A ⊎ B)) → TakesTurns used place ss h ts g us
      → map (λ (t : Stamp). t.number) ss ≡ map number h → map (λ (t : Stamp). t.number) ts ≡ map other_number g → AreRising ss → AreRising ts → IsDatedBy ss h ts g us
  takes_dated _ _ _ _ _ no_turns same other_same rise other_rise = record { took = []; bare_is = refl; takes = takes_none; below = λ d a b. tt }
  takes_dated _ _ _ _ _ (turns_of_one ss more h es ts g us l higher t) same other_same rise other_rise =
      let m = as_many_turns ss h ts g us t in let n = numbers_front number ss more h es m.0 same in let ih = takes_dated ss h ts g us t n.0 other_same (rising_front ss more rise) other_rise in
      let new : List (Dated (A ⊎ B)) = used_of used (of_one (with_dates more es)) in record {
        took = ih.took ++ new;
        bare_is = used_bare_one us ih.took more es l ih.bare_is;
        takes = subst (λ (x : List (Dated A)). Takes used x (with_dates ts g) (ih.took ++ new)) (sym (dates_append ss more h es m.0))
            (takes_of_one (with_dates ss h) (with_dates more es) (with_dates ts g) ih.took
            (used_at_one (λ d. Each (λ (z : Dated (A ⊎ B)). z.date < d) ih.took) more es n.1
            (all_two (λ s. AreAll (λ u. u.date < s.date) ss) (λ s. s.number ≡ place → OwnBelow s.date ts) (λ s. s.number ≡ place → Each (λ (z : Dated (A ⊎ B)). z.date < s.date) ih.took)
            (λ s a b mine. ih.below s.date (all_weak (λ u. u.date < s.date) (λ u. u.number ≡ place → u.date < s.date) (λ u k _. k) ss a) (b mine)) more (rising_across ss more rise) higher)) ih.takes);
        below = λ d a b. each_append (λ (z : Dated (A ⊎ B)). z.date < d) ih.took new (ih.below d (all_front (λ s. s.number ≡ place → s.date < d) ss more a) b)
            (used_at_one (λ k. k < d) more es n.1 (all_after (λ s. s.number ≡ place → s.date < d) ss more a));
      }
  takes_dated _ _ _ _ _ (turns_of_other ss h ts more g es us l higher t) same other_same rise other_rise =
      let m = as_many_turns ss h ts g us t in let n = numbers_front other_number ts more g es m.1 other_same in let ih = takes_dated ss h ts g us t same n.0 rise (rising_front ts more other_rise) in
      let new : List (Dated (A ⊎ B)) = used_of used (of_other (with_dates more es)) in record {
        took = ih.took ++ new;
        bare_is = used_bare_other us ih.took more es l ih.bare_is;
        takes = subst (λ (y : List (Dated B)). Takes used (with_dates ss h) y (ih.took ++ new)) (sym (dates_append ts more g es m.1))
            (takes_of_other (with_dates ss h) (with_dates ts g) (with_dates more es) ih.took
            (used_at_other (λ d. Each (λ (z : Dated (A ⊎ B)). z.date < d) ih.took) more es n.1
            (all_two (λ s. AreAll (λ u. u.date < s.date) ts) (λ s. s.number ≡ place → OwnBelow s.date ss) (λ s. s.number ≡ place → Each (λ (z : Dated (A ⊎ B)). z.date < s.date) ih.took)
            (λ s a b mine. ih.below s.date (b mine) (all_weak (λ u. u.date < s.date) (λ u. u.number ≡ place → u.date < s.date) (λ u k _. k) ts a)) more (rising_across ts more other_rise) higher)) ih.takes);
        below = λ d a b. each_append (λ (z : Dated (A ⊎ B)). z.date < d) ih.took new (ih.below d a (all_front (λ s. s.number ≡ place → s.date < d) ts more b))
            (used_at_other (λ k. k < d) more es n.1 (all_after (λ s. s.number ≡ place → s.date < d) ts more b));
      }

module _ {S E T F : Type 0} (g : SequenceOf S E) (j : SequenceOf T F) where
  pub one_order : HaveOneOrder g j
  one_order key s one other_key t other u places took has =
      let xs : List (Dated E) = with_dates one.stamps one.history in let ys : List (Dated F) = with_dates other.stamps other.history in
      let high : AreHigher xs = dates_rise one.stamps one.history one.rising in let other_high : AreHigher ys = dates_rise other.stamps other.history other.rising in record {
        order = bare (merged xs ys);
        of_both = record {
          one = bare_one (merged xs ys) ∙ (ap bare (ones_merged xs ys high) ∙ bare_dates one.stamps one.history (as_many g.number one.stamps one.history one.stamped));
          other = bare_other (merged xs ys) ∙ (ap bare (others_merged xs ys) ∙ bare_dates other.stamps other.history (as_many j.number other.stamps other.history other.stamped));
        };
        own = λ k lt. let h = has k lt in let x = h.taken in let v : View = h.view in let w : View = h.other in
            let d = one.dated (k + 1) v h.sits in let e = other.dated (k + 1) w h.other_sits in
            let here = one.seen (k + 1) v h.sits in let there = other.seen (k + 1) w h.other_sits in
            let rise : AreRising v.stamps = rising_front v.stamps d.front.more (subst AreRising d.front.whole one.rising) in
            let other_rise : AreRising w.stamps = rising_front w.stamps e.front.more (subst AreRising e.front.whole other.rising) in
            let numbers = numbers_seen g.entry_code.code g.entry_code.inj g.number one.history one.stamps v one.stamped here d x.seen x.codes in
            let other_numbers = numbers_seen j.entry_code.code j.entry_code.inj j.number other.history other.stamps w other.stamped there e x.other_seen x.other_codes in
            let dt = takes_dated (u.used k) k g.number j.number (u.own k) (u.other_own k) v.stamps x.seen w.stamps x.other_seen (took k) x.takes numbers other_numbers rise other_rise in
            bare_used (u.used k) (merged xs ys) ∙ (ap bare (used_is (u.used k) xs ys dt.took other_high
            (takes_rise (u.used k) (with_dates v.stamps x.seen) (with_dates w.stamps x.other_seen) dt.took dt.takes (dates_rise v.stamps x.seen rise) (dates_rise w.stamps x.other_seen other_rise))
            (takes_ones (u.used k) (with_dates v.stamps x.seen) (with_dates w.stamps x.other_seen) dt.took dt.takes
            ∙ used_seen g.entry_code.code g.entry_code.inj g.number one.history one.stamps k v (λ a. u.used k (inl a)) (u.own k) (one.sits k v h.sits) here d x.seen x.codes)
            (takes_others (u.used k) (with_dates v.stamps x.seen) (with_dates w.stamps x.other_seen) dt.took dt.takes
            ∙ used_seen j.entry_code.code j.entry_code.inj j.number other.history other.stamps k w (λ b. u.used k (inr b)) (u.other_own k) (other.sits k w h.other_sits) there e x.other_seen x.other_codes)) ∙ dt.bare_is);
      }

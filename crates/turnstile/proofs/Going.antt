-- How a place goes on that has passes of two turnstiles.
use Rattle.std.proofs.Common.{◌≡◌, ◌≢◌, ℕ, ◌+◌, ◌<◌, Bool, List, [], ◌∷◌, ◌++◌, map, filter, length, ◌⊎◌, inl, inr, sym, refl, ap, ap₂, ◌∙◌, subst, arith, append-nil, append_assoc, length-append}
use Rattle.std.proofs.lemmas.List.{length-map, map-append}
use base.Stored.{Gv}
use Rattle.turnstile.specs.Dating.{AreAll, AreOthers, GoOn, IsOwnAbove, Stamp, newest, stamp}
use Rattle.turnstile.specs.Orders.{TakesTurns, no_turns, turns_of_one, turns_of_other}
use Rattle.turnstile.specs.Passing.{GoesOn, Token, with_heard}
use Rattle.turnstile.specs.Together.{TookOn}
use Rattle.turnstile.specs.Turning.{Found}
use Rattle.turnstile.proofs.Dates.{above_newest, all_append, all_weak}
use Rattle.turnstile.proofs.Lists.{map_once}

-- others' entries, and then one of the pass itself with a higher date than it had heard
pub went_on : (own heard : ℕ) (old found new : List Stamp) (d : ℕ) → AreOthers own old found → new ≡ found ++ stamp d own ∷ [] → heard < d → GoOn own heard old new
went_on own heard old found new d a is high = record {
  more = a.more ++ stamp d own ∷ [];
  whole = is ∙ (ap (λ (l : List Stamp). l ++ stamp d own ∷ []) a.whole ∙ append_assoc old a.more (stamp d own ∷ []));
  higher = all_append (λ s. s.number ≡ own → heard < s.date) a.more (stamp d own ∷ []) (all_weak (λ s. s.number ≢ own) (λ s. s.number ≡ own → heard < s.date) (λ s ne e. absurd (ne e)) a.more a.others) ((λ _. high), tt);
}

-- others' entries alone
pub went_back : (own heard : ℕ) (old found new : List Stamp) → AreOthers own old found → new ≡ found → GoOn own heard old new
went_back own heard old found new a is = record { more = a.more; whole = is ∙ a.whole; higher = all_weak (λ s. s.number ≢ own) (λ s. s.number ≡ own → heard < s.date) (λ s ne e. absurd (ne e)) a.more a.others }

-- no turn, and turns after others
pub goes_none : (p : Token) → GoesOn p p
goes_none p = record { same = (refl, refl); dates = record { more = []; whole = sym (append-nil p.stamps); higher = tt } }

pub goes_more : (p q r : Token) → GoesOn p q → GoesOn q r → GoesOn p r
goes_more p q r first next =
    let a = first.dates in
    let b : GoOn p.number p.heard q.stamps r.stamps = subst (λ (x : ℕ × ℕ). GoOn x.0 x.1 q.stamps r.stamps) (λ i. (first.same.0 i, first.same.1 i)) next.dates in record {
      same = (next.same.0 ∙ first.same.0, next.same.1 ∙ first.same.1);
      dates = record { more = a.more ++ b.more; whole = b.whole ∙ (ap (λ (l : List Stamp). l ++ b.more) a.whole ∙ append_assoc p.stamps a.more b.more); higher = all_append (λ s. s.number ≡ p.number → p.heard < s.date) a.more b.more a.higher b.higher };
    }

-- what is above all that was heard is above the pass's own of it
own_above : (own : ℕ) (seen more : List Stamp) → AreAll (λ s. s.number ≡ own → newest seen < s.date) more → IsOwnAbove own seen more
own_above own seen more a = all_weak (λ s. s.number ≡ own → newest seen < s.date) (λ s. s.number ≡ own → AreAll (λ t. t.number ≡ own → t.date < s.date) seen)
    (λ s k mine. all_weak (λ t. t.date < s.date) (λ t. t.number ≡ own → t.date < s.date) (λ t l _. l) seen (above_newest seen s.date (k mine))) more a

-- one stamp more, and one code more
pub as_many_on : (found new : List Stamp) (seen then_ : List Gv) (s : Stamp) (e : Gv) → length found ≡ length seen → new ≡ found ++ s ∷ [] → then_ ≡ seen ++ e ∷ [] → length new ≡ length then_
as_many_on found new seen then_ s e l is codes = ap length is ∙ (length-append found (s ∷ []) ∙ (ap (λ (n : ℕ). n + 1) l ∙ (sym (length-append seen (e ∷ [])) ∙ sym (ap length codes))))

-- what was seen goes on
pub seen_on : {X E O : Type 0} (code : E → Gv) (once : (x y : E) → code x ≡ code y → x ≡ y) (opening : X → O) (number : E → ℕ) (stands : X → List E → Type 0) (own passes : ℕ) (o : O) (seen found new : List Gv) (x : X) (e : E)
    → Found code opening number stands own passes o seen x found → new ≡ found ++ code e ∷ [] → (h : List E) → seen ≡ map code h → (es : List E) × (new ≡ map code (h ++ es))
seen_on {X} {E} code once opening number stands own passes o seen found new x e f is h codes =
    let same : f.begun ≡ h = map_once code once f.begun h (sym f.before ∙ codes) in (
      f.later ++ e ∷ [],
      is ∙ (ap (λ (l : List Gv). l ++ code e ∷ []) f.after ∙ (sym (map-append code (f.begun ++ f.later) (e ∷ [])) ∙ ap (map code) (append_assoc f.begun f.later (e ∷ []) ∙ ap (λ (l : List E). l ++ (f.later ++ e ∷ [])) same))),
    )

module _ {A B : Type 0} (used : A ⊎ B → Bool) (place : ℕ) where
  as_many : (ss : List Stamp) (h : List A) (ts : List Stamp) (g : List B) (us : List (A ⊎ B)) → TakesTurns used place ss h ts g us → (length ss ≡ length h) × (length ts ≡ length g)
  as_many _ _ _ _ _ no_turns = (refl, refl)
  as_many _ _ _ _ _ (turns_of_one ss more h es ts g us l higher t) = let m = as_many ss h ts g us t in (length-append ss more ∙ (ap₂ (λ (a b : ℕ). a + b) m.0 l ∙ sym (length-append h es)), m.1)
  as_many _ _ _ _ _ (turns_of_other ss h ts more g es us l higher t) = let m = as_many ss h ts g us t in (m.0, length-append ts more ∙ (ap₂ (λ (a b : ℕ). a + b) m.1 l ∙ sym (length-append g es)))

  many_more : {C : Type 0} (ss more all : List Stamp) (h es : List C) → length ss ≡ length h → all ≡ ss ++ more → length all ≡ length (h ++ es) → length more ≡ length es
  many_more ss more all h es l is m = let a = length-append ss more in let b = length-append h es in let c = ap length is in omega (arith, l, m, a, b, c)

  pub on_one : (ss all : List Stamp) (h es : List A) (ts : List Stamp) (g : List B) (us : List (A ⊎ B)) → GoOn place (newest ts) ss all → length all ≡ length (h ++ es) → TakesTurns used place ss h ts g us
      → TakesTurns used place all (h ++ es) ts g (us ++ filter used (map inl es))
  on_one ss all h es ts g us x m t = subst (λ (l : List Stamp). TakesTurns used place l (h ++ es) ts g (us ++ filter used (map inl es))) (sym x.whole)
      (turns_of_one ss x.more h es ts g us (many_more ss x.more all h es (as_many ss h ts g us t).0 x.whole m) (own_above place ts x.more x.higher) t)

  pub on_other : (ss : List Stamp) (h : List A) (ts all : List Stamp) (g es : List B) (us : List (A ⊎ B)) → GoOn place (newest ss) ts all → length all ≡ length (g ++ es) → TakesTurns used place ss h ts g us
      → TakesTurns used place ss h all (g ++ es) (us ++ filter used (map inr es))
  on_other ss h ts all g es us x m t = subst (λ (l : List Stamp). TakesTurns used place ss h l (g ++ es) (us ++ filter used (map inr es))) (sym x.whole)
      (turns_of_other ss h ts x.more g es us (many_more ts x.more all g es (as_many ss h ts g us t).1 x.whole m) (own_above place ss x.more x.higher) t)

-- the place hears, takes turns with the one, hears, and takes turns with the other
module _ {A B : Type 0} (code : A → Gv) (other_code : B → Gv) (used : A ⊎ B → Bool) where
  pub both_on : (p q p1 p2 q1 q2 : Token) → q.number ≡ p.number
      → p1 ≡ with_heard p (newest q.stamps) → GoesOn p1 p2 → length p2.stamps ≡ length p2.seen → ((h : List A) → p1.seen ≡ map code h → (es : List A) × (p2.seen ≡ map code (h ++ es)))
      → q1 ≡ with_heard q (newest p2.stamps) → GoesOn q1 q2 → length q2.stamps ≡ length q2.seen → ((g : List B) → q1.seen ≡ map other_code g → (es : List B) × (q2.seen ≡ map other_code (g ++ es)))
      → TookOn code other_code used (p, q) (p2, q2)
  both_on p q p1 p2 q1 q2 place e1 g1 m1 s1 e2 g2 m2 s2 took x =
      let one = s1 x.seen (ap (λ (t : Token). t.seen) e1 ∙ x.codes) in
      let two = s2 x.other_seen (ap (λ (t : Token). t.seen) e2 ∙ x.other_codes) in
      let d1 : GoOn p.number (newest q.stamps) p.stamps p2.stamps = subst (λ (t : Token). GoOn t.number t.heard t.stamps p2.stamps) e1 g1.dates in
      let d2 : GoOn q.number (newest p2.stamps) q.stamps q2.stamps = subst (λ (t : Token). GoOn t.number t.heard t.stamps q2.stamps) e2 g2.dates in
      let a : List (A ⊎ B) = filter used (map inl one.0) in let b : List (A ⊎ B) = filter used (map inr two.0) in
      let t1 = on_one used p.number p.stamps p2.stamps x.seen one.0 q.stamps x.other_seen took d1 (m1 ∙ (ap length one.1 ∙ length-map (x.seen ++ one.0) code)) x.takes in
      let t2 = on_other used p.number p2.stamps (x.seen ++ one.0) q.stamps q2.stamps x.other_seen two.0 (took ++ a) (subst (λ (n : ℕ). GoOn n (newest p2.stamps) q.stamps q2.stamps) place d2)
      (m2 ∙ (ap length two.1 ∙ length-map (x.other_seen ++ two.0) other_code)) t1 in (
        a ++ b,
        record {
          seen = x.seen ++ one.0;
          codes = one.1;
          other_seen = x.other_seen ++ two.0;
          other_codes = two.1;
          takes = subst (λ (y : ℕ × List (A ⊎ B)). TakesTurns used y.0 p2.stamps (x.seen ++ one.0) q2.stamps (x.other_seen ++ two.0) y.1)
              (λ i. (sym (g1.same.0 ∙ ap (λ (t : Token). t.number) e1) i, append_assoc took a b i)) t2;
        },
      )

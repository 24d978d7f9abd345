-- One more switch in the log, and one more note.
use Rattle.std.proofs.Common.{Option, ◌≡◌, ◌≢◌, ◌⊎◌, ℕ, zero, suc, ◌<◌, List, [], ◌∷◌, ◌++◌, take, length, sym, refl, ap, ◌∙◌, inl, inr, subst, arith, Some, eq-eqb, if◌then◌else◌}
use mathlib.Core.Option.{some, some-injective, some-ne-none}
use lib.ListN.{get_elem?}
use Rattle.std.proofs.lemmas.List.{take-append-le}
use Rattle.std.proofs.Math.Seq.{take-append_seam}
use Rattle.atomic_table.proofs.Lists.{at_longer}
use Rattle.dxc_num.specs.Dimensions.{same_port, leg_between}
use Rattle.dxc_num.specs.declared.port.Port.{Port}
use Rattle.dxc_num.specs.declared.port.Leg.{Leg}
use Rattle.fabric_core.specs.declared.worker.Note.{Note}
use Rattle.fabric_core.specs.declared.worker.Note.TheVariants.{OutWord, MidWord, InWord, Carried}
use Rattle.fabric_core.specs.Registers.{number_in}
use Rattle.fabric_core.specs.Notes.{Numbered, Latest, noted, noted_from, last_from, AreLogged, AreOfLastWord, AreFound}

module _ {A : Type 0} where
  pub at_end : (l : List A) (a b : A) (t : ℕ) → get_elem? (l ++ a ∷ []) t ≡ some b → (get_elem? l t ≡ some b) ⊎ ((t ≡ length l) × (a ≡ b))
  at_end [] a b zero e = inr (refl, some-injective a b e)
  at_end [] a b (suc t) e = absurd (some-ne-none b (sym e))
  at_end (x ∷ xs) a b zero e = inl e
  at_end (x ∷ xs) a b (suc t) e = up (at_end xs a b t e)
    where
      up : (get_elem? xs t ≡ some b) ⊎ ((t ≡ length xs) × (a ≡ b)) → (get_elem? (x ∷ xs) (suc t) ≡ some b) ⊎ ((suc t ≡ length (x ∷ xs)) × (a ≡ b))
      up (inl h) = inl h
      up (inr h) = inr (ap suc h.0, h.1)

  pub at_below : (l : List A) (b : A) (t : ℕ) → get_elem? l t ≡ some b → t < length l
  at_below [] b t e = absurd (some-ne-none b (sym e))
  at_below (x ∷ xs) b zero e = omega arith
  at_below (x ∷ xs) b (suc t) e = let h = at_below xs b t e in omega arith

-- the log
pub numbered_more : (log : List Leg) (n : ℕ) (l a : Leg) → Numbered log n l → Numbered (log ++ a ∷ []) n l
numbered_more log n l a h = (h.0, h.1, at_longer log (a ∷ []) h.0 l h.2)

pub latest_more : (log : List Leg) (y : Port) (n : ℕ) (a : Leg) → a.output ≢ y → Latest log y n → Latest (log ++ a ∷ []) y n
latest_more log y n a other h u l le e = go (at_end log a l u e)
  where
    go : (get_elem? log u ≡ some l) ⊎ ((u ≡ length log) × (a ≡ l)) → l.output ≢ y
    go (inl p) = h u l le p
    go (inr p) = λ q. other (ap (λ (b : Leg). b.output) p.1 ∙ q)

pub logged_later : (log : List Leg) (a : Leg) (ns : List Note) → AreLogged log ns → AreLogged (log ++ a ∷ []) ns
logged_later log a ns h t n y x at = numbered_more log n (leg_between x y) a (h t n y x at)

-- the OUT word that was noted last
pub noted_more : (y : Port) (o : ℕ) (ns : List Note) (u : Port) (q : ℕ) → noted_from y o (ns ++ OutWord u q ∷ []) ≡ (if same_port u y then q else noted_from y o ns)
noted_more y o [] u q = refl
noted_more y o (OutWord a b ∷ ns) u q = noted_more y (if same_port a y then b else o) ns u q
noted_more y o (MidWord b ∷ ns) u q = noted_more y o ns u q
noted_more y o (InWord b ∷ ns) u q = noted_more y o ns u q
noted_more y o (Carried a b c ∷ ns) u q = noted_more y o ns u q

pub noted_here : (y : Port) (o : ℕ) (ns : List Note) (q : ℕ) → noted_from y o (ns ++ OutWord y q ∷ []) ≡ q
noted_here y o ns q = noted_more y o ns y q ∙ rw (eq-eqb y.0 y.0 refl)

pub noted_mid : (y : Port) (o : ℕ) (ns : List Note) (q : ℕ) → noted_from y o (ns ++ MidWord q ∷ []) ≡ noted_from y o ns
noted_mid y o [] q = refl
noted_mid y o (OutWord a b ∷ ns) q = noted_mid y (if same_port a y then b else o) ns q
noted_mid y o (MidWord b ∷ ns) q = noted_mid y o ns q
noted_mid y o (InWord b ∷ ns) q = noted_mid y o ns q
noted_mid y o (Carried a b c ∷ ns) q = noted_mid y o ns q

pub noted_in : (y : Port) (o : ℕ) (ns : List Note) (q : ℕ) → noted_from y o (ns ++ InWord q ∷ []) ≡ noted_from y o ns
noted_in y o [] q = refl
noted_in y o (OutWord a b ∷ ns) q = noted_in y (if same_port a y then b else o) ns q
noted_in y o (MidWord b ∷ ns) q = noted_in y o ns q
noted_in y o (InWord b ∷ ns) q = noted_in y o ns q
noted_in y o (Carried a b c ∷ ns) q = noted_in y o ns q

pub last_here : (e : Option (Port × ℕ)) (ns : List Note) (y : Port) (q : ℕ) → last_from e (ns ++ OutWord y q ∷ []) ≡ Some (y, q)
last_here e [] y q = refl
last_here e (OutWord a b ∷ ns) y q = last_here (Some (a, b)) ns y q
last_here e (MidWord b ∷ ns) y q = last_here e ns y q
last_here e (InWord b ∷ ns) y q = last_here e ns y q
last_here e (Carried a b c ∷ ns) y q = last_here e ns y q

pub last_mid : (e : Option (Port × ℕ)) (ns : List Note) (q : ℕ) → last_from e (ns ++ MidWord q ∷ []) ≡ last_from e ns
last_mid e [] q = refl
last_mid e (OutWord a b ∷ ns) q = last_mid (Some (a, b)) ns q
last_mid e (MidWord b ∷ ns) q = last_mid e ns q
last_mid e (InWord b ∷ ns) q = last_mid e ns q
last_mid e (Carried a b c ∷ ns) q = last_mid e ns q

-- the three facts on notes, as one fact on each note and those before it
abbrev pub IsRight : List Leg → List Note → Note → Type 0
IsRight log before (OutWord y o) = Unit {0}
IsRight log before (MidWord q) = q ≢ 0
IsRight log before (InWord q) = q ≢ 0
IsRight log before (Carried y n x) = Numbered log n (leg_between x y) × (number_in (noted y before) ≡ n)

pub record AreRight (log : List Leg) (ns : List Note) : Type 0 where
  pub logged : AreLogged log ns
  pub of_last_word : AreOfLastWord ns
  pub found : AreFound ns

pub right_at : (log : List Leg) (ns : List Note) → AreRight log ns → (t : ℕ) (e : Note) → get_elem? ns t ≡ some e → IsRight log (take t ns) e
right_at log ns h t (OutWord y o) at = tt
right_at log ns h t (MidWord q) at = (h.found t q).0 at
right_at log ns h t (InWord q) at = (h.found t q).1 at
right_at log ns h t (Carried y n x) at = (h.logged t n y x at, h.of_last_word t n y x at)

pub all_right : (log : List Leg) (ns : List Note) → ((t : ℕ) (e : Note) → get_elem? ns t ≡ some e → IsRight log (take t ns) e) → AreRight log ns
all_right log ns h = record {
  logged = λ t n y x at. (h t (Carried y n x) at).0;
  of_last_word = λ t n y x at. (h t (Carried y n x) at).1;
  found = λ t q. ((λ at. h t (MidWord q) at), (λ at. h t (InWord q) at));
}

pub notes_more : (log : List Leg) (ns : List Note) (e : Note) → AreRight log ns → IsRight log ns e → AreRight log (ns ++ e ∷ [])
notes_more log ns e h ok = all_right log (ns ++ e ∷ []) (λ t d is. go t d (at_end ns e d t is))
  where
    go : (t : ℕ) (d : Note) → (get_elem? ns t ≡ some d) ⊎ ((t ≡ length ns) × (e ≡ d)) → IsRight log (take t (ns ++ e ∷ [])) d
    go t d (inl p) = let le = at_below ns d t p in subst (λ (bs : List Note). IsRight log bs d) (sym (take-append-le t ns (e ∷ []) (omega arith))) (right_at log ns h t d p)
    go t d (inr p) = subst (λ (r : List Note × Note). IsRight log r.0 r.1) (λ j. (sym (ap (λ (i : ℕ). take i (ns ++ e ∷ [])) p.0 ∙ take-append_seam ns (e ∷ [])) j, p.1 j)) ok

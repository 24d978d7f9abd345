-- The table at the start, and a seat for each worker.
use Rattle.std.proofs.Common.{◌≡◌, ◌≢◌, ℕ, zero, suc, ◌+◌, ◌<◌, List, [], ◌∷◌, ◌++◌, map, length, replicate, set, sym, refl, ap, ◌∙◌, subst, ⊎_elim, arith}
use mathlib.Core.Option.{some, some-injective, some-ne-none}
use native.Mathlib.Decide.{ℕ_discrete}
use lib.ListN.{get_elem?}
use Rattle.atomic_table.specs.Table.{opening, Splits}
use Rattle.fabric_core.specs.declared.size.Size.{Size}
use Rattle.fabric_core.specs.declared.mover.Mover.{Mover}
use Rattle.dxc_num.specs.Dimensions.{ports}
use Rattle.fabric_core.specs.Registers.{in_count, mid_count}
use Rattle.fabric_core.specs.State.{IsSize, new_worker, new_workers, start}
use Rattle.fabric_core.proofs.Noting.{at_end}
use Rattle.fabric_words.specs.declared.table.View.{View}
use Rattle.fabric_words.specs.declared.table.View.TheVariants.{Idle, AsMover, AsWorker}
use Rattle.fabric_words.specs.Tied.{first_view, frame_of, Knows, Tied}
use Rattle.fabric_words.specs.Places.{word_count}
use Rattle.fabric_words.specs.Seats.{FabricId}
use Rattle.fabric_words.specs.New.{AreNew}
use Rattle.fabric_words.specs.declared.worker.WorkerSeat.{WorkerSeat}
use Rattle.fabric_words.specs.Plays.{dealer, dealt_worker}
use Rattle.fabric_words.proofs.Ties.{seats_stay}

abbrev pick : {P : Type 0} → Dec P → ℕ → ℕ → ℕ
pick (yes _) a b = a
pick (no _) a b = b

put : (ℕ → ℕ) → ℕ → ℕ → ℕ → ℕ
put f i c j = pick (ℕ_discrete j i) c (f j)

put_here : (f : ℕ → ℕ) (i c : ℕ) → put f i c i ≡ c
unfolding put
put_here f i c = go (ℕ_discrete i i)
  where
    go : (d : Dec (i ≡ i)) → pick d c (f i) ≡ c
    go (yes _) = refl
    go (no n) = absurd (n refl)

put_else : (f : ℕ → ℕ) (i c j : ℕ) → j ≢ i → put f i c j ≡ f j
unfolding put
put_else f i c j other = go (ℕ_discrete j i)
  where
    go : (d : Dec (j ≡ i)) → pick d c (f j) ≡ f j
    go (yes e) = absurd (other e)
    go (no _) = refl

pub deals : (z : Size) (id d : ℕ) (m : Mover) (v : View) → v ≡ AsMover z d m → d < z.workers → Splits (Tied z) id v (dealer v) (dealt_worker v)
deals z id d m v is low s t at = subst (λ (x : View). Tied z record { words = s.words; homes = s.homes; views = set s.views id (dealer x) ++ dealt_worker x ∷ [] }) (sym is) record {
  sized = t.sized;
  events = t.events;
  core = t.core;
  reached = t.reached;
  words_are = t.words_are;
  writer = t.writer;
  dealt = d + 1;
  owner = put t.owner d (length (set s.views id (AsMover z (d + 1) m)));
  each = λ j x there. ⊎_elim
      (λ (p : get_elem? (set s.views id (AsMover z (d + 1) m)) j ≡ some x). seats_stay (Knows z t.core t.writer (d + 1) now) s.views id (AsMover z (d + 1) m) (mine.0, refl, mine.2, mine.3) (λ i y other q. still i y other (t.each i y q)) j x p)
      (λ (p : (j ≡ length (set s.views id (AsMover z (d + 1) m))) × (AsWorker z (new_worker d) ≡ x)). subst (λ (q : ℕ × View). Knows z t.core t.writer (d + 1) now q.0 q.1) (λ i. (sym p.0 i, p.1 i))
      (refl, t.undealt d (let e = mine.1 in omega arith) low, omega arith, put_here t.owner d (length (set s.views id (AsMover z (d + 1) m)))))
      (at_end (set s.views id (AsMover z (d + 1) m)) (AsWorker z (new_worker d)) x j there);
  undealt = λ w le b. t.undealt w (let e = mine.1 in omega arith) b;
}
  where
    now : ℕ → ℕ
    now = put t.owner d (length (set s.views id (AsMover z (d + 1) m)))

    mine : Knows z t.core t.writer t.dealt t.owner id (AsMover z d m)
    mine = t.each id (AsMover z d m) (at ∙ ap (λ (x : View). some x) is)

    still : (j : ℕ) (x : View) → j ≢ id → Knows z t.core t.writer t.dealt t.owner j x → Knows z t.core t.writer (d + 1) (put t.owner d (length (set s.views id (AsMover z (d + 1) m)))) j x
    still j Idle other h = tt
    still j (AsMover u n x) other h = absurd (other (h.3 ∙ sym (t.each id (AsMover z d m) (at ∙ ap (λ (x : View). some x) is)).3))
    still j (AsWorker u x) other h = let e = (t.each id (AsMover z d m) (at ∙ ap (λ (x : View). some x) is)).1 in let b = h.2 in
        (h.0, h.1, omega arith, put_else t.owner d (length (set s.views id (AsMover z (d + 1) m))) x.number (λ q. omega arith) ∙ h.3)

replicate_add : (a b : ℕ) → replicate {A = ℕ} (a + b) 0 ≡ replicate a 0 ++ replicate b 0
replicate_add zero b = let e : 0 + b ≡ b = omega arith in ap (λ (n : ℕ). replicate {A = ℕ} n 0) e
replicate_add (suc a) b = let e : suc a + b ≡ suc (a + b) = omega arith in ap (λ (n : ℕ). replicate {A = ℕ} n 0) e ∙ ap (λ (l : List ℕ). 0 ∷ l) (replicate_add a b)

no_frames : (w n : ℕ) → map frame_of (new_workers w n) ≡ replicate n 0
no_frames w zero = refl
no_frames w (suc n) = ap (λ (l : List ℕ). 0 ∷ l) (no_frames (w + 1) n)

worker_there : (b n w : ℕ) → w < n → get_elem? (new_workers b n) w ≡ some (new_worker (b + w))
worker_there b zero w h = absurd (omega arith)
worker_there b (suc n) zero h = let e : b ≡ b + 0 = omega arith in ap (λ (i : ℕ). some (new_worker i)) e
worker_there b (suc n) (suc w) h = let e : (b + 1) + w ≡ b + suc w = omega arith in worker_there (b + 1) n w (omega arith) ∙ ap (λ (i : ℕ). some (new_worker i)) e

pub opens : (z : Size) (words : List ℕ) → IsSize z → words ≡ replicate (word_count z) 0 → Tied z (opening words [] (first_view z))
opens z words size are = record {
  sized = size;
  events = [];
  core = start z;
  reached = refl;
  words_are = are ∙ (replicate_add (in_count z.shape) (mid_count z.shape + (ports z.shape + z.workers)) ∙ ap (λ (l : List ℕ). replicate (in_count z.shape) 0 ++ l) (replicate_add (mid_count z.shape) (ports z.shape + z.workers)
      ∙ ap (λ (l : List ℕ). replicate (mid_count z.shape) 0 ++ l) (replicate_add (ports z.shape) z.workers ∙ ap (λ (l : List ℕ). replicate (ports z.shape) 0 ++ l) (sym (no_frames 0 z.workers)))));
  writer = 0;
  dealt = 0;
  owner = λ _. 0;
  each = one;
  undealt = λ w _ h. let e : 0 + w ≡ w = omega arith in worker_there 0 z.workers w h ∙ ap (λ (i : ℕ). some (new_worker i)) e;
}
  where
    one : (j : ℕ) (v : View) → get_elem? (first_view z ∷ []) j ≡ some v → Knows z (start z) 0 0 (λ _. 0) j v
    one zero v e = subst (Knows z (start z) 0 0 (λ _. 0) 0) (some-injective (first_view z) v e) (refl, refl, refl, refl)
    one (suc j) v e = absurd (some-ne-none v (sym e))

pub deals_at : (key z : Size) (id d : ℕ) (m : Mover) (v : View) → key ≡ z → v ≡ AsMover z d m → d < z.workers → Splits (Tied key) id v (dealer v) (dealt_worker v)
deals_at key z id d m v e is low = subst (λ (y : Size). Splits (Tied y) id v (dealer v) (dealt_worker v)) (sym e) (deals z id d m v is low)

pub some_words : (z : Size) (n : ℕ) → IsSize z → n ≡ word_count z → 0 < n
some_words z n s e = let w = s.workers in omega arith

-- new seats, one after the other
pub new_more : (f : FabricId) (n m : ℕ) (xs : List WorkerSeat) (x : WorkerSeat) → AreNew f n xs → n + length xs ≡ m → x.reader ≡ record { fabric = f; worker = new_worker m } → AreNew f n (xs ++ x ∷ [])
new_more f n m [] x h e new = let same : m ≡ n = omega arith in (subst (λ (k : ℕ). x.reader ≡ record { fabric = f; worker = new_worker k }) same new, tt)
new_more f n m (y ∷ ys) x h e new = (h.0, new_more f (n + 1) m ys x h.1 (omega arith) new)

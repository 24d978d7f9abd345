-- A step of a seat is a step of the core.
use Rattle.std.proofs.Common.{◌≡◌, ◌≢◌, ℕ, ◌<◌, List, ◌∷◌, [], ◌++◌, set, sym, refl, ap, ◌∙◌, subst, ⊎_elim, arith}
use mathlib.Core.Option.{some}
use lib.ListN.{get_elem?}
use Rattle.atomic_table.specs.Table.{State, Me}
use Rattle.atomic_table.proofs.Lists.{at_set, set_here, set_else}
use Rattle.fabric_core.specs.declared.size.Size.{Size}
use Rattle.fabric_core.specs.declared.event.CoreEvent.{CoreEvent}
use Rattle.fabric_core.specs.declared.mover.Mover.{Mover}
use Rattle.fabric_core.specs.declared.worker.Worker.{Worker}
use Rattle.fabric_core.specs.State.{Core, start}
use Rattle.fabric_core.specs.Steps.{Works, WorkerSteps, with_worker, with_mover, Steps}
use Rattle.fabric_core.specs.Rule.{IsRuled}
use Rattle.fabric_core.proofs.Noting.{at_below}
use Rattle.fabric_core.proofs.Kept.{starts, reach_keeps, reach_more}
use Rattle.fabric_words.specs.declared.table.Aim.{Aim}
use Rattle.fabric_words.specs.declared.table.View.{View}
use Rattle.fabric_words.specs.declared.table.View.TheVariants.{Idle, AsMover, AsWorker}
use Rattle.fabric_words.specs.Tied.{words_of, Knows, Tied}
use Rattle.fabric_words.specs.Plays.{Goes, Turns}

-- what a step tells, of the view that the seat had
pub goes : (me : Me Aim View) (z : Size) (v v' : Worker) (next : Size → Worker → Worker → Type 0) → me.0 ≡ AsWorker z v → next z v v' → Goes me (AsWorker z v', me.1) next
goes me z v v' next is h y u e = let a : z ≡ y = cc in let b : v ≡ u = cc in (v', (λ i. (AsWorker (a i) v', me.1)), subst (λ (p : Size × Worker). next p.0 p.1 v') (λ i. (a i, b i)) h)

pub turns : (me : Me Aim View) (z : Size) (d : ℕ) (m m' : Mover) (next : Size → Mover → Mover → Type 0) → me.0 ≡ AsMover z d m → next z m m' → Turns me (AsMover z d m', me.1) next
turns me z d m m' next is h y n u e = let a : z ≡ y = cc in let b : m ≡ u = cc in let c : d ≡ n = cc in (m', (λ i. (AsMover (a i) (c i) m', me.1)), subst (λ (p : Size × Mover). next p.0 p.1 m') (λ i. (a i, b i)) h)

pub seats_stay : (K : ℕ → View → Type 0) (vs : List View) (me : ℕ) (w : View) → K me w → ((j : ℕ) (d : View) → j ≢ me → get_elem? vs j ≡ some d → K j d) → (j : ℕ) (d : View) → get_elem? (set vs me w) j ≡ some d → K j d
seats_stay K vs me w mine others j d e = ⊎_elim (λ (t : (j ≡ me) × (w ≡ d)). subst (λ (x : ℕ × View). K x.0 x.1) (λ i. (sym t.0 i, t.1 i)) mine)
    (λ (t : (j ≢ me) × (get_elem? vs j ≡ some d)). others j d t.0 t.1) (at_set vs me j w d e)

module _ (z : Size) (s : State Aim View) (t : Tied z s) where
  pub same_size : t.core.size ≡ z
  same_size = (reach_keeps (start z) t.events t.core t.sized (starts z) t.reached).0

  pub rule : IsRuled t.core
  rule = (reach_keeps (start z) t.events t.core t.sized (starts z) t.reached).1

  pub worker_at : (id : ℕ) (u : Size) (v : Worker) → get_elem? s.views id ≡ some (AsWorker u v) → get_elem? t.core.workers v.number ≡ some v
  worker_at id u v at = (t.each id (AsWorker u v) at).1

  pub mover_is : (id : ℕ) (u : Size) (d : ℕ) (m : Mover) → get_elem? s.views id ≡ some (AsMover u d m) → m ≡ t.core.mover
  mover_is id u d m at = (t.each id (AsMover u d m) at).2

  -- the table after a worker's step
  pub worker_ties : (id : ℕ) (v v' : Worker) (e : CoreEvent) (ws : List ℕ) → get_elem? s.views id ≡ some (AsWorker z v) → ((c : Core) → WorkerSteps t.core v.number e c → Steps t.core e c)
      → Works t.core.size t.core.mover v e v' → v'.number ≡ v.number → ws ≡ words_of (with_worker t.core v.number v') → Tied z record { words = ws; homes = s.homes; views = set s.views id (AsWorker z v') }
  worker_ties id v v' e ws at lifts does same words =
      let mine = t.each id (AsWorker z v) at in
      let next : Core = with_worker t.core v.number v' in
      let room = at_below t.core.workers v v.number mine.1 in record {
        sized = t.sized;
        events = t.events ++ e ∷ [];
        core = next;
        reached = reach_more (start z) t.events t.core e next t.reached (lifts next (v, v', mine.1, does, refl));
        words_are = words;
        writer = t.writer;
        dealt = t.dealt;
        owner = t.owner;
        each = seats_stay (Knows z next t.writer t.dealt t.owner) s.views id (AsWorker z v')
            (refl, subst (λ (n : ℕ). get_elem? (set t.core.workers v.number v') n ≡ some v') (sym same) (set_here t.core.workers v.number v' room), subst (λ (n : ℕ). n < t.dealt) (sym same) mine.2, ap t.owner same ∙ mine.3)
            (λ j d other there. still j d other (t.each j d there));
        undealt = λ w le low. let below = mine.2 in set_else t.core.workers v.number w v' (λ h. omega arith) ∙ t.undealt w le low;
      }
    where
      still : (j : ℕ) (d : View) → j ≢ id → Knows z t.core t.writer t.dealt t.owner j d → Knows z (with_worker t.core v.number v') t.writer t.dealt t.owner j d
      still j Idle other h = tt
      still j (AsMover u d m) other h = h
      still j (AsWorker u x) other h = (h.0, set_else t.core.workers v.number x.number v' (λ e. other (sym h.3 ∙ (ap t.owner e ∙ (t.each id (AsWorker z v) at).3))) ∙ h.1, h.2, h.3)

  -- the table after a step of the mover
  pub mover_ties : (id d : ℕ) (m m' : Mover) (e : CoreEvent) (ws : List ℕ) → get_elem? s.views id ≡ some (AsMover z d m) → Steps t.core e (with_mover t.core m') → ws ≡ words_of (with_mover t.core m')
      → Tied z record { words = ws; homes = s.homes; views = set s.views id (AsMover z d m') }
  mover_ties id d m m' e ws at does words =
      let mine = t.each id (AsMover z d m) at in record {
        sized = t.sized;
        events = t.events ++ e ∷ [];
        core = with_mover t.core m';
        reached = reach_more (start z) t.events t.core e (with_mover t.core m') t.reached does;
        words_are = words;
        writer = t.writer;
        dealt = t.dealt;
        owner = t.owner;
        each = seats_stay (Knows z (with_mover t.core m') t.writer t.dealt t.owner) s.views id (AsMover z d m') (refl, mine.1, refl, mine.3) (λ j x other there. still j x other (t.each j x there));
        undealt = t.undealt;
      }
    where
      still : (j : ℕ) (x : View) → j ≢ id → Knows z t.core t.writer t.dealt t.owner j x → Knows z (with_mover t.core m') t.writer t.dealt t.owner j x
      still j Idle other h = tt
      still j (AsMover u n x) other h = absurd (other (h.3 ∙ sym (t.each id (AsMover z d m) at).3))
      still j (AsWorker u x) other h = h

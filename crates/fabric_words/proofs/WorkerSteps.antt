-- Each step of a worker's seat keeps the table's rule.
use Rattle.std.proofs.Common.{◌≡◌, ◌≢◌, ℕ, zero, suc, ◌+◌, ◌-◌, ◌%◌, ◌^◌, ◌<◌, List, [], ◌∷◌, ◌++◌, map, get_or, set, sym, refl, ap, ◌∙◌, subst, arith, Option, Some, None}
use Rattle.std.proofs.lemmas.List.{map-set, set-get_or}
use mathlib.Core.Option.{none, some, some-injective, some-ne-none}
use lib.ListN.{get_elem?}
use Rattle.atomic_table.specs.Table.{State, Me, step, keeps, Allows}
use Rattle.atomic_table.proofs.Lists.{at_map, set_again}
use Rattle.dxc_num.specs.Dimensions.{IsPort, ports, module_of}
use Rattle.dxc_num.specs.declared.port.Port.{Port}
use Rattle.dxc_num.specs.declared.port.Middle.{Middle}
use Rattle.dxc_num.specs.declared.port.Route.{Route}
use Rattle.fabric_core.specs.declared.size.Size.{Size}
use Rattle.fabric_core.specs.declared.event.CoreEvent.{CoreEvent}
use Rattle.fabric_core.specs.declared.event.CoreEvent.TheVariants.{Begin, LoadOut, LoadMid, LoadIn, End}
use Rattle.fabric_core.specs.declared.registers.Registers.{Registers}
use Rattle.fabric_core.specs.declared.worker.Hold.{Hold}
use Rattle.fabric_core.specs.declared.worker.Hold.TheVariants.{Output, Path}
use Rattle.fabric_core.specs.declared.worker.Worker.{Worker}
use Rattle.fabric_core.specs.Registers.{in_cell, mid_cell, in_count, mid_count, in_word, mid_word, out_word, middle_in}
use Rattle.fabric_core.specs.State.{leg_at}
use Rattle.fabric_core.specs.Working.{HasOutput, HasPath, Runs, CanBegin, CanLoadOut, begun, out_loaded, mid_loaded, in_loaded, named_mid, named_in, port_of}
use Rattle.fabric_core.specs.Moving.{IsMiddle}
use Rattle.fabric_core.specs.Steps.{Works, WorkerSteps, with_worker, Steps}
use Rattle.fabric_core.specs.Laid.{IsOutOf, IsLaidOut}
use Rattle.fabric_core.specs.Rule.{IsHoldRuled, IsWorkerRuled}
use Rattle.fabric_core.proofs.Working.{output_inside, path_inside}
use Rattle.fabric_words.specs.declared.table.Aim.{Aim}
use Rattle.fabric_words.specs.declared.table.View.{View}
use Rattle.fabric_words.specs.declared.table.View.TheVariants.{AsWorker}
use Rattle.fabric_words.specs.Places.{mid_place, out_place, frame_place}
use Rattle.fabric_words.specs.Tied.{words_of, frame_of, Tied}
use Rattle.fabric_words.specs.Plays.{began, loaded_out, loaded_mid, loaded_in}
use Rattle.fabric_words.proofs.Rows.{first_at, second_at, third_at, fourth_at, fourth_set}
use Rattle.fabric_words.proofs.Ties.{goes, same_size, rule, worker_at, worker_ties}

pub get_found : (l : List ℕ) (i a : ℕ) → get_elem? l i ≡ some a → get_or l i 0 ≡ a
get_found [] i a e = absurd (some-ne-none a (sym e))
get_found (x ∷ xs) zero a e = some-injective x a e
get_found (x ∷ xs) (suc i) a e = get_found xs i a e

module _ (z : Size) (s : State Aim View) (t : Tied z s) where
  pub mover_ok : IsLaidOut z t.core.mover
  mover_ok = subst (λ (u : Size). IsLaidOut u t.core.mover) (same_size z s t) (rule z s t).mover.laid

  pub out_found : (y : Port) → IsPort z.shape y → get_or s.words (out_place z.shape y) 0 ≡ out_word t.core.mover.registers y
  out_found y h = let r : Registers = t.core.mover.registers in ap (λ (ws : List ℕ). get_or ws (out_place z.shape y) 0) t.words_are
      ∙ third_at r.ins r.mids r.outs (map frame_of t.core.workers) (in_count z.shape) (mid_count z.shape) (ports z.shape) mover_ok.ins mover_ok.mids mover_ok.outs y.0 h

  pub mid_found : (k : Middle) (j : ℕ) → mid_cell z.shape k j < mid_count z.shape → get_or s.words (mid_place z.shape k j) 0 ≡ mid_word z.shape t.core.mover.registers k j
  mid_found k j h = let r : Registers = t.core.mover.registers in ap (λ (ws : List ℕ). get_or ws (mid_place z.shape k j) 0) t.words_are
      ∙ second_at r.ins r.mids r.outs (map frame_of t.core.workers) (in_count z.shape) (mid_count z.shape) (ports z.shape) mover_ok.ins mover_ok.mids mover_ok.outs (mid_cell z.shape k j) h

  pub in_found : (i : ℕ) (k : Middle) → in_cell z.shape i k < in_count z.shape → get_or s.words (in_cell z.shape i k) 0 ≡ in_word z.shape t.core.mover.registers i k
  in_found i k h = let r : Registers = t.core.mover.registers in ap (λ (ws : List ℕ). get_or ws (in_cell z.shape i k) 0) t.words_are
      ∙ first_at r.ins r.mids r.outs (map frame_of t.core.workers) (in_count z.shape) (mid_count z.shape) (ports z.shape) mover_ok.ins mover_ok.mids mover_ok.outs (in_cell z.shape i k) h

  -- a load leaves the words as they are
  pub loaded_words : (v v' : Worker) (i : ℕ) → get_elem? t.core.workers v.number ≡ some v → v'.frame ≡ v.frame → set s.words i (get_or s.words i 0) ≡ words_of (with_worker t.core v.number v')
  loaded_words v v' i at same = let r : Registers = t.core.mover.registers in let all : map frame_of (set t.core.workers v.number v') ≡ map frame_of t.core.workers =
      map-set frame_of t.core.workers v.number v' ∙ (ap (λ (f : ℕ). set (map frame_of t.core.workers) v.number f) same ∙ set_again (map frame_of t.core.workers) v.number v.frame (at_map frame_of t.core.workers v.number v at)) in
      set-get_or s.words i 0 ∙ (t.words_are ∙ ap (λ (fs : List ℕ). r.ins ++ (r.mids ++ (r.outs ++ fs))) (sym all))

  pub works_core : (v : Worker) (e : CoreEvent) (v' : Worker) → Works z t.core.mover v e v' → Works t.core.size t.core.mover v e v'
  works_core v e v' h = subst (λ (u : Size). Works u t.core.mover v e v') (sym (same_size z s t)) h

pub loads_out : (slots id : ℕ) (me : Me Aim View) (z : Size) (v : Worker) (y : Port) → me.0 ≡ AsWorker z v → CanLoadOut z y v
    → Allows (Tied z) slots id me (out_place z.shape y) (λ n. n) (loaded_out (step slots (out_place z.shape y) 0 0 none) me)
loads_out slots id me z v y is can s t _ at _ =
    let n : ℕ = get_or s.words (out_place z.shape y) 0 in
    let found : n ≡ out_word t.core.mover.registers y = out_found z s t y can.1 in
    let v' : Worker = out_loaded y n v in
    let at' : get_elem? s.views id ≡ some (AsWorker z v) = at ∙ ap (λ (x : View). some x) is in (
      AsWorker z v',
      keeps,
      tt,
      worker_ties z s t id v v' (LoadOut v.number y) (set s.words (out_place z.shape y) n) at' (λ c h. h) (works_core z s t v (LoadOut v.number y) v' (can, ap (λ (o : ℕ). out_loaded y o v) found)) refl
          (loaded_words z s t v v' (out_place z.shape y) (worker_at z s t id z v at') refl),
      goes me z v v' (λ y' a b. (n ≢ 0 → IsMiddle y'.shape (middle_in n) × (0 < n % 256)) × ((u : Port) → out_place z.shape y ≡ out_place y'.shape u → b ≡ out_loaded u n a)) is
          (named (leg_at t.core.mover y) refl ((mover_ok z s t).out_is y can.1) found, λ u e. let same : y.0 ≡ u.0 = omega arith in ap (λ (k : ℕ). out_loaded (record { 0 = k }) n v) same),
    )
  where
    named : (e : Option Route) → leg_at t.core.mover y ≡ e → IsOutOf t.core.mover y e → get_or s.words (out_place z.shape y) 0 ≡ out_word t.core.mover.registers y → get_or s.words (out_place z.shape y) 0 ≢ 0
        → IsMiddle z.shape (middle_in (get_or s.words (out_place z.shape y) 0)) × (0 < get_or s.words (out_place z.shape y) 0 % 256)
    named None at' h found some_word = absurd (some_word (found ∙ h))
    named (Some w) at' h found some_word = let low = ((mover_ok z s t).leg_is y w at').middle in let slots = t.sized.shape.most_slots in let is' = h.1 in (omega arith, omega arith)

-- the facts that a hold gives on the word that it names
module _ (z : Size) (s : State Aim View) (t : Tied z s) (v : Worker) (at : get_elem? t.core.workers v.number ≡ some v) where
  pub worker_ok : IsWorkerRuled z.shape t.core.mover v
  worker_ok = subst (λ (u : Size). IsWorkerRuled u.shape t.core.mover v) (same_size z s t) ((rule z s t).each v.number v at).1

  hold_at : (h : Hold) → v.hold ≡ h → IsHoldRuled z.shape t.core.mover v h
  hold_at h is = subst (IsHoldRuled z.shape t.core.mover v) is worker_ok.hold_is

-- a step of a frame word
frame_steps : (z : Size) (s : State Aim View) (t : Tied z s) (id : ℕ) (v : Worker) (e : CoreEvent) → get_elem? s.views id ≡ some (AsWorker z v)
    → ((c : _) → WorkerSteps t.core v.number e c → Steps t.core e c) → Works z t.core.mover v e (begun v) → v.frame < 9223372036854775808
    → Tied z record { words = set s.words (frame_place z.shape v.number) ((get_or s.words (frame_place z.shape v.number) 0 + 1) % 18446744073709551616); homes = s.homes; views = set s.views id (AsWorker z (begun v)) }
frame_steps z s t id v e at lifts does low =
    let r : Registers = t.core.mover.registers in
    let ok = mover_ok z s t in
    let mine = worker_at z s t id z v at in
    let fs : List ℕ = map frame_of t.core.workers in
    let i : ℕ = frame_place z.shape v.number in
    let there : get_or fs v.number 0 ≡ v.frame = get_found fs v.number v.frame (at_map frame_of t.core.workers v.number v mine) in
    let found : get_or s.words i 0 ≡ v.frame = ap (λ (ws : List ℕ). get_or ws i 0) t.words_are ∙ (fourth_at r.ins r.mids r.outs fs (in_count z.shape) (mid_count z.shape) (ports z.shape) ok.ins ok.mids ok.outs v.number ∙ there) in
    let up : (get_or s.words i 0 + 1) % 18446744073709551616 ≡ v.frame + 1 = omega arith in
    worker_ties z s t id v (begun v) e (set s.words i ((get_or s.words i 0 + 1) % 18446744073709551616)) at lifts (works_core z s t v e (begun v) does) refl
    ((λ j. set (t.words_are j) i (up j)) ∙ (fourth_set r.ins r.mids r.outs fs (in_count z.shape) (mid_count z.shape) (ports z.shape) ok.ins ok.mids ok.outs v.number (v.frame + 1)
    ∙ ap (λ (l : List ℕ). r.ins ++ (r.mids ++ (r.outs ++ l))) (sym (map-set frame_of t.core.workers v.number (begun v)))))

pub begins : (slots id : ℕ) (me : Me Aim View) (z : Size) (v : Worker) → me.0 ≡ AsWorker z v → CanBegin v
    → Allows (Tied z) slots id me (frame_place z.shape v.number) (λ n. (n + 1) % 2 ^ 64) (began (step slots (frame_place z.shape v.number) 1 0 none) me)
begins slots id me z v is can s t _ at _ =
    let at' : get_elem? s.views id ≡ some (AsWorker z v) = at ∙ ap (λ (x : View). some x) is in (
      AsWorker z (begun v),
      keeps,
      tt,
      frame_steps z s t id v (Begin v.number) at' (λ c h. h) (can, refl) (omega arith),
      goes me z v (begun v) (λ y a b. b ≡ begun a) is refl,
    )

pub ends : (slots id : ℕ) (me : Me Aim View) (z : Size) (v : Worker) → me.0 ≡ AsWorker z v → Runs v
    → Allows (Tied z) slots id me (frame_place z.shape v.number) (λ n. (n + 1) % 2 ^ 64) (began (step slots (frame_place z.shape v.number) 1 0 none) me)
ends slots id me z v is runs s t _ at _ =
    let at' : get_elem? s.views id ≡ some (AsWorker z v) = at ∙ ap (λ (x : View). some x) is in
    let low = (worker_ok z s t v (worker_at z s t id z v at')).may_end in (
      AsWorker z (begun v),
      keeps,
      tt,
      frame_steps z s t id v (End v.number) at' (λ c h. h) (runs, refl) (omega arith),
      goes me z v (begun v) (λ y a b. b ≡ begun a) is refl,
    )

pub loads_mid : (slots id : ℕ) (me : Me Aim View) (z : Size) (v : Worker) (y : Port) (n : ℕ) (k : Middle) → me.0 ≡ AsWorker z v → v.hold ≡ Output y n k
    → Allows (Tied z) slots id me (mid_place z.shape k (module_of z.shape y)) (λ q. q) (loaded_mid (step slots (mid_place z.shape k (module_of z.shape y)) 0 0 none) me)
loads_mid slots id me z v y n k is hold s t _ at _ =
    let i : ℕ = mid_place z.shape k (module_of z.shape y) in
    let q : ℕ = get_or s.words i 0 in
    let at' : get_elem? s.views id ≡ some (AsWorker z v) = at ∙ ap (λ (x : View). some x) is in
    let mine = worker_at z s t id z v at' in
    let low = output_inside z t.core.mover t.sized (mover_ok z s t) v y n k (hold_at z s t v mine (Output y n k) hold) in
    let found : q ≡ mid_word z.shape t.core.mover.registers k (module_of z.shape y) = mid_found z s t k (module_of z.shape y) low.2 in
    let named : q ≡ named_mid z.shape t.core.mover.registers v.hold = found ∙ ap (named_mid z.shape t.core.mover.registers) (sym hold) in
    let v' : Worker = mid_loaded q v in (
      AsWorker z v',
      keeps,
      tt,
      worker_ties z s t id v v' (LoadMid v.number) (set s.words i q) at' (λ c h. h) (works_core z s t v (LoadMid v.number) v' (subst HasOutput (sym hold) tt, ap (λ (o : ℕ). mid_loaded o v) named)) refl
          (loaded_words z s t v v' i mine refl),
      goes me z v v' (λ u a b. (q ≢ 0) × (q - 1 < u.shape.modules) × (b ≡ mid_loaded q a)) is ((λ e. low.3 (sym found ∙ e)), subst (λ (o : ℕ). o - 1 < z.shape.modules) (sym found) low.4, refl),
    )

pub loads_in : (slots id : ℕ) (me : Me Aim View) (z : Size) (v : Worker) (y : Port) (n : ℕ) (k : Middle) (i : ℕ) → me.0 ≡ AsWorker z v → v.hold ≡ Path y n k i
    → Allows (Tied z) slots id me (in_cell z.shape i k) (λ q. q) (loaded_in (step slots (in_cell z.shape i k) 0 0 none) me)
loads_in slots id me z v y n k i is hold s t _ at _ =
    let q : ℕ = get_or s.words (in_cell z.shape i k) 0 in
    let at' : get_elem? s.views id ≡ some (AsWorker z v) = at ∙ ap (λ (x : View). some x) is in
    let mine = worker_at z s t id z v at' in
    let low = path_inside z t.core.mover t.sized (mover_ok z s t) v y n k i (hold_at z s t v mine (Path y n k i) hold) in
    let found : q ≡ in_word z.shape t.core.mover.registers i k = in_found z s t i k low.3 in
    let named : q ≡ named_in z.shape t.core.mover.registers v.hold = found ∙ ap (named_in z.shape t.core.mover.registers) (sym hold) in
    let v' : Worker = in_loaded z.shape q v in (
      AsWorker z v',
      keeps,
      tt,
      worker_ties z s t id v v' (LoadIn v.number) (set s.words (in_cell z.shape i k) q) at' (λ c h. h) (works_core z s t v (LoadIn v.number) v' (subst HasPath (sym hold) tt, ap (λ (o : ℕ). in_loaded z.shape o v) named)) refl
          (loaded_words z s t v v' (in_cell z.shape i k) mine refl),
      goes me z v v' (λ u a b. (q ≢ 0) × IsPort u.shape (port_of u.shape a.hold q) × (b ≡ in_loaded u.shape q a)) is
          ((λ e. low.4 (sym found ∙ e)), subst (λ (h : Hold). IsPort z.shape (port_of z.shape h q)) (sym hold) (subst (λ (o : ℕ). IsPort z.shape (port_of z.shape (Path y n k i) o)) (sym found) low.5), refl),
    )

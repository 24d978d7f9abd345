-- What is written stays, output by output and module by module.
use Rattle.std.proofs.Common.{◌≡◌, ◌≢◌, ℕ, suc, ◌+◌, ◌-◌, ◌*◌, ◌/◌, ◌%◌, ◌<◌, ◌≤◌, List, [], ◌∷◌, ◌++◌, length, take, drop, set, sym, refl, ap, ◌∙◌, subst, inl, arith, append_assoc, append-nil, length-set, length-take-le, length-drop, take-add, take-suc-set}
use lib.Seq.{take-set-le, drop-set-add}
use Rattle.std.proofs.lemmas.Nat.{div-mul-add, mul-add-lt, mul-le}
use Rattle.dxc_num.specs.Dimensions.{Dimensions, ports, module_of}
use Rattle.fabric_core.specs.declared.size.Size.{Size}
use Rattle.fabric_core.specs.declared.worker.Hold.TheVariants.{Empty}
use Rattle.fabric_core.specs.declared.worker.Note.{Note}
use Rattle.fabric_core.specs.declared.worker.Worker.{Worker}
use Rattle.fabric_core.specs.Registers.{in_count, mid_count}
use Rattle.frame_worker.specs.Frames.{idle, CarriesOne, CarriesFrom, with_notes}
use Rattle.frame_worker.specs.declared.outputs.Lanes.{Lanes}
use Rattle.frame_worker.specs.Rows.{lanes_of, IsWritten}

-- the ports from the first of a module on are the module's
pub port_in : (d : Dimensions) (j first p : ℕ) → j < d.modules → first ≡ j * d.slots → first ≤ p → p < first + d.slots → (p < ports d) × (module_of d (record { 0 = p }) ≡ j)
port_in d j first p low is from to =
    let e : p ≡ j * d.slots + (p - first) = omega arith in
    let below : j * d.slots + (p - first) < d.slots * d.modules = mul-add-lt j d.slots (p - first) d.modules low (omega arith) in
    (omega arith, ap (λ (n : ℕ). n / d.slots) e ∙ div-mul-add j d.slots (p - first) (omega arith))

-- where the OUT words of a module begin and end
pub lane_ends : (d : Dimensions) (j : ℕ) (l : Lanes) → l ≡ lanes_of d j → (l.first ≡ l.outs + j * d.slots) × (l.end ≡ l.first + d.slots)
lane_ends d j l is =
    let outs : l.outs ≡ in_count d + mid_count d = ap (λ (t : Lanes). t.outs) is in
    let first : l.first ≡ (in_count d + mid_count d) + j * d.slots = ap (λ (t : Lanes). t.first) is in
    (first ∙ ap (λ (n : ℕ). n + j * d.slots) (sym outs), ap (λ (t : Lanes). t.end) is ∙ ap (λ (n : ℕ). n + d.slots) (sym first))

-- the output whose OUT word lies at a place of them
pub output_at : (d : Dimensions) (j place : ℕ) (l : Lanes) → l ≡ lanes_of d j → j < d.modules → l.first ≤ place → place < l.end
    → (j * d.slots ≤ place - l.outs) × (place - l.outs < ports d) × (module_of d (record { 0 = place - l.outs }) ≡ j) × (((place - l.outs) + 1) - j * d.slots ≡ ((place + 1) - l.outs) - j * d.slots)
output_at d j place l is low from to =
    let at = lane_ends d j l is in let first = at.0 in let end = at.1 in
    let above : j * d.slots ≤ place - l.outs = omega arith in
    let port = port_in d j (j * d.slots) (place - l.outs) low refl above (omega arith) in
    (above, port.0, port.1, omega arith)

pub module_below : (d : Dimensions) (j n : ℕ) → j < d.modules → n ≡ ports d → j * d.slots ≤ n
module_below d j n low is = let more : j * d.slots ≤ d.modules * d.slots = mul-le j d.slots d.modules d.slots (omega arith) (omega arith) in omega arith

-- an output of a module of another worker's is one of the others
pub others_at : (z : Size) (w : ℕ) (input : List ℕ) (j p : ℕ) → module_of z.shape (record { 0 = p }) ≡ j → j % z.workers ≢ w → CarriesOne z w input (record { 0 = p }) [] idle
others_at z w input j p is other = inl ((λ e. other (ap (λ (n : ℕ). n % z.workers) (sym is) ∙ e)), refl, refl)

-- a worker's notes, and some more
pub no_notes : (v : Worker) → v.hold ≡ Empty → v ≡ with_notes [] v
no_notes v rests = λ i. record { number = v.number; frame = v.frame; hold = rests i; notes = sym (append-nil v.notes) i }

pub more_notes : (v u t : Worker) (ns one : List Note) → u ≡ with_notes ns v → t ≡ with_notes one u → t ≡ with_notes (ns ++ one) v
more_notes v u t ns one is next = next ∙ (ap (with_notes one) is ∙ (λ i. record { number = v.number; frame = v.frame; hold = Empty; notes = append_assoc v.notes ns one i }))

module _ (z : Size) (w : ℕ) (input : List ℕ) where
  carries_more : (y : ℕ) (bs cs : List ℕ) (a b : List Note) → CarriesFrom z w input y bs a → CarriesFrom z w input (y + length bs) cs b → CarriesFrom z w input y (bs ++ cs) (a ++ b)
  carries_more y [] cs a b none h = let e : y + 0 ≡ y = omega arith in subst (λ (ns : List Note). CarriesFrom z w input y cs (ns ++ b)) (sym none) (subst (λ (n : ℕ). CarriesFrom z w input n cs b) e h)
  carries_more y (x ∷ bs) cs a b (one, rest, is, carried, more) h = let e : y + suc (length bs) ≡ (y + 1) + length bs = omega arith in
      (one, rest ++ b, ap (λ (ns : List Note). ns ++ b) is ∙ append_assoc one rest b, carried, carries_more (y + 1) bs cs rest b more (subst (λ (n : ℕ). CarriesFrom z w input n cs b) e h))

  carries_one : (y b : ℕ) (ns : List Note) → CarriesOne z w input (record { 0 = y }) ns b → CarriesFrom z w input y (b ∷ []) ns
  carries_one y b ns carried = (ns, [], sym (append-nil ns), carried, refl)

  pub written_none : (first : ℕ) (old : List ℕ) → IsWritten z w input first 0 old old []
  written_none first old = record { long = refl; front = refl; row = refl }

  pub written_more : (first n : ℕ) (old now : List ℕ) (ns one : List Note) (b : ℕ) → first + n < length now → IsWritten z w input first n old now ns → CarriesOne z w input (record { 0 = first + n }) one b
      → IsWritten z w input first (n + 1) old (set now (first + n) b) (ns ++ one)
  written_more first n old now ns one b low h carried =
      let room : n < length (drop first now) = omega (arith, length-drop first now) in
      let e : suc n ≡ n + 1 = omega arith in
      let row : take (n + 1) (drop first (set now (first + n) b)) ≡ take n (drop first now) ++ b ∷ [] = ap (take (n + 1)) (drop-set-add first now n b) ∙ subst (λ (k : ℕ). take k (set (drop first now) n b) ≡ take n (drop first now) ++ b ∷ []) e (take-suc-set (drop first now) n b room) in
      let long : length (take n (drop first now)) ≡ n = length-take-le n (drop first now) (omega arith) in record {
        long = length-set now (first + n) b ∙ h.long;
        front = take-set-le first now (first + n) b (omega arith) ∙ h.front;
        row = subst (λ (bs : List ℕ). CarriesFrom z w input first bs (ns ++ one)) (sym row)
            (carries_more first (take n (drop first now)) (b ∷ []) ns one h.row (subst (λ (k : ℕ). CarriesFrom z w input (first + k) (b ∷ []) one) (sym long) (carries_one (first + n) b one carried)));
      }

  pub written_at : (first p : ℕ) (old now : List ℕ) (ns one : List Note) (b : ℕ) → first ≤ p → p < length now → IsWritten z w input first (p - first) old now ns → CarriesOne z w input (record { 0 = p }) one b
      → IsWritten z w input first ((p + 1) - first) old (set now p b) (ns ++ one)
  written_at first p old now ns one b from low h carried =
      let e : first + (p - first) ≡ p = omega arith in let n : (p - first) + 1 ≡ (p + 1) - first = omega arith in
      subst (λ (t : ℕ × ℕ). IsWritten z w input first t.1 old (set now t.0 b) (ns ++ one)) (λ i. (e i, n i))
      (written_more first (p - first) old now ns one b (omega arith) h (subst (λ (k : ℕ). CarriesOne z w input (record { 0 = k }) one b) (sym e) carried))

  -- the outputs so far, and one module more
  pub frame_more : (first n : ℕ) (old new : List ℕ) (before ns : List Note) → first ≤ length old → CarriesFrom z w input 0 (take first old) before → IsWritten z w input first n old new ns → CarriesFrom z w input 0 (take (first + n) new) (before ++ ns)
  frame_more first n old new before ns low so_far h =
      let long : length (take first old) ≡ first = length-take-le first old low in
      let zero_first : first ≡ 0 + first = omega arith in
      subst (λ (bs : List ℕ). CarriesFrom z w input 0 bs (before ++ ns)) (sym (take-add first n new ∙ ap (λ (bs : List ℕ). bs ++ take n (drop first new)) h.front))
      (carries_more 0 (take first old) (take n (drop first new)) before ns so_far (subst (λ (k : ℕ). CarriesFrom z w input (0 + k) (take n (drop first new)) ns) (sym long) (subst (λ (k : ℕ). CarriesFrom z w input k (take n (drop first new)) ns) zero_first h.row)))

  -- the worker and the outputs after one module more
  pub module_more : (v u t : Worker) (j : ℕ) (old new : List ℕ) (ns one : List Note) → j * z.shape.slots ≤ length old → u ≡ with_notes ns v → t ≡ with_notes one u
      → CarriesFrom z w input 0 (take (j * z.shape.slots) old) ns → IsWritten z w input (j * z.shape.slots) z.shape.slots old new one
      → (ms : List Note) × (t ≡ with_notes ms v) × CarriesFrom z w input 0 (take ((j + 1) * z.shape.slots) new) ms
  module_more v u t j old new ns one low is next so_far h = let e : j * z.shape.slots + z.shape.slots ≡ (j + 1) * z.shape.slots = omega arith in
      (ns ++ one, more_notes v u t ns one is next, subst (λ (n : ℕ). CarriesFrom z w input 0 (take n new) (ns ++ one)) e (frame_more (j * z.shape.slots) z.shape.slots old new ns one low so_far h))

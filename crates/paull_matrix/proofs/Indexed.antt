-- The indexes follow the colouring.
use Rattle.std.proofs.Common.{◌≡◌, ◌≢◌, ◌⊎◌, ℕ, ◌/◌, ◌<◌, ◌≤◌, List, [], ◌∷◌, zero, suc, length, get_or, replicate, sym, refl, ap, ◌∙◌, inl, inr, subst, ⊎_elim, arith, Option, Some, None, Bool, true, false, not, is_some, true≢false, get_or-set_same, get_or-set_other, length-set}
use mathlib.Core.Logic.{dite}
use native.Mathlib.Decide.{ℕ_discrete}
use Rattle.std.proofs.lemmas.List.{length-replicate, get_or-replicate, set-set}
use Rattle.std.proofs.Math.ListN.{get_or-eq_default}
use Rattle.std.proofs.Math.Decide.{dec_lt}
use Rattle.dxc_num.specs.declared.port.Leg.{Leg}
use Rattle.dxc_num.specs.Dimensions.{Dimensions, IsInside, leg, ports, route}
use Rattle.paull_matrix.specs.declared.side.Side.{Side}
use Rattle.paull_matrix.specs.declared.side.Side.TheVariants.{Row, Column}
use Rattle.paull_matrix.specs.Colourings.{CanPlace, Colouring, colouring_of, route_at, IsEmpty, IsHeld, Holds, module_on, IsFreeFor, IsUnused, IsProperColouring, no_legs, with_leg, without_leg}
use Rattle.paull_matrix.specs.Indexes.{Cells, cell_count, cell_of, leg_in, no_cells, with_cell, Indexes, IsMatrix}
use Rattle.paull_matrix.proofs.Cells.{cell_lt, same_cell}
use Rattle.paull_matrix.proofs.Legs.{same_leg, held_here, held_else, held_before, held_less, held_rest, out_low, module_low, with_leg_proper, without_leg_proper, none_some}

legs_same : {a b : Leg} → Some a ≡ Some b → a ≡ b
legs_same e = cc

none_leg : {a : Leg} → None ≡ Some a → ⊥
none_leg e = cc

-- a cell_of, by module and middle, is this one or another
module _ (c : Colouring) (s : Side) (g : Cells) (p : IsProperColouring c) (x : Indexes c s g) where
  here : (m k : ℕ) (e : Option Leg) → m < c.shape.modules → k ≤ c.shape.slots → leg_in (with_cell m k e g) m k ≡ e
  here m k e lm lk = let n = x.size in let b : cell_of g.shape m k < cell_count c.shape = subst (λ (z : Dimensions). cell_of z m k < cell_count c.shape) (sym x.same) (cell_lt c.shape m k lm lk) in get_or-set_same g.legs (cell_of g.shape m k) e None (omega arith)

  else : (m k n q : ℕ) (e : Option Leg) → k ≤ c.shape.slots → q ≤ c.shape.slots → ((m ≡ n) × (k ≡ q) → ⊥) → leg_in (with_cell m k e g) n q ≡ leg_in g n q
  else m k n q e lk lq away = get_or-set_other g.legs (cell_of g.shape m k) (cell_of g.shape n q) e None (λ d. let w = same_cell c.shape n q m k lq lk (subst (λ (z : Dimensions). cell_of z n q ≡ cell_of z m k) x.same d) in away (sym w.0, sym w.1))

  one_cell : (m k n q : ℕ) → ((m ≡ n) × (k ≡ q)) ⊎ ((m ≡ n) × (k ≡ q) → ⊥)
  one_cell m k n q = dite (ℕ_discrete m n) (λ a. dite (ℕ_discrete k q) (λ b. inl (a, b)) (λ no. inr (λ h. no h.1))) (λ no. inr (λ h. no h.0))

  pub index_with : (l : Leg) (k : ℕ) → IsInside c.shape l → k ≤ c.shape.slots → IsUnused c l → IsFreeFor c l k → Indexes (with_leg l k c) s (with_cell (module_on c.shape s l) k (Some l) g)
  index_with l k i lk unused free = record {
    same = x.same;
    size = length-set g.legs _ _ ∙ x.size;
    has = λ y q h. ⊎_elim
        (λ (e : (y ≡ l) × (q ≡ k)). (λ j. leg_in (with_cell (module_on c.shape s l) k (Some l) g) (module_on c.shape s (e.0 j)) (e.1 j)) ∙ (here (module_on c.shape s l) k (Some l) lm lk ∙ ap Some (sym e.0)))
        (λ (e : (y.output.0 ≢ l.output.0) × Holds c y q). else (module_on c.shape s l) k (module_on c.shape s y) q (Some l) lk (p.inside y q e.1).1 (λ d. free s y (subst (Holds c y) (sym d.1) e.1) (sym d.0)) ∙ x.has y q e.1)
        (held_before c l y k q low h);
    is = λ m q y lm' lq h. ⊎_elim
        (λ (e : (module_on c.shape s l ≡ m) × (k ≡ q)). let d : l ≡ y = legs_same (sym (here (module_on c.shape s l) k (Some l) lm lk) ∙ ((λ j. leg_in (with_cell (module_on c.shape s l) k (Some l) g) (e.0 j) (e.1 j)) ∙ h)) in
        (subst (λ (w : Leg × ℕ). Holds (with_leg l k c) w.0 w.1) (λ j. (d j, e.1 j)) (held_here c l k low), ap (module_on c.shape s) (sym d) ∙ e.0))
        (λ (no : (module_on c.shape s l ≡ m) × (k ≡ q) → ⊥). let r = x.is m q y lm' lq (sym (else (module_on c.shape s l) k m q (Some l) lk lq no) ∙ h) in (held_else c l y k q (unused.output y q r.0) r.0, r.1))
        (one_cell (module_on c.shape s l) k m q);
  }
    where
      low : l.output.0 < length c.routes
      low = out_low c l p i

      lm : module_on c.shape s l < c.shape.modules
      lm = module_low c.shape s l i

  pub index_without : (l : Leg) (k : ℕ) → Holds c l k → Indexes (without_leg l c) s (with_cell (module_on c.shape s l) k None g)
  index_without l k held = record {
    same = x.same;
    size = length-set g.legs _ _ ∙ x.size;
    has = λ y q h. let r = held_rest c l y q low h in else (module_on c.shape s l) k (module_on c.shape s y) q None lk (p.inside y q r.1).1 (λ d. r.0 (ap (λ (o : Leg). o.output.0) (sym (p.apart s k l y held (subst (Holds c y) (sym d.1) r.1) d.0)))) ∙ x.has y q r.1;
    is = λ m q y lm' lq h. ⊎_elim
        (λ (e : (module_on c.shape s l ≡ m) × (k ≡ q)). absurd (none_leg (sym (here (module_on c.shape s l) k None lm lk) ∙ ((λ j. leg_in (with_cell (module_on c.shape s l) k None g) (e.0 j) (e.1 j)) ∙ h))))
        (λ (no : (module_on c.shape s l ≡ m) × (k ≡ q) → ⊥). let r = x.is m q y lm' lq (sym (else (module_on c.shape s l) k m q None lk lq no) ∙ h) in
        (held_less c l y q (λ e. let d = same_leg c y l q k r.0 held e in no (ap (module_on c.shape s) (sym d.0) ∙ r.1, sym d.1)) r.0, r.1))
        (one_cell (module_on c.shape s l) k m q);
  }
    where
      i : IsInside c.shape l
      i = (p.inside l k held).0

      lk : k ≤ c.shape.slots
      lk = (p.inside l k held).1

      low : l.output.0 < length c.routes
      low = out_low c l p i

      lm : module_on c.shape s l < c.shape.modules
      lm = module_low c.shape s l i

pub matrix_with : (c : Colouring) (rows columns : Cells) (l : Leg) (k : ℕ) → IsMatrix c.shape c.routes rows columns → CanPlace c l k
    → IsMatrix c.shape (with_leg l k c).routes (with_cell (module_on c.shape Row l) k (Some l) rows) (with_cell (module_on c.shape Column l) k (Some l) columns)
matrix_with c rows columns l k m can = record {
  proper = with_leg_proper c l k m.proper can.inside can.low can.free (λ x j g w. absurd (can.unused.input x j g w));
  rows_are = index_with c Row rows m.proper m.rows_are l k can.inside can.low can.unused can.free;
  columns_are = index_with c Column columns m.proper m.columns_are l k can.inside can.low can.unused can.free;
}

pub matrix_without : (c : Colouring) (rows columns : Cells) (l : Leg) (k : ℕ) → IsMatrix c.shape c.routes rows columns → Holds c l k
    → IsMatrix c.shape (without_leg l c).routes (with_cell (module_on c.shape Row l) k None rows) (with_cell (module_on c.shape Column l) k None columns)
matrix_without c rows columns l k m held = record {
  proper = without_leg_proper c l m.proper (out_low c l m.proper (m.proper.inside l k held).0);
  rows_are = index_without c Row rows m.proper m.rows_are l k held;
  columns_are = index_without c Column columns m.proper m.columns_are l k held;
}

pub unused_after : (c : Colouring) (l : Leg) (k : ℕ) → IsProperColouring c → Holds c l k → IsUnused (without_leg l c) l
unused_after c l k p held = record {
  output = λ x q h. (held_rest c l x q low h).0;
  input = λ x q h e. let r = held_rest c l x q low h in r.0 (ap (λ (o : Leg). o.output.0) (p.inputs x l q k r.1 held e));
}
  where
    low : l.output.0 < length c.routes
    low = out_low c l p (p.inside l k held).0

-- a leg that was taken out may be put on a middle that was free for it
pub can_place_again : (c : Colouring) (l : Leg) (q k : ℕ) → IsProperColouring c → Holds c l q → k ≤ c.shape.slots → IsFreeFor c l k → CanPlace (without_leg l c) l k
can_place_again c l q k p held le free = record {
  inside = (p.inside l q held).0;
  low = le;
  unused = unused_after c l q p held;
  free = λ s x h. free s x (held_rest c l x k (out_low c l p (p.inside l q held).0) h).1;
}

pub with_leg_again : (c : Colouring) (l : Leg) (k : ℕ) → with_leg l k (without_leg l c) ≡ with_leg l k c
with_leg_again c l k = ap (colouring_of c.shape) (set-set c.routes l.output.0 None (Some (route l.input.0 k)))

-- a leg that is held goes to a middle that is free for it
pub matrix_turned : (c : Colouring) (rows columns : Cells) (l : Leg) (q k : ℕ) → IsMatrix c.shape c.routes rows columns → Holds c l q → (k ≤ c.shape.slots) × IsFreeFor c l k
    → IsMatrix c.shape (with_leg l k c).routes (with_cell (module_on c.shape Row l) k (Some l) (with_cell (module_on c.shape Row l) q None rows)) (with_cell (module_on c.shape Column l) k (Some l) (with_cell (module_on c.shape Column l) q None columns))
matrix_turned c rows columns l q k m held free =
    let taken = matrix_without c rows columns l q m held in
    subst (λ (d : Colouring). IsMatrix c.shape d.routes (with_cell (module_on c.shape Row l) k (Some l) (with_cell (module_on c.shape Row l) q None rows)) (with_cell (module_on c.shape Column l) k (Some l) (with_cell (module_on c.shape Column l) q None columns)))
    (with_leg_again c l k)
    (matrix_with (without_leg l c) (with_cell (module_on c.shape Row l) q None rows) (with_cell (module_on c.shape Column l) q None columns) l k taken (can_place_again c l q k m.proper held free.0 free.1))

all_none : {A : Type 0} (n i : ℕ) → get_or (replicate {A = Option A} n None) i None ≡ None
all_none {A} n i = dite (dec_lt i n) (λ h. get_or-replicate n i None None h)
    (λ h. get_or-eq_default (replicate {A = Option A} n None) None (let e : length (replicate {A = Option A} n None) ≡ n = length-replicate n None in omega arith))

none_held : (z : Dimensions) (l : Leg) (k : ℕ) → Holds (no_legs z) l k → ⊥
none_held z l k h = none_some (sym (all_none (ports z) l.output.0) ∙ h)

new_index : (z : Dimensions) (s : Side) → Indexes (no_legs z) s (no_cells z)
new_index z s = record {
  same = refl;
  size = length-replicate _ _;
  has = λ l k h. absurd (none_held z l k h);
  is = λ m k l lm lk h. absurd (none_leg (sym (all_none (cell_count z) (cell_of z m k)) ∙ h));
}

pub new_matrix : (z : Dimensions) → IsMatrix z (replicate (ports z) None) (no_cells z) (no_cells z)
new_matrix z = record {
  proper = record {
    size = length-replicate _ _;
    inside = λ l k h. absurd (none_held z l k h);
    apart = λ t k l v h g e. absurd (none_held z l k h);
    inputs = λ l v k q h g e. absurd (none_held z l k h);
  };
  rows_are = new_index z Row;
  columns_are = new_index z Column;
}

-- what is read inside a list hangs on no default
pub any_default : {A : Type 0} (xs : List A) (i : ℕ) (d e : A) → i < length xs → get_or xs i d ≡ get_or xs i e
any_default [] i d e h = let z : ⊥ = omega arith in absurd z
any_default (x ∷ xs) zero d e h = refl
any_default (x ∷ xs) (suc i) d e h = any_default xs i d e (omega arith)

pub some_of : {A : Type 0} (o : Option A) → is_some o ≡ true → (x : A) × (o ≡ Some x)
some_of None h = absurd (true≢false (sym h))
some_of (Some x) h = (x, refl)

pub none_of : {A : Type 0} (o : Option A) → is_some o ≡ false → o ≡ None
none_of None h = refl
none_of (Some x) h = absurd (true≢false h)

pub not_false : (b : Bool) → not b ≡ true → b ≡ false
not_false true h = absurd (true≢false (sym h))
not_false false h = refl

pub not_of : (b : Bool) → (b ≡ true → ⊥) → not b ≡ true
not_of true h = absurd (h refl)
not_of false h = refl

-- a cell_of that is set tells a leg on that middle
pub cell_held : (c : Colouring) (s : Side) (g : Cells) (m k : ℕ) → Indexes c s g → m < c.shape.modules → k ≤ c.shape.slots → is_some (leg_in g m k) ≡ true → IsEmpty c k → ⊥
cell_held c s g m k x lm lk h e = let r = some_of (leg_in g m k) h in e r.0 (x.is m k r.0 lm lk r.1).0

-- no cell_of is set
pub none_there : (c : Colouring) (s : Side) (g : Cells) (k : ℕ) → IsProperColouring c → Indexes c s g → ((m : ℕ) → m < c.shape.modules → leg_in g m k ≡ None) → IsEmpty c k
none_there c s g k p x h l held = none_leg (sym (h (module_on c.shape s l) (module_low c.shape s l (p.inside l k held).0)) ∙ x.has l k held)

-- a leg in a cell is held
pub held_in : (c : Colouring) (s : Side) (g : Cells) (m k : ℕ) (v : Leg) → Indexes c s g → m < c.shape.modules → k ≤ c.shape.slots → leg_in g m k ≡ Some v → IsHeld c v
held_in c s g m k v x lm lk h = (k, (x.is m k v lm lk h).0)

-- a row tells whether a leg has this input
pub no_input : (c : Colouring) (l : Leg) (g : Cells) (m : ℕ) → IsProperColouring c → Indexes c Row g → m ≡ module_on c.shape Row l
    → ((k : ℕ) (v : Leg) → k ≤ c.shape.slots → leg_in g m k ≡ Some v → v.input.0 ≢ l.input.0) → (v : Leg) → IsHeld c v → v.input.0 ≡ l.input.0 → ⊥
no_input c l g m p x is none v held e =
    let same : m ≡ module_on c.shape Row v = is ∙ ap (λ (n : ℕ). n / c.shape.slots) (sym e) in
    none held.0 v (p.inside v held.0 held.1).1 (ap (λ (n : ℕ). leg_in g n held.0) same ∙ x.has v held.0 held.1) e

pub used_route : (c : Colouring) (l : Leg) → is_some (route_at c l.output.0) ≡ true → IsUnused c l → ⊥
used_route c l h u = let r = some_of (route_at c l.output.0) h in u.output (leg r.0.input.0 l.output.0) r.0.middle.0 r.1 refl

pub unused_from : (c : Colouring) (l : Leg) → is_some (route_at c l.output.0) ≡ false → ((v : Leg) → IsHeld c v → v.input.0 ≡ l.input.0 → ⊥) → IsUnused c l
unused_from c l h none = record {
  output = λ x k held e. none_some (sym (none_of (route_at c l.output.0) h) ∙ (ap (route_at c) (sym e) ∙ held));
  input = λ x k held. none x (k, held);
}

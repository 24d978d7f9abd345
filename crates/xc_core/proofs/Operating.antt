-- Operations that go on, and what a Provisioner's disk reads in them.
use Rattle.std.proofs.Common.{◌≡◌, ◌⊎◌, inl, inr, ⊎_elim, ℕ, ◌≤◌, ◌<◌, arith, List, [], ◌∷◌, ◌++◌, append-nil, append_assoc, Option, None, refl, sym, ◌∙◌, ap, subst}
use Rattle.std.proofs.lemmas.Bool.{cases_lt}
use Rattle.std.specs.List.{AllByRecursion}
use Rattle.dxc_disk.specs.Disks.{DiskState, IsDisk, Leaves, LeavesOnly, Reading, files, last_read}
use Rattle.dxc_disk.proofs.ReadingSteps.{all_read, files_on, last_on, reads_last}
use Rattle.dxc_model.specs.declared.op.Op.{Op}
use Rattle.dxc_model.specs.declared.op.Change.{Change}
use Rattle.shelf_file.specs.Contents.{Contents}
use Rattle.xc_core.specs.Operations.{AreOperations, BeginWithStart, EndsAt, HasRead, InOrder, LeftAfter, MayBe, Operation, Outset, ReadInOrder, Task, made_in, readings_in, start}
use Rattle.xc_core.specs.Reckonings.{Past, ReckonsTo, changed}

-- changes after changes
pub reckons_on : (b g h : Past) (cs ds : List Change) → ReckonsTo b cs g → ReckonsTo g ds h → ReckonsTo b (cs ++ ds) h
reckons_on b g h [] ds is rest = subst (λ (x : Past). ReckonsTo x ds h) is rest
reckons_on b g h (c ∷ cs) ds (ops, works, more) rest = (ops, works, reckons_on (changed b c ops) g h cs ds more rest)

-- one operation more
readings_more : (xs ys : List Operation) → readings_in (xs ++ ys) ≡ readings_in xs ++ readings_in ys
readings_more [] ys = refl
readings_more (x ∷ xs) ys = ap (λ (l : List (List ℕ)). x.readings ++ l) (readings_more xs ys) ∙ sym (append_assoc x.readings (readings_in xs) (readings_in ys))

made_more : (xs ys : List Operation) → made_in (xs ++ ys) ≡ made_in xs ++ made_in ys
made_more [] ys = refl
made_more (x ∷ xs) ys = ap (λ (l : List Change). x.made ++ l) (made_more xs ys) ∙ sym (append_assoc x.made (made_in xs) (made_in ys))

begin_more : (xs ys : List Operation) → BeginWithStart xs → BeginWithStart (xs ++ ys)
begin_more [] ys begin = absurd begin
begin_more (x ∷ xs) ys begin = begin

are_more : (b : Past) (file : List ℕ) (xs : List Operation) (now next : Past) (x : Operation) → AreOperations b file xs now → AllByRecursion (MayBe now x.doubt x.task) (last_read file (readings_in xs) ∷ x.readings) → ReckonsTo now x.made next → AreOperations b file (xs ++ x ∷ []) next
are_more b file [] now next x are all made = subst (λ (y : Past). AreOperations y file (x ∷ []) next) are (all, (next, made, refl))
are_more b file (y ∷ ys) now next x (head, (mid, first, rest)) all made = (
  head,
  (mid, first, are_more mid (last_read file y.readings) ys now next x rest (subst (λ (f : List ℕ). AllByRecursion (MayBe now x.doubt x.task) (f ∷ x.readings)) (last_on file y.readings (readings_in ys)) all) made),
)

order_by : (from : ℕ) (xs : List Operation) (rs : List Reading) (by : ℕ) → InOrder from xs rs by → from ≤ by
order_by from [] rs by order = order.1
order_by from (x ∷ xs) rs by (first, (own, later, split, own_files, behind, rest)) = let last = order_by x.ended xs later by rest in omega (arith, first, last)

all_later : (from to : ℕ) (rs : List Reading) → from ≤ to → AllByRecursion (λ r. to ≤ r.at) rs → AllByRecursion (λ r. from ≤ r.at) rs
all_later from to [] le all = tt
all_later from to (r ∷ rs) le all = (let first : to ≤ r.at = all.0 in omega (arith, le, first), all_later from to rs le all.1)

order_more : (from : ℕ) (xs : List Operation) (rs more : List Reading) (by : ℕ) (x : Operation) → InOrder from xs rs by → files more ≡ x.readings → AllByRecursion (λ r. by ≤ r.at) more → by ≤ x.ended → InOrder from (xs ++ x ∷ []) (rs ++ more) x.ended
order_more from [] rs more by x order own_files behind later = (
  let first : from ≤ by = order.1 in omega (arith, first, later),
  (more, [], ap (λ (l : List Reading). l ++ more) order.0 ∙ sym (append-nil more), own_files, all_later from by more order.1 behind, (refl, omega arith)),
)
order_more from (y ∷ ys) rs more by x (first, (own, rest, split, files_are, since, order)) own_files behind later = (
  first,
  (own, rest ++ more, ap (λ (l : List Reading). l ++ more) split ∙ append_assoc own rest more, files_are, since, order_more y.ended ys rest more by x order own_files behind later),
)

read_in_order : (xs : List Operation) (a b : DiskState) (more : List Reading) (x : Operation) → ReadInOrder xs a → b.readings ≡ a.readings ++ more → files more ≡ x.readings → AllByRecursion (λ r. a.moment ≤ r.at) more → a.moment ≤ b.moment → x.ended ≡ b.moment → ReadInOrder (xs ++ x ∷ []) b
read_in_order xs a b more x order reads own_files behind later ended = record {
  before = order.before;
  since = order.since ++ more;
  readings = reads ∙ (ap (λ (l : List Reading). l ++ more) order.readings ∙ append_assoc order.before order.since more);
  in_order = subst (λ (n : ℕ). InOrder 0 (xs ++ x ∷ []) (order.since ++ more) n) ended (order_more 0 xs order.since more a.moment x order.in_order own_files behind (let at : x.ended ≡ b.moment = ended in omega (arith, at, later)));
}

ends_more : (xs : List Operation) (x : Operation) (t : ℕ) → EndsAt (xs ++ x ∷ []) t → EndsAt xs t ⊎ (t ≡ x.ended)
ends_more [] x t at = ⊎_elim (λ is. inr is) (λ none. absurd none) at
ends_more (y ∷ ys) x t at = ⊎_elim (λ is. inl (inl is)) (λ rest. ⊎_elim (λ old. inl (inr old)) (λ is. inr is) (ends_more ys x t rest)) at

-- none ended later than the last
ends_by : (from : ℕ) (xs : List Operation) (rs : List Reading) (by t : ℕ) → InOrder from xs rs by → EndsAt xs t → t ≤ by
ends_by from [] rs by t order at = absurd at
ends_by from (x ∷ xs) rs by t (first, (own, later, split, own_files, behind, rest)) at = ⊎_elim
    (λ is. let last = order_by x.ended xs later by rest in omega (arith, is, last))
    (λ other. ends_by x.ended xs later by t rest other)
    at

-- what a crash in the last one leaves
left_last : (b : Past) (file : List ℕ) (xs : List Operation) (now : Past) (x : Operation) (t : ℕ) (c : List ℕ) → AreOperations b file xs now → t < x.ended → MayBe now x.doubt x.task c → LeftAfter b (xs ++ x ∷ []) t c
left_last b file [] now x t c are before may = inl (before, subst (λ (y : Past). MayBe y x.doubt x.task c) are may)
left_last b file (y ∷ ys) now x t c (head, (mid, first, rest)) before may = inr (mid, first, left_last mid (last_read file y.readings) ys now x t c rest before may)

-- or in an earlier one
left_more : (b : Past) (xs : List Operation) (x : Operation) (t : ℕ) (c : List ℕ) → LeftAfter b xs t c → LeftAfter b (xs ++ x ∷ []) t c
left_more b [] x t c left = absurd left
left_more b (y ∷ ys) x t c left = ⊎_elim (λ here. inl here) (λ rest. inr (rest.0, rest.1, left_more rest.0 ys x t c rest.2)) left

-- the last one made these changes besides
abbrev made_by : Operation → List Operation → List Change → List Operation
made_by x [] cs = record x { made = x.made ++ cs } ∷ []
made_by x (y ∷ ys) cs = x ∷ made_by y ys cs

are_made : (b : Past) (file : List ℕ) (x : Operation) (xs : List Operation) (now next : Past) (cs : List Change) → AreOperations b file (x ∷ xs) now → ReckonsTo now cs next → AreOperations b file (made_by x xs cs) next
are_made b file x [] now next cs (all, (mid, first, is)) more = (all, (next, reckons_on b mid next x.made cs first (subst (λ (y : Past). ReckonsTo y cs next) is more), refl))
are_made b file x (y ∷ ys) now next cs (all, (mid, first, rest)) more = (all, (mid, first, are_made mid (last_read file x.readings) y ys now next cs rest more))

made_made : (x : Operation) (xs : List Operation) (cs : List Change) → made_in (made_by x xs cs) ≡ made_in (x ∷ xs) ++ cs
made_made x [] cs = append-nil (x.made ++ cs) ∙ ap (λ (l : List Change). l ++ cs) (sym (append-nil x.made))
made_made x (y ∷ ys) cs = ap (λ (l : List Change). x.made ++ l) (made_made y ys cs) ∙ sym (append_assoc x.made (made_in (y ∷ ys)) cs)

readings_made : (x : Operation) (xs : List Operation) (cs : List Change) → readings_in (made_by x xs cs) ≡ readings_in (x ∷ xs)
readings_made x [] cs = refl
readings_made x (y ∷ ys) cs = ap (λ (l : List (List ℕ)). x.readings ++ l) (readings_made y ys cs)

begin_made : (x : Operation) (xs : List Operation) (cs : List Change) → BeginWithStart (x ∷ xs) → BeginWithStart (made_by x xs cs)
begin_made x [] cs begin = begin
begin_made x (y ∷ ys) cs begin = begin

order_made : (from : ℕ) (x : Operation) (xs : List Operation) (cs : List Change) (rs : List Reading) (by : ℕ) → InOrder from (x ∷ xs) rs by → InOrder from (made_by x xs cs) rs by
order_made from x [] cs rs by order = order
order_made from x (y ∷ ys) cs rs by (first, (own, later, split, own_files, behind, rest)) = (first, (own, later, split, own_files, behind, order_made x.ended y ys cs later by rest))

ends_made : (x : Operation) (xs : List Operation) (cs : List Change) (t : ℕ) → EndsAt (made_by x xs cs) t → EndsAt (x ∷ xs) t
ends_made x [] cs t at = at
ends_made x (y ∷ ys) cs t at = ⊎_elim (λ is. inl is) (λ rest. inr (ends_made y ys cs t rest)) at

left_made : (b : Past) (x : Operation) (xs : List Operation) (cs : List Change) (t : ℕ) (c : List ℕ) → LeftAfter b (x ∷ xs) t c → LeftAfter b (made_by x xs cs) t c
left_made b x [] cs t c left = ⊎_elim (λ here. inl here) (λ rest. absurd rest.2) left
left_made b x (y ∷ ys) cs t c left = ⊎_elim (λ here. inl here) (λ rest. inr (rest.0, rest.1, left_made rest.0 y ys cs t c rest.2)) left

-- what the file of the last reading is
pub last_file : (from : Outset) (made : List Change) (now : Past) (s : DiskState) → IsDisk s → (h : HasRead from made now s) → last_read (last_read [] from.readings) (readings_in h.operations) ≡ s.reads_as
last_file from made now s disk h = sym (last_on [] from.readings (readings_in h.operations)) ∙ (ap (last_read []) (sym h.readings) ∙ reads_last s disk)

-- An operation was done, in which all that was read was what it may be.
module _ (from : Outset) (made : List Change) (now : Past) (a b : DiskState) (doubt : Option Op) (task : Task) (disk : IsDisk a) (then_disk : IsDisk b) (before : Leaves a (MayBe now doubt task)) (only : LeavesOnly a b (MayBe now doubt task)) (h : HasRead from made now a) where
  abbrev more : List Reading
  more = only.on.more

  abbrev x : Operation
  x = record { task = task; doubt = doubt; readings = files more; ended = b.moment; made = [] }

  -- a crash since the end of an earlier one
  left_since : (t : ℕ) (c : List ℕ) → EndsAt h.operations t → b.left_since t c → LeftAfter from.past (h.operations ++ x ∷ []) t c ⊎ b.may_leave c
  left_since t c at left =
      let early : t ≤ a.moment = ends_by 0 h.operations h.in_order.since a.moment t h.in_order.in_order at in
      ⊎_elim
      (λ under_way.
      let here : MayBe now doubt task c → LeftAfter from.past (h.operations ++ x ∷ []) t c = λ may. left_last from.past (last_read [] from.readings) h.operations now x t c h.are under_way may in
      inl (⊎_elim
      (λ old. ⊎_elim (λ earlier. left_more from.past h.operations x t c earlier) (λ image. here (before c image)) (h.left t c at old))
      here
      (only.before t c early left)))
      (λ over. let same : t ≡ b.moment = (let later = only.on.later in omega (arith, early, later, over)) in inr (then_disk.only_now c (subst (λ (n : ℕ). b.left_since n c) same left)))
      (cases_lt t b.moment)

  pub read_more : HasRead from made now b
  read_more = record {
    operations = h.operations ++ x ∷ [];
    begin = begin_more h.operations (x ∷ []) h.begin;
    are = are_more from.past (last_read [] from.readings) h.operations now now x h.are
        (subst (MayBe now doubt task) (sym (last_file from made now a disk h)) (before a.reads_as disk.reads_now), all_read (MayBe now doubt task) a b then_disk only) refl;
    made_is = made_more h.operations (x ∷ []) ∙ (append-nil (made_in h.operations) ∙ h.made_is);
    readings = ap files only.on.readings ∙ (files_on a.readings more ∙ (ap (λ (l : List (List ℕ)). l ++ files more) h.readings ∙ (append_assoc from.readings (readings_in h.operations) (files more)
        ∙ ap (λ (l : List (List ℕ)). from.readings ++ l) (ap (λ (l : List (List ℕ)). readings_in h.operations ++ l) (sym (append-nil (files more))) ∙ sym (readings_more h.operations (x ∷ []))))));
    in_order = read_in_order h.operations a b more x h.in_order only.on.readings refl only.on.since only.on.later refl;
    left = λ t c at left. ⊎_elim (λ old. left_since t c old left) (λ same. inr (then_disk.only_now c (subst (λ (n : ℕ). b.left_since n c) same left))) (ends_more h.operations x t at);
  }

-- The table took the changes of the last operation.
pub read_made : (from : Outset) (made cs : List Change) (now next : Past) (s : DiskState) → ReckonsTo now cs next → HasRead from made now s → HasRead from (made ++ cs) next s
read_made from made cs now next s more h = by h.operations h.begin h.are h.made_is h.readings h.in_order h.left
  where
    by : (xs : List Operation) → BeginWithStart xs → AreOperations from.past (last_read [] from.readings) xs now → made_in xs ≡ made → files s.readings ≡ from.readings ++ readings_in xs → ReadInOrder xs s
        → ((t : ℕ) (c : List ℕ) → EndsAt xs t → s.left_since t c → LeftAfter from.past xs t c ⊎ s.may_leave c) → HasRead from (made ++ cs) next s
    by [] begin are is reads order left = absurd begin
    by (x ∷ xs) begin are is reads order left = record {
      operations = made_by x xs cs;
      begin = begin_made x xs cs begin;
      are = are_made from.past (last_read [] from.readings) x xs now next cs are more;
      made_is = made_made x xs cs ∙ ap (λ (l : List Change). l ++ cs) is;
      readings = reads ∙ ap (λ (l : List (List ℕ)). from.readings ++ l) (sym (readings_made x xs cs));
      in_order = record { before = order.before; since = order.since; readings = order.readings; in_order = order_made 0 x xs cs order.since s.moment order.in_order };
      left = λ t c at since. ⊎_elim (λ was. inl (left_made from.past x xs cs t c was)) (λ image. inr image) (left t c (ends_made x xs cs t at) since);
    }

all_from : (rs : List Reading) → AllByRecursion (λ r. 0 ≤ r.at) rs
all_from [] = tt
all_from (r ∷ rs) = (omega arith, all_from rs)

-- The start was the first.
pub read_begun : (first : Past) (shelf : Contents) (a b : DiskState) (more : List Reading) → IsDisk a → IsDisk b → b.readings ≡ a.readings ++ more → MayBe first None (start shelf) a.reads_as → AllByRecursion (MayBe first None (start shelf)) (files more) → HasRead (record { past = first; readings = files a.readings }) [] first b
read_begun first shelf a b more disk then_disk reads before all =
    let x : Operation = record { task = start shelf; doubt = None; readings = files more; ended = b.moment; made = [] } in
    record {
      operations = x ∷ [];
      begin = (shelf, refl);
      are = ((subst (MayBe first None (start shelf)) (sym (reads_last a disk)) before, all), (first, refl, refl));
      made_is = refl;
      readings = ap files reads ∙ (files_on a.readings more ∙ ap (λ (l : List (List ℕ)). files a.readings ++ l) (sym (append-nil (files more))));
      in_order = record { before = a.readings; since = more; readings = reads; in_order = (omega arith, (more, [], sym (append-nil more), refl, all_from more, (refl, omega arith))) };
      left = λ t c at left. ⊎_elim (λ same. inr (then_disk.only_now c (subst (λ (n : ℕ). b.left_since n c) same left))) (λ none. absurd none) at;
    }

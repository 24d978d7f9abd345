-- The changes to a table, as they are gathered, and that they are of its shape.
use Rattle.std.proofs.Common.{zero, suc, ◌≡◌, ℕ, ◌+◌, ◌<◌, Bool, true, false, Option, Some, None, List, [], ◌∷◌, ◌++◌, map, length, take, slice_index_or, sym, refl, ap, ◌∙◌, arith, append_assoc, append-nil}
use Rattle.std.specs.Prelude.{filter, flat_map, IfSome}
use Rattle.std.specs.List.{AllByRecursion, range_with_len}
use Rattle.std.proofs.lemmas.List.{map-append, take_more}
use Rattle.std.proofs.lemmas.Grind.{flat_map-append}
use Rattle.dxc_num.specs.declared.port.Middle.{Middle}
use Rattle.dxc_num.specs.Dimensions.{Dimensions, IsPort, IsWorking}
use Rattle.dxc_model.specs.declared.conn.Conn.{Conn}
use Rattle.dxc_model.specs.declared.op.Change.{Change}
use Rattle.dxc_model.specs.declared.op.Change.TheVariants.{Enter}
use Rattle.dxc_model.specs.declared.op.Selection.TheVariants.{All}
use Rattle.dxc_model.specs.Equipment.{has_bit}
use Rattle.dxc_model.specs.Tables.{Board, IsOfShape, is_equipped, is_selected, rows}
use Rattle.tl1_answer.specs.Texts.{IsChangeOf}
use Rattle.tl1_script.specs.Scripts.{changes_to, equipment_changes, module_changes, out_changes}

all_selected : (d : Dimensions) (cs : List Conn) → filter (is_selected d All) cs ≡ cs
all_selected d [] = refl
all_selected d (c ∷ cs) = ap (λ (xs : List Conn). c ∷ xs) (all_selected d cs)

-- all rows of a table are its connections
pub all_rows : (t : Board) → rows t All ≡ t.conns
all_rows t = all_selected t.shape t.conns

-- one entry more
pub entry_more : (xs : List Change) (rows : List Conn) (at : ℕ) (d : Conn) → at < length rows → (xs ++ map Enter (take at rows)) ++ Enter (slice_index_or rows at d) ∷ [] ≡ xs ++ map Enter (take (at + 1) rows)
entry_more xs rows at d low =
    append_assoc xs (map Enter (take at rows)) (Enter (slice_index_or rows at d) ∷ [])
    ∙ ap (λ (l : List Change). xs ++ l) (sym (ap (map Enter) (take_more rows at d low) ∙ map-append Enter (take at rows) (slice_index_or rows at d ∷ [])))

range_more : (a n : ℕ) → range_with_len a (n + 1) ≡ range_with_len a n ++ (a + n) ∷ []
range_more a zero = let here : a ≡ a + 0 = omega arith in ap (λ (k : ℕ). k ∷ []) here
range_more a (suc n) = let next : a + 1 + n ≡ a + suc n = omega arith in let longer : suc n + 1 ≡ suc (n + 1) = omega arith in ap (λ (k : ℕ). range_with_len a k) longer ∙ ap (λ (ks : List ℕ). a ∷ ks) (range_more (a + 1) n ∙ ap (λ (k : ℕ). range_with_len (a + 1) n ++ k ∷ []) next)

-- one module more
pub module_more : (f : ℕ → List Change) (n : ℕ) → flat_map f (range_with_len 0 n) ++ f n ≡ flat_map f (range_with_len 0 (n + 1))
module_more f n = let here : 0 + n ≡ n = omega arith in sym (ap (flat_map f) (range_more 0 n ∙ ap (λ (k : ℕ). range_with_len 0 n ++ k ∷ []) here) ∙ (flat_map-append f (range_with_len 0 n) (n ∷ []) ∙ ap (λ (l : List Change). flat_map f (range_with_len 0 n) ++ l) (append-nil (f n))))

-- what is gathered, part by part
pub gathered : (bits : ℕ) (t : Board) (a b c : List Change) (rs : List Conn) → a ≡ equipment_changes bits t → rs ≡ rows t All → b ≡ a ++ map Enter rs → c ≡ b ++ out_changes t.out → c ≡ changes_to bits t
gathered bits t a b c rs first are second third =
    third ∙ ap (λ (l : List Change). l ++ out_changes t.out) (second ∙ (ap (λ (l : List Change). l ++ map Enter rs) first ∙ ap (λ (l : List Conn). equipment_changes bits t ++ map Enter l) (are ∙ all_rows t)))

each_joined : {X : Type 0} (P : X → Type 0) (xs ys : List X) → AllByRecursion P xs → AllByRecursion P ys → AllByRecursion P (xs ++ ys)
each_joined P [] ys a b = b
each_joined P (x ∷ xs) ys a b = (a.0, each_joined P xs ys a.1 b)

module_inside : (d : Dimensions) (was is : Bool) (m : ℕ) → m < d.modules → AllByRecursion (IsChangeOf d) (module_changes was is m)
module_inside d false true m low = (low, tt)
module_inside d true false m low = (low, tt)
module_inside d true true m low = tt
module_inside d false false m low = tt

modules_inside : (d : Dimensions) (was is : ℕ → Bool) (a n : ℕ) → a + n ≡ d.modules → AllByRecursion (IsChangeOf d) (flat_map (λ m. module_changes (was m) (is m) m) (range_with_len a n))
modules_inside d was is a zero all = tt
modules_inside d was is a (suc n) all = each_joined (IsChangeOf d) (module_changes (was a) (is a) a) (flat_map (λ m. module_changes (was m) (is m) m) (range_with_len (a + 1) n)) (module_inside d (was a) (is a) a (omega arith)) (modules_inside d was is (a + 1) n (omega arith))

entries_inside : (d : Dimensions) (cs : List Conn) → AllByRecursion (λ c. IsPort d c.from × IsPort d c.to) cs → AllByRecursion (IsChangeOf d) (map Enter cs)
entries_inside d [] a = tt
entries_inside d (c ∷ cs) a = (record { from = a.0.0; to = a.0.1 }, entries_inside d cs a.1)

out_inside : (d : Dimensions) (o : Option Middle) → IfSome o (λ m. IsWorking d m.0) → AllByRecursion (IsChangeOf d) (out_changes o)
out_inside d None w = tt
out_inside d (Some m) w = (w, tt)

pub inside : (bits : ℕ) (t : Board) → IsOfShape t → AllByRecursion (IsChangeOf t.shape) (changes_to bits t)
inside bits t s = let all : 0 + t.shape.modules ≡ t.shape.modules = omega arith in each_joined (IsChangeOf t.shape) (equipment_changes bits t ++ map Enter t.conns) (out_changes t.out)
    (each_joined (IsChangeOf t.shape) (equipment_changes bits t) (map Enter t.conns) (modules_inside t.shape (has_bit bits) (is_equipped t) 0 t.shape.modules all) (entries_inside t.shape t.conns s.ports))
    (out_inside t.shape t.out s.out)

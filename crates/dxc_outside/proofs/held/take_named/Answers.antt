use Rattle.std.proofs.Common.{◌≡◌, ◌≢◌, ◌+◌, ◌<◌, ℕ, suc, arith, Bool, true, false, List, ◌++◌, Option, Some, None, length, take, drop, get_or, find, option_map, position, sym, ap, ◌∙◌}
use Rattle.std.specs.Str.{bytes_eq}
use Rattle.std.proofs.lemmas.Slice.Eq.{bytes_eq-Decides}
use Rattle.dxc_outside.proofs.Taking.{absent, found, left, left_all, not_true, passes, without}
use Rattle.dxc_outside.proofs.held.take_named.Goals as goal

-- one of a name isn't of another
other_name : (a n name : List ℕ) → bytes_eq a name ≡ true → n ≢ name → bytes_eq a n ≡ false
other_name a n name e apart = not_true (bytes_eq a n) (λ t. apart (sym ((bytes_eq-Decides a n).0 t) ∙ (bytes_eq-Decides a name).0 e))

pub returns-in_err-at-clause-taken : goal.returns-in_err-at-clause-taken
returns-in_err-at-clause-taken g c =
    let p : List ℕ × g.row.T.Denot → Bool = λ d. bytes_eq d.0 c.args.name.now in
    let none : position p c.args.all.now.items ≡ None = sym (rw (sym c.deref.ensures.value) c.in_err-at.ensures.place) in
    c.from_residual.ensures ∙ ap (λ (o : Option (List ℕ × g.row.T.Denot)). option_map (λ d. d.1) o) (sym (absent p c.args.all.now.items none))

pub returns-in_err-at-clause-left : goal.returns-in_err-at-clause-left
returns-in_err-at-clause-left g c =
    let p : List ℕ × g.row.T.Denot → Bool = λ d. bytes_eq d.0 c.args.name.now in
    sym (left_all p c.args.all.now.items (sym (rw (sym c.deref.ensures.value) c.in_err-at.ensures.place)))

pub returns-clause-left : goal.returns-clause-left
returns-clause-left g c =
    let p : List ℕ × g.row.T.Denot → Bool = λ d. bytes_eq d.0 c.args.name.now in
    c.remove-taken.ensures.by_index.2 ∙ sym (left p c.args.all.now.items c.in_ok-at.at (sym (rw (sym c.deref.ensures.value) c.in_ok-at.ensures.place)))

pub returns-clause-taken : goal.returns-clause-taken
returns-clause-taken g c =
    let p : List ℕ × g.row.T.Denot → Bool = λ d. bytes_eq d.0 c.args.name.now in
    let xs : List (List ℕ × g.row.T.Denot) = c.args.all.now.items in
    let at : position p xs ≡ Some c.in_ok-at.at = sym (rw (sym c.deref.ensures.value) c.in_ok-at.ensures.place) in
    let low : c.in_ok-at.at < length xs = rw (sym c.deref.ensures.value) c.in_ok-at.ensures.low in
    sym (ap (λ (o : Option (List ℕ × g.row.T.Denot)). option_map (λ d. d.1) o) (found p xs c.in_ok-at.at c.remove-taken.result at low c.remove-taken.ensures.value))

pub returns-clause-others : goal.returns-clause-others
returns-clause-others g c n apart =
    let p : List ℕ × g.row.T.Denot → Bool = λ d. bytes_eq d.0 c.args.name.now in
    let q : List ℕ × g.row.T.Denot → Bool = λ d. bytes_eq d.0 n in
    let xs : List (List ℕ × g.row.T.Denot) = c.args.all.now.items in
    let i = c.in_ok-at.at in
    let x = c.remove-taken.result in
    let at : position p xs ≡ Some i = sym (rw (sym c.deref.ensures.value) c.in_ok-at.ensures.place) in
    let low : i < length xs = rw (sym c.deref.ensures.value) c.in_ok-at.ensures.low in
    let fails : q (get_or xs i x) ≡ false = ap q (sym c.remove-taken.ensures.value) ∙ other_name x.0 n c.args.name.now (passes p xs i x at low c.remove-taken.ensures.value) apart in
    let rest : c.remove-taken.new.self.items ≡ take i xs ++ drop (suc i) xs = c.remove-taken.ensures.by_index.2 ∙ ap (λ (k : ℕ). take i xs ++ drop k xs) (let e : i + 1 ≡ suc i = omega arith in e) in
    ap (λ (ys : List (List ℕ × g.row.T.Denot)). option_map (λ d. d.1) (find q ys)) rest ∙ ap (λ (o : Option (List ℕ × g.row.T.Denot)). option_map (λ d. d.1) o) (without q xs i x fails)

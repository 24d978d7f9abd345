use Rattle.std.proofs.Common.{◌≡◌, ◌<◌, ℕ, Bool, List, Option, Some, None, length, option_map, position, sym, ap, ◌∙◌}
use Rattle.dxc_outside.specs.Files.{are_lines}
use Rattle.dxc_outside.specs.declared.mem_lines.MemLines.{MemLines}
use Rattle.dxc_outside.proofs.Taking.{absent, found, left, left_all}
use Rattle.dxc_outside.proofs.held.take_lines.Goals as goal

-- what is held is a name, a worker's number and its lines
abbrev Held : Type 0
Held = List ℕ × ℕ × MemLines

pub returns-in_err-at : goal.returns-in_err-at
returns-in_err-at c =
    let p : Held → Bool = λ d. are_lines c.args.name.now c.args.worker d in
    let none : position p c.args.lines.now.items ≡ None = sym (rw (sym c.deref.ensures.value) c.in_err-at.ensures.place) in
    record {
      taken = c.from_residual.ensures ∙ ap (λ (o : Option Held). option_map (λ d. d.2) o) (sym (absent p c.args.lines.now.items none));
      left = sym (left_all p c.args.lines.now.items none);
    }

pub returns : goal.returns
returns c =
    let p : Held → Bool = λ d. are_lines c.args.name.now c.args.worker d in
    let xs : List Held = c.args.lines.now.items in
    let at : position p xs ≡ Some c.in_ok-at.at = sym (rw (sym c.deref.ensures.value) c.in_ok-at.ensures.place) in
    let low : c.in_ok-at.at < length xs = rw (sym c.deref.ensures.value) c.in_ok-at.ensures.low in
    record {
      taken = sym (ap (λ (o : Option Held). option_map (λ d. d.2) o) (found p xs c.in_ok-at.at c.remove-taken.result at low c.remove-taken.ensures.value));
      left = c.remove-taken.ensures.by_index.2 ∙ sym (left p xs c.in_ok-at.at at);
    }

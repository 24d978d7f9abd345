use Rattle.std.proofs.Common.{◌≡◌, IsTrue, rules, sym, ap, ◌∙◌}
use Rattle.std.specs.Prelude.{◌↔◌}
use Rattle.dxc_model.specs.Tables.{Board}
use Rattle.dxc_model.proofs.Bools.{true_false}
use Rattle.dxc_model.proofs.Copying.{same_inputs, told_together}
use Rattle.dxc_model.proofs.table.Table.is_same.Goals as goal

pub returns-then-has_same_inputs : goal.returns-then-has_same_inputs
returns-then-has_same_inputs c =
    let shape : c.self.inside.shape ≡ c.other.inside.shape = ap (λ (t : Board). t.shape) c.self.view_is ∙ (sym c.requires ∙ sym (ap (λ (t : Board). t.shape) c.other.view_is)) in
    let out : IsTrue c.eq.result ↔ (c.self.inside.out ≡ c.other.inside.out) = search rules in
    let inputs = c.has_same_inputs.ensures.0 c.if-has_same_inputs.true in
    let modules = c.if-not-have_same_modules.ensures.same in
    rw (← c.self.view_is, ← c.other.view_is) (λ e. told_together _ _ c.self.inside.sides c.other.inside.sides _ _ _ _ shape modules inputs (out.0 e), λ e. out.1 (ap (λ (t : Board). t.out) e))

pub returns-else-has_same_inputs : goal.returns-else-has_same_inputs
returns-else-has_same_inputs c =
    rw (← c.self.view_is, ← c.other.view_is) (
      λ e. absurd (true_false (sym e ∙ c.if-has_same_inputs.false)),
      λ e. absurd (true_false (sym (c.has_same_inputs.ensures.1
          (same_inputs _ _ c.self.inside.sides c.other.inside.sides c.self.invariant c.other.invariant (ap (λ (t : Board). t.shape) e) (ap (λ (t : Board). t.conns) e))) ∙ c.if-has_same_inputs.false)),
    )

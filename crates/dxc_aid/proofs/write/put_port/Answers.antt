use Rattle.std.proofs.Common.{ℕ, List, ◌++◌, codes, decimal, ◌∙◌, ap, ap₂}
use Rattle.dxc_aid.proofs.Writes.{name_is}
use Rattle.dxc_aid.proofs.write.put_port.Goals as goal

pub returns-clause-name : goal.returns-clause-name
returns-clause-name g c =
    let number = c.put_number.ensures.digits ∙ ap₂ (λ (l : List ℕ) (n : ℕ). l ++ decimal n) c.put.ensures.text c.module_number-number.ensures.number in
    c.put_number-2.ensures.digits
    ∙ ap₂ (λ (l : List ℕ) (n : ℕ). l ++ decimal n) (c.put-2.ensures.text ∙ ap (λ (l : List ℕ). l ++ codes "-") number) c.slot_number-slot.ensures.number
    ∙ name_is c.args.shape c.args.port c.args.out.now

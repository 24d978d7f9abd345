use Rattle.std.proofs.Common.{List, ℕ, ◌++◌, ap, ◌∙◌, codes, decimal}
use Rattle.dxc_load.specs.Entries.{ports_text}
use Rattle.dxc_load.proofs.Spelling.{deletes, enters}
use Rattle.dxc_load.proofs.command.put_command.Goals as goal

pub returns-then-i-eq0-clause-text : goal.returns-then-i-eq0-clause-text
returns-then-i-eq0-clause-text c =
    let name = c.put.ensures.text ∙ ap (λ (l : List ℕ). l ++ codes "DLT-CRS-T0::") c.clear.ensures in
    let ports = c.put_ports.ensures.ports ∙ ap (λ (l : List ℕ). l ++ ports_text c.args.entry) name in
    let tagged = c.put_tag.ensures.tag ∙ ap (λ (l : List ℕ). l ++ codes ":" ++ decimal c.args.i) ports in
    c.put-then-i-eq0.ensures.text ∙ ap (λ (l : List ℕ). l ++ codes ";") tagged ∙ deletes c.args.number c.args.i c.args.entry c.requires.named c.if-i-eq0.true

pub returns-clause-text : goal.returns-clause-text
returns-clause-text c =
    let name = c.put-2.ensures.text ∙ ap (λ (l : List ℕ). l ++ codes "ENT-CRS-T0::") c.clear.ensures in
    let ports = c.put_ports-2.ensures.ports ∙ ap (λ (l : List ℕ). l ++ ports_text c.args.entry) name in
    let tagged = c.put_tag-2.ensures.tag ∙ ap (λ (l : List ℕ). l ++ codes ":" ++ decimal c.args.i) ports in
    let text : List ℕ = codes "ENT-CRS-T0::" ++ ports_text c.args.entry ++ codes ":" ++ decimal c.args.i in
    c.put-3.ensures.text
    ∙ ap (λ (l : List ℕ). l ++ c.way.result.now) tagged
    ∙ ap (λ (l : List ℕ). text ++ l) c.way.ensures
    ∙ enters c.args.number c.args.i c.args.entry c.requires.named c.if-i-eq0.false

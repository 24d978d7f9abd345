use Rattle.std.proofs.Common.{◌≡◌, ℕ, List, ◌++◌, Some, sym, ap, subst}
use Rattle.tl1_command.specs.declared.command.Subject.{Subject}
use Rattle.xc_core.specs.Turns.{equipped_in}
use Rattle.craft_session.specs.Responses.{Fills, equipment_lines, program_lines, shown_lines}
use Rattle.craft_session.proofs.FillSteps.{filled_is, fills_more}
use Rattle.craft_session.proofs.shown.add_inventory.Goals as goal

pub returns-in-Whole-clause-filled : goal.returns-in-Whole-clause-filled
returns-in-Whole-clause-filled g c =
    let i = c.args.inventory in
    let equipment = equipment_lines (equipped_in i) i.out in
    let program = program_lines c.args.standing.now in
    let lines : equipment ++ program ≡ shown_lines c.args.subject (equipped_in i) i.out (Some c.args.standing.now) =
    ap (λ (what : Subject). shown_lines what (equipped_in i) i.out (Some c.args.standing.now)) (sym c.in-System.is) in
    subst (λ (ls : List (List ℕ)). Fills g.K.Link.told (g.K.Link.state c.args.link.now) (g.K.Link.state c.add_program.new.link) c.add_program.result c.args.answer.now c.add_program.new.answer ls) lines
    (fills_more g.K.Link.told (g.K.Link.state c.args.link.now) (g.K.Link.state c.add_equipment.new.link) (g.K.Link.state c.add_program.new.link) c.args.answer.now c.add_equipment.new.answer c.add_program.new.answer equipment program (filled_is _ _ _ _ _ _ _ c.in-Whole.is c.add_equipment.ensures.filled) c.add_program.result c.add_program.ensures.filled)

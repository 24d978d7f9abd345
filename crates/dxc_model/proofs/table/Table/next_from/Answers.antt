use Rattle.std.proofs.Common.{arith, sym, ◌∙◌, Some, None}
use Rattle.dxc_model.proofs.Listing.{few_ports, next_is, start_low, word_count}
use Rattle.dxc_model.proofs.Scanning.{first_below}
use Rattle.dxc_model.proofs.table.Table.next_from.Goals as goal

pub next_start-requires : goal.next_start-requires
next_start-requires c = word_count _ c.self.inside.sides c.self.invariant

pub returns-in_err-start-clause-first : goal.returns-in_err-start-clause-first
returns-in_err-start-clause-first c = rw (← c.self.view_is) (c.from_residual.ensures ∙ next_is _ c.self.inside.sides c.args.port None c.self.invariant c.in_err-start.ensures)

pub input_user-requires : goal.input_user-requires
input_user-requires c =
    let low = start_low _ c.self.inside.sides c.in_ok-start.start c.self.invariant (sym (c.self.invariant.starts c.in_ok-start.start) ∙ c.in_ok-start.ensures.1) in
    let few = few_ports _ c.self.inside.sides c.self.invariant in
    let n = c.self.invariant.inputs in
    omega (arith, low, few, n)

pub returns-clause-first : goal.returns-clause-first
returns-clause-first c = rw (← c.self.view_is) (c.input_user.ensures ∙ next_is _ c.self.inside.sides c.args.port (Some c.in_ok-start.start) c.self.invariant c.in_ok-start.ensures)

pub returns-clause-within : goal.returns-clause-within
returns-clause-within c = first_below _ c.self.inside.sides c.args.port _ c.self.invariant (c.input_user.ensures ∙ next_is _ c.self.inside.sides c.args.port (Some c.in_ok-start.start) c.self.invariant c.in_ok-start.ensures)

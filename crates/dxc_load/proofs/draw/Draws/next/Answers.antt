use Rattle.std.proofs.Common.{◌∙◌}
use Rattle.dxc_load.proofs.Drawing.{all_fours, drawn_again, drawn_on, names_first, names_own, same_fours}
use Rattle.dxc_load.proofs.draw.Draws.next.Goals as goal

pub returns-then-command-eq0-clause-behind : goal.returns-then-command-eq0-clause-behind
returns-then-command-eq0-clause-behind c =
    let first = c.args.first in let command = c.args.command in
    let last = (drawn_on first command c.from-odd.result c.from-self.result c.args.self.now c.requires.some c.requires.behind c.from-odd.ensures c.from-self.ensures).1 in
    (last, last ∙ all_fours first command c.if-command-eq0.true)

pub returns-then-command-eq0-clause-named : goal.returns-then-command-eq0-clause-named
returns-then-command-eq0-clause-named c =
    let first = c.args.first in let command = c.args.command in let odd = c.from-odd-then-command-eq0.result in let even = c.from-even.result in
    let numbers = drawn_again first command odd even c.args.self.now c.requires.some c.requires.behind c.if-command-eq0.true c.from-odd-then-command-eq0.ensures c.from-even.ensures in
    names_first first command odd even c.entry_of.result c.if-command-eq0.true numbers c.entry_of.ensures.drawn

pub returns-clause-behind : goal.returns-clause-behind
returns-clause-behind c =
    let first = c.args.first in let command = c.args.command in
    let last = (drawn_on first command c.from-odd.result c.from-self.result c.args.self.now c.requires.some c.requires.behind c.from-odd.ensures c.from-self.ensures).1 in
    (last, c.requires.behind.1 ∙ same_fours first command c.if-command-eq0.false)

pub returns-clause-named : goal.returns-clause-named
returns-clause-named c =
    let first = c.args.first in let command = c.args.command in let odd = c.from-odd.result in let even = c.from-self.result in
    let numbers = drawn_on first command odd even c.args.self.now c.requires.some c.requires.behind c.from-odd.ensures c.from-self.ensures in
    names_own first command odd even c.entry_of-2.result c.if-command-eq0.false numbers c.entry_of-2.ensures.drawn

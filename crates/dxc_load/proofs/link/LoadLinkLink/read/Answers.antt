use Rattle.std.proofs.Common.{◌≢◌, length, refl, rules}
use Rattle.dxc_outside.specs.declared.link.Got.TheVariants.{End}
use Rattle.dxc_load.proofs.Sending.{before_read, few_reads}
use Rattle.dxc_load.proofs.link.LoadLinkLink.read.Goals as goal

pub invariant_of-self-clause-few : goal.invariant_of-self-clause-few
invariant_of-self-clause-few c = λ on.
    let self = c.args.self.now in
    let e = c.next_piece-got.ensures in
    let now = c.next_piece-got.new in
    let some : c.next_piece-got.result ≢ End = search rules in
    (few_reads self.ended self.reads self.sent self.at (length self.text) now.sent now.at c.saturating_add-self.result self.few (λ ended. let all = self.all ended in (all.1, all.2)) (e.last some) (e.further some) c.saturating_add-self.ensures, e.short some)

pub next_piece-got-requires-clause-waits : goal.next_piece-got-requires-clause-waits
next_piece-got-requires-clause-waits c = λ within. let self = c.args.self.now in before_read self.ended self.at (length self.text) self.carrier.frames self.sent self.waits (λ ended. (self.all ended).2) within

pub returns-clause-begun : goal.returns-clause-begun
returns-clause-begun c = (c.args.self.now, refl)

use Rattle.std.proofs.Common.{◌∙◌, sym}
use Rattle.xc_journal.specs.Spelling.{spelling}
use Rattle.xc_journal.proofs.Readback.{entry_read, never, no_change, some_same}
use Rattle.xc_journal.proofs.read.entry_of.Goals as goal

pub returns-in_err-change-clause-only : goal.returns-in_err-change-clause-only
returns-in_err-change-clause-only c change choices e is = absurd (no_change (c.in_err-change.ensures.change ∙ (entry_read c.args.version c.args.bytes.now change choices e is).0))

pub returns-then-not-is_spelled-clause-only : goal.returns-then-not-is_spelled-clause-only
returns-then-not-is_spelled-clause-only c change choices e is =
    let read = entry_read c.args.version c.args.bytes.now change choices e is in
    let one = some_same _ _ (c.in_ok-change.ensures.change ∙ read.0) in
    let list = c.choices_in-choices.ensures ∙ read.1 in
    never c.if-not-is_spelled.true (c.is_spelled.ensures.1 (is ∙ sym (λ i. spelling (one i) (list i))))

pub returns-clause-only : goal.returns-clause-only
returns-clause-only c change choices e is =
    let read = entry_read c.args.version c.args.bytes.now change choices e is in
    (some_same _ _ (c.in_ok-change.ensures.change ∙ read.0), c.choices_in-choices.ensures ∙ read.1)

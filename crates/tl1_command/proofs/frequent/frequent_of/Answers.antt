use Rattle.std.specs.Prelude.{IfSome}
use Rattle.std.proofs.Common.{◌≡◌, Option, Some, None, Result, Err, ◌∙◌}
use Rattle.std.proofs.lemmas.Result.{err_from_is_err_and}
use Rattle.dxc_model.specs.declared.cause.Cause.{Cause}
use Rattle.tl1_command.specs.Meanings.{Asked, deletes, enters}
use Rattle.tl1_command.proofs.frequent.frequent_of.Goals as goal

-- a cause, where it is known, that stands against the same thing by another name
as_denied : (known : Option Cause) {a b : Result Asked Cause} → a ≡ b → IfSome known (λ q. b ≡ Err q) → IfSome known (λ q. a ≡ Err q)
as_denied None same denied = tt
as_denied (Some q) same denied = same ∙ denied

pub returns-in_err-bare_named-in-RtrvHdr-clause-meaning : goal.returns-in_err-bare_named-in-RtrvHdr-clause-meaning
returns-in_err-bare_named-in-RtrvHdr-clause-meaning c =
    let p = err_from_is_err_and c.from_residual-in_err-bare_named-in-RtrvHdr.result c.from_residual-in_err-bare_named-in-RtrvHdr.ensures.1 in
    rw (p.1, p.2) (c.in_err-bare_named-in-RtrvHdr.ensures.meaning c.args.shape)

pub returns-in_err-named-in-RtrvCrsT0-clause-meaning : goal.returns-in_err-named-in-RtrvCrsT0-clause-meaning
returns-in_err-named-in-RtrvCrsT0-clause-meaning c =
    let p = err_from_is_err_and c.from_residual-in_err-named-in-RtrvCrsT0.result c.from_residual-in_err-named-in-RtrvCrsT0.ensures.1 in
    rw (p.1, p.2) (c.in_err-named-in-RtrvCrsT0.ensures.meaning c.args.shape)

pub returns-in_err-named-in-EntCrsT0-clause-meaning : goal.returns-in_err-named-in-EntCrsT0-clause-meaning
returns-in_err-named-in-EntCrsT0-clause-meaning c =
    let p = err_from_is_err_and c.from_residual-in_err-named-in-EntCrsT0.result c.from_residual-in_err-named-in-EntCrsT0.ensures.1 in
    rw (p.1, p.2) (c.in_err-named-in-EntCrsT0.ensures.meaning c.args.shape)

pub returns-in_err-from-in-EntCrsT0-clause-meaning : goal.returns-in_err-from-in-EntCrsT0-clause-meaning
returns-in_err-from-in-EntCrsT0-clause-meaning c =
    let p = err_from_is_err_and c.from_residual-in_err-from-in-EntCrsT0.result c.from_residual-in_err-from-in-EntCrsT0.ensures.1 in
    rw (p.1, p.2) (as_denied c.in_err-from-in-EntCrsT0.field-0.0 (c.in_ok-named-in-EntCrsT0.ensures.meaning c.args.shape) (c.in_err-from-in-EntCrsT0.ensures.asked enters))

pub returns-in_err-named-in-DltCrsT0-clause-meaning : goal.returns-in_err-named-in-DltCrsT0-clause-meaning
returns-in_err-named-in-DltCrsT0-clause-meaning c =
    let p = err_from_is_err_and c.from_residual-in_err-named-in-DltCrsT0.result c.from_residual-in_err-named-in-DltCrsT0.ensures.1 in
    rw (p.1, p.2) (c.in_err-named-in-DltCrsT0.ensures.meaning c.args.shape)

pub returns-in_err-from-in-DltCrsT0-clause-meaning : goal.returns-in_err-from-in-DltCrsT0-clause-meaning
returns-in_err-from-in-DltCrsT0-clause-meaning c =
    let p = err_from_is_err_and c.from_residual-in_err-from-in-DltCrsT0.result c.from_residual-in_err-from-in-DltCrsT0.ensures.1 in
    rw (p.1, p.2) (as_denied c.in_err-from-in-DltCrsT0.field-0.0 (c.in_ok-named-in-DltCrsT0.ensures.meaning c.args.shape) (c.in_err-from-in-DltCrsT0.ensures.asked deletes))

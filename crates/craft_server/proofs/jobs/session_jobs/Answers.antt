use Rattle.std.proofs.Common.{ℕ, ap, arith, is_ok, subst, sym, true≢false}
use Rattle.std.specs.Prelude.{IsOk, vec_len}
use Rattle.dxc_outside.specs.Asked.{AskedFor, asked_each, listener_named}
use Rattle.dxc_outside.proofs.Asking.{asked_less}
use Rattle.dxc_jobs.proofs.Faulting.{behind, is_made, no_memory}
use Rattle.craft_server.proofs.jobs.session_jobs.Goals as goal

pub returns-in-Err-clause-made : goal.returns-in-Err-clause-made
returns-in-Err-clause-made g c = behind _ _ _ _ c.in-Err.status (omega arith) c.doors_at.ensures.made c.in-Err.is

pub returns-in_default-clause-made : goal.returns-in_default-clause-made
returns-in_default-clause-made g c = no_memory _ _ c.doors_at.ensures.made.counted

pub returns-clause-made : goal.returns-clause-made
returns-clause-made g c = is_made _ _ c.doors_at.ensures.made.counted _

pub returns-in-Err-clause-asked : goal.returns-in-Err-clause-asked
returns-in-Err-clause-asked g c =
    let asked = g.O.Opener.asked c.args.opener.now c.doors_at.new.opener in
    let listeners = λ (n : ℕ). asked_each (λ session. listener_named c.args.address.now) n in
    asked_less asked _ (listeners (vec_len c.args.places)) (λ ok. absurd (true≢false (sym ok))) (subst (λ (n : ℕ). AskedFor asked (listeners n) (IsOk c.doors_at.result)) c.len.ensures c.doors_at.ensures.asked)

pub returns-in_default-clause-asked : goal.returns-in_default-clause-asked
returns-in_default-clause-asked g c =
    let asked = g.O.Opener.asked c.args.opener.now c.doors_at.new.opener in
    let listeners = λ (n : ℕ). asked_each (λ session. listener_named c.args.address.now) n in
    asked_less asked _ (listeners (vec_len c.args.places)) (λ ok. absurd (true≢false (sym ok))) (subst (λ (n : ℕ). AskedFor asked (listeners n) (IsOk c.doors_at.result)) c.len.ensures c.doors_at.ensures.asked)

pub returns-clause-asked : goal.returns-clause-asked
returns-clause-asked g c =
    let asked = g.O.Opener.asked c.args.opener.now c.doors_at.new.opener in
    let listeners = λ (n : ℕ). asked_each (λ session. listener_named c.args.address.now) n in
    asked_less asked _ (listeners (vec_len c.args.places)) (λ ok. ap is_ok c.in-Ok.is) (subst (λ (n : ℕ). AskedFor asked (listeners n) (IsOk c.doors_at.result)) c.len.ensures c.doors_at.ensures.asked)

pub returns-clause-listeners : goal.returns-clause-listeners
returns-clause-listeners g c = c.jobs_at.ensures.listeners c.args.address.now c.in-Ok.ensures.listeners

use Rattle.std.proofs.Common.{◌≡◌, ◌≤◌, [], ◌∷◌, ◌++◌, ℕ, All, arith, rules, subst, sym, true≢false}
use Rattle.std.proofs.lemmas.List.Elements.{All-push}
use Rattle.std.proofs.lemmas.Result.{err_from_is_err_and}
use Rattle.dxc_outside.specs.Asked.{asked_each, listener_named}
use Rattle.dxc_outside.proofs.Asking.{asked_all, each_cut, each_next}
use Rattle.dxc_jobs.proofs.Faulting.{behind, is_made, no_memory}
use Rattle.dxc_jobs.proofs.Jobs.{pushed}
use Rattle.craft_server.proofs.jobs.doors_at.Goals as goal

all_of : (n m : ℕ) → m ≤ n → n ≤ m → n ≡ m
all_of n m low high = omega (arith, low, high)

pub loop-preserved : goal.loop-preserved
loop-preserved g c =
    let put : c.push.new.self.items ≡ c.loop.doors.items ++ c.in_ok-door.door ∷ [] = pushed _ _ _ _ (sym c.if-is_err.ensures.value) c.push.ensures.items in
    record {
      each = search rules;
      listeners = subst (All (λ door. g.O.Opener.listener_for door.listener c.args.address.now)) (sym put) (All-push (λ door. g.O.Opener.listener_for door.listener c.args.address.now) c.loop.doors.items c.in_ok-door.door c.loop.invariant.listeners c.in_ok-door.ensures.door);
      later = let up = c.door_at.ensures.made.counted in omega (arith, c.loop.invariant.later, up);
      asked = each_next g.O.Opener.asked g.O.Opener.asked_on c.args.opener.now c.loop.opener c.door_at.new.opener (λ session. listener_named c.args.address.now) c.loop.counter c.loop.invariant.asked c.door_at.ensures.asked;
    }

pub returns-in_err-door-clause-made : goal.returns-in_err-door-clause-made
returns-in_err-door-clause-made g c = let p = err_from_is_err_and c.from_residual.result c.from_residual.ensures.1 in rw (p.1, p.2) (behind _ _ _ _ _ c.loop.invariant.later c.door_at.ensures.made c.in_err-door.was)

pub returns-then-is_err-clause-made : goal.returns-then-is_err-clause-made
returns-then-is_err-clause-made g c = no_memory _ _ (let up = c.door_at.ensures.made.counted in omega (arith, c.loop.invariant.later, up))

pub returns-clause-made : goal.returns-clause-made
returns-clause-made g c = is_made _ _ c.loop.invariant.later _

pub returns-in_err-door-clause-asked : goal.returns-in_err-door-clause-asked
returns-in_err-door-clause-asked g c =
    let p = err_from_is_err_and c.from_residual.result c.from_residual.ensures.1 in
    rw p.1 (each_cut g.O.Opener.asked g.O.Opener.asked_on c.args.opener.now c.loop.opener c.door_at.new.opener (λ session. listener_named c.args.address.now) c.loop.counter c.args.count c.loop-test.true c.loop.invariant.asked c.door_at.ensures.asked (λ ok. true≢false (sym ok)))

pub returns-then-is_err-clause-asked : goal.returns-then-is_err-clause-asked
returns-then-is_err-clause-asked g c = each_cut g.O.Opener.asked g.O.Opener.asked_on c.args.opener.now c.loop.opener c.door_at.new.opener (λ session. listener_named c.args.address.now) c.loop.counter c.args.count c.loop-test.true c.loop.invariant.asked c.door_at.ensures.asked (λ ok. true≢false (sym ok))

pub returns-clause-asked : goal.returns-clause-asked
returns-clause-asked g c =
    asked_all (g.O.Opener.asked c.args.opener.now c.loop.opener) _ (asked_each (λ session. listener_named c.args.address.now) c.args.count)
    (subst (λ (n : ℕ). g.O.Opener.asked c.args.opener.now c.loop.opener (asked_each (λ session. listener_named c.args.address.now) n)) (all_of c.loop.counter c.args.count c.loop-test.false c.loop.auto.counter-end) c.loop.invariant.asked)

use Rattle.std.proofs.Common.{◌≡◌, ◌≤◌, ℕ, arith, rules, true≢false, subst, sym}
use Rattle.std.proofs.lemmas.Result.{err_from_is_err_and}
use Rattle.std.specs.Arc.{arc_value}
use Rattle.dxc_outside.specs.Asked.{asked_each, lines_named}
use Rattle.dxc_outside.proofs.Asking.{asked_all, each_cut, each_next}
use Rattle.dxc_jobs.specs.Handed.{AreJobsOf}
use Rattle.dxc_jobs.proofs.Faulting.{behind, is_made, no_memory}
use Rattle.dxc_jobs.proofs.Jobs.{jobs_more, pushed}
use Rattle.dxc_jobs.proofs.workers.frame_jobs.Goals as goal

all_of : (n m : ℕ) → m ≤ n → n ≤ m → n ≡ m
all_of n m low high = omega (arith, low, high)

pub returns-in_err-job-clause-made : goal.returns-in_err-job-clause-made
returns-in_err-job-clause-made g c = let p = err_from_is_err_and c.from_residual.result c.from_residual.ensures.1 in rw (p.1, p.2) (behind _ _ _ _ _ c.loop-number.invariant.later c.frame_job.ensures.made c.in_err-job.was)

pub returns-then-is_err-clause-made : goal.returns-then-is_err-clause-made
returns-then-is_err-clause-made g c = no_memory _ _ (let up = c.frame_job.ensures.made.counted in omega (arith, c.loop-number.invariant.later, up))

pub returns-clause-made : goal.returns-clause-made
returns-clause-made g c = is_made _ _ c.loop-number.invariant.later _

pub loop-number-preserved : goal.loop-number-preserved
loop-number-preserved g c = record {
  fabric = search rules;
  seats = search rules;
  each = search rules;
  jobs = search rules;
  handed = subst (λ jobs. AreJobsOf g.O.Opener.lines_for (arc_value c.args.fabric.now) c.args.name.now 0 jobs) (sym (pushed _ _ _ _ (sym c.if-is_err.ensures.value) c.push.ensures.items))
      (jobs_more _ _ _ 0 c.loop-number.number c.loop-number.jobs.items c.in_ok-job.job (let e = c.loop-number.invariant.jobs in omega (arith, e)) c.loop-number.invariant.handed c.in_ok-job.ensures.job);
  later = let up = c.frame_job.ensures.made.counted in omega (arith, c.loop-number.invariant.later, up);
  asked = each_next g.O.Opener.asked g.O.Opener.asked_on c.args.opener.now c.loop-number.opener c.frame_job.new.opener (lines_named c.args.name.now) c.loop-number.number c.loop-number.invariant.asked c.frame_job.ensures.asked;
}

pub returns-in_err-job-clause-asked : goal.returns-in_err-job-clause-asked
returns-in_err-job-clause-asked g c =
    let p = err_from_is_err_and c.from_residual.result c.from_residual.ensures.1 in
    rw p.1 (each_cut g.O.Opener.asked g.O.Opener.asked_on c.args.opener.now c.loop-number.opener c.frame_job.new.opener (lines_named c.args.name.now) c.loop-number.number c.args.workers c.loop-number-test.true c.loop-number.invariant.asked c.frame_job.ensures.asked (λ ok. true≢false (sym ok)))

pub returns-then-is_err-clause-asked : goal.returns-then-is_err-clause-asked
returns-then-is_err-clause-asked g c = each_cut g.O.Opener.asked g.O.Opener.asked_on c.args.opener.now c.loop-number.opener c.frame_job.new.opener (lines_named c.args.name.now) c.loop-number.number c.args.workers c.loop-number-test.true c.loop-number.invariant.asked c.frame_job.ensures.asked (λ ok. true≢false (sym ok))

pub returns-clause-asked : goal.returns-clause-asked
returns-clause-asked g c =
    asked_all (g.O.Opener.asked c.args.opener.now c.loop-number.opener) _ (asked_each (lines_named c.args.name.now) c.args.workers)
    (subst (λ (n : ℕ). g.O.Opener.asked c.args.opener.now c.loop-number.opener (asked_each (lines_named c.args.name.now) n)) (all_of c.loop-number.number c.args.workers c.loop-number-test.false c.loop-number.auto.number-end) c.loop-number.invariant.asked)

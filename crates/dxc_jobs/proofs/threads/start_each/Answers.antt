use Rattle.std.proofs.Common.{◌≡◌, ◌+◌, ◌<◌, ◌∙◌, ℕ, List, [], ◌∷◌, ◌++◌, ap, append_assoc, append-nil, arith, length, refl, rules, sym, subst}
use Rattle.std.specs.Prelude.{vec_len}
use Rattle.std.specs.Vec.Iter.{into_iter_items}
use Rattle.std.proofs.lemmas.List.{nil_from_length}
use Rattle.dxc_outside.specs.Jobs.{AnyJob, any_job, any_jobs}
use Rattle.dxc_outside.specs.declared.spawner.Started.{Started}
use Rattle.dxc_outside.specs.declared.spawner.Started.TheVariants.{Running, Failed}
use Rattle.dxc_jobs.specs.Leaves.{left_by}
use Rattle.dxc_jobs.specs.Begun.{AreBegun, IfStarted, NextBegun}
use Rattle.dxc_jobs.specs.Starts.{AreStarts}
use Rattle.dxc_jobs.proofs.Beginning.{begun_more}
use Rattle.dxc_jobs.proofs.Starting.{any_more, next_failed, none_yet, one_more}
use Rattle.dxc_jobs.proofs.threads.start_each.Goals as goal

not_failed : (s : Started) → (s ≡ Failed → ⊥) → s ≡ Running
not_failed Running never = refl
not_failed Failed never = absurd (never refl)

length_more : {J : Type 0} (js : List J) (j : J) → length (js ++ j ∷ []) ≡ length js + 1
length_more [] j = refl
length_more (x ∷ js) j = let e = length_more js j in omega arith

pub loop-job-init : goal.loop-job-init
loop-job-init g c = record {
  started = none_yet (g.P.Spawner.state c.args.spawner.now);
  handed = g.P.Spawner.unhanded c.args.spawner.now;
  begun = subst (λ bs. AreBegun (left_by g.J.Task.ran) [] bs) (sym c.requires) tt;
  left = search rules;
  all = search rules;
  count = search rules;
}

pub loop-job-preserved : goal.loop-job-preserved
loop-job-preserved g c =
    let first = g.P.Spawner.state c.args.spawner.now in
    let new = g.P.Spawner.state c.start_next.new.spawner in
    let runs = not_failed c.start_next.result c.in_default.not-Failed in
    let more = one_more (length c.loop-job.yielded) first (g.P.Spawner.state c.loop-job.spawner) new c.start_next.result runs c.loop-job.invariant.started c.start_next.ensures.started in
    let handed = g.P.Spawner.handed_on c.args.spawner.now c.loop-job.spawner c.start_next.new.spawner (any_jobs c.loop-job.yielded) (any_job c.in-Some.job ∷ []) c.loop-job.invariant.handed (c.start_next.ensures.handed runs) in
    let next : NextBegun (left_by g.J.Task.ran) c.in-Some.job c.loop-job.begun.items c.start_next.new.begun.items = subst (λ (s : Started). IfStarted s (NextBegun (left_by g.J.Task.ran) c.in-Some.job c.loop-job.begun.items c.start_next.new.begun.items) (c.start_next.new.begun.items ≡ c.loop-job.begun.items)) runs c.start_next.ensures.begun in
    let count = length_more c.loop-job.yielded c.in-Some.job in
    record {
      started = subst (λ (n : ℕ). AreStarts n first new Running) (sym count) more;
      handed = subst (λ (l : List AnyJob). g.P.Spawner.handed c.args.spawner.now c.start_next.new.spawner l) (sym (any_more c.loop-job.yielded c.in-Some.job)) handed;
      begun = subst (λ bs. AreBegun (left_by g.J.Task.ran) (c.loop-job.yielded ++ c.in-Some.job ∷ []) bs) (sym next.is) (begun_more (left_by g.J.Task.ran) c.loop-job.yielded c.in-Some.job c.loop-job.begun.items next.one c.loop-job.invariant.begun next.begun);
      left = let one = c.in-Some.ensures.steps.1 in let left = c.loop-job.invariant.left in omega (arith, one, left, count);
      all = append_assoc c.loop-job.yielded (c.in-Some.job ∷ []) _ ∙ ap (λ l. c.loop-job.yielded ++ l) (sym c.in-Some.ensures.steps.0) ∙ c.loop-job.invariant.all;
      count = let was = c.loop-job.invariant.count in let gone = c.in-Some.ensures.steps.1 in let short = ap length c.in-Some.ensures.steps.0 in omega (arith, was, gone, short);
    }

pub returns-in-Failed-clause-starts : goal.returns-in-Failed-clause-starts
returns-in-Failed-clause-starts g c =
    let one = c.in-Some.ensures.steps.1 in
    let left = c.loop-job.invariant.left in
    let more : length c.loop-job.yielded < vec_len c.args.jobs = omega (arith, one, left) in
    next_failed (length c.loop-job.yielded) (vec_len c.args.jobs) (g.P.Spawner.state c.args.spawner.now) (g.P.Spawner.state c.loop-job.spawner) (g.P.Spawner.state c.start_next.new.spawner) c.start_next.result c.in-Failed.is more c.loop-job.invariant.started c.start_next.ensures.started

pub returns-in-Failed-clause-handed : goal.returns-in-Failed-clause-handed
returns-in-Failed-clause-handed g c = λ running. cc

pub returns-in-Failed-clause-begun : goal.returns-in-Failed-clause-begun
returns-in-Failed-clause-begun g c =
    let same : c.start_next.new.begun.items ≡ c.loop-job.begun.items = subst (λ (s : Started). IfStarted s (NextBegun (left_by g.J.Task.ran) c.in-Some.job c.loop-job.begun.items c.start_next.new.begun.items) (c.start_next.new.begun.items ≡ c.loop-job.begun.items)) c.in-Failed.is c.start_next.ensures.begun in
    record {
      front = c.loop-job.yielded;
      back = into_iter_items c.loop-job.job-iterator;
      split = sym c.loop-job.invariant.all;
      are = subst (λ bs. AreBegun (left_by g.J.Task.ran) c.loop-job.yielded bs) (sym same) c.loop-job.invariant.begun;
      all = λ running. cc;
    }

pub returns-clause-handed : goal.returns-clause-handed
returns-clause-handed g c = λ running.
    let i = c.loop-job.invariant in
    let empty : into_iter_items c.loop-job.job-iterator ≡ [] = nil_from_length _ (sym i.count ∙ c.in-None.ensures.steps.0) in
    subst (λ (l : List g.row.J.Denot). g.P.Spawner.handed c.args.spawner.now c.loop-job.spawner (any_jobs l)) (sym (append-nil c.loop-job.yielded) ∙ ap (λ l. c.loop-job.yielded ++ l) (sym empty) ∙ i.all) i.handed

pub returns-clause-begun : goal.returns-clause-begun
returns-clause-begun g c =
    let i = c.loop-job.invariant in
    record {
      front = c.loop-job.yielded;
      back = into_iter_items c.loop-job.job-iterator;
      split = sym i.all;
      are = i.begun;
      all = λ _. nil_from_length _ (sym i.count ∙ c.in-None.ensures.steps.0);
    }

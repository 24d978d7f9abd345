use Rattle.std.proofs.Common.{[], ◌∷◌, ◌++◌, ◌∙◌, ap}
use Rattle.dxc_jobs.proofs.threads.start_next.Goals as goal

pub returns-in-Ok-clause-begun : goal.returns-in-Ok-clause-begun
returns-in-Ok-clause-begun g c = record {
  one = c.in-Some.one;
  is = c.in-Ok.ensures.items ∙ ap (λ l. l ++ c.in-Some.one ∷ []) c.reserve.ensures.items;
  begun = c.in-Some.ensures.begun;
}

use Rattle.std.proofs.Common.{[], ◌∷◌, ◌∙◌, ap, subst, sym}
use Rattle.dxc_outside.specs.Asked.{lines_named}
use Rattle.fabric_words.specs.declared.worker.WorkerSeat.{WorkerSeat}
use Rattle.dxc_jobs.proofs.Faulting.{is_made, kept, no_memory, not_opened}
use Rattle.dxc_jobs.proofs.workers.frame_job.Goals as goal

pub returns-in-Failed-clause-made : goal.returns-in-Failed-clause-made
returns-in-Failed-clause-made g c = not_opened _ _ c.lines.ensures.cause c.in-Failed.is

pub returns-in-NoMemory-clause-made : goal.returns-in-NoMemory-clause-made
returns-in-NoMemory-clause-made g c = no_memory _ _ c.lines.ensures.cause.later

pub returns-in_default-clause-made : goal.returns-in_default-clause-made
returns-in_default-clause-made g c = no_memory _ _ c.lines.ensures.cause.later

pub returns-in-Err-clause-made : goal.returns-in-Err-clause-made
returns-in-Err-clause-made g c = kept _ _ _ _ c.gate.ensures.faults (no_memory _ _ c.lines.ensures.cause.later)

pub returns-in-Ok-new-clause-made : goal.returns-in-Ok-new-clause-made
returns-in-Ok-new-clause-made g c = kept _ _ _ _ c.gate.ensures.faults (is_made _ _ c.lines.ensures.cause.later _)

pub returns-in-Failed-clause-asked : goal.returns-in-Failed-clause-asked
returns-in-Failed-clause-asked g c = c.lines.ensures.asked

pub returns-in-NoMemory-clause-asked : goal.returns-in-NoMemory-clause-asked
returns-in-NoMemory-clause-asked g c = c.lines.ensures.asked

pub returns-in_default-clause-asked : goal.returns-in_default-clause-asked
returns-in_default-clause-asked g c = c.lines.ensures.asked

pub returns-in-Err-clause-asked : goal.returns-in-Err-clause-asked
returns-in-Err-clause-asked g c = g.O.Opener.asked_on c.args.opener.now c.lines.new.self c.gate.new.self (lines_named c.args.name.now c.args.number ∷ []) [] c.lines.ensures.asked c.gate.ensures.asked

pub returns-in-Ok-new-clause-asked : goal.returns-in-Ok-new-clause-asked
returns-in-Ok-new-clause-asked g c = g.O.Opener.asked_on c.args.opener.now c.lines.new.self c.gate.new.self (lines_named c.args.name.now c.args.number ∷ []) [] c.lines.ensures.asked c.gate.ensures.asked

pub returns-in-Ok-new-clause-job : goal.returns-in-Ok-new-clause-job
returns-in-Ok-new-clause-job g c = record {
  seat = ap (λ (w : WorkerSeat). w.reader) c.in-Ok-new.ensures.seat ∙ c.requires;
  lines = subst (λ lines. g.O.Opener.lines_for lines c.args.name.now c.args.number) (sym c.in-Ok-new.ensures.lines) (c.lines.ensures.lines_for c.in-Open.lines c.in-Open.is);
}

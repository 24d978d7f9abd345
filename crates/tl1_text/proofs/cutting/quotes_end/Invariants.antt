use Rattle.std.proofs.Common.{ℕ}
use Rattle.tl1_text.specs.Places.{Quoted}
use Rattle.tl1_text.specs.Cuts.{IsCutTo, Headway, IsCutSoFar}
use Rattle.tl1_text.proofs.cutting.quotes_end.Given as goal

abbrev pub invariant-loop-end : goal.invariant-loop-end
invariant-loop-end l = (code : ℕ) → (so_far : Headway) → IsCutSoFar l.unit code l.fn.at so_far → IsCutTo l.unit l.end (record { found = so_far.found; start = so_far.start; params = so_far.params; place = Quoted })

use Rattle.std.proofs.Common.{◌∙◌}
use Rattle.worked_restarts.proofs.audit.Audit.release.Goals as goal

pub end_in_turn-requires : goal.end_in_turn-requires
end_in_turn-requires g c = rw (c.deref.ensures, c.deref-2.ensures) c.self.invariant.0

pub returns : goal.returns
returns g c = c.in-Some.ensures ∙ c.deref-2.ensures

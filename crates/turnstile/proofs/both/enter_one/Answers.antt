use Rattle.std.proofs.Common.{ℕ, ◌∙◌, subst}
use Rattle.turnstile.specs.Dating.{GoOn}
use Rattle.turnstile.proofs.Going.{seen_on, went_on}
use Rattle.turnstile.proofs.both.enter_one.Goals as goal

pub returns-clause-goes : goal.returns-clause-goes
returns-clause-goes g c = let e = c.enter-turn.ensures in let d = c.leave.ensures.dated in record {
  same = (c.leave.ensures.pass.2 ∙ e.out.0, c.leave.ensures.heard ∙ e.out.2);
  dates = subst (λ (x : ℕ × ℕ). GoOn x.0 x.1 c.args.pass.now.stamps c.leave.new.pass.stamps) (λ i. (e.turn.1 i, e.out.2 i)) (went_on _ _ _ _ _ d.0 e.dated.front d.1 d.3);
}

pub returns-clause-seen : goal.returns-clause-seen
returns-clause-seen g c = seen_on g.S.Sequential.entry_code.code g.S.Sequential.entry_code.inj _ _ _ _ _ _ _ _ _ _ c.args.entry c.enter-turn.ensures.found c.leave.ensures.seen

use Rattle.std.proofs.Common.{List, Some, arith, subst, sym}
use Rattle.dxc_num.specs.declared.register.RegWrite.{RegWrite}
use Rattle.roll_plan.specs.declared.next.Next.{Next}
use Rattle.roll_plan.specs.Works.{writes_of}
use Rattle.roll_plan.specs.Nexts.{Begins, IsNext}
use Rattle.roll_engine.proofs.run.next_on.Goals as goal

pub move_on-requires-clause-next : goal.move_on-requires-clause-next
move_on-requires-clause-next g c = subst (λ (x : Next). IsNext (writes_of c.args.rolling.now.work) c.args.made.now (Some x)) c.in-All.is c.requires.next

pub three_on-requires-clause-next : goal.three_on-requires-clause-next
three_on-requires-clause-next g c = subst (λ (ws : List RegWrite). Begins 3 (writes_of c.args.rolling.now.work) c.args.made.now ws) (sym c.writes_of_join.ensures) (subst (λ (x : Next). IsNext (writes_of c.args.rolling.now.work) c.args.made.now (Some x)) c.in-Join.is c.requires.next)

pub one_on-answer-requires-clause-next : goal.one_on-answer-requires-clause-next
one_on-answer-requires-clause-next g c = subst (λ (x : Next). IsNext (writes_of c.args.rolling.now.work) c.args.made.now (Some x)) c.in-One.is c.requires.next

pub returns-in-All-clause-more : goal.returns-in-All-clause-more
returns-in-All-clause-more g c e = let h = c.move_on.ensures.all e in omega arith

pub returns-in-One-clause-more : goal.returns-in-One-clause-more
returns-in-One-clause-more g c e = let h = c.one_on-answer.ensures.one e in omega arith

pub returns-in-Join-clause-more : goal.returns-in-Join-clause-more
returns-in-Join-clause-more g c e = let h = c.three_on.ensures.all e in omega arith

pub returns-in-Part-clause-more : goal.returns-in-Part-clause-more
returns-in-Part-clause-more g c e = let h = c.three_on-in-Part.ensures.all e in omega arith

use Rattle.std.proofs.Common.{ℕ, Option, Ok, [], ◌++◌, subst}
use Rattle.turnstile.proofs.Places.{keeps_more}
use Rattle.user_admin.specs.declared.turns.UserTook.{UserTook}
use Rattle.user_admin.specs.Marks.{place_of}
use Rattle.user_admin.specs.Shared.{asked_in, opening_at}
use Rattle.user_admin.specs.Turns.{TookIs, codes}
use Rattle.user_admin.proofs.Turning.{rose_behind, stood, took_behind, tried_none, tried_some}
use Rattle.user_admin.proofs.turns.change.Goals as goal

pub returns-in-Ok-Some-clause-took : goal.returns-in-Ok-Some-clause-took
returns-in-Ok-Some-clause-took g c = λ h saw. tried_some (opening_at g.D.Disk.state c.args.turns.now.first) c.args.pass.now.number h c.args.op c.try_change.new.pass.seen c.in-Ok-Some.field-0 c.in-Ok-Some.took c.in-Ok-Some.field-0-is (c.in-Ok-Some.ensures.took h saw)

pub returns-in-Ok-Some-clause-stopped : goal.returns-in-Ok-Some-clause-stopped
returns-in-Ok-Some-clause-stopped g c = c.in-Ok-Some.ensures.stopped

pub change_in_line-took-requires-clause-seen : goal.change_in_line-took-requires-clause-seen
change_in_line-took-requires-clause-seen g c = let w = c.requires.seen in let b = tried_none (opening_at g.D.Disk.state c.args.turns.now.first) c.args.pass.now.number w.0 c.args.op c.try_change.new.pass.seen c.in-Ok-None.field-0 c.in-Ok-None.field-0-is (c.in-Ok-None.ensures.took w.0 w.1) in (w.0 ++ b.later, b.saw)

pub returns-in-Ok-None-clause-pass : goal.returns-in-Ok-None-clause-pass
returns-in-Ok-None-clause-pass g c = keeps_more codes place_of c.args.turns.now c.args.pass.now c.try_change.new.pass c.change_in_line-took.new.pass c.try_change.ensures.pass c.change_in_line-took.ensures.pass

pub returns-in-Ok-None-clause-took : goal.returns-in-Ok-None-clause-took
returns-in-Ok-None-clause-took g c = λ h saw. took_behind (opening_at g.D.Disk.state c.args.turns.now.first) c.args.pass.now.number h c.args.op c.try_change.new.pass.seen c.change_in_line-took.new.pass.seen c.change_in_line-took.result (tried_none (opening_at g.D.Disk.state c.args.turns.now.first) c.args.pass.now.number h c.args.op c.try_change.new.pass.seen c.in-Ok-None.field-0 c.in-Ok-None.field-0-is (c.in-Ok-None.ensures.took h saw))
    (λ k next. subst (λ (n : ℕ). TookIs (opening_at g.D.Disk.state c.args.turns.now.first) n k c.args.op c.change_in_line-took.new.pass.seen c.change_in_line-took.result) c.try_change.ensures.pass.goes.same.0 (c.change_in_line-took.ensures.took k next))

pub returns-in-Ok-None-clause-stopped : goal.returns-in-Ok-None-clause-stopped
returns-in-Ok-None-clause-stopped g c = rose_behind _ _ _ _ (stood _ _ c.in-Ok-None.ensures.stopped) c.change_in_line-took.ensures.stopped

pub returns-in-Ok-None-clause-asked : goal.returns-in-Ok-None-clause-asked
returns-in-Ok-None-clause-asked g c = g.G.Gate.asked_on c.args.gate.now c.try_change.new.gate c.change_in_line-took.new.gate [] _ (subst (λ (x : Option UserTook). g.G.Gate.asked c.args.gate.now c.try_change.new.gate (asked_in (Ok x))) c.in-Ok-None.field-0-is c.in-Ok-None.ensures.asked) c.change_in_line-took.ensures.asked

pub returns-in-Ok-None-clause-rests : goal.returns-in-Ok-None-clause-rests
returns-in-Ok-None-clause-rests g c = λ rests. c.change_in_line-took.ensures.rests (c.try_change.ensures.rests rests)

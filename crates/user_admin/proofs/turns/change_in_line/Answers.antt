use Rattle.std.proofs.Common.{ℕ, Option, Ok, [], ◌++◌, refl, ◌∙◌, subst}
use Rattle.turnstile.proofs.Places.{keeps_more, kept_pass}
use Rattle.user_admin.specs.declared.turns.UserTook.{UserTook}
use Rattle.user_admin.specs.Marks.{place_of}
use Rattle.user_admin.specs.Shared.{asked_in, opening_at}
use Rattle.user_admin.specs.Turns.{TookIs, TurnedBack, codes}
use Rattle.user_admin.proofs.Turning.{back_behind, rose_behind, stood, took_behind, tried_none, tried_some, turned_none}
use Rattle.user_admin.proofs.turns.change_in_line.Goals as goal

pub try_change-requires-clause-seen : goal.try_change-requires-clause-seen
try_change-requires-clause-seen g c = let w = c.requires.seen in let b = c.loop.invariant.passed w.0 w.1 in (w.0 ++ b.later, b.saw)

pub loop-init : goal.loop-init
loop-init g c = record { goes = (tt, tt); pass = kept_pass codes place_of c.args.turns.now c.args.pass.now c.requires.pass; rests = λ rests. rests; passed = λ h saw. turned_none (opening_at g.D.Disk.state c.args.turns.now.first) c.args.pass.now.number h c.args.pass.now.seen saw; gate = refl; asked = g.G.Gate.unasked c.args.gate.now }

pub returns-in-Ok-Some : goal.returns-in-Ok-Some
returns-in-Ok-Some g c =
    let t = c.in-Ok-Some.ensures in
    record {
      pass = keeps_more codes place_of c.args.turns.now c.args.pass.now c.loop.pass c.try_change.new.pass c.loop.invariant.pass c.try_change.ensures.pass;
      rests = λ rests. c.try_change.ensures.rests (c.loop.invariant.rests rests);
      took = λ h saw. took_behind (opening_at g.D.Disk.state c.args.turns.now.first) c.args.pass.now.number h c.args.op.now c.loop.pass.seen c.try_change.new.pass.seen (Ok c.in-Ok-Some.took) (c.loop.invariant.passed h saw) (λ k next. subst (λ (n : ℕ). TookIs (opening_at g.D.Disk.state c.args.turns.now.first) n k c.args.op.now c.try_change.new.pass.seen (Ok c.in-Ok-Some.took)) c.loop.invariant.pass.goes.same.0 (tried_some (opening_at g.D.Disk.state c.args.turns.now.first) c.loop.pass.number k c.args.op.now c.try_change.new.pass.seen c.in-Ok-Some.field-0 c.in-Ok-Some.took c.in-Ok-Some.field-0-is (c.in-Ok-Some.ensures.took k next)));
      stopped = rose_behind _ _ _ _ c.loop.invariant.gate t.stopped;
      asked = g.G.Gate.asked_on c.args.gate.now c.loop.gate c.try_change.new.gate [] _ c.loop.invariant.asked (subst (λ (x : Option UserTook). g.G.Gate.asked c.loop.gate c.try_change.new.gate (asked_in (Ok x))) c.in-Ok-Some.field-0-is t.asked);
    }

pub returns-in-Err : goal.returns-in-Err
returns-in-Err g c =
    let t = c.in-Err.ensures in
    record {
      pass = keeps_more codes place_of c.args.turns.now c.args.pass.now c.loop.pass c.try_change.new.pass c.loop.invariant.pass c.try_change.ensures.pass;
      rests = λ rests. c.try_change.ensures.rests (c.loop.invariant.rests rests);
      took = λ h saw. back_behind (opening_at g.D.Disk.state c.args.turns.now.first) c.args.pass.now.number h c.loop.pass.seen c.try_change.new.pass.seen (c.loop.invariant.passed h saw) (λ k next. subst (λ (n : ℕ). TurnedBack (opening_at g.D.Disk.state c.args.turns.now.first) n k c.try_change.new.pass.seen) c.loop.invariant.pass.goes.same.0 (t.took k next));
      stopped = rose_behind _ _ _ _ c.loop.invariant.gate t.stopped;
      asked = g.G.Gate.asked_on c.args.gate.now c.loop.gate c.try_change.new.gate [] _ c.loop.invariant.asked t.asked;
    }

pub loop-preserved : goal.loop-preserved
loop-preserved g c = record {
  goes = (tt, tt);
  pass = keeps_more codes place_of c.args.turns.now c.args.pass.now c.loop.pass c.try_change.new.pass c.loop.invariant.pass c.try_change.ensures.pass;
  rests = λ rests. c.try_change.ensures.rests (c.loop.invariant.rests rests);
  passed = λ h saw. back_behind (opening_at g.D.Disk.state c.args.turns.now.first) c.args.pass.now.number h c.loop.pass.seen c.try_change.new.pass.seen (c.loop.invariant.passed h saw) (λ k next. subst (λ (n : ℕ). TurnedBack (opening_at g.D.Disk.state c.args.turns.now.first) n k c.try_change.new.pass.seen) c.loop.invariant.pass.goes.same.0 (tried_none (opening_at g.D.Disk.state c.args.turns.now.first) c.loop.pass.number k c.args.op.now c.try_change.new.pass.seen c.in-Ok-None.field-0 c.in-Ok-None.field-0-is (c.in-Ok-None.ensures.took k next)));
  gate = stood _ _ c.in-Ok-None.ensures.stopped ∙ c.loop.invariant.gate;
  asked = g.G.Gate.asked_on c.args.gate.now c.loop.gate c.try_change.new.gate [] [] c.loop.invariant.asked (subst (λ (x : Option UserTook). g.G.Gate.asked c.loop.gate c.try_change.new.gate (asked_in (Ok x))) c.in-Ok-None.field-0-is c.in-Ok-None.ensures.asked);
}

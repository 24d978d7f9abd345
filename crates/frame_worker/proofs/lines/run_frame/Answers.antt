use Rattle.std.proofs.Common.{rules, List, ℕ, ◌++◌, sym, ap, ◌∙◌, refl, arith, take_all, append-nil}
use Rattle.frame_worker.specs.declared.lines.LinesEnd.TheVariants.{End, ReadFault, Stopped}
use Rattle.frame_worker.proofs.Running.{none_carried, one_carried, one_unwritten}
use Rattle.frame_worker.proofs.lines.run_frame.Goals as goal

pub returns-in-Err-clause-run : goal.returns-in-Err-clause-run
returns-in-Err-clause-run g c = (search rules, none_carried c.args.fabric.now.size g.N.Lines.told Stopped (g.N.Lines.state c.args.lines.now) (g.N.Lines.state c.args.lines.now) c.args.seat.now.reader.worker (refl, refl) refl (λ t. refl) (λ t. refl))

pub returns-in-End-clause-run : goal.returns-in-End-clause-run
returns-in-End-clause-run g c = (search rules, none_carried c.args.fabric.now.size g.N.Lines.told End (g.N.Lines.state c.args.lines.now) (g.N.Lines.state c.read_frame.new.self) c.args.seat.now.reader.worker (refl, refl) refl c.in-End.ensures.left c.in-End.ensures.written)

pub returns-in-Failed-clause-run : goal.returns-in-Failed-clause-run
returns-in-Failed-clause-run g c = (search rules, none_carried c.args.fabric.now.size g.N.Lines.told ReadFault (g.N.Lines.state c.args.lines.now) (g.N.Lines.state c.read_frame.new.self) c.args.seat.now.reader.worker (refl, refl) refl c.in-Failed.ensures.left c.in-Failed.ensures.written)

pub returns-in-Took-clause-run : goal.returns-in-Took-clause-run
returns-in-Took-clause-run g c =
    let one = c.carry_frame.ensures.carried in let read = c.in-Whole.ensures in let wrote = c.in-Took.ensures in
    let old = g.N.Lines.state c.args.lines.now in let new = g.N.Lines.state c.write_frame.new.self in
    one_carried c.args.fabric.now.size g.N.Lines.told old new c.args.seat.now.reader.worker c.carry_frame.new.seat.reader.worker one.0 c.read_frame.new.into c.carry_frame.new.output one.2 one.1
    (λ t. read.left t ∙ ap (λ (l : List ℕ). c.read_frame.new.into ++ l) (sym (wrote.left t)))
    (λ t. wrote.written t ∙ (ap (λ (l : List ℕ). (g.N.Lines.state c.read_frame.new.self).written ++ l) (take_all c.in-Took.field-0 c.carry_frame.new.output (let whole = wrote.whole in omega arith)) ∙ ap (λ (l : List ℕ). l ++ c.carry_frame.new.output) (read.written t)))

pub returns-in-Failed-write_frame-clause-run : goal.returns-in-Failed-write_frame-clause-run
returns-in-Failed-write_frame-clause-run g c =
    let one = c.carry_frame.ensures.carried in let read = c.in-Whole.ensures in let wrote = c.in-Failed-write_frame.ensures in
    let old = g.N.Lines.state c.args.lines.now in let new = g.N.Lines.state c.write_frame.new.self in (
      search rules,
      one_unwritten c.args.fabric.now.size g.N.Lines.told old new c.args.seat.now.reader.worker c.carry_frame.new.seat.reader.worker one.0 c.read_frame.new.into c.carry_frame.new.output one.2 one.1
          (λ t. read.left t ∙ ap (λ (l : List ℕ). c.read_frame.new.into ++ l) (sym (wrote.left t)))
          (λ t. wrote.written t ∙ (append-nil (g.N.Lines.state c.read_frame.new.self).written ∙ read.written t)),
    )

pub returns-in-Err-clause-stopped : goal.returns-in-Err-clause-stopped
returns-in-Err-clause-stopped g c = λ _. c.in-Err.ensures.stop refl

pub returns-in-End-clause-unstopped : goal.returns-in-End-clause-unstopped
returns-in-End-clause-unstopped g c = λ _. c.in-Ok.ensures.go refl

pub returns-in-Failed-clause-unstopped : goal.returns-in-Failed-clause-unstopped
returns-in-Failed-clause-unstopped g c = λ _. c.in-Ok.ensures.go refl

pub returns-in-Took-clause-unstopped : goal.returns-in-Took-clause-unstopped
returns-in-Took-clause-unstopped g c = λ _. c.in-Ok.ensures.go refl

pub returns-in-Failed-write_frame-clause-unstopped : goal.returns-in-Failed-write_frame-clause-unstopped
returns-in-Failed-write_frame-clause-unstopped g c = λ _. c.in-Ok.ensures.go refl

use Rattle.std.proofs.Common.{rules, ◌≡◌, ◌≢◌, ◌∙◌, ℕ, ◌+◌, List, [], ◌∷◌, Some, replicate, arith, sym, refl, ap, subst, ⊎_elim}
use Rattle.std.proofs.lemmas.List.{replicate_more}
use Rattle.dxc_causes.specs.Causes.{Rose}
use Rattle.dxc_outside.specs.declared.gate.GatePlace.{GatePlace}
use Rattle.dxc_outside.specs.declared.gate.GatePlace.TheVariants as place
use Rattle.frame_worker.specs.declared.lines.LinesEnd.{LinesEnd}
use Rattle.frame_worker.specs.declared.lines.LinesEnd.TheVariants.{End, ReadFault, WriteFault, Stopped, Spent}
use Rattle.frame_worker.specs.Lines.{askings}
use Rattle.frame_worker.proofs.Running.{run_more, counted}
use Rattle.frame_worker.proofs.lines.run_lines.Goals as goal

-- an end that came in place of a frame, or after its carrying, took one asking more
one_asked : (e : LinesEnd) (n : ℕ) → e ≢ Spent → askings e (n + 0) ≡ n + 1
one_asked End n other = omega arith
one_asked ReadFault n other = omega arith
one_asked WriteFault n other = omega arith
one_asked Stopped n other = omega arith
one_asked Spent n other = absurd (other refl)

pub returns-in-Some-clause-run : goal.returns-in-Some-clause-run
returns-in-Some-clause-run g c =
    let n = c.loop.counter in let e = c.in-Some.end in let ended = c.in-Some.ensures.run in let below = c.loop-test.true in (
      n + 0,
      run_more c.args.fabric.now.size g.N.Lines.told n 0 e (g.N.Lines.state c.args.lines.now) (g.N.Lines.state c.loop.lines) (g.N.Lines.state c.run_frame.new.lines) c.args.seat.now.reader.worker c.loop.seat.reader.worker c.run_frame.new.seat.reader.worker (counted e n 0)
          c.loop.invariant.run ended.1,
      ((λ spent. absurd (ended.0 spent)), (λ all. absurd (omega arith))),
      subst (λ (k : ℕ). g.G.Gate.asked c.args.gate.now c.run_frame.new.gate (replicate k place.Frame)) (sym (one_asked e n ended.0))
          (subst (λ (places : List GatePlace). g.G.Gate.asked c.args.gate.now c.run_frame.new.gate places) (replicate_more n place.Frame)
          (g.G.Gate.asked_on c.args.gate.now c.loop.gate c.run_frame.new.gate (replicate n place.Frame) (place.Frame ∷ []) c.loop.invariant.asked c.run_frame.ensures.asked)),
    )

same_end : (e f : LinesEnd) → Some e ≡ Some f → e ≡ f
same_end e f is = cc

pub returns-in-Some-clause-stopped : goal.returns-in-Some-clause-stopped
returns-in-Some-clause-stopped g c = λ is. subst (λ (n : ℕ). Rose n (g.G.Gate.stops c.run_frame.new.gate)) c.loop.invariant.unstopped (c.in-Some.ensures.stopped (ap (λ (e : LinesEnd). Some e) is))

pub returns-in-Some-clause-no_read_fault : goal.returns-in-Some-clause-no_read_fault
returns-in-Some-clause-no_read_fault g c = λ other. c.in-Some.ensures.no_read_fault (λ is. other (same_end c.in-Some.end ReadFault is)) ∙ c.loop.invariant.read_faults

pub returns-in-Some-clause-no_write_fault : goal.returns-in-Some-clause-no_write_fault
returns-in-Some-clause-no_write_fault g c = λ other. c.in-Some.ensures.no_write_fault (λ is. other (same_end c.in-Some.end WriteFault is)) ∙ c.loop.invariant.write_faults

pub returns-in-Some-clause-unstopped : goal.returns-in-Some-clause-unstopped
returns-in-Some-clause-unstopped g c = λ other. c.in-Some.ensures.unstopped (λ is. other (same_end c.in-Some.end Stopped is)) ∙ c.loop.invariant.unstopped

pub returns-clause-unstopped : goal.returns-clause-unstopped
returns-clause-unstopped g c = λ _. c.loop.invariant.unstopped

pub loop-preserved : goal.loop-preserved
loop-preserved g c =
    let i = c.loop.invariant in let n = c.loop.counter in
    record {
      fabric = search rules;
      run = run_more c.args.fabric.now.size g.N.Lines.told n 1 Spent (g.N.Lines.state c.args.lines.now) (g.N.Lines.state c.loop.lines) (g.N.Lines.state c.run_frame.new.lines) c.args.seat.now.reader.worker c.loop.seat.reader.worker c.run_frame.new.seat.reader.worker refl
          i.run c.in_default.ensures.run;
      said_end = λ h. ⊎_elim (λ end. absurd (c.in_default.not-Some End end)) (λ old. i.said_end old) (c.run_frame.ensures.said_end h);
      read_faults = c.run_frame.ensures.no_read_fault (c.in_default.not-Some ReadFault) ∙ i.read_faults;
      write_faults = c.run_frame.ensures.no_write_fault (c.in_default.not-Some WriteFault) ∙ i.write_faults;
      unstopped = c.run_frame.ensures.unstopped (c.in_default.not-Some Stopped) ∙ i.unstopped;
      asked = subst (λ (places : List GatePlace). g.G.Gate.asked c.args.gate.now c.run_frame.new.gate places) (replicate_more n place.Frame)
          (g.G.Gate.asked_on c.args.gate.now c.loop.gate c.run_frame.new.gate (replicate n place.Frame) (place.Frame ∷ []) i.asked c.run_frame.ensures.asked);
    }

use Rattle.std.proofs.Common.{◌≡◌, ◌≢◌, ◌∙◌, ◌++◌, [], ℕ, List, Ok, Err, refl, sym, ap, subst}
use Rattle.dxc_num.specs.declared.register.RegWrite.{RegWrite}
use Rattle.dxc_outside.specs.declared.gate.GatePlace.{GatePlace}
use Rattle.fabric_core.specs.declared.size.Size.{Size}
use Rattle.fabric_core.specs.declared.mover.Mover.{Mover}
use Rattle.fabric_words.specs.Seats.{FabricId, MoverAt}
use Rattle.paull_matrix.specs.Colourings.{Colouring}
use Rattle.roll_engine.specs.declared.halt.Halt.TheVariants.{Stopped}
use Rattle.roll_engine.specs.Rollings.{RollingAt, rest_of}
use Rattle.roll_engine.specs.Courses.{IsReady}
use Rattle.roll_engine.specs.Answers.{Answer, AnswerIs, GoesOn, asked_at}
use Rattle.roll_engine.specs.Cold.{IsCold, left_behind, left_of, legs_then}
use Rattle.roll_engine.specs.Leading.{IsLeading}
use Rattle.dxc_causes.specs.Stops.{RoseOnlyFor}
use Rattle.dxc_causes.proofs.Stops.{stands_still}
use Rattle.roll_engine.proofs.Asking.{asked_nothing, asked_behind, asked_in_front}
use Rattle.roll_engine.proofs.ColdRolling.{cold_on, no_frame}
use Rattle.roll_engine.proofs.Running.{written_on}
use Rattle.roll_engine.proofs.Walking.{handed_on, not_done, not_stopped}
use Rattle.roll_engine.proofs.Leading.{IsOnWay, all_advances, answer_on, behind_kept, led_to_rest, leading_ready, way_begun, way_next, way_on}
use Rattle.roll_engine.proofs.cold.advance_cold.Goals as goal

pub loop-rolling-init : goal.loop-rolling-init
loop-rolling-init g c = record {
  fabric = refl;
  way = way_begun c.args.mover.now.fabric.size c.args.matrix.now c.args.rolling.now c.args.mover.now.mover c.requires.leading;
  kept = λ h. h;
  unstopped = refl;
  asked = let left = left_of c.args.matrix.now c.args.mover.now.mover c.args.rolling.now in
      subst (λ (places : List GatePlace). g.G.Gate.asked c.args.gate.now c.args.gate.now places) (sym (asked_nothing left)) (g.G.Gate.unasked c.args.gate.now);
}

-- the askings up to a call of `advance`, and those in it
asked_on_way : (z : Size) (k : Colouring) (first old new : RollingAt) (m a b : Mover) (answer : Answer) → IsOnWay z k first old m a → GoesOn z old new a b
    → asked_at (left_of k m first) (left_of k a old) (Ok tt) ++ asked_at (rest_of old) (rest_of new) answer ≡ asked_at (left_of k m first) (left_of k b new) answer
asked_on_way z k first old new m a b answer h goes =
    let one = all_advances z k old new a b b goes goes.advances in
    let behind : asked_at (left_of k a old) (rest_of new ++ left_behind k (legs_then a old) old.behind) answer ≡ asked_at (left_of k a old) (left_of k b new) answer
    = ap (λ (ws : List RegWrite). asked_at (left_of k a old) (rest_of new ++ ws) answer) (behind_kept z k old new a b goes) in
    ap (λ (places : List GatePlace). asked_at (left_of k m first) (left_of k a old) (Ok tt) ++ places) (asked_in_front (rest_of old) (rest_of new) (left_behind k (legs_then a old) old.behind) answer ∙ behind)
    ∙ asked_behind (left_of k m first) (left_of k a old) (left_of k b new) h.advances.writes one.writes answer h.advances.split one.split

pub advance-requires-clause-ready : goal.advance-requires-clause-ready
advance-requires-clause-ready g c = let i = c.loop-rolling.invariant in let r = c.loop-rolling.rolling in let m : Mover = c.loop-rolling.mover.mover in
    subst (λ (f : FabricId). IsReady f.size (rest_of r) m) (sym i.fabric) (leading_ready c.args.mover.now.fabric.size c.args.matrix.now r m i.way.leading)

-- a cold rolling stays one while its work in hand is made
still_cold : (z : Size) (old new : RollingAt) (m m' : Mover) → GoesOn z old new m m' → IsCold old → IsCold new
still_cold z old new m m' h cold e = cold (sym h.behind ∙ e)

pub returns-in_err-advance : goal.returns-in_err-advance
returns-in_err-advance g c =
    let z : Size = c.args.mover.now.fabric.size in let k : Colouring = c.args.matrix.now in
    let i = c.loop-rolling.invariant in let r = c.loop-rolling.rolling in let first = c.args.rolling.now in
    let m : Mover = c.args.mover.now.mover in let a : Mover = c.loop-rolling.mover.mover in
    let r' : RollingAt = c.advance.new.rolling in let b : Mover = c.advance.new.mover.mover in
    let is : c.advance.result ≡ c.from_residual.result = handed_on c.advance.result c.from_residual.result c.in_err-advance.field-0.0 c.in_err-advance.was c.from_residual.ensures.1 in
    let goes : GoesOn z r r' a b = subst (λ (f : FabricId). GoesOn f.size r r' a b) i.fabric c.advance.ensures.goes_on in
    let way = way_on z c.loop-rolling.mover.fabric k first r r' m a b (ap (λ (f : FabricId). f.size) i.fabric) i.way c.advance.ensures.goes_on in
    let halted : c.from_residual.result ≢ Ok tt = not_done c.from_residual.result c.from_residual.ensures.0 in
    let answer : AnswerIs z (left_of k m first) (left_of k b r') m b (c.from_residual.result)
    = answer_on z k first r r' m a b (c.from_residual.result) i.way.advances goes halted (subst (λ (p : FabricId × Answer). AnswerIs p.0.size (rest_of r) (rest_of r') a b p.1) (λ t. (i.fabric t, is t)) c.advance.ensures.answer) in
    record {
      fabric = c.advance.ensures.fabric ∙ i.fabric;
      advances = way.advances;
      leading = way.leading;
      written = written_on z (left_of k m first) (left_of k b r') m b way.advances;
      kept = λ h. still_cold z r r' a b goes (i.kept h);
      answer = answer;
      done = λ e. absurd (halted e);
      cold = λ h. cold_on z k first r' m b h way.advances;
      joins = λ h f e. no_frame z k r' (left_of k m first) m b f (cold_on z k first r' m b h way.advances) (subst (λ (x : Answer). AnswerIs z (left_of k m first) (left_of k b r') m b x) e answer);
      stopped = subst (λ (p : ℕ × Answer). RoseOnlyFor p.0 (g.G.Gate.stops c.advance.new.gate) (p.1 ≡ Err Stopped)) (λ t. (i.unstopped t, is t)) c.advance.ensures.stopped;
      asked = subst (λ (places : List GatePlace). g.G.Gate.asked c.args.gate.now c.advance.new.gate places)
          (ap (λ (x : Answer). asked_at (left_of k m first) (left_of k a r) (Ok tt) ++ asked_at (rest_of r) (rest_of r') x) is ∙ asked_on_way z k first r r' m a b (c.from_residual.result) i.way goes)
          (g.G.Gate.asked_on c.args.gate.now c.loop-rolling.gate c.advance.new.gate (asked_at (left_of k m first) (left_of k a r) (Ok tt)) (asked_at (rest_of r) (rest_of r') c.advance.result) i.asked c.advance.ensures.asked);
    }

pub take_next-requires-clause-shape : goal.take_next-requires-clause-shape
take_next-requires-clause-shape g c = c.requires.leading.leading.shape ∙ ap (λ (f : FabricId). f.size.shape) c.requires.own

pub returns-then-not-take_next : goal.returns-then-not-take_next
returns-then-not-take_next g c =
    let z : Size = c.args.mover.now.fabric.size in let k : Colouring = c.args.matrix.now in
    let i = c.loop-rolling.invariant in let r = c.loop-rolling.rolling in let first = c.args.rolling.now in
    let m : Mover = c.args.mover.now.mover in let a : Mover = c.loop-rolling.mover.mover in
    let r' : RollingAt = c.advance.new.rolling in let b : Mover = c.advance.new.mover.mover in
    let then : RollingAt = c.take_next.new.self in let b' : Mover = c.take_next.new.mover.mover in
    let sized = ap (λ (f : FabricId). f.size) i.fabric in
    let goes : GoesOn z r r' a b = subst (λ (f : FabricId). GoesOn f.size r r' a b) i.fabric c.advance.ensures.goes_on in
    let stays : b' ≡ b = ap (λ (s : MoverAt). s.mover) c.take_next.ensures.mover in
    let way = way_next z c.loop-rolling.mover.fabric k first r r' then m a b b' sized stays c.take_next.ensures.same i.way c.advance.ensures.goes_on in
    let same = c.advance.ensures.stopped.only (λ e. not_stopped (sym c.in_ok-advance.was ∙ e)) ∙ i.unstopped in
    let left : left_of k b r' ≡ left_of k b' then = sym c.take_next.ensures.same ∙ ap (λ (x : Mover). left_of k x then) (sym stays) in
    let asked : g.G.Gate.asked c.args.gate.now c.advance.new.gate (asked_at (left_of k m first) (left_of k b' then) (Ok tt))
    = subst (λ (places : List GatePlace). g.G.Gate.asked c.args.gate.now c.advance.new.gate places)
    (ap (λ (x : Answer). asked_at (left_of k m first) (left_of k a r) (Ok tt) ++ asked_at (rest_of r) (rest_of r') x) c.in_ok-advance.was
    ∙ (asked_on_way z k first r r' m a b (Ok tt) i.way goes ∙ ap (λ (ws : List RegWrite). asked_at (left_of k m first) ws (Ok tt)) left))
    (g.G.Gate.asked_on c.args.gate.now c.loop-rolling.gate c.advance.new.gate (asked_at (left_of k m first) (left_of k a r) (Ok tt)) (asked_at (rest_of r) (rest_of r') c.advance.result) i.asked c.advance.ensures.asked) in
    let none : left_of k b' then ≡ [] = ap (λ (x : Mover). left_of k x then) stays ∙ c.if-not-take_next.ensures.none in record {
      fabric = ap (λ (s : MoverAt). s.fabric) c.take_next.ensures.mover ∙ (c.advance.ensures.fabric ∙ i.fabric);
      advances = way.advances;
      leading = way.leading;
      written = written_on z (left_of k m first) (left_of k b' then) m b' way.advances;
      kept = λ h. c.take_next.ensures.cold (still_cold z r r' a b goes (i.kept h));
      answer = none;
      done = λ e. led_to_rest z k b' (subst (λ (ws : List RegWrite). IsLeading z k ws b') none way.leading.leading);
      cold = λ h. cold_on z k first then m b' h way.advances;
      joins = λ h f e. cc;
      stopped = stands_still _ _ _ same not_stopped;
      asked = asked;
    }

pub loop-rolling-preserved : goal.loop-rolling-preserved
loop-rolling-preserved g c =
    let z : Size = c.args.mover.now.fabric.size in let k : Colouring = c.args.matrix.now in
    let i = c.loop-rolling.invariant in let r = c.loop-rolling.rolling in let first = c.args.rolling.now in
    let m : Mover = c.args.mover.now.mover in let a : Mover = c.loop-rolling.mover.mover in
    let r' : RollingAt = c.advance.new.rolling in let b : Mover = c.advance.new.mover.mover in
    let then : RollingAt = c.take_next.new.self in let b' : Mover = c.take_next.new.mover.mover in
    let sized = ap (λ (f : FabricId). f.size) i.fabric in
    let goes : GoesOn z r r' a b = subst (λ (f : FabricId). GoesOn f.size r r' a b) i.fabric c.advance.ensures.goes_on in
    let stays : b' ≡ b = ap (λ (s : MoverAt). s.mover) c.take_next.ensures.mover in
    let way = way_next z c.loop-rolling.mover.fabric k first r r' then m a b b' sized stays c.take_next.ensures.same i.way c.advance.ensures.goes_on in
    let same = c.advance.ensures.stopped.only (λ e. not_stopped (sym c.in_ok-advance.was ∙ e)) ∙ i.unstopped in
    let left : left_of k b r' ≡ left_of k b' then = sym c.take_next.ensures.same ∙ ap (λ (x : Mover). left_of k x then) (sym stays) in
    let asked : g.G.Gate.asked c.args.gate.now c.advance.new.gate (asked_at (left_of k m first) (left_of k b' then) (Ok tt))
    = subst (λ (places : List GatePlace). g.G.Gate.asked c.args.gate.now c.advance.new.gate places)
    (ap (λ (x : Answer). asked_at (left_of k m first) (left_of k a r) (Ok tt) ++ asked_at (rest_of r) (rest_of r') x) c.in_ok-advance.was
    ∙ (asked_on_way z k first r r' m a b (Ok tt) i.way goes ∙ ap (λ (ws : List RegWrite). asked_at (left_of k m first) ws (Ok tt)) left))
    (g.G.Gate.asked_on c.args.gate.now c.loop-rolling.gate c.advance.new.gate (asked_at (left_of k m first) (left_of k a r) (Ok tt)) (asked_at (rest_of r) (rest_of r') c.advance.result) i.asked c.advance.ensures.asked) in
    record {
      fabric = ap (λ (s : MoverAt). s.fabric) c.take_next.ensures.mover ∙ (c.advance.ensures.fabric ∙ i.fabric);
      way = way;
      kept = λ h. c.take_next.ensures.cold (still_cold z r r' a b goes (i.kept h));
      unstopped = same;
      asked = asked;
    }

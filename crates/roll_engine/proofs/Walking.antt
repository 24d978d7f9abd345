-- The next writes, one call after the other.
use Rattle.std.proofs.Common.{◌≡◌, ◌≤◌, ℕ, List, [], ◌∷◌, ◌++◌, Some, Option, Ok, Err, sym, refl, ap, ◌∙◌, subst, arith, length-append, append_assoc}
use Rattle.std.specs.Prelude.{IsErr, IsErrAnd, slice_get}
use Rattle.dxc_causes.specs.Causes.{Rose}
use Rattle.dxc_num.specs.declared.register.RegWrite.{RegWrite}
use Rattle.dxc_num.specs.declared.register.WriteKind.TheVariants.{ClearMid}
use Rattle.dxc_outside.specs.declared.gate.GatePlace.{GatePlace}
use Rattle.dxc_outside.specs.declared.gate.GatePlace.TheVariants.{Register}
use Rattle.roll_plan.specs.declared.work.Work.{Work}
use Rattle.roll_plan.specs.declared.next.Next.{Next}
use Rattle.roll_plan.specs.Works.{writes_of}
use Rattle.roll_plan.specs.Nexts.{IsNext}
use Rattle.fabric_core.specs.declared.size.Size.{Size}
use Rattle.fabric_core.specs.declared.mover.Mover.{Mover}
use Rattle.roll_engine.specs.declared.halt.Halt.{Halt}
use Rattle.roll_engine.specs.declared.halt.Halt.TheVariants.{InFrame, Stopped}
use Rattle.roll_engine.specs.Rollings.{RollingAt, at_step, rest_of}
use Rattle.roll_engine.specs.Writes.{Looks, Makes}
use Rattle.roll_engine.specs.Courses.{IsOld, IsReady}
use Rattle.roll_engine.specs.Answers.{Answer, AnswerIs, GoesOn, IsSeen, StepIs, asked_at, asked_at_step}
use Rattle.roll_engine.specs.Walks.{IsHalted, Walks}
use Rattle.dxc_causes.specs.Stops.{RoseOnlyFor}
use Rattle.dxc_causes.proofs.Stops.{has_risen, stands_still}
use Rattle.roll_engine.proofs.Looking.{seen_looks}
use Rattle.roll_engine.proofs.Stepping.{ready_looks, ready_made}
use Rattle.roll_engine.proofs.Asking.{asked_behind, asked_more, asked_nothing, asked_stopped}
use Rattle.roll_engine.proofs.Going.{rest_some, next, some_left, goes_none, goes_look, goes_made, ready_next, in_frame}
use Rattle.roll_engine.proofs.Running.{runs_join}
use Rattle.roll_engine.proofs.Leading.{advances_on}

pub not_stopped : ◌≡◌ {A = Answer} (Ok tt) (Err Stopped) → ⊥
not_stopped e = cc

pub frame_goes : (f : ℕ) → ◌≡◌ {A = Answer} (Err (InFrame f)) (Err Stopped) → ⊥
frame_goes f e = cc

-- the answer of a call that was halted, which `?` handed on
pub handed_on : (a r : Answer) (h : Halt) → a ≡ Err h → IsErrAnd r (λ (k : Halt). k ≡ h) → a ≡ r
handed_on a (Ok x) h is same = absurd same
handed_on a (Err k) h is same = is ∙ ap Err (sym same)

pub not_done : (a : Answer) → IsErr a → a ≡ Ok tt → ⊥
not_done a is e = cc

goes_join : (z : Size) (old mid new : RollingAt) (m a b : Mover) → GoesOn z old mid m a → GoesOn z mid new a b → GoesOn z old new m b
goes_join z old mid new m a b h k = record {
  work = k.work ∙ h.work;
  behind = k.behind ∙ h.behind;
  advances = record {
    writes = h.advances.writes ++ k.advances.writes;
    split = h.advances.split ∙ (ap (λ (xs : List RegWrite). h.advances.writes ++ xs) k.advances.split ∙ sym (append_assoc h.advances.writes k.advances.writes (rest_of new)));
    runs = runs_join z h.advances.writes k.advances.writes m a b h.advances.runs k.advances.runs;
  };
  step = let e = length-append h.advances.writes k.advances.writes in let s = h.step in let t = k.step in omega arith;
}

halted_on : (z : Size) (old mid new : RollingAt) (m a b : Mover) (answer : Answer) → GoesOn z old mid m a → IsHalted z (rest_of mid) (rest_of new) a b answer → IsHalted z (rest_of old) (rest_of new) m b answer
halted_on z old mid new m a b (Ok x) h k = tt
halted_on z old mid new m a b (Err (InFrame f)) h k = record {
  leg = k.leg;
  old = k.old;
  phase = k.phase;
  later = k.later;
  next = k.next;
  reached = k.reached;
  advances = advances_on z (rest_of old) (rest_of mid) (rest_of new) m a k.reached h.advances k.advances;
  seen = k.seen;
}
halted_on z old mid new m a b (Err Stopped) h k = k

pub answer_is : (z : Size) (before left : List RegWrite) (m b : Mover) (answer : Answer) → (answer ≡ Ok tt → left ≡ []) → IsHalted z before left m b answer → AnswerIs z before left m b answer
answer_is z before left m b (Ok x) all h = all refl
answer_is z before left m b (Err (InFrame f)) all h = h
answer_is z before left m b (Err Stopped) all h = h

module _ {G : Type 0} (stops : G → ℕ) (asks : G → G → List GatePlace → Type 0) (z : Size) where
  pub walks_none : ((g : G) → asks g g []) → (r : RollingAt) (m : Mover) (g : G) → IsReady z (rest_of r) m → Walks stops asks z r r m m g g (Ok tt)
  walks_none unasked r m g ready = record {
    goes_on = goes_none z r m;
    ready = ready;
    halted = tt;
    stopped = stands_still _ _ _ refl not_stopped;
    asked = subst (asks g g) (sym (asked_nothing (rest_of r))) (unasked g);
  }

  pub walks_on : ((old between new : G) (before after : List GatePlace) → asks old between before → asks between new after → asks old new (before ++ after)) → (old mid new : RollingAt) (m a b : Mover) (g h g' : G) (answer : Answer)
      → Walks stops asks z old mid m a g h (Ok tt) → Walks stops asks z mid new a b h g' answer → Walks stops asks z old new m b g g' answer
  walks_on on old mid new m a b g h g' answer one two = let same : stops h ≡ stops g = one.stopped.only not_stopped in record {
    goes_on = goes_join z old mid new m a b one.goes_on two.goes_on;
    ready = two.ready;
    halted = halted_on z old mid new m a b answer one.goes_on two.halted;
    stopped = subst (λ (n : ℕ). RoseOnlyFor n (stops g') (answer ≡ Err Stopped)) same two.stopped;
    asked = subst (asks g g') (asked_behind (rest_of old) (rest_of mid) (rest_of new) one.goes_on.advances.writes two.goes_on.advances.writes answer one.goes_on.advances.split two.goes_on.advances.split)
        (on g h g' (asked_at (rest_of old) (rest_of mid) (Ok tt)) (asked_at (rest_of mid) (rest_of new) answer) one.asked two.asked);
  }

  -- the same after an answer that is Ok
  pub walks_then : ((old between new : G) (before after : List GatePlace) → asks old between before → asks between new after → asks old new (before ++ after)) → (old mid new : RollingAt) (m a b : Mover) (g h g' : G) (before answer : Answer)
      → before ≡ Ok tt → Walks stops asks z old mid m a g h before → Walks stops asks z mid new a b h g' answer → Walks stops asks z old new m b g g' answer
  walks_then on old mid new m a b g h g' before answer done one two = walks_on on old mid new m a b g h g' answer (subst (λ (x : Answer). Walks stops asks z old mid m a g h x) done one) two

  -- the count of the writes made goes from the rolling into a local, and back
  pub walks_reached : (r r' : RollingAt) (n t : ℕ) (m m' : Mover) (g g' : G) (answer : Answer) → n ≡ r.step → r' ≡ at_step t r → Walks stops asks z (at_step n r) (at_step t r) m m' g g' answer → Walks stops asks z r r' m m' g g' answer
  walks_reached r r' n t m m' g g' answer en er h = subst (λ (p : RollingAt × RollingAt). Walks stops asks z p.0 p.1 m m' g g' answer) (λ i. (at_step (en i) r, sym er i)) h

  -- what came of one write, the next one
  module _ (r : RollingAt) (w : RegWrite) (m m' : Mover) (g g' : G) (at : slice_get (writes_of r.work) r.step ≡ Some w) (ready : IsReady z (rest_of r) m) where
    asked_one : Register ∷ [] ≡ asked_at (rest_of r) (rest_of (next r)) (Ok tt)
    asked_one = let left : List RegWrite = rest_of (next r) in
        ap (λ (places : List GatePlace). places ++ Register ∷ []) (sym (asked_nothing (w ∷ left))) ∙ (asked_more (w ∷ left) [] w left refl ∙ ap (λ (ws : List RegWrite). asked_at ws left (Ok tt)) (sym (rest_some r w at)))

    pub walks_made : (fs : List (ℕ × ℕ)) (a : Mover) → Looks z fs m a → Makes z w a m' → stops g' ≡ stops g → asks g g' (Register ∷ []) → Walks stops asks z r (next r) m m' g g' (Ok tt)
    walks_made fs a looks makes same told = record {
      goes_on = goes_made z r r w fs m m a m' (goes_none z r m) at looks makes;
      ready = ready_made z w (rest_of (next r)) a m' makes (ready_looks z (w ∷ rest_of (next r)) fs m a looks (ready_next z r w m at ready));
      halted = tt;
      stopped = stands_still _ _ _ same not_stopped;
      asked = subst (asks g g') asked_one told;
    }

    walks_in_frame : (f : ℕ) → (w.kind ≡ ClearMid) × IsOld m.phase × IsSeen z m m' f → stops g' ≡ stops g → asks g g' [] → Walks stops asks z r r m m' g g' (Err (InFrame f))
    walks_in_frame f h same told = let looks = seen_looks z m m' f h.2 in record {
      goes_on = goes_look z r r looks.0 m m m' (goes_none z r m) looks.1;
      ready = ready_looks z (rest_of r) looks.0 m m' looks.1 ready;
      halted = in_frame z r r w m m m' f (goes_none z r m) at ready h;
      stopped = stands_still _ _ _ same (frame_goes f);
      asked = subst (asks g g') (sym (asked_nothing (rest_of r))) told;
    }

    walks_stopped : (fs : List (ℕ × ℕ)) → Looks z fs m m' → Rose (stops g) (stops g') → stops g ≤ stops g' → asks g g' (Register ∷ []) → Walks stops asks z r r m m' g g' (Err Stopped)
    walks_stopped fs looks rose later told = record {
      goes_on = goes_look z r r fs m m m' (goes_none z r m) looks;
      ready = ready_looks z (rest_of r) fs m m' looks ready;
      halted = some_left r w at;
      stopped = has_risen _ _ _ later rose refl;
      asked = subst (asks g g') (ap (λ (places : List GatePlace). places ++ Register ∷ []) (sym (asked_nothing (rest_of r))) ∙ asked_stopped (rest_of r) (rest_of r)) told;
    }

    pub walks_halted : (h : Halt) → StepIs z w m m' (Err h) → RoseOnlyFor (stops g) (stops g') (◌≡◌ {A = Answer} (Err h) (Err Stopped)) → asks g g' (asked_at_step (Err h)) → Walks stops asks z r r m m' g g' (Err h)
    walks_halted (InFrame f) is stopped told = walks_in_frame f is (stopped.only (frame_goes f)) told
    walks_halted Stopped is stopped told = walks_stopped is.0 is.1 (stopped.cause refl) stopped.later told

-- what was found at the step
pub next_found : (r : RollingAt) (k : Work) (t : ℕ) (o o' : Option Next) → k ≡ r.work → t ≡ r.step → IsNext (writes_of k) t o → o ≡ o' → IsNext (writes_of r.work) r.step o'
next_found r k t o o' ek et is e = subst (λ (p : Work × ℕ × Option Next). IsNext (writes_of p.0) p.1 p.2) (λ i. (ek i, et i, e i)) is

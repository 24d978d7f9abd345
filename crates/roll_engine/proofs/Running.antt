-- Runs of writes, one after the other, and what holds at every part that a run passes.
use Rattle.std.proofs.Common.{◌≡◌, ◌≢◌, ℕ, zero, suc, ◌+◌, ◌<◌, List, [], ◌∷◌, ◌++◌, length, get_or, set, take, drop, sym, refl, ap, ap₂, ◌∙◌, subst, arith, Some, None, get_or-set_same, append_assoc, append-nil}
use mathlib.Core.Logic.{dite}
use Rattle.dxc_num.specs.declared.port.Leg.{Leg}
use Rattle.dxc_num.specs.declared.port.Middle.{Middle}
use Rattle.dxc_num.specs.declared.port.Port.{Port}
use Rattle.dxc_num.specs.declared.register.RegWrite.{RegWrite}
use Rattle.dxc_num.specs.declared.register.WriteKind.{WriteKind}
use Rattle.dxc_num.specs.declared.register.WriteKind.TheVariants as kind
use Rattle.dxc_num.specs.Dimensions.{Dimensions, module_of, ports}
use Rattle.roll_plan.specs.declared.op.Move.{Move}
use Rattle.roll_plan.specs.declared.op.LegOp.{LegOp}
use Rattle.roll_plan.specs.declared.op.LegOp.TheVariants.{Join, Part, Shift}
use Rattle.roll_plan.specs.Works.{write, move_writes, moves_writes, join_writes, op_writes, ops_writes, switches_in}
use Rattle.paull_matrix.specs.Colourings.{Colouring}
use Rattle.fabric_core.specs.declared.size.Size.{Size}
use Rattle.fabric_core.specs.declared.mover.Mover.{Mover}
use Rattle.fabric_core.specs.State.{IsSize, leg_at}
use Rattle.fabric_core.specs.Moving.{over}
use Rattle.fabric_core.specs.Laid.{IsPhaseLaid, IsHalfLaid}
use Rattle.fabric_core.specs.Owned.{IsMoverRuled}
use Rattle.fabric_core.specs.Steps.{Moves}
use Rattle.fabric_core.proofs.Moving.{else_port}
use Rattle.fabric_core.proofs.Cells.{port_discrete}
use Rattle.roll_engine.specs.Writes.{Looks, event_of_kind, made_of_kind, Makes, Runs}
use Rattle.roll_engine.specs.Courses.{Course, course_of, course_after, gone, at_rest}
use Rattle.roll_engine.specs.Stages.{IsMidway}
use Rattle.roll_engine.specs.Staying.{AreKept, AreNotParted, Stays, IsAlwaysEstablished, IsAlwaysSpared, IsAlwaysMidway, IsNoted, IsSwitchCounted}
use Rattle.roll_engine.specs.Answers.{Advances}
use Rattle.roll_engine.proofs.Looking.{looks_join, looks_only}
use Rattle.roll_engine.proofs.Stepping.{course_looks, course_made, ruled_looks, ruled_made, log_looks, log_made}

pub runs_look : (z : Size) (ws : List RegWrite) (fs : List (ℕ × ℕ)) (m a b : Mover) → Runs z ws m a → Looks z fs a b → Runs z ws m b
runs_look z [] fs m a b (gs, h) k = (gs ++ fs, looks_join z gs fs m a b h k)
runs_look z (w ∷ ws) fs m a b (gs, c, d, h, made, rest) k = (gs, c, d, h, made, runs_look z ws fs d a b rest k)

pub runs_more : (z : Size) (ws : List RegWrite) (w : RegWrite) (fs : List (ℕ × ℕ)) (m a b c : Mover) → Runs z ws m a → Looks z fs a b → Makes z w b c → Runs z (ws ++ w ∷ []) m c
runs_more z [] w fs m a b c (gs, h) k made = (gs ++ fs, b, c, looks_join z gs fs m a b h k, made, ([], refl))
runs_more z (v ∷ ws) w fs m a b c (gs, d, e, h, one, rest) k made = (gs, d, e, h, one, runs_more z ws w fs e a b c rest k made)

pub runs_join : (z : Size) (us vs : List RegWrite) (m a b : Mover) → Runs z us m a → Runs z vs a b → Runs z (us ++ vs) m b
runs_join z [] [] m a b (fs, h) (gs, k) = (fs ++ gs, looks_join z fs gs m a b h k)
runs_join z [] (v ∷ vs) m a b (fs, h) (gs, c, d, k, made, rest) = (fs ++ gs, c, d, looks_join z fs gs m a c h k, made, rest)
runs_join z (u ∷ us) vs m a b (fs, c, d, h, made, rest) k = (fs, c, d, h, made, runs_join z us vs d a b rest k)

-- each write is noted
written_looks : (z : Size) (fs : List (ℕ × ℕ)) (m a : Mover) → Looks z fs m a → a.written ≡ m.written
written_looks z fs m a h = ap (λ (x : Mover). x.written) (looks_only z fs m a h)

written_kind : (t : WriteKind) (d : Dimensions) (l : Leg) (k : Middle) (m : Mover) → (made_of_kind t d l k m).written ≡ m.written ++ write t l k ∷ []
written_kind kind.SetIn d l k m = refl
written_kind kind.SetMid d l k m = refl
written_kind kind.SwitchOut d l k m = refl
written_kind kind.ClearOut d l k m = refl
written_kind kind.ClearMid d l k m = refl
written_kind kind.ClearIn d l k m = refl

written_made : (z : Size) (w : RegWrite) (m m' : Mover) → Makes z w m m' → m'.written ≡ m.written ++ w ∷ []
written_made z w m m' h = ap (λ (x : Mover). x.written) h.1 ∙ written_kind w.kind z.shape w.leg w.middle m

pub written_runs : (z : Size) (ws : List RegWrite) (m b : Mover) → Runs z ws m b → b.written ≡ m.written ++ ws
written_runs z [] m b (fs, h) = written_looks z fs m b h ∙ sym (append-nil m.written)
written_runs z (w ∷ ws) m b (fs, a, c, h, one, rest) = written_runs z ws c b rest
    ∙ (ap (λ (xs : List RegWrite). xs ++ ws) (written_made z w a c one ∙ ap (λ (xs : List RegWrite). xs ++ w ∷ []) (written_looks z fs m a h)) ∙ append_assoc m.written (w ∷ []) ws)

-- what was written, and then what is left
pub written_on : (z : Size) (before left : List RegWrite) (m b : Mover) → Advances z before left m b → b.written ++ left ≡ m.written ++ before
written_on z before left m b h = ap (λ (xs : List RegWrite). xs ++ left) (written_runs z h.writes m b h.runs)
    ∙ (append_assoc m.written h.writes left ∙ ap (λ (xs : List RegWrite). m.written ++ xs) (sym h.split))

-- the last of two lists with one item more
last_same : (xs : List Leg) (a b : Leg) → xs ++ a ∷ [] ≡ xs ++ b ∷ [] → a ≡ b
last_same [] a b e = cc
last_same (x ∷ xs) a b e = last_same xs a b (let h : x ∷ (xs ++ a ∷ []) ≡ x ∷ (xs ++ b ∷ []) = e in cc)

stays_kind : (t : WriteKind) (z : Size) (l : Leg) (k : Middle) (m : Mover) (y : Port) → IsMoverRuled z m → Moves z m (event_of_kind t l k) (made_of_kind t z.shape l k m) → (t ≡ kind.ClearOut → l.output ≢ y) → Stays m (made_of_kind t z.shape l k m) y
stays_kind kind.SetIn z l k m y r h kept w at = (w, at, refl)
stays_kind kind.SetMid z l k m y r h kept w at = (w, at, refl)
stays_kind kind.SwitchOut z l k m y r (a, b, p, room, is) kept w at = dite (port_discrete y l.output)
    (λ e. (over l k, ap (λ (u : Port). get_or (set m.legs l.output.0 (Some (over l k))) u.0 None) e ∙ here e, sym (same e)))
    (λ other. (w, else_port m.legs l.output y (Some (over l k)) None other ∙ at, refl))
  where
    half : IsHalfLaid z.shape m a b (module_of z.shape a.input + 1)
    half = subst (IsPhaseLaid z.shape m) p r.laid.phase_is

    leg_same : a ≡ l
    leg_same = last_same m.log a l (ap (λ (x : Mover). x.log) (sym is))

    same : y ≡ l.output → w.input ≡ l.input
    same e = half.same w (ap (leg_at m) (ap (λ (x : Leg). x.output) leg_same ∙ sym e) ∙ at) ∙ ap (λ (x : Leg). x.input) leg_same

    here : y ≡ l.output → get_or (set m.legs l.output.0 (Some (over l k))) l.output.0 None ≡ Some (over l k)
    here e = let low : l.output.0 < ports z.shape = subst (λ (x : Leg). x.output.0 < ports z.shape) leg_same half.inside.output in let full = r.laid.legs in
        get_or-set_same m.legs l.output.0 (Some (over l k)) None (omega arith)
stays_kind kind.ClearOut z l k m y r h kept w at = (w, else_port m.legs l.output y None None (λ e. kept refl (sym e)) ∙ at, refl)
stays_kind kind.ClearMid z l k m y r h kept w at = (w, at, refl)
stays_kind kind.ClearIn z l k m y r h kept w at = (w, at, refl)

stays_made : (z : Size) (w : RegWrite) (m m' : Mover) (y : Port) → IsMoverRuled z m → Makes z w m m' → (w.kind ≡ kind.ClearOut → w.leg.output ≢ y) → Stays m m' y
stays_made z w m m' y r h kept = subst (λ (x : Mover). Stays m x y) (sym h.1) (stays_kind w.kind z w.leg w.middle m y r (subst (Moves z m (event_of_kind w.kind w.leg w.middle)) h.1 h.0) kept)

stays_looks : (z : Size) (fs : List (ℕ × ℕ)) (m a : Mover) (y : Port) → Looks z fs m a → Stays m a y
stays_looks z fs m a y h w at = (w, ap (λ (c : Course). get_or c.legs y.0 None) (course_looks z fs m a h) ∙ at, refl)

stays_on : (m a b : Mover) (y : Port) → Stays m a y → Stays a b y → Stays m b y
stays_on m a b y h k w at = let p = h w at in let q = k p.0 p.1 in (q.0, q.1, q.2 ∙ p.2)

pub ruled_runs : (z : Size) (ws : List RegWrite) (m b : Mover) → IsSize z → Runs z ws m b → IsMoverRuled z m → IsMoverRuled z b
ruled_runs z [] m b s (fs, h) r = ruled_looks z fs m b s h r
ruled_runs z (w ∷ ws) m b s (fs, a, c, h, made, rest) r = ruled_runs z ws c b s rest (ruled_made z w a c s made (ruled_looks z fs m a s h r))

runs_stay : (z : Size) (ws vs : List RegWrite) (m b : Mover) (y : Port) → IsSize z → IsMoverRuled z m → Runs z ws m b → AreKept (ws ++ vs) y → Stays m b y
runs_stay z [] vs m b y s r (fs, h) kept = stays_looks z fs m b y h
runs_stay z (w ∷ ws) vs m b y s r (fs, a, c, h, made, rest) kept =
    let q = ruled_looks z fs m a s h r in
    stays_on m a b y (stays_looks z fs m a y h) (stays_on a c b y (stays_made z w a c y q made kept.0) (runs_stay z ws vs c b y s (ruled_made z w a c s made q) rest kept.1))

pub always_established : IsAlwaysEstablished
always_established z ws m b m' y s r p kept = runs_stay z p.done p.left m b y s r p.before (subst (λ (xs : List RegWrite). AreKept xs y) p.split kept)

pub course_runs : (z : Size) (ws : List RegWrite) (m b : Mover) → Runs z ws m b → course_of b ≡ course_after ws (course_of m)
course_runs z [] m b (fs, h) = course_looks z fs m b h
course_runs z (w ∷ ws) m b (fs, a, c, h, made, rest) = course_runs z ws c b rest ∙ ap (course_after ws) (course_made z w a c made ∙ ap (gone w) (course_looks z fs m a h))

pub after_on : (us vs : List RegWrite) (c : Course) → course_after (us ++ vs) c ≡ course_after vs (course_after us c)
after_on [] vs c = refl
after_on (u ∷ us) vs c = after_on us vs (gone u c)

take_nil : (n : ℕ) → take {A = RegWrite} n [] ≡ []
take_nil zero = refl
take_nil (suc n) = refl

pub take_none : (ws : List RegWrite) → take 0 ws ≡ []
take_none [] = refl
take_none (w ∷ ws) = refl

pub drop_none : (ws : List RegWrite) → drop 0 ws ≡ ws
drop_none [] = refl
drop_none (w ∷ ws) = refl

take_front : (us vs : List RegWrite) → take (length us) (us ++ vs) ≡ us
take_front [] vs = take_none vs
take_front (u ∷ us) vs = ap (λ (xs : List RegWrite). u ∷ xs) (take_front us vs)

take_on : (ws us vs : List RegWrite) (t : ℕ) → drop t ws ≡ us ++ vs → take (t + length us) ws ≡ take t ws ++ us
take_on ws us vs zero e = ap₂ (λ (n : ℕ) (xs : List RegWrite). take n xs) (let h : 0 + length us ≡ length us = omega arith in h) (sym (drop_none ws) ∙ e) ∙ (take_front us vs ∙ sym (ap (λ (xs : List RegWrite). xs ++ us) (take_none ws)))
take_on [] us vs (suc t) e = nothing us vs (suc t) e
  where
    nothing : (us vs : List RegWrite) (t : ℕ) → [] ≡ us ++ vs → take (t + length us) [] ≡ us
    nothing [] vs t e = take_nil (t + 0)
    nothing (u ∷ us) vs t e = absurd (cc)
take_on (w ∷ ws) us vs (suc t) e = let h : suc t + length us ≡ suc (t + length us) = omega arith in ap (λ (n : ℕ). take n (w ∷ ws)) h ∙ ap (λ (xs : List RegWrite). w ∷ xs) (take_on ws us vs t e)

pub midway_on : (z : Size) (c : Colouring) (ws us vs : List RegWrite) (t : ℕ) (m b : Mover) → IsMidway z c ws t m → Runs z us m b → drop t ws ≡ us ++ vs → IsMidway z c ws (t + length us) b
midway_on z c ws us vs t m b h runs e = record {
  sized = h.sized;
  shape = h.shape;
  ruled = ruled_runs z us m b h.sized runs h.ruled;
  course = course_runs z us m b runs ∙ (ap (course_after us) h.course ∙ (sym (after_on (take t ws) us (at_rest c.routes)) ∙ ap (λ (xs : List RegWrite). course_after xs (at_rest c.routes)) (sym (take_on ws us vs t e))));
}

pub always_midway : IsAlwaysMidway
always_midway z c ws us vs t m b m' h e p = midway_on z c ws p.done (p.left ++ vs) t m b h p.before (e ∙ (ap (λ (xs : List RegWrite). xs ++ vs) p.split ∙ append_assoc p.done p.left vs))

-- each switch makes the log one longer
pub noted : IsNoted
noted z ws m m' h = written_runs z ws m m' h

pub switch_counted : IsSwitchCounted
switch_counted z [] m b (fs, h) = let s = log_looks z fs m b h in omega arith
switch_counted z (w ∷ ws) m b (fs, a, c, h, made, rest) = let e = switch_counted z ws c b rest in let n = log_made z w a c made in let s = log_looks z fs m a h in omega arith

pub switches_join : (us vs : List RegWrite) → switches_in (us ++ vs) ≡ switches_in us + switches_in vs
switches_join [] vs = omega arith
switches_join (u ∷ us) vs = let e = switches_join us vs in omega arith

kept_on : (us vs : List RegWrite) (y : Port) → AreKept us y → AreKept vs y → AreKept (us ++ vs) y
kept_on [] vs y h k = k
kept_on (u ∷ us) vs y h k = (h.0, kept_on us vs y h.1 k)

kept_moves : (vs : List Move) (y : Port) → AreKept (moves_writes vs) y
kept_moves [] y = tt
kept_moves (v ∷ vs) y = kept_on (move_writes v) (moves_writes vs) y ((λ e. absurd (cc)), ((λ e. absurd (cc)), ((λ e. absurd (cc)), ((λ e. absurd (cc)), ((λ e. absurd (cc)), tt))))) (kept_moves vs y)

pub kept_join : (l : Leg) (k : Middle) (y : Port) → AreKept (join_writes l k) y
kept_join l k y = ((λ e. absurd (cc)), ((λ e. absurd (cc)), ((λ e. absurd (cc)), tt)))

kept_ops : (ops : List LegOp) (y : Port) → AreNotParted ops y → AreKept (ops_writes ops) y
kept_ops [] y h = tt
kept_ops (Join l choice moves ∷ ops) y h = kept_on (op_writes (Join l choice moves)) (ops_writes ops) y (kept_on (moves_writes moves.items) (join_writes l choice.middle) y (kept_moves moves.items y) (kept_join l choice.middle y)) (kept_ops ops y h)
kept_ops (Part l k ∷ ops) y h = ((λ e. h.0), ((λ e. absurd (cc)), ((λ e. absurd (cc)), kept_ops ops y h.1)))
kept_ops (Shift moves ∷ ops) y h = kept_on (moves_writes moves.items) (ops_writes ops) y (kept_moves moves.items y) (kept_ops ops y h)

kept_left : (ws : List RegWrite) (t : ℕ) (y : Port) → AreKept ws y → AreKept (drop t ws) y
kept_left [] zero y h = h
kept_left [] (suc t) y h = h
kept_left (w ∷ ws) zero y h = h
kept_left (w ∷ ws) (suc t) y h = kept_left ws t y h.1

pub kept_front : (us vs : List RegWrite) (y : Port) → AreKept (us ++ vs) y → AreKept us y
kept_front [] vs y h = tt
kept_front (u ∷ us) vs y h = (h.0, kept_front us vs y h.1)

pub always_spared : IsAlwaysSpared
always_spared z ops t us vs m b m' y s r e p h = always_established z us m b m' y s r p (kept_front us vs y (subst (λ (xs : List RegWrite). AreKept xs y) e (kept_left (ops_writes ops) t y (kept_ops ops y h))))

-- A work that is valid for a colouring may be made where the registers are those of the colouring.
use Rattle.std.proofs.Common.{◌≡◌, ℕ, zero, suc, ◌+◌, ◌^◌, ◌≤◌, List, [], ◌∷◌, ◌++◌, length, take, drop, sym, refl, ap, ◌∙◌, inl, inr, subst, Option, Some, None, append_assoc, append-nil}
use Rattle.dxc_num.specs.declared.port.Leg.{Leg}
use Rattle.dxc_num.specs.declared.port.Middle.{Middle}
use Rattle.dxc_num.specs.declared.port.Route.{Route}
use Rattle.dxc_num.specs.declared.register.RegWrite.{RegWrite}
use Rattle.dxc_num.specs.Dimensions.{Dimensions, leg_between}
use Rattle.roll_plan.specs.declared.op.Move.{Move}
use Rattle.roll_plan.specs.declared.op.LegOp.{LegOp}
use Rattle.roll_plan.specs.declared.op.LegOp.TheVariants.{Join, Part, Shift}
use Rattle.roll_plan.specs.Works.{move_writes, moves_writes, join_writes, part_writes, op_writes, ops_writes, switches_in}
use Rattle.paull_matrix.specs.Colourings.{CanPlace, Colouring, Holds, IsProperColouring, IsUnused, route_at, with_leg, without_leg}
use Rattle.paull_chain.specs.Works.{moved, after, after_op, after_ops, AreValidMoves, IsValidOp, AreValidOps}
use Rattle.paull_chain.proofs.Undoing.{after_proper}
use Rattle.paull_chain.proofs.Planned.{after_shape}
use Rattle.paull_chain.proofs.Working.{op_proper, op_shape, ops_shape}
use Rattle.fabric_core.specs.declared.size.Size.{Size}
use Rattle.fabric_core.specs.declared.mover.Mover.{Mover}
use Rattle.fabric_core.specs.declared.phase.Phase.{Phase}
use Rattle.fabric_core.specs.declared.phase.Phase.TheVariants.{Rest, Old}
use Rattle.fabric_core.specs.Moving.{after_switch}
use Rattle.fabric_core.proofs.Kept.{mover_starts}
use Rattle.roll_engine.specs.Courses.{Course, Goes, course_after, at_rest, gone, IsReady}
use Rattle.roll_engine.specs.Stages.{IsMidway, IsAtRestOn}
use Rattle.roll_engine.specs.Staying.{IsAlwaysAllowed, IsNewAtRest, IsBegunAtRest, IsReadyMidway, IsDoneAtRest}
use Rattle.roll_engine.proofs.Running.{after_on, take_none}

-- where the registers are those of c the writes may be made, whatever may be made after them, and lead to those of e
pub record Leads (d : Dimensions) (ws : List RegWrite) (c e : List (Option Route)) : Type 0 where
  pub goes : (us : List RegWrite) → Goes d us (at_rest e) → Goes d (ws ++ us) (at_rest c)
  pub after : course_after ws (at_rest c) ≡ at_rest e

pub leads_on : (d : Dimensions) (ws us : List RegWrite) (a b c : List (Option Route)) → Leads d ws a b → Leads d us b c → Leads d (ws ++ us) a c
leads_on d ws us a b c h k = record {
  goes = λ vs last. subst (λ (xs : List RegWrite). Goes d xs (at_rest a)) (sym (append_assoc ws us vs)) (h.goes (us ++ vs) (k.goes vs last));
  after = after_on ws us (at_rest a) ∙ (ap (course_after us) h.after ∙ k.after);
}

pub leads_none : (d : Dimensions) (c : List (Option Route)) → Leads d [] c c
leads_none d c = record { goes = λ us last. last; after = refl }

move_leads : (c : Colouring) (v : Move) (vs : List Move) → IsProperColouring c → AreValidMoves (v ∷ vs) c → Leads c.shape (move_writes v) c.routes (moved v c).routes
move_leads c v vs p h =
    let old : after_switch v.leg (route_at c v.leg.output.0) ≡ Old v.leg v.from = ap (after_switch v.leg) h.0 in record {
      goes = λ us last. ((refl, record { inside = (p.inside v.leg v.from.0 h.0).0; middle = h.1; free = h.2; may_go = inl (v.from.0, h.0) }), (refl, (refl, (inl old, (inl refl, last)))));
      after = refl;
    }

moves_lead : (vs : List Move) (c : Colouring) → IsProperColouring c → AreValidMoves vs c → Leads c.shape (moves_writes vs) c.routes (after vs c).routes
moves_lead [] c p h = leads_none c.shape c.routes
moves_lead (v ∷ vs) c p h = leads_on c.shape (move_writes v) (moves_writes vs) c.routes (moved v c).routes (after vs (moved v c)).routes (move_leads c v vs p h) (moves_lead vs (moved v c) (after_proper (v ∷ []) c p (h.0, h.1, h.2, tt)) h.3)

-- no leg goes to the output of a leg with unused sides
pub none_at : (c : Colouring) (l : Leg) → IsUnused c l → route_at c l.output.0 ≡ None
none_at c l free = none (route_at c l.output.0) refl
  where
    none : (e : Option Route) → route_at c l.output.0 ≡ e → e ≡ None
    none None at = refl
    none (Some w) at = absurd (free.output (leg_between w.input l.output) w.middle.0 at refl)

pub join_leads : (c : Colouring) (l : Leg) (k : Middle) → CanPlace c l k.0 → Leads c.shape (join_writes l k) c.routes (with_leg l k.0 c).routes
join_leads c l k h =
    let rest : after_switch l (route_at c l.output.0) ≡ Rest = ap (after_switch l) (none_at c l h.unused) in
    let joined : List (Option Route) = (with_leg l k.0 c).routes in
    let e : record { legs = joined; phase = after_switch l (route_at c l.output.0) } ≡ at_rest joined = ap (λ (p : Phase). record { legs = joined; phase = p }) rest in record {
      goes = λ us last. ((refl, record { inside = h.inside; middle = h.low; free = h.free; may_go = inr h.unused }), (refl, (refl, subst (Goes c.shape us) (sym e) last)));
      after = e;
    }

pub part_leads : (c : Colouring) (l : Leg) (k : Middle) → Holds c l k.0 → Leads c.shape (part_writes l k) c.routes (without_leg l c).routes
part_leads c l k h = record { goes = λ us last. ((refl, h), (inl refl, (inl refl, last))); after = refl }

op_leads : (op : LegOp) (c : Colouring) → IsProperColouring c → IsValidOp c op → Leads c.shape (op_writes op) c.routes (after_op op c).routes
op_leads (Join l choice moves) c p h =
    let b : Colouring = after moves.items c in
    leads_on c.shape (moves_writes moves.items) (join_writes l choice.middle) c.routes b.routes (after_op (Join l choice moves) c).routes (moves_lead moves.items c p h.0)
    (subst (λ (d : Dimensions). Leads d (join_writes l choice.middle) b.routes (with_leg l choice.middle.0 b).routes) (after_shape moves.items c) (join_leads b l choice.middle h.1))
op_leads (Part l k) c p h = part_leads c l k h
op_leads (Shift moves) c p h = moves_lead moves.items c p h

ops_lead : (ops : List LegOp) (c : Colouring) → IsProperColouring c → AreValidOps c ops → Leads c.shape (ops_writes ops) c.routes (after_ops ops c).routes
ops_lead [] c p h = leads_none c.shape c.routes
ops_lead (op ∷ ops) c p h =
    let b : Colouring = after_op op c in
    leads_on c.shape (op_writes op) (ops_writes ops) c.routes b.routes (after_ops ops b).routes (op_leads op c p h.0)
    (subst (λ (d : Dimensions). Leads d (ops_writes ops) b.routes (after_ops ops b).routes) (op_shape op c) (ops_lead ops b (op_proper op c p h.0) h.1))

pub leads_all : (d : Dimensions) (ws : List RegWrite) (c e : List (Option Route)) → Leads d ws c e → Goes d ws (at_rest c)
leads_all d ws c e h = subst (λ (xs : List RegWrite). Goes d xs (at_rest c)) (append-nil ws) (h.goes [] tt)

pub always_allowed : IsAlwaysAllowed
always_allowed z c ops m p v h =
    let k = ops_lead ops c p v in (
      subst (Goes z.shape (ops_writes ops)) (sym h.course) (subst (λ (d : Dimensions). Goes d (ops_writes ops) (at_rest c.routes)) h.shape (leads_all c.shape (ops_writes ops) c.routes (after_ops ops c).routes k)),
      ap (course_after (ops_writes ops)) h.course ∙ k.after,
    )

goes_drop : (d : Dimensions) (ws : List RegWrite) (t : ℕ) (c : Course) → Goes d ws c → Goes d (drop t ws) (course_after (take t ws) c)
goes_drop d [] zero c h = h
goes_drop d [] (suc t) c h = h
goes_drop d (w ∷ ws) zero c h = h
goes_drop d (w ∷ ws) (suc t) c h = goes_drop d ws t (gone w c) h.1

-- at a stage of writes that may be made the rest of them may be made
pub stage_ready : (z : Size) (c : Colouring) (ws : List RegWrite) (t : ℕ) (m : Mover) → Goes c.shape ws (at_rest c.routes) → IsMidway z c ws t m → length m.log + switches_in (drop t ws) ≤ 2 ^ 48 → IsReady z (drop t ws) m
stage_ready z c ws t m goes h room = record {
  goes = subst (Goes z.shape (drop t ws)) (sym h.course) (goes_drop z.shape ws t (at_rest c.routes) (subst (λ (d : Dimensions). Goes d ws (at_rest c.routes)) h.shape goes));
  room = room;
}

take_end : (ws : List RegWrite) (t : ℕ) → drop t ws ≡ [] → take t ws ≡ ws
take_end [] zero e = refl
take_end [] (suc t) e = refl
take_end (w ∷ ws) zero e = absurd (cc)
take_end (w ∷ ws) (suc t) e = ap (λ (xs : List RegWrite). w ∷ xs) (take_end ws t e)

-- where no write is left the registers are those to which the writes lead
pub stage_done : (z : Size) (c e : Colouring) (ws : List RegWrite) (t : ℕ) (m : Mover) → e.shape ≡ c.shape → course_after ws (at_rest c.routes) ≡ at_rest e.routes → IsMidway z c ws t m → drop t ws ≡ [] → IsAtRestOn z e m
stage_done z c e ws t m same after h none = record { sized = h.sized; shape = same ∙ h.shape; ruled = h.ruled; course = h.course ∙ (ap (λ (xs : List RegWrite). course_after xs (at_rest c.routes)) (take_end ws t none) ∙ after) }

pub ready_midway : IsReadyMidway
ready_midway z c ops t m p v h room = stage_ready z c (ops_writes ops) t m (leads_all c.shape (ops_writes ops) c.routes (after_ops ops c).routes (ops_lead ops c p v)) h room

pub done_midway : IsDoneAtRest
done_midway z c ops t m p v h none = stage_done z c (after_ops ops c) (ops_writes ops) t m (ops_shape ops c) (ops_lead ops c p v).after h none

-- at rest is the stage before the first write
pub begun_at_rest : IsBegunAtRest
begun_at_rest z c ws m h = record { sized = h.sized; shape = h.shape; ruled = h.ruled; course = h.course ∙ ap (λ (xs : List RegWrite). course_after xs (at_rest c.routes)) (sym (take_none ws)) }

-- a new fabric is at rest without legs
pub new_at_rest : IsNewAtRest
new_at_rest z s = record { sized = s; shape = refl; ruled = mover_starts z; course = refl }

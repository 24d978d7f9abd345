-- A granted change has a planned work, or a middle is out of service and it has none; so it meets one limit, or none.
use Rattle.std.proofs.Common.{◌≡◌, ◌≢◌, ◌⊎◌, inl, inr, ⊎_elim, ℕ, ◌+◌, List, [], ◌∷◌, Option, Some, None, refl, sym, subst}
use Rattle.dxc_num.specs.declared.port.Leg.{Leg}
use Rattle.dxc_num.specs.declared.port.Middle.{Middle}
use Rattle.dxc_num.specs.Dimensions.{IsInside}
use Rattle.dxc_model.specs.declared.cause.Cause.{Cause}
use Rattle.dxc_model.specs.declared.cause.Cause.TheVariants.{NoMiddle}
use Rattle.dxc_model.specs.declared.op.Op.{Op}
use Rattle.dxc_model.specs.declared.op.Change.{Change}
use Rattle.dxc_model.specs.declared.op.Change.TheVariants.{Enter, Delete, Edit, EnterModule, DeleteModule, TakeOut, PutBack}
use Rattle.dxc_model.specs.Tables.{Board}
use Rattle.dxc_model.specs.Verdicts.{Grants, MayTake}
use Rattle.dxc_model.proofs.Verdicts.{own_verdict}
use Rattle.roll_plan.specs.declared.op.Chain.{Chain as ChainChoice}
use Rattle.roll_plan.specs.declared.op.Chain.TheVariants.{Direct, Row as ByRow, Column as ByColumn}
use Rattle.roll_plan.specs.declared.op.Choice.{Choice}
use Rattle.roll_plan.specs.declared.op.LegOp.{LegOp}
use Rattle.roll_plan.specs.declared.op.LegOp.TheVariants as op
use Rattle.roll_plan.specs.Works.{ops_writes, switches_in}
use Rattle.paull_matrix.specs.declared.side.Side.TheVariants.{Row, Column}
use Rattle.paull_matrix.specs.Colourings.{Colouring, IsEmpty, IsProperColouring, IsUnused}
use Rattle.paull_chain.specs.Choices.{IsChosen, IsValidChoice, Plans, choice_on}
use Rattle.paull_chain.specs.Exchanges.{exchange, shifts}
use Rattle.paull_chain.specs.Works.{after_op}
use Rattle.paull_chain.proofs.Chosen.{always_chosen}
use Rattle.paull_chain.proofs.Expanding.{expands}
use Rattle.paull_chain.proofs.Planning.{joins_direct}
use Rattle.mid_service.specs.Choices.{PlansWhileOut}
use Rattle.mid_service.proofs.Found.{chosen_or_none, valid_of_chosen}
use Rattle.mid_service.proofs.Listed.{legs_listed}
use Rattle.mid_service.proofs.Ways.{valid_choices_join}
use Rattle.xc_recovery.specs.declared.leg_task.LegTask.{LegTask}
use Rattle.xc_recovery.specs.declared.leg_task.LegTask.TheVariants.{Join, Part}
use Rattle.xc_recovery.specs.LegTasks.{tasks}
use Rattle.xc_recovery.specs.ChangeWorks.{AreReady, ChangesPlanned, DoesBy, DoesPlanned, IsReady, MovesLegs, WorksPlanned}
use Rattle.xc_recovery.specs.Placings.{IsPlaced}
use Rattle.xc_recovery.proofs.HeldLegs.{does_proper}
use Rattle.xc_recovery.proofs.Once.{planned_once}
use Rattle.xc_recovery.proofs.Placing.{tasks_ready}
use Rattle.xc_recovery.proofs.Spelled.{planned_does}
use Rattle.xc_core.specs.Reckonings.{Meets, Past, limit_by}

-- there is one, or a middle is out of service and there is none
abbrev Or : Option Middle → {X : Type 0} → (X → Type 0) → Type 0
Or out {X} P = ((x : X) × P x) ⊎ ((out ≢ None) × ((x : X) → P x → ⊥))

-- a chosen join is made after the exchange of its chain
join_by : (c : Colouring) (l : Leg) (k : ℕ) (h : ChainChoice) → IsProperColouring c → IsInside c.shape l → IsUnused c l → IsEmpty c c.shape.slots → IsChosen c l k h → IsValidChoice c l k h → (o : LegOp) × Plans c l o
join_by c l k Direct p i u e chosen valid =
    let o : LegOp = op.Join l (record { middle = record { 0 = k }; chain = Direct }) (record { items = [] }) in
    (o, (record { middle = record { 0 = k }; chain = Direct }, chosen, joins_direct c l (record { 0 = k }) o p i u e valid.0 valid.1 (refl, refl, refl)))
join_by c l k (ByRow a) p i u e chosen (pair, (ls, chain, short)) =
    let h = choice_on Row a (record { 0 = k }) in
    let o : LegOp = op.Join l h (record { items = exchange ls k a.0 c.shape.slots }) in
    (o, (h, chosen, (expands c l a (record { 0 = k }) Row ls o p i u e pair chain short (refl, refl, refl)).1))
join_by c l k (ByColumn b) p i u e chosen (pair, (ls, chain, short)) =
    let h = choice_on Column (record { 0 = k }) b in
    let o : LegOp = op.Join l h (record { items = exchange ls k b.0 c.shape.slots }) in
    (o, (h, chosen, (expands c l (record { 0 = k }) b Column ls o p i u e pair chain short (refl, refl, refl)).1))

-- while a middle is out, by the choice of lowest numbers, if there is one
join_while_out : (m : Middle) (c : Colouring) (l : Leg) → IsProperColouring c → IsReady (Some m) c (Join l) → Or (Some m) (PlansWhileOut c m.0 l)
join_while_out m c l p ready = ⊎_elim
    (λ f.
    let h : Choice = record { middle = record { 0 = f.0 }; chain = f.1 } in
    let made = valid_choices_join c m.0 l h p (record { inside = ready.0; unused = ready.1; middle = ready.2; empty = ready.3 }) (valid_of_chosen c m.0 l f.0 f.1 f.2) in
    inl (made.0, (h, f.2, made.1)))
    (λ none. inr ((λ e. let k : Some m ≡ None = e in cc), λ o w. none w.0.middle.0 w.0.chain (valid_of_chosen c m.0 l w.0.middle.0 w.0.chain w.1)))
    (chosen_or_none c m.0 l p)

op_planned : (out : Option Middle) (c : Colouring) (t : LegTask) → IsProperColouring c → IsReady out c t → Or out (DoesPlanned out c t)
op_planned None c (Join l) p ready =
    let h = always_chosen c l p ready.0 ready.1 in
    inl (join_by c l h.0 h.1 p ready.0 ready.1 ready.3 h.2 h.3)
op_planned (Some m) c (Join l) p ready = join_while_out m c l p ready
op_planned out c (Part l) p ready =
    let k = ready.1.0 in
    inl (op.Part l (record { 0 = k }), (record { middle = record { 0 = k }; chain = Direct }, record { held = ready.1.1; direct = refl; parts = refl }))

none_first : (out : Option Middle) (c : Colouring) (t : LegTask) (ts : List LegTask) → ((o : LegOp) → DoesPlanned out c t o → ⊥) → (os : List LegOp) → WorksPlanned out c (t ∷ ts) os → ⊥
none_first out c t ts none [] w = w
none_first out c t ts none (o ∷ os) w = none o w.0

none_behind : (out : Option Middle) (c : Colouring) (t : LegTask) (ts : List LegTask) (o : LegOp) → DoesPlanned out c t o → ((os : List LegOp) → WorksPlanned out (after_op o c) ts os → ⊥) → (os : List LegOp) → WorksPlanned out c (t ∷ ts) os → ⊥
none_behind out c t ts o does none [] w = w
none_behind out c t ts o does none (q ∷ os) w = none os (subst (λ (x : LegOp). WorksPlanned out (after_op x c) ts os) (sym (planned_once out c t o q does w.0)) w.1)

-- tasks that are ready have a planned work, or a leg has no middle at its turn
works_planned : (out : Option Middle) (c : Colouring) (ts : List LegTask) → IsProperColouring c → AreReady out c ts → Or out (WorksPlanned out c ts)
works_planned out c [] p ready = inl ([], tt)
works_planned out c (t ∷ ts) p ready = planned_on (λ o h does. works_planned out (after_op o c) ts (does_proper out c t h o p does) (ready.1 h o does)) (op_planned out c t p ready.0)
  where
    planned_on : ((o : LegOp) (h : Choice) → DoesBy out c t h o → Or out (WorksPlanned out (after_op o c) ts)) → Or out (DoesPlanned out c t) → Or out (WorksPlanned out c (t ∷ ts))
    planned_on rest (inr none) = inr (none.0, none_first out c t ts none.1)
    planned_on rest (inl (o, planned)) =
        let d = planned_does out c t o planned in
        ⊎_elim
        (λ more. inl (o ∷ more.0, (planned, more.1)))
        (λ none. inr (none.0, none_behind out c t ts o planned none.1))
        (rest o d.0 d.1)

legs_moved : (out : Option Middle) (c : Colouring) (k q : ℕ) → IsProperColouring c → Or out (MovesLegs c k q)
legs_moved out c k q p =
    let ls = legs_listed c k p in
    let o : LegOp = op.Shift (record { items = shifts ls.0 k q }) in
    inl (o ∷ [], (o, (ls.0, ls.1, refl), refl))

pub change_planned : (t : Board) (c : Colouring) (change : Change) → IsPlaced t c → MayTake t change → Or t.out (ChangesPlanned t c change)
change_planned t c (Enter k) placed granted = works_planned t.out c (tasks t (Enter k)) placed.colouring (tasks_ready t c placed (Enter k) granted)
change_planned t c (Delete k) placed granted = works_planned t.out c (tasks t (Delete k)) placed.colouring (tasks_ready t c placed (Delete k) granted)
change_planned t c (Edit k) placed granted = works_planned t.out c (tasks t (Edit k)) placed.colouring (tasks_ready t c placed (Edit k) granted)
change_planned t c (EnterModule m) placed granted = inl ([], tt)
change_planned t c (DeleteModule m) placed granted = inl ([], tt)
change_planned t c (TakeOut m) placed granted = legs_moved t.out c m.0 c.shape.slots placed.colouring
change_planned t c (PutBack m) placed granted = legs_moved t.out c c.shape.slots m.0 placed.colouring

-- so a granted change meets a limit, or none
pub meets_one : (b : Past) (x : Op) (c : Change) → IsPlaced b.fold.table b.fold.colours → Grants b.fold.table x c → (met : Option Cause) × Meets b c met
meets_one b x c placed granted = ⊎_elim
    (λ w. (limit_by (b.fold.switches + switches_in (ops_writes w.0)) b.changes, inl (record { ops = w.0; planned = w.1; limit = refl })))
    (λ none. (Some NoMiddle, inr (record { out = none.0; none = none.1 }, refl)))
    (change_planned b.fold.table b.fold.colours c placed (own_verdict b.fold.table x c granted))

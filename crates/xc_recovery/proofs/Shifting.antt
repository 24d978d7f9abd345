-- A change of a middle moves legs, and any other joins and parts them.
use Rattle.std.proofs.Common.{Bool, true, false, ◌≡◌, List, [], ◌∷◌, length, get_or, Option, Some, None, refl, sym, subst, arith}
use Rattle.std.specs.Prelude.{MatchOption}
use Rattle.dxc_num.specs.declared.port.Middle.{Middle}
use Rattle.dxc_model.specs.declared.op.Change.{Change}
use Rattle.dxc_model.specs.declared.op.Change.TheVariants.{Enter, Delete, Edit, EnterModule, DeleteModule, TakeOut, PutBack}
use Rattle.dxc_model.specs.Tables.{Board}
use Rattle.roll_plan.specs.declared.op.Choice.{Choice}
use Rattle.roll_plan.specs.declared.op.LegOp.{LegOp}
use Rattle.roll_plan.specs.declared.work.Work.{Work}
use Rattle.paull_matrix.specs.Colourings.{Colouring}
use Rattle.xc_recovery.specs.declared.leg_task.LegTask.{LegTask}
use Rattle.xc_recovery.specs.LegTasks.{tasks}
use Rattle.xc_recovery.specs.ChangeWorks.{ChangesBy, ChangesPlanned, DoesBy, DoesPlanned, IsOfLegs, Shifts, WorksBy, WorksPlanned}
use Rattle.xc_recovery.specs.Straight.{IsMade, IsTried, by_choices, tried_by}
use Rattle.xc_recovery.proofs.Spelled.{works_length}

legs_by : (t : Board) (c : Colouring) (change : Change) (hs : List Choice) (os : List LegOp) → IsOfLegs change → WorksBy t.out c (tasks t change) hs os → ChangesBy t c change hs os
legs_by t c (Enter k) hs os is w = w
legs_by t c (Delete k) hs os is w = w
legs_by t c (Edit k) hs os is w = w
legs_by t c (EnterModule m) hs os is w = w
legs_by t c (DeleteModule m) hs os is w = w
legs_by t c (TakeOut m) hs os is w = absurd is
legs_by t c (PutBack m) hs os is w = absurd is

by_legs : (t : Board) (c : Colouring) (change : Change) (hs : List Choice) (os : List LegOp) → IsOfLegs change → ChangesBy t c change hs os → WorksBy t.out c (tasks t change) hs os
by_legs t c (Enter k) hs os is w = w
by_legs t c (Delete k) hs os is w = w
by_legs t c (Edit k) hs os is w = w
by_legs t c (EnterModule m) hs os is w = w
by_legs t c (DeleteModule m) hs os is w = w
by_legs t c (TakeOut m) hs os is w = absurd is
by_legs t c (PutBack m) hs os is w = absurd is

pub shift_by : (t : Board) (c : Colouring) (change : Change) (hs : List Choice) (os : List LegOp) (o : LegOp) → Shifts c change o → hs ≡ [] → os ≡ o ∷ [] → ChangesBy t c change hs os
shift_by t c (TakeOut m) hs os o s none is = (none, (o, s, is))
shift_by t c (PutBack m) hs os o s none is = (none, (o, s, is))
shift_by t c (Enter k) hs os o s none is = absurd s
shift_by t c (Delete k) hs os o s none is = absurd s
shift_by t c (Edit k) hs os o s none is = absurd s
shift_by t c (EnterModule m) hs os o s none is = absurd s
shift_by t c (DeleteModule m) hs os o s none is = absurd s

pub by_shift : (t : Board) (c : Colouring) (change : Change) (hs : List Choice) (os : List LegOp) (o : LegOp) → Shifts c change o → ChangesBy t c change hs os → hs ≡ []
by_shift t c (TakeOut m) hs os o s w = w.0
by_shift t c (PutBack m) hs os o s w = w.0
by_shift t c (Enter k) hs os o s w = absurd s
by_shift t c (Delete k) hs os o s w = absurd s
by_shift t c (Edit k) hs os o s w = absurd s
by_shift t c (EnterModule m) hs os o s w = absurd s
by_shift t c (DeleteModule m) hs os o s w = absurd s

plan_legs_by : (t : Board) (c : Colouring) (change : Change) (os : List LegOp) → IsOfLegs change → WorksPlanned t.out c (tasks t change) os → ChangesPlanned t c change os
plan_legs_by t c (Enter k) os is w = w
plan_legs_by t c (Delete k) os is w = w
plan_legs_by t c (Edit k) os is w = w
plan_legs_by t c (EnterModule m) os is w = w
plan_legs_by t c (DeleteModule m) os is w = w
plan_legs_by t c (TakeOut m) os is w = absurd is
plan_legs_by t c (PutBack m) os is w = absurd is

plan_by_legs : (t : Board) (c : Colouring) (change : Change) (os : List LegOp) → IsOfLegs change → ChangesPlanned t c change os → WorksPlanned t.out c (tasks t change) os
plan_by_legs t c (Enter k) os is w = w
plan_by_legs t c (Delete k) os is w = w
plan_by_legs t c (Edit k) os is w = w
plan_by_legs t c (EnterModule m) os is w = w
plan_by_legs t c (DeleteModule m) os is w = w
plan_by_legs t c (TakeOut m) os is w = absurd is
plan_by_legs t c (PutBack m) os is w = absurd is

pub plan_shift_by : (t : Board) (c : Colouring) (change : Change) (os : List LegOp) (o : LegOp) → Shifts c change o → os ≡ o ∷ [] → ChangesPlanned t c change os
plan_shift_by t c (Enter k) os o s is = absurd s
plan_shift_by t c (Delete k) os o s is = absurd s
plan_shift_by t c (Edit k) os o s is = absurd s
plan_shift_by t c (EnterModule m) os o s is = absurd s
plan_shift_by t c (DeleteModule m) os o s is = absurd s
plan_shift_by t c (TakeOut m) os o s is = (o, s, is)
plan_shift_by t c (PutBack m) os o s is = (o, s, is)

-- what is found by the legs alone is found of the change
pub legs_match : (t : Board) (c : Colouring) (change : Change) (hs : List Choice) (r : Option Work) → IsOfLegs change → MatchOption r ((ops : List LegOp) → ¬ WorksBy t.out c (tasks t change) hs ops) (λ w. WorksBy t.out c (tasks t change) hs w.ops.items)
    → MatchOption r ((ops : List LegOp) → ¬ ChangesBy t c change hs ops) (λ w. ChangesBy t c change hs w.ops.items)
legs_match t c change hs None is none = λ ops w. none ops (by_legs t c change hs ops is w)
legs_match t c change hs (Some w) is made = legs_by t c change hs w.ops.items is made

pub plan_legs_match : (t : Board) (c : Colouring) (change : Change) (r : Option Work) → IsOfLegs change → MatchOption r ((ops : List LegOp) → ¬ WorksPlanned t.out c (tasks t change) ops) (λ w. WorksPlanned t.out c (tasks t change) w.ops.items)
    → MatchOption r ((ops : List LegOp) → ¬ ChangesPlanned t c change ops) (λ w. ChangesPlanned t c change w.ops.items)
plan_legs_match t c change None is none = λ ops w. none ops (plan_by_legs t c change ops is w)
plan_legs_match t c change (Some w) is planned = plan_legs_by t c change w.ops.items is planned

-- A change of one leg: what is planned for the leg is its work.
of_legs : (t : Board) (change : Change) (k : LegTask) → tasks t change ≡ k ∷ [] → IsOfLegs change
of_legs t (Enter x) k is = tt
of_legs t (Delete x) k is = tt
of_legs t (Edit x) k is = tt
of_legs t (EnterModule m) k is = tt
of_legs t (DeleteModule m) k is = tt
of_legs t (TakeOut m) k is = cc
of_legs t (PutBack m) k is = cc

pub one_planned : (t : Board) (c : Colouring) (change : Change) (k : LegTask) (o : LegOp) → tasks t change ≡ k ∷ [] → DoesPlanned t.out c k o → ChangesPlanned t c change (o ∷ [])
one_planned t c change k o is does = plan_legs_by t c change (o ∷ []) (of_legs t change k is) (subst (λ (ts : List LegTask). WorksPlanned t.out c ts (o ∷ [])) (sym is) (does, tt))

pub none_planned : (t : Board) (c : Colouring) (change : Change) (k : LegTask) → tasks t change ≡ k ∷ [] → ((o : LegOp) → ¬ DoesPlanned t.out c k o) → (ops : List LegOp) → ¬ ChangesPlanned t c change ops
none_planned t c change k is none ops w = stuck ops (subst (λ (ts : List LegTask). WorksPlanned t.out c ts ops) is (plan_by_legs t c change ops (of_legs t change k is) w))
  where
    stuck : (os : List LegOp) → WorksPlanned t.out c (k ∷ []) os → ⊥
    stuck [] x = x
    stuck (o ∷ os) x = none o x.0

-- a list of one has its first alone
pub first_alone : {T : Type 0} (ts : List T) (d : T) → length ts ≡ 1 → ts ≡ get_or ts 0 d ∷ []
first_alone [] d one = absurd (let z : ⊥ = omega arith in z)
first_alone (k ∷ []) d one = refl
first_alone (k ∷ j ∷ ts) d one = absurd (let z : ⊥ = omega arith in z)

-- the same by a given choice
module _ (t : Board) (c : Colouring) (change : Change) (k : LegTask) (is : tasks t change ≡ k ∷ []) (hs : List Choice) where
  legs_done : (ops : List LegOp) → ChangesBy t c change hs ops → WorksBy t.out c (k ∷ []) hs ops
  legs_done ops w = subst (λ (ts : List LegTask). WorksBy t.out c ts hs ops) is (by_legs t c change hs ops (of_legs t change k is) w)

  pub not_one : (length hs ≡ 1 → ⊥) → (ops : List LegOp) → ¬ ChangesBy t c change hs ops
  not_one more ops w = more (works_length t.out c (k ∷ []) hs ops (legs_done ops w))

  module _ (h : Choice) (one : hs ≡ h ∷ []) where
    one_by : (o : LegOp) → DoesBy t.out c k h o → ChangesBy t c change hs (o ∷ [])
    one_by o does = legs_by t c change hs (o ∷ []) (of_legs t change k is) (subst (λ (w : List LegTask × List Choice). WorksBy t.out c w.0 w.1 (o ∷ [])) (λ i. (sym is i, sym one i)) (does, tt))

    stuck : ((o : LegOp) → ¬ DoesBy t.out c k h o) → (os : List LegOp) → WorksBy t.out c (k ∷ []) (h ∷ []) os → ⊥
    stuck none [] x = x
    stuck none (o ∷ os) x = none o x.0

    done : (r : Bool) (d : Colouring) → IsTried r (tried_by t.out k h) c d → IsMade r t (by_choices change hs) c d
    done true d made = (made.0 ∷ [], one_by made.0 made.1, made.2)
    done false d none = ((λ ops w. stuck none.0 ops (subst (λ (xs : List Choice). WorksBy t.out c (k ∷ []) xs ops) one (legs_done ops w))), none.1)

  pub one_tried : (length hs ≡ 1) → (h : Choice) (out : Option Middle) → out ≡ t.out → (r : Bool) (d : Colouring) → IsTried r (tried_by out k (get_or hs 0 h)) c d → IsMade r t (by_choices change hs) c d
  one_tried one h out same r d tried = done (get_or hs 0 h) (first_alone hs h one) r d (subst (λ (o : Option Middle). IsTried r (tried_by o k (get_or hs 0 h)) c d) same tried)

-- An entry that can be made is made, unless it has no middle while one is out of service.
use Rattle.std.proofs.Common.{◌≡◌, ◌≢◌, ◌↔◌, ℕ, ◌+◌, ◌^◌, Bool, true, false, nat_lt, nat_le, if◌then◌else◌, List, [], ◌∷◌, ◌++◌, Option, Some, None, Result, Ok, refl, sym, ◌∙◌, ap, subst, inl, inr}
use Rattle.std.specs.Prelude.{option_to_list}
use Rattle.dxc_num.specs.declared.port.Leg.{Leg}
use Rattle.dxc_num.specs.declared.port.Middle.{Middle}
use Rattle.dxc_model.specs.declared.cause.Cause.{Cause}
use Rattle.dxc_model.specs.declared.cause.Cause.TheVariants.{NoMiddle, SwitchLimit}
use Rattle.dxc_model.specs.declared.conn.Conn.{Conn}
use Rattle.dxc_model.specs.declared.op.Op.{Op}
use Rattle.dxc_model.specs.declared.op.Op.TheVariants.{Enter}
use Rattle.dxc_model.specs.declared.op.Change.{Change}
use Rattle.dxc_model.specs.declared.op.Change.TheVariants as change
use Rattle.dxc_model.specs.declared.entry.Entry.{Entry}
use Rattle.dxc_model.specs.declared.entry.Outcome.{Outcome}
use Rattle.dxc_model.specs.declared.entry.Outcome.TheVariants.{Done, Denied, Failed, Answered, Restarted, Cut, Taken}
use Rattle.dxc_model.specs.Tables.{Board, legs_of}
use Rattle.dxc_model.specs.Steps.{StepsTo, made, with_change}
use Rattle.dxc_model.specs.Verdicts.{Grants, MayTake, judged, verdict}
use Rattle.dxc_model.specs.Histories.{GoesOn, changes_of, table_after}
use Rattle.dxc_model.proofs.Growth.{table_more}
use Rattle.dxc_model.proofs.Verdicts.{none_of, own_verdict}
use Rattle.roll_plan.specs.declared.op.Choice.{Choice}
use Rattle.roll_plan.specs.declared.op.LegOp.{LegOp}
use Rattle.roll_plan.specs.Works.{ops_writes, switches_in}
use Rattle.paull_matrix.specs.Colourings.{Colouring, IsProperColouring}
use Rattle.paull_chain.specs.Works.{after_op}
use Rattle.mid_service.specs.Choices.{PlansWhileOut}
use Rattle.mid_service.proofs.Found.{chosen_where_valid, valid_of_chosen}
use Rattle.mid_service.proofs.Unique.{plans_determined}
use Rattle.mid_service.proofs.Ways.{valid_choices_join}
use Rattle.xc_recovery.specs.declared.leg_task.LegTask.TheVariants.{Join}
use Rattle.xc_recovery.specs.LegTasks.{joins}
use Rattle.xc_recovery.specs.ChangeWorks.{AreReady, DoesBy, WorksPlanned, choices_in}
use Rattle.xc_recovery.specs.Folds.{none_folded}
use Rattle.xc_recovery.specs.Placings.{IsPlaced}
use Rattle.xc_recovery.proofs.Folding.{folds_seated, none_seated}
use Rattle.xc_recovery.proofs.HeldLegs.{does_proper}
use Rattle.xc_recovery.proofs.Placing.{placed_after, tasks_ready}
use Rattle.xc_recovery.proofs.Spelled.{changes_made}
use Rattle.xc_core.specs.Reckonings.{HasNoWork, Meets, Past, ReckonsTo, changed, limit_by}
use Rattle.xc_core.specs.States.{LimitBehind, Opening, rules_of}
use Rattle.xc_core.proofs.Reckoning.{reckoned_table, reckons_once}
use Rattle.craft_session.specs.declared.attending.Attending.{Attending}
use Rattle.craft_session.specs.declared.ask.Ask.TheVariants.{Changes}
use Rattle.craft_session.specs.Asks.{Reply, completed, denied}
use Rattle.session_laws.specs.Entering.{CanBeEntered, CanBeEnteredBehind, HasMiddles, HaveChoices, HaveMiddles, IsBelowLimit}
use Rattle.craft_session.specs.Plain.{Judges, Makes, Replies, standing}
use Rattle.session_laws.specs.Laws.{OpeningsArePlaced}

granted : (t : Board) (c : Conn) → CanBeEntered t c → verdict t (Enter c) ≡ Some (Ok (change.Enter c))
granted t c h = ap (λ (o : Option Cause). judged o (Some (change.Enter c))) (none_of t (Enter c) (record { equipped = h.equipped; free = h.free; other = refl; idle = refl; bare = refl; there = refl; all_in = refl; its_out = refl }))

-- what a file stands for is placed
pub opening_placed : OpeningsArePlaced
opening_placed file shelf fabric o is =
    let f = is.folded in
    (folds_seated f.head.version shelf.shape (none_folded shelf.shape f.head.equipped) (record { table = o.first.fold.table; colours = o.first.fold.colours; work = o.first.fold.work; switches = f.comes.0 }) f.read (none_seated shelf.shape f.head.equipped) f.comes.1).placed

-- the changes of a legal history keep table and colouring on one set of legs

some_same : (k c : Change) → Some k ≡ Some c → k ≡ c
some_same k c e = cc

made_granted : (t u : Board) (op : Op) (o : Outcome) (c : Change) → StepsTo t op o u → made o ≡ Some c → MayTake t c
made_granted t u op (Done k) c step is = own_verdict t op c (subst (λ (x : Change). Grants t op x) (some_same k c is) step.0)
made_granted t u op (Denied q) c step is = absurd (let e : None ≡ Some c = is in cc)
made_granted t u op (Failed q) c step is = absurd (let e : None ≡ Some c = is in cc)
made_granted t u op Answered c step is = absurd (let e : None ≡ Some c = is in cc)
made_granted t u op (Restarted None) c step is = absurd (let e : None ≡ Some c = is in cc)
made_granted t u op (Restarted (Some k)) c step is = subst (MayTake t) (some_same k c is) step.1
made_granted t u op Cut c step is = absurd (let e : None ≡ Some c = is in cc)
made_granted t u op Taken c step is = absurd (let e : None ≡ Some c = is in cc)

abbrev IsPlacedAt : Past → Type 0
IsPlacedAt b = IsPlaced b.fold.table b.fold.colours

-- the same after one change, or none
placed_with : (b g : Past) (m : Option Change) (cs : List Change) → IsPlacedAt b → ((c : Change) → m ≡ Some c → MayTake b.fold.table c) → ReckonsTo b (option_to_list m ++ cs) g
    → (x : Past) × IsPlacedAt x × (x.fold.table ≡ with_change b.fold.table m) × ReckonsTo x cs g
placed_with b g None cs placed may r = (b, placed, refl, r)
placed_with b g (Some c) cs placed may (ops, planned, rest) =
    (changed b c ops, placed_after b.fold.table b.fold.colours c (choices_in ops) ops placed (may c refl) (changes_made b.fold.table b.fold.colours c ops planned), refl, rest)

module _ (o : Opening) where
  abbrev first_table : Board
  first_table = o.first.fold.table

  placed_on : (past es : List Entry) (b g : Past) → b.fold.table ≡ table_after first_table past → IsPlacedAt b → GoesOn (rules_of o) past es → ReckonsTo b (changes_of es) g → IsPlacedAt g
  placed_on past [] b g table placed legal r = subst IsPlacedAt (sym r) placed
  placed_on past (e ∷ es) b g table placed (fits, rest) r =
      let may : (c : Change) → made e.outcome ≡ Some c → MayTake b.fold.table c = λ c is. subst (λ (t : Board). MayTake t c) (sym table) (made_granted (table_after first_table past) (table_after first_table (past ++ e ∷ [])) e.op e.outcome c fits.step is) in
      let x = placed_with b g (made e.outcome) (changes_of es) placed may r in
      placed_on (past ++ e ∷ []) es x.0 g (x.2 ∙ ap (λ (t : Board). with_change t (made e.outcome)) table ∙ sym (table_more first_table past e)) x.1 rest x.3

  module _ (h : List Entry) (b : Past) (c : Conn) (free : CanBeEnteredBehind o h b c) where
    placed_then : IsPlacedAt b
    placed_then = placed_on [] h o.first b refl free.placed free.legal free.reckoned

    table_then : b.fold.table ≡ table_after first_table h
    table_then = reckoned_table o.first b h free.reckoned

    may_enter : MayTake b.fold.table (change.Enter c)
    may_enter = subst (λ (t : Board). MayTake t (change.Enter c)) (sym table_then) (record { apt = free.free.ports; says = granted (table_after first_table h) c free.free })

    joins_ready : AreReady b.fold.table.out b.fold.colours (joins (legs_of c))
    joins_ready = tasks_ready b.fold.table b.fold.colours placed_then (change.Enter c) may_enter

-- a choice for each leg is a planned work, and the other way round
module _ (m : Middle) where
  chosen_planned : (c : Colouring) (ls : List Leg) → IsProperColouring c → AreReady (Some m) c (joins ls) → HaveChoices m.0 c ls → (ops : List LegOp) × WorksPlanned (Some m) c (joins ls) ops
  chosen_planned c [] p ready x = ([], tt)
  chosen_planned c (l ∷ ls) p ready (valid, more) =
      let f = (chosen_where_valid c m.0 l p).1 valid in
      let h : Choice = record { middle = record { 0 = f.0 }; chain = f.1 } in
      let is = valid_of_chosen c m.0 l f.0 f.1 f.2 in
      let j = valid_choices_join c m.0 l h p (record { inside = ready.0.0; unused = ready.0.1; middle = ready.0.2; empty = ready.0.3 }) is in
      let plans : PlansWhileOut c m.0 l j.0 = (h, f.2, j.1) in
      let does : DoesBy (Some m) c (Join l) h j.0 = (is, j.1) in
      let rest = chosen_planned (after_op j.0 c) ls (does_proper (Some m) c (Join l) h j.0 p does) (ready.1 h j.0 does) (more j.0 plans) in
      (j.0 ∷ rest.0, (plans, rest.1))

  planned_chosen : (c : Colouring) (ls : List Leg) (ops : List LegOp) → WorksPlanned (Some m) c (joins ls) ops → HaveChoices m.0 c ls
  planned_chosen c [] ops w = tt
  planned_chosen c (l ∷ ls) [] w = absurd w
  planned_chosen c (l ∷ ls) (o ∷ os) w = (
    (w.0.0.middle.0, w.0.0.chain, valid_of_chosen c m.0 l w.0.0.middle.0 w.0.0.chain w.0.1),
    λ q plans. planned_chosen (after_op q c) ls os (subst (λ (x : LegOp). WorksPlanned (Some m) (after_op x c) (joins ls) os) (plans_determined c m.0 l o q w.0 plans) w.1),
  )

some_planned : (out : Option Middle) (c : Colouring) (ls : List Leg) → IsProperColouring c → AreReady out c (joins ls) → HaveMiddles out c ls → out ≢ None → (ops : List LegOp) × WorksPlanned out c (joins ls) ops
some_planned None c ls p ready x out = absurd (out refl)
some_planned (Some m) c ls p ready x out = chosen_planned m c ls p ready x

planned_middles : (out : Option Middle) (c : Colouring) (ls : List Leg) (ops : List LegOp) → WorksPlanned out c (joins ls) ops → HaveMiddles out c ls
planned_middles None c ls ops w = tt
planned_middles (Some m) c ls ops w = planned_chosen m c ls ops w

-- a limit of numbers is another cause
two_limits : (x y : Bool) → (if x then Some SwitchLimit else if y then Some SwitchLimit else None) ≡ Some NoMiddle → ⊥
two_limits true y is = cc
two_limits false true is = cc
two_limits false false is = cc

limit_no_middle : (s n : ℕ) → limit_by s n ≡ Some NoMiddle → ⊥
limit_no_middle s n is = two_limits (nat_lt (2 ^ 48) s) (nat_le (2 ^ 48) n) is

denied_same : (q k : Cause) → denied q ≡ denied k → q ≡ k
denied_same q k e = cc

-- a reply tells the limit that was met
told_limit : (c : Change) (m : Option Cause) (r : Reply) (did : Option Change) → Makes c m r did → r ≡ denied NoMiddle → m ≡ Some NoMiddle
told_limit c None r did makes is = absurd (let e : completed ≡ denied NoMiddle = sym makes.0 ∙ is in cc)
told_limit c (Some q) r did makes is = ap Some (denied_same q NoMiddle (sym makes.0 ∙ is))

module _ (o : Opening) (h : List Entry) (s : Attending) (b : Past) (c : Conn) (r : Reply) (did : Option Change) (free : CanBeEnteredBehind o h b c)
    (replies : Replies (LimitBehind o.first) (λ q. ⊥) (standing o.first.fold.table h s) (Changes (Enter c)) r did) where
  -- the limit that the entry met, or none
  met : (met : Option Cause) × Meets b (change.Enter c) met × Makes (change.Enter c) met r did
  met =
      let x = subst (λ (v : Option (Result Change Cause)). Judges (LimitBehind o.first) (λ q. ⊥) (changes_of h) v r did) (granted (table_after o.first.fold.table h) c free.free) replies in
      let j : (met : Option Cause) × LimitBehind o.first (changes_of h) (change.Enter c) met × Makes (change.Enter c) met r did = elim x [ inl y ↦ y | inr y ↦ absurd y.1 ] in
      let same : j.1.0 ≡ b = reckons_once o.first j.1.0 b (changes_of h) j.1.1 free.reckoned in
      (j.0, subst (λ (x : Past). Meets x (change.Enter c) j.0) same j.1.2, j.2)

  has_work : HasMiddles b c → HasNoWork b (change.Enter c) → ⊥
  has_work x none =
      let w = some_planned b.fold.table.out b.fold.colours (legs_of c) (placed_then o h b c free).colouring (joins_ready o h b c free) x none.out in
      none.none w.0 w.1

  pub entry_completed : HasMiddles b c → IsBelowLimit b c → (r ≡ completed) × (did ≡ Some (change.Enter c))
  entry_completed x below = elim met.1 [
    | inl w ↦ subst (λ (m : Option Cause). Makes (change.Enter c) m r did) (w.limit ∙ below w.ops w.planned) met.2
    | inr none ↦ absurd (has_work x none.0)
  ]

  pub no_middle : r ≡ denied NoMiddle ↔ (HasMiddles b c → ⊥)
  no_middle = (
    λ is x. elim met.1 [
      | inl w ↦ limit_no_middle (b.fold.switches + switches_in (ops_writes w.ops)) b.changes (sym w.limit ∙ told_limit (change.Enter c) met.0 r did met.2 is)
      | inr k ↦ has_work x k.0
    ],
    λ none. elim met.1 [
      | inl w ↦ absurd (none (planned_middles b.fold.table.out b.fold.colours (legs_of c) w.ops w.planned))
      | inr k ↦ (subst (λ (m : Option Cause). Makes (change.Enter c) m r did) k.1 met.2).0
    ],
  )

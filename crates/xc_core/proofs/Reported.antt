-- The changes of a legal history are of its shape.
use Rattle.std.proofs.Common.{◌≤◌, ◌-◌, ℕ, zero, suc, arith, length, drop, List, [], ◌∷◌, ◌++◌, Some, None, sym, ap, subst}
use Rattle.std.specs.Prelude.{option_to_list}
use Rattle.std.specs.List.{AllByRecursion}
use Rattle.std.proofs.lemmas.List.{length-drop}
use Rattle.dxc_num.specs.Dimensions.{Dimensions}
use Rattle.dbchg_reports.specs.declared.reports.Since.{Since}
use Rattle.dbchg_reports.specs.declared.reports.Since.TheVariants.{All, Lost}
use Rattle.dbchg_reports.specs.Recent.{SinceIs, recent_of}
use Rattle.dxc_model.specs.declared.op.Op.{Op}
use Rattle.dxc_model.specs.declared.op.Change.{Change}
use Rattle.dxc_model.specs.declared.entry.Outcome.{Outcome}
use Rattle.dxc_model.specs.declared.entry.Outcome.TheVariants.{Done, Denied, Failed, Answered, Restarted, Cut, Taken}
use Rattle.dxc_model.specs.declared.entry.Entry.{Entry}
use Rattle.dxc_model.specs.Operations.{IsApt, op_of}
use Rattle.dxc_model.specs.Steps.{StepsTo, made}
use Rattle.dxc_model.specs.Histories.{GoesOn, IsLegal, Rules, changes_of, kept, table_after}
use Rattle.dxc_model.specs.Tables.{Board}
use Rattle.dxc_model.proofs.Verdicts.{own_verdict}
use Rattle.xc_core.proofs.Turning.{table_shape}

abbrev IsAptChange : Dimensions → Change → Type 0
IsAptChange d c = IsApt d (op_of c)

all_append : {X : Type 0} (P : X → Type 0) (xs ys : List X) → AllByRecursion P xs → AllByRecursion P ys → AllByRecursion P (xs ++ ys)
all_append P [] ys a b = b
all_append P (x ∷ xs) ys a b = (a.0, all_append P xs ys a.1 b)

all_drop : {X : Type 0} (P : X → Type 0) (n : ℕ) (xs : List X) → AllByRecursion P xs → AllByRecursion P (drop n xs)
all_drop P zero xs a = a
all_drop P (suc n) [] a = tt
all_drop P (suc n) (x ∷ xs) a = all_drop P n xs a.1

step_apt : (t u : Board) (op : Op) (o : Outcome) → StepsTo t op o u → AllByRecursion (IsAptChange t.shape) (option_to_list (made o))
step_apt t u op (Done c) s = ((own_verdict t op c s.0).apt, tt)
step_apt t u op (Denied q) s = tt
step_apt t u op (Failed q) s = tt
step_apt t u op Answered s = tt
step_apt t u op (Restarted None) s = tt
step_apt t u op (Restarted (Some c)) s = (s.1.apt, tt)
step_apt t u op Cut s = tt
step_apt t u op Taken s = tt

goes_on_apt : (r : Rules) (past h : List Entry) → GoesOn r past h → AllByRecursion (IsAptChange r.table.shape) (changes_of h)
goes_on_apt r past [] l = tt
goes_on_apt r past (e ∷ es) l = all_append (IsAptChange r.table.shape) (option_to_list (made e.outcome)) (changes_of es)
    (subst (λ (d : Dimensions). AllByRecursion (IsAptChange d) (option_to_list (made e.outcome))) (table_shape r.table past) (step_apt (table_after r.table past) (table_after r.table (past ++ e ∷ [])) e.op e.outcome l.0.step)) (goes_on_apt r (past ++ e ∷ []) es l.1)

pub legal_apt : (r : Rules) (h : List Entry) → IsLegal r h → AllByRecursion (IsAptChange r.table.shape) (changes_of h)
legal_apt r h l = goes_on_apt r [] h l

-- so are those that a look gives
pub given_apt : (d : Dimensions) (cs given : List Change) (cursor : ℕ) (since : Since) → SinceIs (recent_of cs) cursor since given → AllByRecursion (IsAptChange d) cs → AllByRecursion (IsAptChange d) given
given_apt d cs given cursor (All n) is all = subst (λ (l : List Change). AllByRecursion (IsAptChange d) l) (sym is.2) (all_drop (IsAptChange d) (length (drop (length cs - kept) cs) - n) (drop (length cs - kept) cs) (all_drop (IsAptChange d) (length cs - kept) cs all))
given_apt d cs given cursor (Lost n) is all = subst (λ (l : List Change). AllByRecursion (IsAptChange d) l) (sym is.2) (all_drop (IsAptChange d) (length cs - kept) cs all)

-- and there are no more of them than there are
pub given_few : (cs given : List Change) (cursor : ℕ) (since : Since) → SinceIs (recent_of cs) cursor since given → length given ≤ length cs
given_few cs given cursor (All n) is =
    let x = ap length is.2 in
    let y = length-drop (length (drop (length cs - kept) cs) - n) (drop (length cs - kept) cs) in
    let z = length-drop (length cs - kept) cs in
    omega (arith, x, y, z)
given_few cs given cursor (Lost n) is =
    let x = ap length is.2 in
    let z = length-drop (length cs - kept) cs in
    omega (arith, x, z)

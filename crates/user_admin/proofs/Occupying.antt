-- Who is where after one entry more, and each place in turn.
use Rattle.std.proofs.Common.{◌≡◌, ◌<◌, ◌+◌, ℕ, zero, suc, Bool, true, false, Option, Some, None, List, [], ◌∷◌, ◌++◌, length, map, take, drop, set, refl, ◌∙◌, ap, arith}
use Rattle.std.specs.Prelude.{slice_index_or}
use Rattle.dxc_model.specs.declared.user.Class.{Class}
use Rattle.user_admin.specs.declared.occupants.Occupant.{Occupant}
use Rattle.user_admin.specs.declared.op.UserEntry.{UserEntry}
use Rattle.tl1_users.specs.declared.op.UserOp.{UserOp}
use Rattle.user_admin.specs.declared.op.UserOutcome.{UserOutcome}
use Rattle.user_admin.specs.declared.op.UserOutcome.TheVariants.{Done, Denied, Failed, Answered}
use Rattle.user_admin.specs.Histories.{IsReading}
use Rattle.user_admin.specs.Users.{Users}
use Rattle.user_admin.specs.Verdicts.{refusal}
use Rattle.user_admin.specs.Marks.{holder_by}
use Rattle.user_admin.specs.Occupants.{login_op, nobody_yet, occupants_after, occupied_by, occupied_from}

occupied_append : (os : List Occupant) (h g : List UserEntry) → occupied_from os (h ++ g) ≡ occupied_from (occupied_from os h) g
occupied_append os [] g = refl
occupied_append os (e ∷ h) g = occupied_append (occupied_by e.place e.op e.outcome os) h g

-- after one entry more
pub occupants_more : (h : List UserEntry) (e : UserEntry) → occupants_after (h ++ e ∷ []) ≡ occupied_by e.place e.op e.outcome (occupants_after h)
occupants_more h e = occupied_append nobody_yet h (e ∷ [])

some_none : (n : ℕ) → Some n ≡ None → ⊥
some_none n e = cc

-- however a look for a log-in is entered, it changes no user, and is allowed
pub login_reads : (vacant : Bool) (uid : List ℕ) (found : Option Class) → IsReading (login_op vacant uid found)
login_reads true uid (Some class) = tt
login_reads true uid None = tt
login_reads false uid found = tt

pub login_allowed : (vacant : Bool) (uid : List ℕ) (found : Option Class) (users : Users) → refusal (login_op vacant uid found) users ≡ None
login_allowed true uid (Some class) users = refl
login_allowed true uid None users = refl
login_allowed false uid found users = refl

-- what brings the keeper home tells nobody's place
pub still_by : (n : ℕ) (op : UserOp) (out : UserOutcome) (os : List Occupant) → ((who : Option ℕ) → holder_by who out ≡ None) → occupied_by n op out os ≡ os
still_by n op (Done c) os home = refl
still_by n op (Denied q) os home = refl
still_by n op (Failed q) os home = refl
still_by n op Answered os home = absurd (some_none 0 (home (Some 0)))

-- the first i are done, and then the next one
done_at : {A : Type 0} (f : A → A) (d : A) (xs : List A) (i : ℕ) → i < length xs → set (take i (map f xs) ++ drop i xs) i (f (slice_index_or (take i (map f xs) ++ drop i xs) i d)) ≡ take (suc i) (map f xs) ++ drop (suc i) xs
done_at f d [] i h = absurd (omega arith)
done_at f d (x ∷ xs) zero h = refl
done_at f d (x ∷ xs) (suc i) h = ap (λ l. f x ∷ l) (done_at f d xs i (omega arith))

pub done_next : {A : Type 0} (f : A → A) (d : A) (xs : List A) (i : ℕ) → i < length xs → set (take i (map f xs) ++ drop i xs) i (f (slice_index_or (take i (map f xs) ++ drop i xs) i d)) ≡ take (i + 1) (map f xs) ++ drop (i + 1) xs
done_next f d xs i h = let e : suc i ≡ i + 1 = omega arith in done_at f d xs i h ∙ ap (λ (k : ℕ). take k (map f xs) ++ drop k xs) e

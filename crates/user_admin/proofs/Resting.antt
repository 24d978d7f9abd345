-- A place that hasn't got the keeper out gets it by no turn but the one in which it takes it.
use Rattle.std.proofs.Common.{◌≡◌, ◌≢◌, ℕ, Option, None, Some, Result, Ok, Err, List, [], ◌∷◌, ◌++◌, sym, ◌∙◌, ap, subst}
use Rattle.std.proofs.lemmas.List.{map-append}
use base.Stored.{Gv}
use Rattle.turnstile.specs.Passing.{Token}
use Rattle.turnstile.specs.Turning.{Each, Found}
use Rattle.turnstile.proofs.Lists.{map_once}
use Rattle.dxc_disk.specs.Disks.{DiskState}
use Rattle.dxc_outside.specs.declared.stopped.Stopped.{Stopped}
use Rattle.user_admin.specs.declared.op.UserMark.{UserMark}
use Rattle.user_admin.specs.declared.op.UserMark.TheVariants.{Entered, Took}
use Rattle.tl1_users.specs.declared.op.UserOp.{UserOp}
use Rattle.user_admin.specs.declared.op.UserOutcome.{UserOutcome}
use Rattle.user_admin.specs.declared.op.UserOutcome.TheVariants.{Done, Denied, Failed, Answered}
use Rattle.user_admin.specs.declared.shared.Planned.{Planned}
use Rattle.user_admin.specs.declared.shared.Planned.TheVariants as planned
use Rattle.user_admin.specs.declared.shared.SharedUsers.{SharedUsers}
use Rattle.user_admin.specs.Coding.{mark_coded}
use Rattle.user_admin.specs.Histories.{Opening}
use Rattle.user_admin.specs.Marks.{entered, holder, holder_after, holder_by, mark_for, place_of}
use Rattle.user_admin.specs.Resting.{IsAtRest, Rests, RestsUnlessTaken, SawRest}
use Rattle.user_admin.specs.Shared.{SharedStands, opening_at}
use Rattle.user_admin.specs.States.{refused}
use Rattle.user_admin.specs.Turns.{codes}
use Rattle.user_admin.proofs.Marking.{holder_append, no_mark, same_mark, same_number}

none_some : (n : ℕ) → None ≡ Some n → ⊥
none_some n e = cc

some_not_none : (m : UserMark) → Some m ≡ None → ⊥
some_not_none m e = cc

-- what is entered never gives it to a place
pub by_out : (own : ℕ) (who : Option ℕ) (out : UserOutcome) → who ≢ Some own → holder_by who out ≢ Some own
by_out own who (Done c) rests = none_some own
by_out own who (Denied q) rests = rests
by_out own who (Failed q) rests = none_some own
by_out own who Answered rests = rests

-- others' turns don't give it to the place
pub others_rest : (own : ℕ) (who : Option ℕ) (ms : List UserMark) → who ≢ Some own → Each (λ m. place_of m ≢ own) ms → holder who ms ≢ Some own
others_rest own who [] rests others = rests
others_rest own who (Took n ∷ ms) rests others = others_rest own (Some n) ms (λ is. others.0 (same_number n own is)) others.1
others_rest own who (Entered n op out ∷ ms) rests others = others_rest own (holder_by who out) ms (by_out own who out rests) others.1

pub rests_behind : (own : ℕ) (ms later : List UserMark) → Rests own ms → Each (λ m. place_of m ≢ own) later → Rests own (ms ++ later)
rests_behind own ms later rests others = λ is. others_rest own (holder None ms) later rests others (sym (holder_append None ms later) ∙ is)

-- who has seen nothing rests
pub nothing_rests : (own : ℕ) → SawRest own []
nothing_rests own [] is = none_some own
nothing_rests own (m ∷ ms) is = cc

-- a turn of the pass p, after which it is q
module _ {D : Type 0} (told : Type 0) (state : D → DiskState) (o : Opening) (by passes : ℕ) (p q : Token) (in_turn : List Gv) (x : SharedUsers D) (is : by ≡ p.number) (same : q.number ≡ p.number) (f : Found mark_coded.code (opening_at state) place_of (SharedStands told state) by passes o p.seen x in_turn) where
  found_rests : IsAtRest p → Rests p.number (f.begun ++ f.later)
  found_rests rests = rests_behind p.number f.begun f.later (rests f.begun f.before) (subst (λ (n : ℕ). Each (λ m. place_of m ≢ n) f.later) is f.others)

  abbrev found : List UserMark
  found = f.begun ++ f.later

  -- it left nothing
  pub back_rests : q.seen ≡ in_turn → IsAtRest p → IsAtRest q
  back_rests seen rests ms codes_are =
      let one : found ≡ ms = map_once mark_coded.code mark_coded.inj found ms (sym f.after ∙ sym seen ∙ codes_are) in
      subst (λ (y : ℕ × List UserMark). Rests y.0 y.1) (λ i. (sym same i, one i)) (found_rests rests)

  module _ (m : UserMark) (seen : q.seen ≡ in_turn ++ mark_coded.code m ∷ []) where
    left_is : (ms : List UserMark) → q.seen ≡ codes ms → found ++ m ∷ [] ≡ ms
    left_is ms codes_are = map_once mark_coded.code mark_coded.inj (found ++ m ∷ []) ms (map-append mark_coded.code found (m ∷ []) ∙ ap (λ (s : List Gv). s ++ mark_coded.code m ∷ []) (sym f.after) ∙ sym seen ∙ codes_are)

    with_mark : holder_after (holder None found) m ≢ Some p.number → IsAtRest q
    with_mark not ms codes_are = subst (λ (y : ℕ × List UserMark). Rests y.0 y.1) (λ i. (sym same i, left_is ms codes_are i)) (λ held. not (sym (holder_append None found (m ∷ [])) ∙ held))

    -- it left something that doesn't give it to the place
    pub left_rests : ((who : Option ℕ) → who ≢ Some p.number → holder_after who m ≢ Some p.number) → IsAtRest p → IsAtRest q
    left_rests keeps rests = with_mark (keeps (holder None found) (found_rests rests))

    -- or that brings it home
    pub home_rests : ((who : Option ℕ) → holder_after who m ≡ None) → IsAtRest q
    home_rests home = with_mark (λ held. none_some p.number (sym (home (holder None found)) ∙ held))

    -- a turn in which a change was to begin
    pub took_rests : (op : UserOp) (answer : Result (Planned D) Stopped) → mark_for p.number op answer ≡ Some m → IsAtRest p → RestsUnlessTaken answer q
    took_rests op (Ok (planned.Taken k c)) marked rests = tt
    took_rests op (Ok (planned.Denied cause)) marked rests = left_rests (λ who not. subst (λ (y : UserMark). holder_after who y ≢ Some p.number) (same_mark (entered p.number op (refused cause)) m marked) (by_out p.number who (refused cause) not)) rests
    took_rests op (Ok planned.Waits) marked rests = absurd (no_mark m marked)
    took_rests op (Err e) marked rests = absurd (no_mark m marked)

  -- or that was given back
  pub gave_rests : (op : UserOp) (answer : Result (Planned D) Stopped) → mark_for p.number op answer ≡ None → q.seen ≡ in_turn → IsAtRest p → RestsUnlessTaken answer q
  gave_rests op (Ok (planned.Taken k c)) marked seen rests = absurd (some_not_none _ marked)
  gave_rests op (Ok (planned.Denied cause)) marked seen rests = absurd (some_not_none _ marked)
  gave_rests op (Ok planned.Waits) marked seen rests = back_rests seen rests
  gave_rests op (Err e) marked seen rests = back_rests seen rests

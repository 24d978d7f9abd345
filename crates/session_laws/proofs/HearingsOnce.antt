-- What a session hears of the users that is alone is one.
use Rattle.std.specs.Prelude.{option_to_list}
use Rattle.std.proofs.Common.{◌≡◌, ℕ, Bool, true, false, List, [], ◌∷◌, ◌++◌, Option, Some, None, refl, sym, ◌∙◌, ap, ap₂, subst}
use Rattle.dxc_model.specs.declared.cause.Cause.{Cause}
use Rattle.dxc_outside.specs.declared.clock.Moment.{Moment}
use Rattle.dxc_model.specs.declared.user.SessionUser.{SessionUser}
use Rattle.dxc_notes.specs.declared.standing.Standing.{Standing}
use Rattle.tl1_text.specs.Units.{Input}
use Rattle.shelf_file.specs.Contents.{Contents}
use Rattle.user_admin.specs.declared.op.UserChange.{UserChange}
use Rattle.tl1_users.specs.declared.op.UserOp.{UserOp}
use Rattle.tl1_users.specs.declared.op.UserOp.TheVariants as op
use Rattle.user_admin.specs.declared.op.UserOutcome.{UserOutcome}
use Rattle.user_admin.specs.declared.op.UserOutcome.TheVariants.{Done, Denied, Failed, Answered}
use Rattle.user_admin.specs.Changes.{after}
use Rattle.user_admin.specs.Histories.{IsReading, MayCome, change_in}
use Rattle.user_admin.specs.Users.{Users}
use Rattle.user_admin.specs.Verdicts.{Makes, refusal}
use Rattle.user_admin.proofs.Granted.{granted_once, same_some}
use Rattle.craft_session.specs.Asks.{Language, asks_program, is_told_as, user_after}
use Rattle.craft_session.specs.Happenings.{Happening, Request, unit, quiet, told_in}
use Rattle.craft_session.specs.Hearing.{Heard, Wanted, nothing, to_look, to_do, heard_of}
use Rattle.craft_session.specs.Meanings.{asks, language_for, wants}
use Rattle.craft_session.specs.PlainUsers.{HearsOf, IsExcusedBy, PlaysUsers}
use Rattle.session_laws.specs.Laws.{bare}

-- an operation that only reads makes no change
reading_makes_none : (sid : List ℕ) (o : UserOp) (users : Users) (c : UserChange) → IsReading o → Makes sid o users c → ⊥
reading_makes_none sid (op.Enter uid pid class) users c reads x = reads
reading_makes_none sid (op.Edit uid pid class) users c reads x = reads
reading_makes_none sid (op.Delete uid) users c reads x = reads
reading_makes_none sid (op.EditPid uid old new) users c reads x = reads
reading_makes_none sid (op.Rows which) users c reads x = x
reading_makes_none sid (op.Look uid) users c reads x = x
reading_makes_none sid (op.LogIn uid) users c reads x = x
reading_makes_none sid (op.Cancel uid) users c reads x = x

allowed_refused : (o : UserOp) (users : Users) (q : Cause) → refusal o users ≡ None → refusal o users ≡ Some q → ⊥
allowed_refused o users q none some = let is = sym none ∙ some in cc

-- what is told of what is asked alike, in front of more
told_once : (asked : Bool) (x y : Option Standing) (xs ys : List Standing) → is_told_as asked x ≡ true → is_told_as asked y ≡ true → option_to_list x ++ xs ≡ option_to_list y ++ ys → (x ≡ y) × (xs ≡ ys)
told_once true (Some x) (Some y) xs ys p q same =
    let first : x ≡ y = cc in
    let more : xs ≡ ys = cc in
    (ap Some first, more)
told_once true (Some x) None xs ys p q same = absurd cc
told_once true None y xs ys p q same = absurd cc
told_once false (Some x) y xs ys p q same = absurd cc
told_once false None (Some y) xs ys p q same = absurd cc
told_once false None None xs ys p q same = (refl, same)

module _ (E F : Type 0) (never : E → ⊥) (nor : F → ⊥) (sid : List ℕ) where
  came_once : (o : UserOp) (users : Users) (a b : UserOutcome) → MayCome sid o users a → MayCome sid o users b → IsExcusedBy E a → IsExcusedBy F b → a ≡ b
  came_once o users (Done c) (Done d) x y e f = ap Done (granted_once sid o users c d x y)
  came_once o users (Done c) (Denied q) x y e f = absurd (allowed_refused o users q x.allowed y)
  came_once o users (Done c) (Failed q) x y e f = absurd (nor f)
  came_once o users (Done c) Answered x y e f = absurd (reading_makes_none sid o users c y.0 x.makes)
  came_once o users (Denied q) (Done d) x y e f = absurd (allowed_refused o users q y.allowed x)
  came_once o users (Denied q) (Denied p) x y e f = ap Denied (same_some q p (sym x ∙ y))
  came_once o users (Denied q) (Failed p) x y e f = absurd (nor f)
  came_once o users (Denied q) Answered x y e f = absurd (allowed_refused o users q y.1 x)
  came_once o users (Failed q) b x y e f = absurd (never e)
  came_once o users Answered (Done d) x y e f = absurd (reading_makes_none sid o users d x.0 y.makes)
  came_once o users Answered (Denied q) x y e f = absurd (allowed_refused o users q x.1 y)
  came_once o users Answered (Failed q) x y e f = absurd (nor f)
  came_once o users Answered Answered x y e f = refl

  hears_once : (w : Wanted) (users next also : Users) (x y : Heard) → HearsOf sid E users w x next → HearsOf sid F users w y also → (x ≡ y) × (next ≡ also)
  hears_once nothing users next also x y h k = (h.0 ∙ sym k.0, h.1 ∙ sym k.1)
  hears_once (to_look vacant uid pid) users next also x y h k = (h.0 ∙ sym k.0, h.1 ∙ sym k.1)
  hears_once (to_do o) users next also x y h k =
      let one = came_once o users h.0 k.0 h.1 k.1 h.2 k.2 in
      (h.3 ∙ ap (heard_of o users) one ∙ sym k.3, h.4 ∙ ap (λ (z : UserOutcome). after (change_in z) users) one ∙ sym k.4)

  module _ (first : SessionUser) (s : Contents) where
    abbrev l : Language Request Moment
    l = language_for first s

    pub hearings_once : (users then_users also_users : Users) (t then_t also_t : SessionUser) (hs gs : List (Happening Request)) → PlaysUsers l sid E users t hs then_users then_t → PlaysUsers l sid F users t gs also_users also_t → bare hs ≡ bare gs → told_in hs ≡ told_in gs
        → (hs ≡ gs) × ((then_users ≡ also_users) × (then_t ≡ also_t))
    hearings_once users then_users also_users t then_t also_t [] [] p q same told = (refl, (p.0 ∙ sym q.0, p.1 ∙ sym q.1))
    hearings_once users then_users also_users t then_t also_t [] (unit v ∷ gs) p q same told = absurd cc
    hearings_once users then_users also_users t then_t also_t [] (quiet ∷ gs) p q same told = absurd cc
    hearings_once users then_users also_users t then_t also_t (unit u ∷ hs) [] p q same told = absurd cc
    hearings_once users then_users also_users t then_t also_t (quiet ∷ hs) [] p q same told = absurd cc
    hearings_once users then_users also_users t then_t also_t (unit u ∷ hs) (quiet ∷ gs) p q same told = absurd cc
    hearings_once users then_users also_users t then_t also_t (quiet ∷ hs) (unit v ∷ gs) p q same told = absurd cc
    hearings_once users then_users also_users t then_t also_t (quiet ∷ hs) (quiet ∷ gs) p q same told =
        let tail : bare hs ≡ bare gs = cc in
        let more = hearings_once users then_users also_users t then_t also_t hs gs p q tail told in
        (ap (λ (x : List (Happening Request)). quiet ∷ x) more.0, more.1)
    hearings_once users then_users also_users t then_t also_t (unit u ∷ hs) (unit v ∷ gs) p q same told =
        let tail : bare hs ≡ bare gs = cc in
        let input : u.input ≡ v.input = cc in
        let here = hears_once (l.wants t u) users p.0 q.0 u.heard v.heard p.1 (subst (λ (i : Input). HearsOf sid F users (wants s t i) v.heard q.0) (sym input) q.1) in
        let told_v = subst (λ (w : Heard × Input). is_told_as (asks_program (asks s t w.0 w.1)) v.stands ≡ true) (λ i. (sym here.0 i, sym input i)) q.2 in
        let stands = told_once (asks_program (asks s t u.heard u.input)) u.stands v.stands (told_in hs) (told_in gs) p.2 told_v told in
        let one : u ≡ v = λ i. record { input = input i; heard = here.0 i; stands = stands.0 i } in
        let rest = subst (λ (w : Request × Users). PlaysUsers l sid F w.1 (user_after t (l.asks t w.0)) gs also_users also_t) (λ i. (sym one i, sym here.1 i)) q.3 in
        let more = hearings_once p.0 then_users also_users (user_after t (l.asks t u)) then_t also_t hs gs p.3 rest tail stands.1 in
        (ap₂ (λ (x : Request) (xs : List (Happening Request)). unit x ∷ xs) one more.0, more.1)

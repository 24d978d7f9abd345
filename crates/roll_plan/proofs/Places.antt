-- The write at a place.
use Rattle.std.proofs.Common.{◌≡◌, ℕ, Option, Some, None, zero, suc, ◌+◌, ◌*◌, ◌<◌, List, [], ◌∷◌, ◌++◌, drop, length, sym, refl, ap, ◌∙◌, arith, slice_get, get_or}
use Rattle.std.specs.Prelude.{IfSome}
use Rattle.std.proofs.lemmas.List.{at_drop_more}
use Rattle.std.proofs.lemmas.Option.{slice_get_within}
use Rattle.dxc_num.specs.declared.register.RegWrite.{RegWrite}
use Rattle.dxc_num.specs.declared.register.WriteKind.TheVariants.{SwitchOut, ClearIn}
use Rattle.roll_plan.specs.declared.next.Next.{Next}
use Rattle.roll_plan.specs.declared.next.Next.TheVariants.{All, One}
use Rattle.roll_plan.specs.declared.next.Next.TheVariants as next
use Rattle.roll_plan.specs.declared.op.Move.{Move}
use Rattle.roll_plan.specs.declared.op.LegOp.{LegOp}
use Rattle.roll_plan.specs.Works.{write, join_writes, part_writes, move_writes, moves_writes, op_writes, ops_writes, switches_in}
use Rattle.roll_plan.specs.Nexts.{Begins, BeginsMove, IsNext}

pub moves_length : (vs : List Move) → length (moves_writes vs) ≡ 5 * length vs
moves_length [] = refl
moves_length (v ∷ vs) = let e = moves_length vs in omega arith

pub at_front : (xs ys : List RegWrite) (t : ℕ) → t < length xs → slice_get (xs ++ ys) t ≡ slice_get xs t
at_front [] ys t low = absurd (omega arith)
at_front (x ∷ xs) ys zero low = refl
at_front (x ∷ xs) ys (suc t) low = at_front xs ys t (omega arith)

pub at_back : (xs ys : List RegWrite) (t u : ℕ) → t ≡ length xs + u → slice_get (xs ++ ys) t ≡ slice_get ys u
at_back [] ys t u e = ap (slice_get ys) (omega arith)
at_back (x ∷ xs) ys zero u e = absurd (omega arith)
at_back (x ∷ xs) ys (suc t) u e = at_back xs ys t u (omega arith)

-- the write is one of the move that has five of them before each later move
pub moves_at : (vs : List Move) (v d : Move) (i r t : ℕ) → t ≡ 5 * i + r → r < 5 → i < length vs → v ≡ get_or vs i d → slice_get (moves_writes vs) t ≡ slice_get (move_writes v) r
moves_at [] v d i r t e low room is = absurd (omega arith)
moves_at (u ∷ vs) v d zero r t e low room is = let h : t ≡ r = omega arith in ap (slice_get (moves_writes (u ∷ vs))) h ∙ (at_front (move_writes u) (moves_writes vs) r low ∙ ap (λ (w : Move). slice_get (move_writes w) r) (sym is))
moves_at (u ∷ vs) v d (suc i) r t e low room is = at_back (move_writes u) (moves_writes vs) t (5 * i + r) (omega arith) ∙ moves_at vs v d i r (5 * i + r) refl low (omega arith) is

-- a write of the first op is one of the work's
pub at_first : (ops : List LegOp) (op : LegOp) (t : ℕ) (r : Option RegWrite) → op ≡ get_or ops 0 op → 0 < length ops → r ≡ slice_get (op_writes op) t → IfSome r (λ w. slice_get (ops_writes ops) t ≡ Some w)
at_first [] op t r is low e = absurd (omega arith)
at_first (o ∷ os) op t None is low e = tt
at_first (o ∷ os) op t (Some w) is low e =
    let here : slice_get (op_writes o) t ≡ Some w = ap (λ (x : LegOp). slice_get (op_writes x) t) (sym is) ∙ sym e in
    at_front (op_writes o) (ops_writes os) t (slice_get_within (op_writes o) t w here) ∙ here

-- what is left begins with the op in hand
pub left : (ops : List LegOp) (i t : ℕ) (op : LegOp) → op ≡ get_or ops i op → i < length ops → slice_get (ops_writes (drop i ops)) t ≡ slice_get (op_writes op ++ ops_writes (drop (i + 1) ops)) t
left ops i t op e low = at_drop_more (λ (xs : List LegOp). slice_get (ops_writes xs) t) ops i op low ∙ ap (λ (o : LegOp). slice_get (op_writes o ++ ops_writes (drop (i + 1) ops)) t) (sym e)

-- the move that has five writes before it for each earlier one
pub begins_at : (vs : List Move) (v d : Move) (i t : ℕ) → t ≡ 5 * i → i < length vs → v ≡ get_or vs i d → BeginsMove (moves_writes vs) t v
begins_at vs v d i t e room is r low = moves_at vs v d i r (t + r) (omega arith) low room is

-- what comes next at a place of some writes comes next where others go on as they do
module _ (ws xs : List RegWrite) (t place : ℕ) (same : (r : ℕ) → place + r < length xs → slice_get ws (t + r) ≡ slice_get xs (place + r)) where
  here_in : place < length xs → slice_get ws t ≡ slice_get xs place
  here_in room = let et : t ≡ t + 0 = omega arith in let ep : place + 0 ≡ place = omega arith in ap (slice_get ws) et ∙ (same 0 (omega arith) ∙ ap (slice_get xs) ep)

  begins_in : (n : ℕ) (first : List RegWrite) (w : RegWrite) → slice_get first n ≡ Some w → Begins (n + 1) xs place first → Begins (n + 1) ws t first
  begins_in n first w last h r few = let room = slice_get_within xs (place + n) w (h n (omega arith) ∙ last) in same r (omega arith) ∙ h r few

  pub next_in : (n : Next) → IsNext xs place (Some n) → IsNext ws t (Some n)
  next_in (One w) h = here_in (slice_get_within xs place w h) ∙ h
  next_in (All v) h = begins_in 4 (move_writes v) (write ClearIn v.leg v.from) refl h
  next_in (next.Join l k) h = begins_in 2 (join_writes l k) (write SwitchOut l k) refl h
  next_in (next.Part l k) h = begins_in 2 (part_writes l k) (write ClearIn l k) refl h

-- the moves' writes, and those of a join after them
pub next_front : (xs ys : List RegWrite) (place : ℕ) (n : Next) → IsNext xs place (Some n) → IsNext (xs ++ ys) place (Some n)
next_front xs ys place n h = next_in (xs ++ ys) xs place place (λ r room. at_front xs ys (place + r) room) n h

pub next_back : (xs ys : List RegWrite) (t place : ℕ) (n : Next) → t ≡ length xs + place → IsNext ys place (Some n) → IsNext (xs ++ ys) t (Some n)
next_back xs ys t place n e h = next_in (xs ++ ys) ys t place (λ r room. at_back xs ys (t + r) (place + r) (omega arith)) n h

pub switches_on : (xs ys : List RegWrite) → switches_in (xs ++ ys) ≡ switches_in xs + switches_in ys
switches_on [] ys = omega arith
switches_on (x ∷ xs) ys = let e = switches_on xs ys in omega arith

pub moves_switches : (vs : List Move) → switches_in (moves_writes vs) ≡ length vs
moves_switches [] = refl
moves_switches (v ∷ vs) = let e = switches_on (move_writes v) (moves_writes vs) in let n = moves_switches vs in omega arith

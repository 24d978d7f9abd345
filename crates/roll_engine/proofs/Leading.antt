-- Writes that lead to a colouring, as they are made.
use Rattle.std.proofs.Common.{◌≡◌, ◌≢◌, ℕ, ◌+◌, ◌^◌, ◌≤◌, List, [], ◌∷◌, ◌++◌, length, drop, Ok, Err, sym, refl, ap, ap₂, ◌∙◌, subst, arith, append_assoc}
use Rattle.dxc_num.specs.declared.register.RegWrite.{RegWrite}
use Rattle.dxc_num.specs.Dimensions.{Dimensions, ports}
use Rattle.roll_plan.specs.Works.{switches_in}
use Rattle.paull_matrix.specs.Colourings.{Colouring}
use Rattle.fabric_core.specs.declared.size.Size.{Size}
use Rattle.fabric_core.specs.declared.mover.Mover.{Mover}
use Rattle.fabric_words.specs.Seats.{FabricId}
use Rattle.roll_engine.specs.declared.halt.Halt.TheVariants.{InFrame, Stopped}
use Rattle.roll_engine.specs.declared.rolling.Behind.{Behind}
use Rattle.roll_engine.specs.Rollings.{RollingAt, rest_of}
use Rattle.roll_engine.specs.Courses.{Course, Goes, IsReady, course_of, course_after, gone}
use Rattle.roll_engine.specs.Answers.{Advances, Answer, AnswerIs, GoesOn}
use Rattle.roll_engine.specs.Cold.{end_writes, joins_of, left_behind, left_of, legs_then, parts_behind}
use Rattle.roll_engine.specs.Leading.{IsColdLeading, IsLeading, IsLeadingBegun, IsLedToRest, IsSwitchedByJoins}
use Rattle.roll_engine.proofs.Running.{after_on, course_runs, ruled_runs, runs_join, switch_counted, switches_join}
use Rattle.roll_engine.proofs.Colouring.{Leads, leads_all, leads_on}
use Rattle.roll_engine.proofs.Joining.{all_join, no_routes}
use Rattle.roll_engine.proofs.Parting.{all_part, end_after, end_goes, end_unswitched, left_first, parts_unswitched}

pub leading_begun : IsLeadingBegun
leading_begun z c m r sized ruled p same h =
    let parts : List RegWrite = parts_behind m.legs 0 in
    let joins : Leads z.shape (joins_of c) (no_routes (length m.legs)) c.routes
    = subst (λ (t : Dimensions × ℕ). Leads t.0 (joins_of c) (no_routes t.1) c.routes) (λ i. (same i, (ap ports same ∙ sym ruled.laid.legs) i)) (all_join c p) in
    let all : Leads z.shape (parts ++ joins_of c) m.legs c.routes = leads_on z.shape parts (joins_of c) m.legs (no_routes (length m.legs)) c.routes (all_part z.shape m.legs) joins in
    let left = left_first c m r h in record {
      sized = sized;
      shape = same;
      ruled = ruled;
      goes = subst (λ (ws : List RegWrite). Goes z.shape ws (course_of m)) (sym left) (end_goes z.shape m.phase m.legs (parts ++ joins_of c) (leads_all z.shape (parts ++ joins_of c) m.legs c.routes all));
      leads = ap (λ (ws : List RegWrite). course_after ws (course_of m)) left ∙ (after_on (end_writes m.phase) (parts ++ joins_of c) (course_of m) ∙ (ap (course_after (parts ++ joins_of c)) (end_after m.phase m.legs) ∙ all.after));
    }

pub switched_by_joins : IsSwitchedByJoins
switched_by_joins c m r h =
    let left = ap switches_in (left_first c m r h) in
    let first = switches_join (end_writes m.phase) (parts_behind m.legs 0 ++ joins_of c) in
    let then = switches_join (parts_behind m.legs 0) (joins_of c) in
    let none = end_unswitched m.phase in
    let no_part = parts_unswitched 0 (drop 0 m.legs) in
    omega arith

pub led_to_rest : IsLedToRest
led_to_rest z c m h = record { sized = h.sized; shape = h.shape; ruled = h.ruled; course = h.leads }

goes_front : (d : Dimensions) (us vs : List RegWrite) (c : Course) → Goes d (us ++ vs) c → Goes d us c
goes_front d [] vs c h = tt
goes_front d (u ∷ us) vs c h = (h.0, goes_front d us vs (gone u c) h.1)

goes_behind : (d : Dimensions) (us vs : List RegWrite) (c : Course) → Goes d (us ++ vs) c → Goes d vs (course_after us c)
goes_behind d [] vs c h = h
goes_behind d (u ∷ us) vs c h = goes_behind d us vs (gone u c) h.1

-- the work in hand may be made
pub leading_ready : (z : Size) (c : Colouring) (r : RollingAt) (m : Mover) → IsColdLeading z c r m → IsReady z (rest_of r) m
leading_ready z c r m h = record {
  goes = goes_front z.shape (rest_of r) (left_behind c (legs_then m r) r.behind) (course_of m) h.leading.goes;
  room = let e = switches_join (rest_of r) (left_behind c (legs_then m r) r.behind) in let room = h.room in omega arith;
}

leading_on : (z : Size) (c : Colouring) (ws vs : List RegWrite) (m m' : Mover) → IsLeading z c ws m → Advances z ws vs m m' → IsLeading z c vs m'
leading_on z c ws vs m m' h k =
    let e : course_of m' ≡ course_after k.writes (course_of m) = course_runs z k.writes m m' k.runs in record {
      sized = h.sized;
      shape = h.shape;
      ruled = ruled_runs z k.writes m m' h.sized k.runs h.ruled;
      goes = subst (Goes z.shape vs) (sym e) (goes_behind z.shape k.writes vs (course_of m) (subst (λ (xs : List RegWrite). Goes z.shape xs (course_of m)) k.split h.goes));
      leads = ap (course_after vs) e ∙ (sym (after_on k.writes vs (course_of m)) ∙ (ap (λ (xs : List RegWrite). course_after xs (course_of m)) (sym k.split) ∙ h.leads));
    }

-- writes are made
pub cold_leading_on : (z : Size) (c : Colouring) (old new : RollingAt) (m m' : Mover) → IsColdLeading z c old m → Advances z (left_of c m old) (left_of c m' new) m m' → IsColdLeading z c new m'
cold_leading_on z c old new m m' h k = record {
  leading = leading_on z c (left_of c m old) (left_of c m' new) m m' h.leading k;
  room = let n = switch_counted z k.writes m m' k.runs in let s = switches_join k.writes (left_of c m' new) in let same = ap switches_in k.split in let room = h.room in omega arith;
}

-- what comes after the work in hand stays the same while that is made
pub behind_kept : (z : Size) (c : Colouring) (old new : RollingAt) (m m' : Mover) → GoesOn z old new m m' → left_behind c (legs_then m old) old.behind ≡ left_behind c (legs_then m' new) new.behind
behind_kept z c old new m m' h =
    let ws : List RegWrite = h.advances.writes in
    let same : course_after (rest_of old) (course_of m) ≡ course_after (rest_of new) (course_of m')
    = ap (λ (xs : List RegWrite). course_after xs (course_of m)) h.advances.split ∙ (after_on ws (rest_of new) (course_of m) ∙ ap (course_after (rest_of new)) (sym (course_runs z ws m m' h.advances.runs))) in
    ap₂ (λ (x : Course) (b : Behind). left_behind c x.legs b) same (sym h.behind)

-- writes of the work in hand are made, up to b
pub all_advances : (z : Size) (c : Colouring) (old new : RollingAt) (m m' b : Mover) → GoesOn z old new m m' → Advances z (rest_of old) (rest_of new) m b → Advances z (left_of c m old) (left_of c m' new) m b
all_advances z c old new m m' b h k = record {
  writes = k.writes;
  split = ap₂ (λ (xs ys : List RegWrite). xs ++ ys) k.split (behind_kept z c old new m m' h) ∙ append_assoc k.writes (rest_of new) (left_behind c (legs_then m' new) new.behind);
  runs = k.runs;
}

pub advances_on : (z : Size) (us vs ws : List RegWrite) (m a b : Mover) → Advances z us vs m a → Advances z vs ws a b → Advances z us ws m b
advances_on z us vs ws m a b h k = record { writes = h.writes ++ k.writes; split = h.split ∙ (ap (λ (xs : List RegWrite). h.writes ++ xs) k.split ∙ sym (append_assoc h.writes k.writes ws)); runs = runs_join z h.writes k.writes m a b h.runs k.runs }

some_more : (xs ys : List RegWrite) → xs ≢ [] → xs ++ ys ≢ []
some_more [] ys some_write e = absurd (some_write refl)
some_more (x ∷ xs) ys some_write e = let h : x ∷ (xs ++ ys) ≡ [] = e in cc

-- what an answer of `advance` says of all that was left and is left
pub answer_on : (z : Size) (c : Colouring) (first old new : RollingAt) (m a b : Mover) (answer : Answer) → Advances z (left_of c m first) (left_of c a old) m a → GoesOn z old new a b → answer ≢ Ok tt
    → AnswerIs z (rest_of old) (rest_of new) a b answer → AnswerIs z (left_of c m first) (left_of c b new) m b answer
answer_on z c first old new m a b (Ok x) way goes other h = absurd (other refl)
answer_on z c first old new m a b (Err (InFrame f)) way goes other h =
    let behind : List RegWrite = left_behind c (legs_then b new) new.behind in record {
      leg = h.leg;
      old = h.old;
      phase = h.phase;
      later = h.later ++ behind;
      next = ap (λ (ws : List RegWrite). ws ++ behind) h.next;
      reached = h.reached;
      advances = advances_on z (left_of c m first) (left_of c a old) (left_of c b new) m a h.reached way (all_advances z c old new a b h.reached goes h.advances);
      seen = h.seen;
    }
answer_on z c first old new m a b (Err Stopped) way goes other h = some_more (rest_of new) (left_behind c (legs_then b new) new.behind) h

-- a call of `advance` in the loop
pub record IsOnWay (z : Size) (c : Colouring) (first now : RollingAt) (m m' : Mover) : Type 0 where
  pub advances : Advances z (left_of c m first) (left_of c m' now) m m'
  pub leading : IsColdLeading z c now m'

pub way_begun : (z : Size) (c : Colouring) (r : RollingAt) (m : Mover) → IsColdLeading z c r m → IsOnWay z c r r m m
way_begun z c r m h = record { advances = record { writes = []; split = refl; runs = ([], refl) }; leading = h }

pub way_on : (z : Size) (f : FabricId) (c : Colouring) (first old new : RollingAt) (m a b : Mover) → f.size ≡ z → IsOnWay z c first old m a → GoesOn f.size old new a b → IsOnWay z c first new m b
way_on z f c first old new m a b e h k =
    let goes : GoesOn z old new a b = subst (λ (y : Size). GoesOn y old new a b) e k in
    let step = all_advances z c old new a b b goes goes.advances in record {
      advances = advances_on z (left_of c m first) (left_of c a old) (left_of c b new) m a b h.advances step;
      leading = cold_leading_on z c old new a b h.leading step;
    }

-- the same is left, whatever is in hand
way_same : (z : Size) (c : Colouring) (first old new : RollingAt) (m a : Mover) → left_of c a new ≡ left_of c a old → IsOnWay z c first old m a → IsOnWay z c first new m a
way_same z c first old new m a same h = record {
  advances = subst (λ (ws : List RegWrite). Advances z (left_of c m first) ws m a) (sym same) h.advances;
  leading = record {
    leading = subst (λ (ws : List RegWrite). IsLeading z c ws a) (sym same) h.leading.leading;
    room = subst (λ (ws : List RegWrite). length a.log + switches_in ws ≤ 2 ^ 48) (sym same) h.leading.room;
  };
}

-- the way up to what is taken in hand next
pub way_next : (z : Size) (f : FabricId) (c : Colouring) (first old new then : RollingAt) (m a b b' : Mover) → f.size ≡ z → b' ≡ b → left_of c b then ≡ left_of c b new → IsOnWay z c first old m a → GoesOn f.size old new a b
    → IsOnWay z c first then m b'
way_next z f c first old new then m a b b' e same left h goes = subst (IsOnWay z c first then m) (sym same) (way_same z c first new then m b left (way_on z f c first old new m a b e h goes))

-- Joins on a fabric without legs, at each of their stages.
use Rattle.std.proofs.Common.{◌≡◌, ℕ, zero, suc, ◌+◌, ◌^◌, ◌≤◌, List, [], ◌∷◌, ◌++◌, length, take, drop, sym, refl, ap, ◌∙◌, subst, arith, take-append-drop}
use Rattle.dxc_num.specs.declared.register.RegWrite.{RegWrite}
use Rattle.roll_plan.specs.Works.{switches_in}
use Rattle.paull_matrix.specs.Colourings.{Colouring, no_legs}
use Rattle.fabric_core.specs.declared.size.Size.{Size}
use Rattle.fabric_core.specs.declared.mover.Mover.{Mover}
use Rattle.roll_engine.specs.Rollings.{RollingAt}
use Rattle.roll_engine.specs.Courses.{Goes, course_of, course_after, at_rest}
use Rattle.roll_engine.specs.Answers.{Advances, IsInFrame}
use Rattle.roll_engine.specs.Staying.{AreKept}
use Rattle.roll_engine.specs.Cold.{joins_of, left_of, cold_start, IsColdAt, IsColdBegun, IsColdDone, IsColdSpared}
use Rattle.roll_engine.specs.Leading.{IsLedByJoins}
use Rattle.roll_engine.proofs.Running.{after_on, always_established, drop_none, midway_on, switch_counted, switches_join, kept_front}
use Rattle.roll_engine.proofs.Colouring.{begun_at_rest, leads_all, stage_done, stage_ready}
use Rattle.roll_engine.proofs.Joining.{all_join, few_switches, ClearNothing, joins_clear, clear_left, clear_kept}

drop_on : (ws us vs : List RegWrite) (t : ℕ) → drop t ws ≡ us ++ vs → drop (t + length us) ws ≡ vs
drop_on ws [] vs t e = let h : t + 0 ≡ t = omega arith in ap (λ (n : ℕ). drop n ws) h ∙ e
drop_on [] (u ∷ us) vs t e = absurd (let h : drop t [] ≡ u ∷ (us ++ vs) = e in no_more t h)
  where
    no_more : (t : ℕ) {x : RegWrite} {xs : List RegWrite} → drop t [] ≡ x ∷ xs → ⊥
    no_more zero h = cc
    no_more (suc t) h = cc
drop_on (w ∷ ws) (u ∷ us) vs zero e = let h : 0 + length (u ∷ us) ≡ suc (0 + length us) = omega arith in
    ap (λ (n : ℕ). drop n (w ∷ ws)) h ∙ drop_on ws us vs 0 (drop_none ws ∙ (let k : w ∷ ws ≡ u ∷ (us ++ vs) = e in cc))
drop_on (w ∷ ws) (u ∷ us) vs (suc t) e = let h : suc t + length (u ∷ us) ≡ suc (t + length (u ∷ us)) = omega arith in ap (λ (n : ℕ). drop n (w ∷ ws)) h ∙ drop_on ws (u ∷ us) vs t e

-- they lead to their colouring
pub led_by_joins : IsLedByJoins
led_by_joins z c r m h =
    let joins : List RegWrite = joins_of c in
    let all = all_join c h.proper in
    let room = subst (λ (ws : List RegWrite). length m.log + switches_in ws ≤ 2 ^ 48) h.left h.room in record {
      leading = record {
        sized = h.midway.sized;
        shape = h.shape;
        ruled = h.midway.ruled;
        goes = subst (λ (ws : List RegWrite). Goes z.shape ws (course_of m)) (sym h.left) (stage_ready z (no_legs c.shape) joins h.written m (leads_all c.shape joins (no_legs c.shape).routes c.routes all) h.midway room).goes;
        leads = ap (λ (ws : List RegWrite). course_after ws (course_of m)) h.left ∙ (ap (course_after (drop h.written joins)) h.midway.course ∙ (sym (after_on (take h.written joins) (drop h.written joins) (at_rest (no_legs c.shape).routes))
            ∙ (ap (λ (ws : List RegWrite). course_after ws (at_rest (no_legs c.shape).routes)) (take-append-drop h.written joins) ∙ all.after)));
      };
      room = h.room;
    }

pub cold_on : (z : Size) (c : Colouring) (old new : RollingAt) (m m' : Mover) → IsColdAt z c old m → Advances z (left_of c m old) (left_of c m' new) m m' → IsColdAt z c new m'
cold_on z c old new m m' h k =
    let e : drop h.written (joins_of c) ≡ k.writes ++ left_of c m' new = sym h.left ∙ k.split in record {
      proper = h.proper;
      shape = h.shape;
      written = h.written + length k.writes;
      midway = midway_on z (no_legs c.shape) (joins_of c) k.writes (left_of c m' new) h.written m m' h.midway k.runs e;
      left = sym (drop_on (joins_of c) k.writes (left_of c m' new) h.written e);
      room = let n = switch_counted z k.writes m m' k.runs in let s = switches_join k.writes (left_of c m' new) in let same = ap switches_in k.split in let room = h.room in omega arith;
    }

pub cold_begun : IsColdBegun
cold_begun z c m p same h room =
    let all : left_of c m cold_start ≡ joins_of c = left_all c m in record {
      proper = p;
      shape = same;
      written = 0;
      midway = begun_at_rest z (no_legs c.shape) (joins_of c) m h;
      left = all ∙ sym (drop_none (joins_of c));
      room = let few = few_switches 0 c.routes in let e = ap switches_in all in omega arith;
    }
  where
    left_all : (c : Colouring) (m : Mover) → left_of c m cold_start ≡ joins_of c
    left_all c m = refl

pub cold_done : IsColdDone
cold_done z c r m h none = stage_done z (no_legs c.shape) c (joins_of c) h.written m refl (all_join c h.proper).after h.midway (sym h.left ∙ none)

clear_of : (z : Size) (c : Colouring) (r : RollingAt) (m : Mover) → IsColdAt z c r m → ClearNothing (left_of c m r)
clear_of z c r m h = subst ClearNothing (sym h.left) (clear_left (joins_of c) h.written (joins_clear 0 c.routes))

pub cold_spared : IsColdSpared
cold_spared z c r us vs m b m' y h e p = always_established z us m b m' y h.midway.sized h.midway.ruled p (kept_front us vs y (subst (λ (ws : List RegWrite). AreKept ws y) e (clear_kept (left_of c m r) y (clear_of z c r m h))))

-- joins look at no frame
pub no_frame : (z : Size) (c : Colouring) (r : RollingAt) (before : List RegWrite) (m a : Mover) (f : ℕ) → IsColdAt z c r a → IsInFrame z before (left_of c a r) m a f → ⊥
no_frame z c r before m a f h frame = (subst ClearNothing frame.next (clear_of z c r a h)).0 refl

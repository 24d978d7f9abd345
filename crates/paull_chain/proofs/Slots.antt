-- A leg whose sides are unused finds a middle in its row and in its column.
use Rattle.std.proofs.Common.{◌≡◌, ℕ, zero, suc, ◌+◌, ◌*◌, ◌%◌, ◌<◌, ◌≤◌, List, [], ◌∷◌, length, get_or, sym, refl, ap, ◌∙◌, inl, inr, arith}
use mathlib.Core.Logic.{dite}
use Rattle.std.proofs.Math.Decide.{dec_lt}
use Rattle.std.proofs.Math.ListN.{get_or-eq_default}
use Rattle.std.proofs.lemmas.Nat.{div-add-mod'}
use Rattle.std.proofs.Math.Nat.{mod-lt}
use Rattle.dxc_num.specs.declared.port.Leg.{Leg}
use Rattle.paull_matrix.specs.declared.side.Side.{Side}
use Rattle.paull_matrix.specs.declared.side.Side.TheVariants.{Row, Column}
use Rattle.paull_matrix.proofs.Legs.{slots_of_inside}
use Rattle.paull_chain.proofs.Counting.{fits}
use Rattle.dxc_num.specs.Dimensions.{Dimensions, IsInside}
use Rattle.paull_chain.specs.Paull.{Among, AreDifferent, HasFewer}
use Rattle.paull_matrix.specs.Colourings.{Colouring, Holds, IsProperColouring, IsUnused, module_on}

among_of : (ls : List Leg) (t : ℕ) (d : Leg) → t < length ls → Among (get_or ls t d) ls
among_of [] t d h = let z : ⊥ = omega arith in absurd z
among_of (l ∷ ls) zero d h = inl refl
among_of (l ∷ ls) (suc t) d h = inr (among_of ls t d (omega arith))

apart_at : (ls : List Leg) (p q : ℕ) (d : Leg) → AreDifferent ls → p < length ls → q < length ls → (get_or ls p d).output.0 ≡ (get_or ls q d).output.0 → p ≡ q
apart_at [] p q d h lp lq e = let z : ⊥ = omega arith in absurd z
apart_at (l ∷ ls) zero zero d h lp lq e = refl
apart_at (l ∷ ls) zero (suc q) d h lp lq e = absurd (h.0 (get_or ls q d) (among_of ls q d (omega arith)) (sym e))
apart_at (l ∷ ls) (suc p) zero d h lp lq e = absurd (h.0 (get_or ls p d) (among_of ls p d (omega arith)) e)
apart_at (l ∷ ls) (suc p) (suc q) d h lp lq e = ap suc (apart_at ls p q d h.1 (omega arith) (omega arith) e)

abbrev port : Side → Leg → ℕ
port Row l = l.input.0
port Column l = l.output.0

port_is : (z : Dimensions) (s : Side) (l : Leg) → module_on z s l * z.slots + port s l % z.slots ≡ port s l
port_is z Row l = div-add-mod' l.input.0 z.slots
port_is z Column l = div-add-mod' l.output.0 z.slots

same_port : (z : Dimensions) (s : Side) (x y : Leg) → module_on z s x ≡ module_on z s y → port s x % z.slots ≡ port s y % z.slots → port s x ≡ port s y
same_port z s x y e f = sym (port_is z s x) ∙ ((λ i. e i * z.slots + f i) ∙ port_is z s y)

slot_low : (z : Dimensions) (l : Leg) (n : ℕ) → IsInside z l → n % z.slots < z.slots
slot_low z l n i = mod-lt n (slots_of_inside z l i)

pub unused_fewer : (c : Colouring) (l : Leg) (s : Side) → IsProperColouring c → IsInside c.shape l → IsUnused c l → HasFewer c s (module_on c.shape s l) c.shape.slots
unused_fewer c l s p i unused ls different all = let h = fits c.shape.slots (length ls + 1) (λ t. port s (get_or ls t l) % c.shape.slots) (λ t low. slot_low c.shape l (port s (get_or ls t l)) i) one in omega arith
  where
    one_port : (s : Side) (x y : Leg) (k q : ℕ) → Holds c x k → Holds c y q → port s x ≡ port s y → x.output.0 ≡ y.output.0
    one_port Row x y k q h g e = ap (λ (o : Leg). o.output.0) (p.inputs x y k q h g e)
    one_port Column x y k q h g e = e

    not_ours : (s : Side) (x : Leg) (k : ℕ) → Holds c x k → port s x ≡ port s l → ⊥
    not_ours Row x k h e = unused.input x k h e
    not_ours Column x k h e = unused.output x k h e

    last : (t : ℕ) → length ls ≤ t → get_or ls t l ≡ l
    last t le = get_or-eq_default ls l le

    mixed : (t u : ℕ) → t < length ls → length ls ≤ u → port s (get_or ls t l) % c.shape.slots ≡ port s (get_or ls u l) % c.shape.slots → ⊥
    mixed t u lt le e = let g = all (get_or ls t l) (among_of ls t l lt) in
        not_ours s (get_or ls t l) g.0 g.1 (same_port c.shape s (get_or ls t l) l g.2 (e ∙ ap (λ (o : Leg). port s o % c.shape.slots) (last u le)))

    one : (t u : ℕ) → t < length ls + 1 → u < length ls + 1 → port s (get_or ls t l) % c.shape.slots ≡ port s (get_or ls u l) % c.shape.slots → t ≡ u
    one t u lt lu e = dite (dec_lt t (length ls))
        (λ a. dite (dec_lt u (length ls))
        (λ b. let g = all (get_or ls t l) (among_of ls t l a) in let h = all (get_or ls u l) (among_of ls u l b) in
        apart_at ls t u l different a b (one_port s (get_or ls t l) (get_or ls u l) g.0 h.0 g.1 h.1 (same_port c.shape s (get_or ls t l) (get_or ls u l) (g.2 ∙ sym h.2) e)))
        (λ b. absurd (mixed t u a (omega arith) e)))
        (λ a. dite (dec_lt u (length ls))
        (λ b. absurd (mixed u t b (omega arith) (sym e)))
        (λ b. let z : t ≡ u = omega arith in z))

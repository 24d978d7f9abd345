-- There is one plan.
use Rattle.std.proofs.Common.{◌≡◌, ℕ, List, [], ◌∷◌, length, sym, refl, ap, ◌∙◌, subst, arith}
use mathlib.Core.Logic.{dite}
use Rattle.std.proofs.Math.Decide.{dec_lt}
use Rattle.dxc_num.specs.declared.port.Leg.{Leg}
use Rattle.dxc_num.specs.declared.port.Middle.{Middle}
use Rattle.roll_plan.specs.declared.op.Move.{Move}
use Rattle.roll_plan.specs.declared.op.LegOp.{LegOp}
use Rattle.paull_matrix.specs.declared.side.Side.{Side}
use Rattle.paull_matrix.specs.declared.side.Side.TheVariants.{Row, Column}
use Rattle.roll_plan.specs.declared.op.Choice.{Choice}
use Rattle.roll_plan.specs.declared.op.Chain.{Chain as ChainChoice}
use Rattle.roll_plan.specs.declared.op.Chain.TheVariants.{Direct, Row as ByRow, Column as ByColumn}
use Rattle.roll_plan.specs.declared.op.LegOp.TheVariants.{Join, Part, Shift}
use Rattle.roll_plan.specs.Works.{op_writes}
use Rattle.paull_chain.specs.Chains.{Chain, leave, other}
use Rattle.paull_chain.specs.Choices.{BothChains, IsChainOf, IsChosen, JoinsBy, other_middle}
use Rattle.paull_matrix.specs.Middles.{IsLowest}
use Rattle.paull_chain.specs.Exchanges.{exchange}
use Rattle.paull_chain.specs.Paull.{CanJoin}
use Rattle.paull_chain.specs.Works.{after_op}
use Rattle.paull_chain.specs.Laws.{AreJoinsDetermined, ArePlansDetermined, IsChosenOnce}
use Rattle.paull_matrix.specs.Colourings.{Colouring, IsProperColouring, module_on}
use Rattle.paull_chain.proofs.OneChain.{only_chain}
use Rattle.paull_chain.proofs.Planning.{needs_apart}

lowest_once : (P : ℕ → Type 0) (n k q : ℕ) → IsLowest P n k → IsLowest P n q → k ≡ q
lowest_once P n k q h g = dite (dec_lt k q) (λ lt. absurd (g.2 k lt h.1)) (λ ge. dite (dec_lt q k) (λ lt. absurd (h.2 q lt g.1)) (λ le. let z : k ≡ q = omega arith in z))

pub chain_once : (c : Colouring) (a b : ℕ) → IsProperColouring c → (s : Side) (m : ℕ) (ks ls : List Leg) → Chain c a b s m ks → Chain c a b s m ls → ks ≡ ls
chain_once c a b p s m [] [] h g = refl
chain_once c a b p s m [] (l ∷ ls) h g = absurd (h l g.0 g.1)
chain_once c a b p s m (k ∷ ks) [] h g = absurd (g k h.0 h.1)
chain_once c a b p s m (k ∷ ks) (l ∷ ls) h g =
    let e : k ≡ l = p.apart s (leave a b s) k l h.0 g.0 (h.1 ∙ sym g.1) in
    let r : ks ≡ ls = chain_once c a b p (other s) (module_on c.shape (other s) k) ks ls h.2 (subst (λ (x : Leg). Chain c a b (other s) (module_on c.shape (other s) x) ls) (sym e) g.2) in
    λ i. e i ∷ r i

-- there is one chain of the choice
abbrev pub HasOneChain : Colouring → Leg → ℕ → ChainChoice → Type 0
HasOneChain c l k h = (ks ls : List Leg) → IsChainOf c l k h ks → IsChainOf c l k h ls → ks ≡ ls

-- in a proper colouring each choice has one
pub chain_of_once : (c : Colouring) (l : Leg) (k : ℕ) (h : ChainChoice) → IsProperColouring c → HasOneChain c l k h
chain_of_once c l k Direct p ks ls u v = u ∙ sym v
chain_of_once c l b (ByRow a) p ks ls u v = chain_once c a.0 b p Row (module_on c.shape Row l) ks ls u v
chain_of_once c l a (ByColumn b) p ks ls u v = chain_once c a b.0 p Column (module_on c.shape Column l) ks ls u v

-- the choice isn't the row chain as well as the column chain
not_both : (c : Colouring) (l : Leg) (b u : ℕ) (a v : Middle) → HasOneChain c l b (ByRow a) → HasOneChain c l u (ByColumn v) → IsChosen c l b (ByRow a) → IsChosen c l u (ByColumn v) → ⊥
not_both c l b u a v one other h g =
    let e = lowest_once _ c.shape.slots a.0 u h.0.in_row g.0.in_row in
    let d = lowest_once _ c.shape.slots b v.0 h.0.in_column g.0.in_column in
    let here : BothChains c l a.0 b g.1.0 g.1.1 = subst (λ (w : ℕ × ℕ). BothChains c l w.0 w.1 g.1.0 g.1.1) (λ i. (sym e i, sym d i)) g.1.2 in
    let there : BothChains c l u v.0 h.1.0 h.1.1 = subst (λ (w : ℕ × ℕ). BothChains c l w.0 w.1 h.1.0 h.1.1) (λ i. (e i, d i)) h.1.2 in
    let x = ap (λ (ls : List Leg). length ls) (one h.1.0 g.1.0 h.1.2.row here.row) in
    let y = ap (λ (ls : List Leg). length ls) (other h.1.1 g.1.1 there.column g.1.2.column) in
    let le = h.1.3 in let lt = g.1.3 in let z : ⊥ = omega arith in z

-- choices by lowest numbers of one chain each are one
chosen_alike : (c : Colouring) (l : Leg) (k q : ℕ) (h g : ChainChoice) → HasOneChain c l k h → HasOneChain c l q g → IsChosen c l k h → IsChosen c l q g → (k ≡ q) × (h ≡ g)
chosen_alike c l k q Direct Direct one other h g = (lowest_once _ c.shape.slots k q h g, refl)
chosen_alike c l k q Direct (ByRow a) one other h g = absurd (g.0.none k h.0 h.1)
chosen_alike c l k q Direct (ByColumn b) one other h g = absurd (g.0.none k h.0 h.1)
chosen_alike c l k q (ByRow a) Direct one other h g = absurd (h.0.none q g.0 g.1)
chosen_alike c l k q (ByColumn b) Direct one other h g = absurd (h.0.none q g.0 g.1)
chosen_alike c l k q (ByRow a) (ByRow u) one other h g =
    let e = lowest_once _ c.shape.slots a.0 u.0 h.0.in_row g.0.in_row in
    let d = lowest_once _ c.shape.slots k q h.0.in_column g.0.in_column in
    (d, (λ i. ByRow (record { 0 = e i })))
chosen_alike c l k q (ByColumn b) (ByColumn v) one other h g =
    let e = lowest_once _ c.shape.slots k q h.0.in_row g.0.in_row in
    let d = lowest_once _ c.shape.slots b.0 v.0 h.0.in_column g.0.in_column in
    (e, (λ i. ByColumn (record { 0 = d i })))
chosen_alike c l k q (ByRow a) (ByColumn v) one other h g = absurd (not_both c l k q a v one other h g)
chosen_alike c l k q (ByColumn b) (ByRow u) one other h g = absurd (not_both c l q k u b other one g h)

pub chosen_once : IsChosenOnce
chosen_once c l k q h g p = chosen_alike c l k q h g (chain_of_once c l k h p) (chain_of_once c l q g p)

-- a choice of one chain makes one op
pub join_once : (c : Colouring) (l : Leg) (h : Choice) (o q : LegOp) → HasOneChain c l h.middle.0 h.chain → JoinsBy c l h o → JoinsBy c l h q → o ≡ q
join_once c l h (Join x g ms) (Join y f ns) one u v =
    let same = one u.2.0 v.2.0 u.2.1.chain v.2.1.chain in
    let moves = u.2.1.moves ∙ (ap (λ (ls : List Leg). exchange ls h.middle.0 (other_middle h.middle.0 h.chain) c.shape.slots) same ∙ sym v.2.1.moves) in
    let leg = u.0 ∙ sym v.0 in
    let choice = u.1 ∙ sym v.1 in
    λ i. Join (leg i) (choice i) (record { items = moves i })
join_once c l h (Join x g ms) (Part y k) one u v = absurd v
join_once c l h (Join x g ms) (Shift ns) one u v = absurd v
join_once c l h (Part x k) q one u v = absurd u
join_once c l h (Shift ms) q one u v = absurd u

pub joins_determined : AreJoinsDetermined
joins_determined c l h o q p u v = let same = join_once c l h o q (chain_of_once c l h.middle.0 h.chain p) u v in (ap op_writes same, ap (λ (x : LegOp). after_op x c) same)

-- a choice by lowest numbers that makes a join has one chain, whatever else the colouring is
chosen_one : (c : Colouring) (l : Leg) (k : Middle) (h : ChainChoice) (o : LegOp) → IsChosen c l k.0 h → JoinsBy c l (record { middle = k; chain = h }) o → HasOneChain c l k.0 h
chosen_one c l k Direct o is j ks ls u v = u ∙ sym v
chosen_one c l b (ByRow a) (Join x g ms) is j ks ls u v = sym (only ks u) ∙ only ls v
  where
    only : (zs : List Leg) → Chain c a.0 b.0 Row (module_on c.shape Row l) zs → j.2.0 ≡ zs
    only zs w = only_chain c l a.0 b.0 Row j.2.0 zs (λ e. needs_apart c l a.0 b.0 is.0 (sym e)) (subst (λ (os : List Move). CanJoin c l os b.0) j.2.1.moves j.3) j.2.1.chain w
chosen_one c l a (ByColumn b) (Join x g ms) is j ks ls u v = sym (only ks u) ∙ only ls v
  where
    only : (zs : List Leg) → Chain c a.0 b.0 Column (module_on c.shape Column l) zs → j.2.0 ≡ zs
    only zs w = only_chain c l a.0 b.0 Column j.2.0 zs (needs_apart c l a.0 b.0 is.0) (subst (λ (os : List Move). CanJoin c l os a.0) j.2.1.moves j.3) j.2.1.chain w
chosen_one c l k (ByRow a) (Part x m) is j ks ls u v = absurd j
chosen_one c l k (ByRow a) (Shift ms) is j ks ls u v = absurd j
chosen_one c l k (ByColumn b) (Part x m) is j ks ls u v = absurd j
chosen_one c l k (ByColumn b) (Shift ms) is j ks ls u v = absurd j

-- the plan of a leg is one op
pub plan_once : ArePlansDetermined
plan_once c l o q u v =
    let one = chosen_one c l u.0.middle u.0.chain o u.1 u.2 in
    let other = chosen_one c l v.0.middle v.0.chain q v.1 v.2 in
    let same = chosen_alike c l u.0.middle.0 v.0.middle.0 u.0.chain v.0.chain one other u.1 v.1 in
    let choice : v.0 ≡ u.0 = λ i. record { middle = record { 0 = sym same.0 i }; chain = sym same.1 i } in
    join_once c l u.0 o q one u.2 (subst (λ (h : Choice). JoinsBy c l h q) choice v.2)

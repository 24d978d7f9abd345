-- The leg of an output among those of its column.
use Rattle.std.proofs.Common.{◌≡◌, ◌≢◌, ℕ, zero, suc, ◌+◌, ◌<◌, ◌≤◌, List, [], ◌∷◌, ◌++◌, drop, length, slice_index_or, sym, refl, ap, ◌∙◌, subst, arith, Option, Some, None}
use mathlib.Core.Logic.{dite}
use native.Mathlib.Decide.{ℕ_discrete}
use Rattle.dxc_num.specs.declared.port.Leg.{Leg}
use Rattle.dxc_num.specs.declared.port.Port.{Port}
use Rattle.dxc_num.specs.declared.port.Route.{Route}
use Rattle.dxc_num.specs.Dimensions.{leg_between, module_of, ports}
use Rattle.roll_plan.specs.Works.{join_writes}
use Rattle.paull_matrix.specs.declared.side.Side.TheVariants.{Column}
use Rattle.paull_matrix.specs.Colourings.{Colouring, Holds, IsFree, IsProperColouring, module_on, route_at}
use Rattle.roll_engine.specs.Cold.{IsNextLeg, joins_behind, joins_from}

-- the output's leg, if there is one, stands on no middle below n
abbrev pub IsNotBelow : Colouring → Port → ℕ → Type 0
IsNotBelow c y n = (k : ℕ) → k < n → (w : Route) → route_at c y.0 ≡ Some w → w.middle.0 ≢ k

pub below_more : (c : Colouring) (y : Port) (n : ℕ) → IsNotBelow c y n → ((w : Route) → route_at c y.0 ≡ Some w → w.middle.0 ≢ n) → IsNotBelow c y (n + 1)
below_more c y n h here k low w at e = dite (ℕ_discrete k n) (λ same. here w at (e ∙ same)) (λ other. h k (omega arith) w at e)

-- it isn't on a middle that is free in its column
pub not_free : (c : Colouring) (y : Port) (n : ℕ) → IsFree c Column (module_of c.shape y) n → (w : Route) → route_at c y.0 ≡ Some w → w.middle.0 ≢ n
not_free c y n free w at e = free (leg_between w.input y) (subst (Holds c (leg_between w.input y)) e at) refl

-- nor where another leg stands
pub not_other : (c : Colouring) (y : Port) (n : ℕ) (l : Leg) → IsProperColouring c → Holds c l n → module_on c.shape Column l ≡ module_of c.shape y → (l.output.0 ≡ y.0 → ⊥) → (w : Route) → route_at c y.0 ≡ Some w → w.middle.0 ≢ n
not_other c y n l p held column other w at e = other (ap (λ (x : Leg). x.output.0) (p.apart Column n l (leg_between w.input y) held (subst (Holds c (leg_between w.input y)) e at) column))

-- so it isn't there
pub not_there : (c : Colouring) (y : Port) (n : ℕ) → IsProperColouring c → c.shape.slots < n → IsNotBelow c y n → None ≡ route_at c y.0
not_there c y n p low h = none (route_at c y.0) refl
  where
    none : (o : Option Route) → route_at c y.0 ≡ o → None ≡ o
    none None at = refl
    none (Some w) at = let le = (p.inside (leg_between w.input y) w.middle.0 at).1 in absurd (h w.middle.0 (omega arith) w at refl)

-- the joins after an output without a leg
pub behind_none : (rs : List (Option Route)) (b n : ℕ) → n < length rs → slice_index_or rs n None ≡ None → joins_from b (drop n rs) ≡ joins_from (b + 1) (drop (n + 1) rs)
behind_none [] b n low at = let no : ⊥ = omega arith in absurd no
behind_none (r ∷ rs) b zero low at = ap (λ (o : Option Route). joins_from b (o ∷ rs)) at
behind_none (r ∷ rs) b (suc n) low at = let h : suc n + 1 ≡ suc (n + 1) = omega arith in behind_none rs b n (omega arith) at ∙ ap (λ (k : ℕ). joins_from (b + 1) (drop k (r ∷ rs))) (sym h)

-- and after one with a leg
pub behind_some : (rs : List (Option Route)) (b n : ℕ) (w : Route) → slice_index_or rs n None ≡ Some w → joins_from b (drop n rs) ≡ join_writes (leg_between w.input (record { 0 = b })) w.middle ++ joins_from (b + 1) (drop (n + 1) rs)
behind_some [] b n w at = absurd (let h : None ≡ Some w = at in cc)
behind_some (r ∷ rs) b zero w at = ap (λ (o : Option Route). joins_from b (o ∷ rs)) at
behind_some (r ∷ rs) b (suc n) w at = let h : suc n + 1 ≡ suc (n + 1) = omega arith in behind_some rs b n w at ∙ ap (λ (k : ℕ). join_writes (leg_between w.input (record { 0 = b })) w.middle ++ joins_from (b + 1) (drop k (r ∷ rs))) (sym h)

pub drop_all : (rs : List (Option Route)) (b n : ℕ) → length rs ≤ n → joins_from b (drop n rs) ≡ []
drop_all [] b zero h = refl
drop_all [] b (suc n) h = refl
drop_all (r ∷ rs) b zero h = let no : ⊥ = omega arith in absurd no
drop_all (r ∷ rs) b (suc n) h = drop_all rs b n (omega arith)

pub next_leg : (c : Colouring) (from y : Port) (w : Route) → from.0 ≤ y.0 → y.0 < ports c.shape → joins_behind c from.0 ≡ joins_behind c y.0 → Some w ≡ route_at c y.0 → IsNextLeg c from (y, w)
next_leg c from y w le low same at = record { later = le; low = low; joins = same ∙ behind_some c.routes y.0 y.0 w (sym at) }

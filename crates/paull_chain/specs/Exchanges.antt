-- The exchange of a chain: moves that put its legs on each other's middles, over the spare.
use Rattle.std.specs.Prelude.{ℕ, ◌++◌, List, [], ◌∷◌, map, Bool, true, false}
use Rattle.dxc_num.specs.declared.port.Leg.{Leg}
use Rattle.roll_plan.specs.declared.op.Move.{Move}

-- each second leg: from the first one on, or from the second one on
abbrev pub each_second : Bool → List Leg → List Leg
each_second first [] = []
each_second true (l ∷ ls) = l ∷ each_second false ls
each_second false (l ∷ ls) = each_second true ls

-- the legs of odd place, and of even place, counted from 1
abbrev pub odds : List Leg → List Leg
odds ls = each_second true ls

abbrev pub evens : List Leg → List Leg
evens ls = each_second false ls

-- each of the legs goes from k to q
abbrev pub shifts : List Leg → ℕ → ℕ → List Move
shifts ls k q = map (λ l. record { leg = l; from = record { 0 = k }; to = record { 0 = q } }) ls

-- of a chain whose first leg is on k and whose second is on q: the even legs go to the spare, the odd legs to q, and then the even legs to k
abbrev pub exchange : List Leg → ℕ → ℕ → ℕ → List Move
exchange ls k q spare = shifts (evens ls) q spare ++ (shifts (odds ls) k q ++ shifts (evens ls) spare k)

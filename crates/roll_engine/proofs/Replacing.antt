-- What stands alone in a list gives way to another.
use Rattle.std.proofs.Common.{◌≡◌, List, [], ◌∷◌, length, slice_set, refl, arith}

pub only_set : {X : Type 0} (xs : List X) (x : X) → length xs ≡ 1 → slice_set xs 0 x ≡ x ∷ []
only_set [] x is = absurd (omega (arith, is))
only_set (y ∷ []) x is = refl
only_set (y ∷ z ∷ zs) x is = absurd (omega (arith, is))

-- What an opener hands out by name.
use Rattle.std.proofs.Common.{◌≡◌, ℕ, List, Option, Some, sym, ◌∙◌, subst}
use Rattle.dxc_outside.specs.declared.opened.Opened.{Opened}
use Rattle.dxc_outside.specs.declared.opened.Opened.TheVariants.{Open}
use Rattle.dxc_outside.specs.Openings.{Hands}

-- what was handed out is the one of that name
pub handed : {J : Type 0} (told : Type 0) (old_at mid_at new_at : List ℕ → Option J) (opened : Opened J) (d : J) (name : List ℕ) → (told → (n : List ℕ) → mid_at n ≡ old_at n) → opened ≡ Open d → (told → Hands opened (mid_at name) (new_at name)) → told → old_at name ≡ Some d
handed {J} told old_at mid_at new_at opened d name same is hands t = sym (same t name) ∙ subst (λ (x : Opened J). Hands x (mid_at name) (new_at name)) is (hands t)

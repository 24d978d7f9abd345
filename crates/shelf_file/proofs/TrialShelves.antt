-- The shelf of a trial keeps what every shelf does.
use Rattle.std.proofs.Common.{◌≡◌, ◌<◌, ◌^◌, arith, ℕ, List, [], ◌∷◌, codes, refl, subst, sym}
use Rattle.dxc_num.specs.Dimensions.{Dimensions}
use Rattle.shelf_file.specs.declared.idle.IdleLimits.{IdleLimits}
use Rattle.shelf_file.specs.Contents.{UserEntry}
use Rattle.shelf_file.specs.Shelves.{AreDescribed, IsDescribed, IsKept}
use Rattle.shelf_file.specs.Trials.{trial_user}

user_described : IsDescribed trial_user
user_described = record { name = (codes "TRIAL", refl, refl); digest = refl }

are_described : AreDescribed (trial_user ∷ [])
unfolding AreDescribed
are_described = (user_described, tt)

-- with its one user
pub trial_kept : (sid : List ℕ) (d : Dimensions) (bits : ℕ) (idle : IdleLimits) (es : List UserEntry) → es ≡ trial_user ∷ [] → bits < 2 ^ d.modules → IsKept (record { sid = sid; shape = d; equipped = bits; idle = idle; users = es })
trial_kept sid d bits idle es is below = subst (λ (us : List UserEntry). IsKept (record { sid = sid; shape = d; equipped = bits; idle = idle; users = us })) (sym is)
    (record { equipment = below; some = omega arith; few = omega arith; short = (omega arith, tt); described = are_described })

-- The shelf of a trial, which no file describes.
use Rattle.std.specs.Prelude.{◌≡◌, ◌<◌, ℕ, true, [], ◌∷◌, codes, replicate}
use Rattle.dxc_num.specs.Dimensions.{Dimensions}
use Rattle.dxc_model.specs.declared.user.Class.TheVariants.{S}
use Rattle.dxc_model.specs.Equipment.{has_bit}
use Rattle.shelf_file.specs.Contents.{Contents, UserEntry}

-- its user, of whose PID the digest is 32 zero bytes: of no PID that is known
abbrev pub trial_user : UserEntry
trial_user = record { name = codes "TRIAL"; class = S; salt = []; digest = replicate 32 0 }

-- all modules of the shape are equipped, and it has one user
pub record IsTrialShelf (d : Dimensions) (s : Contents) : Type 0 where
  pub sid : s.sid ≡ codes "DXC1"
  pub shape : s.shape ≡ d
  pub equipped : (m : ℕ) → m < d.modules → has_bit s.equipped m ≡ true
  pub users : s.users ≡ trial_user ∷ []

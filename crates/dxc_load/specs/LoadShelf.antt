-- The element that the script is sent to.
use Rattle.std.specs.Prelude.{◌≡◌, ◌<◌, ℕ, true, List, [], ◌∷◌, codes}
use Rattle.dxc_model.specs.declared.user.Class.TheVariants.{P}
use Rattle.dxc_model.specs.Equipment.{has_bit}
use Rattle.shelf_file.specs.Contents.{Contents}
use Rattle.dxc_load.specs.Script.{load_shape}

-- the digest of the user's salt and PID: SHA-256 of the bytes abc
abbrev pub load_digest : List ℕ
load_digest =
    186 ∷ 120 ∷ 22 ∷ 191 ∷ 143 ∷ 1 ∷ 207 ∷ 234 ∷ 65 ∷ 65 ∷ 64 ∷ 222 ∷ 93 ∷ 174 ∷ 34 ∷ 35
    ∷ 176 ∷ 3 ∷ 97 ∷ 163 ∷ 150 ∷ 23 ∷ 122 ∷ 156 ∷ 180 ∷ 16 ∷ 255 ∷ 97 ∷ 242 ∷ 0 ∷ 21 ∷ 173 ∷ []

-- the element of the load, as its shelf file describes it
abbrev pub load_file : List ℕ
load_file = codes "sid=\"LOAD\"\nmodules=8\nslots=24\n[[user]]\nuid=\"LOAD\"\nclass=\"P\"\nsalt=\"61\"\ndigest=\"ba7816bf8f01cfea414140de5dae2223b00361a396177a9cb410ff61f20015ad\"\n"

-- all modules of its shape are equipped, and it has one user
pub record IsLoadShelf (s : Contents) : Type 0 where
  pub sid : s.sid ≡ codes "LOAD"
  pub shape : s.shape ≡ load_shape
  pub equipped : (m : ℕ) → m < 8 → has_bit s.equipped m ≡ true
  pub users : s.users ≡ record { name = codes "LOAD"; class = P; salt = 97 ∷ []; digest = load_digest } ∷ []

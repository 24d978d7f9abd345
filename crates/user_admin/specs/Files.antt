-- What the file of a users' journal stands for.
use Rattle.std.specs.Prelude.{◌≡◌, ◌⊎◌, ℕ, List, [], ◌∷◌, Option, Some}
use Rattle.dxc_num.specs.Dimensions.{Dimensions}
use Rattle.journal_core.specs.declared.head.Head.{Head}
use Rattle.journal_core.specs.Headers.{Stands}
use Rattle.user_admin.specs.declared.op.UserChange.{UserChange}
use Rattle.user_admin.specs.Users.{Users}
use Rattle.user_admin.specs.Changes.{AllFit, after, effect}
use Rattle.user_admin.specs.Records.{Means}

-- each record means the change of its place
abbrev pub AreMeant : Users → List (List ℕ) → List UserChange → Type 0
AreMeant shelf [] [] = Unit {0}
AreMeant shelf [] (c ∷ cs) = ⊥
AreMeant shelf (r ∷ rs) [] = ⊥
AreMeant shelf (r ∷ rs) (c ∷ cs) = Means shelf r c × AreMeant shelf rs cs

-- the records' changes fit, each at its turn, and lead from the shelf's users to these
abbrev pub FoldsTo : Users → List (List ℕ) → Users → Type 0
FoldsTo shelf records users = (cs : List UserChange) × AreMeant shelf records cs × AllFit cs shelf × (after cs shelf ≡ users)

-- a file of this shape stands for records that lead from the shelf's users to these
pub record IsFileOn (shape : Dimensions) (shelf users : Users) (file : List ℕ) : Type 0 where
  pub head : Head
  pub records : List (List ℕ)
  pub stands : Stands shape head records file
  pub folds : FoldsTo shelf records users

-- a file stands for the users, or for these after the change in doubt
abbrev pub IsOldOrDoubted : Dimensions → Users → Users → Option UserChange → List ℕ → Type 0
IsOldOrDoubted shape shelf users doubt file = IsFileOn shape shelf users file ⊎ ((c : UserChange) × (doubt ≡ Some c) × IsFileOn shape shelf (effect c users) file)

-- or for these after this change
abbrev pub IsOldOrOneMore : Dimensions → Users → Users → Option UserChange → UserChange → List ℕ → Type 0
IsOldOrOneMore shape shelf users doubt c file = IsOldOrDoubted shape shelf users doubt file ⊎ IsFileOn shape shelf (effect c users) file

-- The users of a shelf, as they are kept.
use Rattle.std.specs.Prelude.{◌≡◌, ◌⊎◌, ℕ, Option, Some, None, List, [], ◌∷◌, ◌++◌, map}
use Rattle.dxc_model.specs.declared.user.SessionUser.{SessionUser}
use Rattle.dxc_model.specs.declared.user.SessionUser.TheVariants as session
use Rattle.shelf_file.specs.declared.user.User.{User}
use Rattle.toml.specs.Data.{Members}
use Rattle.shelf_file.specs.declared.fault.ShelfFault.{ShelfFault}
use Rattle.shelf_file.specs.declared.fault.ShelfFault.TheVariants.{NoMemory}
use Rattle.shelf_file.specs.Checks.{checks_of, first_some}
use Rattle.shelf_file.specs.Contents.{UserEntry, IsUser}

-- a user that is kept
abbrev pub entry_of : User → UserEntry
entry_of u = record { name = u.uid.items; class = u.class; salt = u.salt.items; digest = u.digest }

abbrev pub entries_of : List User → List UserEntry
entries_of us = map entry_of us

-- a user who is logged in
abbrev pub logged_in : UserEntry → SessionUser
logged_in e = session.User e.name e.class

-- the names of users
abbrev pub names_in : List UserEntry → List (List ℕ)
names_in es = map (λ e. e.name) es

-- the first of these checks that found something found this; want of memory may always be answered
abbrev pub IsFaultOf : List (Option ShelfFault) → ShelfFault → Type 0
IsFaultOf cs f = (f ≡ NoMemory) ⊎ (first_some cs ≡ Some f)

-- the table describes one user more, and its checks find nothing
pub record Adds (u : Members) (number : ℕ) (old new : List UserEntry) : Type 0 where
  pub entry : UserEntry
  pub is : IsUser u entry
  pub faultless : first_some (checks_of (names_in old) number u) ≡ None
  pub whole : new ≡ old ++ entry ∷ []

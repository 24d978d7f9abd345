-- What holds of all users and operations.
use Rattle.std.specs.Prelude.{◌≡◌, ℕ, ◌≤◌, true, Some, List, [], ◌∷◌, ◌++◌, length, slice_index}
use Rattle.journal_core.specs.declared.head.Head.{Head}
use Rattle.journal_core.specs.Headers.{Stands}
use Rattle.std.specs.FinMap.{get, len}
use Rattle.shelf_file.specs.Contents.{Contents, IsShelf}
use Rattle.user_admin.specs.declared.op.User.{User}
use Rattle.user_admin.specs.declared.op.UserEntry.{UserEntry}
use Rattle.tl1_users.specs.declared.op.UserOp.{UserOp}
use Rattle.user_admin.specs.declared.op.UserChange.{UserChange}
use Rattle.tl1_users.specs.Commands.{is_of_class_s}
use Rattle.user_admin.specs.Users.{Users, shelf_users}
use Rattle.user_admin.specs.Changes.{AllFit, Fits, after, effect, most_users}
use Rattle.user_admin.specs.Verdicts.{Grants}
use Rattle.user_admin.specs.Checkpoints.{rows}
use Rattle.user_admin.specs.Records.{MayBeSpelled, Means, has_long_salt, spelling}
use Rattle.tl1_users.specs.Commands.{NamesUid}
use Rattle.user_admin.specs.Spellable.{AllSpellable, AreDescribed, AreSpellable}
use Rattle.user_admin.specs.Files.{AreMeant, FoldsTo, IsFileOn}
use Rattle.user_admin.specs.Histories.{IsLegal, Opening, users_after}

-- each user has the name under which it is kept
abbrev pub AreNamed : Users → Type 0
AreNamed users = (name : List ℕ) (u : User) → get users name ≡ Some u → u.uid ≡ name

-- some user is of class S
abbrev pub HasClassS : Users → Type 0
HasClassS users = (name : List ℕ) × (u : User) × (get users name ≡ Some u) × (is_of_class_s u.class ≡ true)

-- the rows of a checkpoint fit, and lead to the users
abbrev pub DoRowsLead : Type 0
DoRowsLead = (shelf users : Users) → AreNamed shelf → AreNamed users → len users ≤ most_users → AllFit (rows shelf users) shelf × (after (rows shelf users) shelf ≡ users)

-- what is granted fits
abbrev pub DoesGrantedFit : Type 0
DoesGrantedFit = (sid : List ℕ) (o : UserOp) (users : Users) (c : UserChange) → AreNamed users → Grants sid o users c → Fits c users

-- an operation is granted one change
abbrev pub IsGrantedOnce : Type 0
IsGrantedOnce = (sid : List ℕ) (o : UserOp) (users : Users) (c d : UserChange) → Grants sid o users c → Grants sid o users d → c ≡ d

-- no granted change takes away the last user of class S
abbrev pub IsClassSKept : Type 0
IsClassSKept = (sid : List ℕ) (o : UserOp) (users : Users) (c : UserChange) → AreNamed users → Grants sid o users c → HasClassS users → HasClassS (effect c users)

-- changes keep users named
abbrev pub AreNamesKept : Type 0
AreNamesKept = (c : UserChange) (users : Users) → AreNamed users → AreNamed (effect c users)

-- changes that fit keep to the limit
abbrev pub IsLimitKept : Type 0
IsLimitKept = (c : UserChange) (users : Users) → Fits c users → len users ≤ most_users → len (effect c users) ≤ most_users

-- a shelf's users have their names
abbrev pub AreShelfUsersNamed : Type 0
AreShelfUsersNamed = (shelf : Contents) → AreNamed (shelf_users shelf)

-- no legal history takes away the last user of class S
abbrev pub IsClassSKeptAlways : Type 0
IsClassSKeptAlways = (o : Opening) (h : List UserEntry) → IsLegal o h → HasClassS o.users → HasClassS (users_after o h)

-- a legal history keeps to the limit
abbrev pub IsLimitKeptAlways : Type 0
IsLimitKeptAlways = (o : Opening) (h : List UserEntry) → IsLegal o h → len (shelf_users o.shelf) ≤ most_users → len (users_after o h) ≤ most_users

-- a file of a checkpoint's rows stands for the users
abbrev pub DoRowsStand : Type 0
DoRowsStand = (o : Opening) (h : List UserEntry) (head : Head) (records : List (List ℕ)) (file : List ℕ) → IsLegal o h → len (shelf_users o.shelf) ≤ most_users
    → Stands o.shelf.shape head records file → AreMeant (shelf_users o.shelf) records (rows (shelf_users o.shelf) (users_after o h)) → IsFileOn o.shelf.shape (shelf_users o.shelf) (users_after o h) file

-- a file with one record more, of a change that fits, stands for the users after that change
abbrev pub DoesRecordStand : Type 0
DoesRecordStand = (shelf users : Users) (records : List (List ℕ)) (bytes : List ℕ) (c : UserChange) → FoldsTo shelf records users → Means shelf bytes c → Fits c users → FoldsTo shelf (records ++ bytes ∷ []) (effect c users)

-- what a change is spelled as means it, and nothing else
abbrev pub IsSpellingRead : Type 0
IsSpellingRead = (shelf : Users) (c d : UserChange) → MayBeSpelled shelf (has_long_salt c) c → Means shelf (spelling c) c × (Means shelf (spelling c) d → d ≡ c)

-- a record has 64 bytes, and its seal byte is set
abbrev pub AreRecordsSealed : Type 0
AreRecordsSealed = (shelf : Users) (c : UserChange) → MayBeSpelled shelf (has_long_salt c) c → (length (spelling c) ≡ 64) × (slice_index (spelling c) 0 ≡ 165)

-- what is granted may be spelled, where the users may
abbrev pub IsGrantedSpellable : Type 0
IsGrantedSpellable = (shelf : Users) (sid : List ℕ) (o : UserOp) (users : Users) (c : UserChange) → AreSpellable shelf users → NamesUid o → Grants sid o users c → MayBeSpelled shelf (has_long_salt c) c

-- and then the users after it may
abbrev pub AreAlwaysSpellable : Type 0
AreAlwaysSpellable = (shelf : Users) (c : UserChange) (users : Users) → AreSpellable shelf users → MayBeSpelled shelf (has_long_salt c) c → AreSpellable shelf (effect c users)

-- a shelf's own users may be spelled
abbrev pub IsShelfSpellable : Type 0
IsShelfSpellable = (shelf : Users) → AreDescribed shelf → AreSpellable shelf shelf

-- so may the rows of a checkpoint
abbrev pub AreRowsSpellable : Type 0
AreRowsSpellable = (shelf users : Users) → AreDescribed shelf → AreSpellable shelf users → AllSpellable shelf (rows shelf users)

-- a file's shelf describes its users rightly
abbrev pub AreShelvesDescribed : Type 0
AreShelvesDescribed = (bytes : List ℕ) (shelf : Contents) → IsShelf bytes shelf → AreDescribed (shelf_users shelf)

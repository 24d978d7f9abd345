-- Elements on new disks in memory, and that of the load mode: how they start.
use Rattle.std.specs.Prelude.{◌≡◌, ◌⊎◌, ◌^◌, ℕ, []}
use Rattle.dxc_causes.specs.Causes.{Rose}
use Rattle.dxc_disk.specs.declared.mem_disk.MemDisk.{MemDisk}
use Rattle.dxc_disk.specs.Disks.{DiskState}
use Rattle.dxc_disk.specs.Fresh.{IsFresh}
use Rattle.dxc_disk.specs.MemView.{mem_state}
use Rattle.shelf_file.specs.Contents.{Contents}
use Rattle.dxc_load.specs.declared.disk.LoadDisk.{LoadDisk}
use Rattle.dxc_load.specs.LoadShelf.{IsLoadShelf}
use Rattle.dxc_load.specs.Storing.{load_disk}
use Rattle.dxc_args.specs.declared.status.Status.{Status}
use Rattle.dxc_args.specs.declared.status.Status.TheVariants.{NoMemory, Stopped}
use Rattle.dxc_element.specs.declared.opening.Controller.{Controller}
use Rattle.dxc_element.specs.declared.opening.Element.{Element}
use Rattle.dxc_element.specs.Openings.{AreUsersStarted, IsStarted}

-- a new disk, none of whose calls is to fail, and one for the users
abbrev pub IsNewDisk : DiskState → Type 0
IsNewDisk s = IsFresh s [] [] (2 ^ 21)

abbrev pub IsNewUsersDisk : DiskState → Type 0
IsNewUsersDisk s = IsFresh s [] [] (2 ^ 18)

-- a controller of the shelf, with one worker, on such a disk
abbrev pub IsNewController : (told : Type 0) {D : Type 0} (state : D → DiskState) → Contents → Controller D → Type 0
IsNewController told {D} state s x = (disk : D) × IsNewDisk (state disk) × IsStarted told state disk s 1 x

-- such a controller and the shelf's users, on such disks of any kind
pub record IsNewElement (told users_told : Type 0) {D U : Type 0} (state : D → DiskState) (users_state : U → DiskState) (s : Contents) (x : Element D U) : Type 0 where
  pub disk : D
  pub fresh : IsNewDisk (state disk)
  pub started : IsStarted told state disk s 1 x.controller
  pub users_disk : U
  pub users_fresh : IsNewUsersDisk (users_state users_disk)
  pub users_started : AreUsersStarted users_told users_state users_disk s x.users

-- and in memory
abbrev pub IsInMemory : Contents → Element MemDisk MemDisk → Type 0
IsInMemory s x = IsNewElement (Unit {0}) (Unit {0}) mem_state mem_state s x

-- the load's element on such disks of any kind
pub record IsLoadElement (told users_told : Type 0) {D U : Type 0} (state : D → DiskState) (users_state : U → DiskState) (x : Element D U) : Type 0 where
  pub shelf : Contents
  pub is_shelf : IsLoadShelf shelf
  pub disk : D
  pub fresh : IsNewDisk (state disk)
  pub started : IsStarted told state disk shelf 1 x.controller
  pub users_disk : U
  pub users_fresh : IsNewUsersDisk (users_state users_disk)
  pub users_started : AreUsersStarted users_told users_state users_disk shelf x.users

-- and in memory, where the journal's disk notes that a call failed
abbrev pub IsLoadStarted : Element LoadDisk MemDisk → Type 0
IsLoadStarted x = IsLoadElement (Unit {0}) (Unit {0}) load_disk mem_state x

-- memory was wanting, or the gate stopped
abbrev pub NotLoaded : (stops later : ℕ) → Status → Type 0
NotLoaded stops later status = (status ≡ NoMemory) ⊎ ((status ≡ Stopped) × Rose stops later)

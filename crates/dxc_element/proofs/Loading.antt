-- On new disks an element starts, unless memory is wanting or the gate stops.
use Rattle.std.proofs.Common.{◌≡◌, ◌^◌, arith, ℕ, [], Result, Ok, Err, inl, inr, refl, sym, subst}
use Rattle.std.specs.Prelude.{MatchResult}
use Rattle.dxc_causes.specs.Causes.{Rose}
use Rattle.dxc_disk.specs.declared.mem_disk.MemDisk.{MemDisk}
use Rattle.dxc_disk.specs.Disks.{DiskState, IsSound}
use Rattle.dxc_disk.specs.Fresh.{IsFresh}
use Rattle.dxc_disk.specs.MemView.{mem_state}
use Rattle.journal_core.specs.declared.fault.JournalFault.{JournalFault}
use Rattle.journal_core.specs.declared.fault.JournalWhy.{JournalWhy}
use Rattle.journal_core.specs.declared.fault.JournalWhy.TheVariants as why
use Rattle.journal_core.specs.Headers.{IsNew}
use Rattle.journal_core.specs.Rooms.{opening_room}
use Rattle.shelf_file.specs.Contents.{Contents}
use Rattle.user_admin.specs.declared.fault.UserOpenFault.{UserOpenFault}
use Rattle.user_admin.specs.declared.fault.UserOpenFault.TheVariants as users_fault
use Rattle.xc_core.specs.declared.fault.OpenFault.{OpenFault}
use Rattle.xc_core.specs.declared.fault.OpenFault.TheVariants as fault
use Rattle.dxc_load.specs.declared.disk.LoadDisk.{LoadDisk}
use Rattle.dxc_load.specs.LoadShelf.{IsLoadShelf}
use Rattle.dxc_load.specs.Storing.{load_disk}
use Rattle.dxc_args.specs.declared.status.Status.{Status}
use Rattle.dxc_args.specs.declared.status.Status.TheVariants as Status_of
use Rattle.dxc_element.specs.declared.opening.Element.{Element}
use Rattle.dxc_element.specs.Loads.{IsLoadStarted, IsNewElement, NotLoaded}
use Rattle.dxc_element.specs.Openings.{StartFails, UsersStartFails}
use Rattle.dxc_element.specs.Statuses.{status_of_fault, status_of_users_fault, status_of_users_why, status_of_why}

-- a file with no byte is new
empty_new : IsNew []
empty_new = inl (omega arith)

module _ (told : Type 0) {D : Type 0} (state : D → DiskState) (is_told : told) (disk : D) (s : Contents) (stops later : ℕ) (fresh : IsFresh (state disk) [] [] (2 ^ 21)) where
  is_new : IsNew (state disk).reads_as
  is_new = subst IsNew (sym fresh.content) empty_new

  sound : IsSound opening_room (state disk)
  sound = record { margin = fresh.margin; enough = let e = fresh.enough in omega (arith, e) }

  by_why : (j : JournalFault D) (w : JournalWhy) → j.why ≡ w → StartFails told state disk s (Rose stops later) (fault.Journal j) → NotLoaded stops later (status_of_why w)
  by_why j (why.BadHeader bytes) is n = absurd ((n.why is_told bytes is).0 is_new)
  by_why j why.Disk is n = absurd (n.disk_failed is sound)

  -- on a new disk that has the room the controller starts, unless memory is wanting or the gate stops
  pub not_loaded : (f : OpenFault D) → StartFails told state disk s (Rose stops later) f → NotLoaded stops later (status_of_fault f)
  not_loaded (fault.Journal j) n = by_why j j.why refl n
  not_loaded (fault.BadRecord i d) n = absurd ((n.why is_told).0 is_new)
  not_loaded (fault.Disk d) n = absurd (n.disk_failed tt sound)
  not_loaded (fault.NoMemory d) n = inl refl
  not_loaded (fault.Stopped d) n = inr (refl, n.stopped tt)

-- the load's is one of its shelf
pub load_started : (s : Contents) (stops later : ℕ) (r : Result (Element LoadDisk MemDisk) Status) → IsLoadShelf s → MatchResult r (IsNewElement (Unit {0}) (Unit {0}) load_disk mem_state s) (NotLoaded stops later) → MatchResult r IsLoadStarted (NotLoaded stops later)
load_started s stops later (Ok x) shelf el = record { shelf = s; is_shelf = shelf; disk = el.disk; fresh = el.fresh; started = el.started; users_disk = el.users_disk; users_fresh = el.users_fresh; users_started = el.users_started }
load_started s stops later (Err e) shelf not = not

-- on such a disk the users are taken up, unless memory is wanting
module _ (disk : MemDisk) (s : Contents) (fresh : IsFresh (mem_state disk) [] [] (2 ^ 18)) where
  users_new : IsNew (mem_state disk).reads_as
  users_new = subst IsNew (sym fresh.content) empty_new

  users_sound : IsSound opening_room (mem_state disk)
  users_sound = record { margin = fresh.margin; enough = let e = fresh.enough in omega (arith, e) }

  users_by_why : (j : JournalFault MemDisk) (w : JournalWhy) → j.why ≡ w → UsersStartFails (Unit {0}) mem_state disk s (users_fault.Journal j) → status_of_users_why w ≡ Status_of.NoMemory
  users_by_why j (why.BadHeader bytes) is n = absurd ((n.why tt bytes is).0 users_new)
  users_by_why j why.Disk is n = absurd (n.disk_failed is users_sound)

  pub users_not_loaded : (f : UserOpenFault MemDisk) → UsersStartFails (Unit {0}) mem_state disk s f → status_of_users_fault f ≡ Status_of.NoMemory
  users_not_loaded (users_fault.Journal j) n = users_by_why j j.why refl n
  users_not_loaded (users_fault.BadRecord i d) n = absurd ((n.why tt).0 users_new)
  users_not_loaded (users_fault.Disk d) n = absurd (n.disk_failed tt users_sound)
  users_not_loaded (users_fault.NoMemory d) n = refl

-- A controller that was opened, and its users, as sessions begin on them.
use Rattle.std.proofs.Common.{◌≡◌, ℕ, sym, ◌∙◌, ap}
use Rattle.std.specs.Arc.{arc_value}
use Rattle.dxc_disk.specs.Disks.{DiskState}
use Rattle.fabric_core.specs.declared.size.Size.{Size}
use Rattle.shelf_file.specs.Contents.{Contents}
use Rattle.user_admin.specs.declared.state.UserState.{UserState}
use Rattle.user_admin.specs.States.{opening_of as users_opening}
use Rattle.xc_core.specs.States.{opening_of}
use Rattle.craft_session.specs.Places.{IsAtOpening}
use Rattle.craft_session.specs.PlainUsers.{IsUsersOpeningOf}
use Rattle.craft_session.specs.Scripts.{IsOpeningOf}
use Rattle.dxc_element.specs.declared.opening.Controller.{Controller}
use Rattle.dxc_element.specs.Openings.{AreUsersStarted, IsStarted}

module _ {D : Type 0} (disk_told : Type 0) (state : D → DiskState) where
  -- a controller's state is at its opening
  pub opened_at : (disk : D) (s : Contents) (workers : ℕ) (x : Controller D) → IsStarted disk_told state disk s workers x → IsAtOpening (opening_of state x.state) (arc_value x.shelf) (arc_value x.fabric)
  opened_at disk s workers x started = record { fabric = started.opening.fabric_is; shape = started.shape ∙ ap (λ (y : Contents). y.shape) (sym started.shelf) }

  -- its fabric is one of the shelf, for its workers
  pub sized : (disk : D) (s : Contents) (workers : ℕ) (x : Controller D) → IsStarted disk_told state disk s workers x → (arc_value x.fabric).size ≡ record { shape = (arc_value x.shelf).shape; workers = workers }
  sized disk s workers x started =
      let size : Contents → Size = λ y. record { shape = y.shape; workers = workers } in
      started.size ∙ ap size (sym started.shelf)

  -- which is an opening of its disk
  pub of_disk : (disk : D) (s : Contents) (workers : ℕ) (x : Controller D) → IsStarted disk_told state disk s workers x → IsOpeningOf (state disk) (opening_of state x.state)
  of_disk disk s workers x started = let t = started.taken in record { later = t.later; room = t.kept; margin = t.paid; counts = t.counts; ready = started.opening.due_is }

  -- and so is that of the users
  pub users_of_disk : (disk : D) (s : Contents) (x : UserState D) → AreUsersStarted disk_told state disk s x → IsUsersOpeningOf (state disk) (users_opening state x)
  users_of_disk disk s x started = let t = started.taken in record { later = t.later; room = t.kept; margin = t.paid; counts = t.counts }

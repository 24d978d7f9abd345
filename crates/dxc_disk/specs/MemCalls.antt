-- What a disk in memory holds beside a disk's state, and what each of its calls does to it.
use Rattle.std.specs.Prelude.{◌≡◌, ℕ, ◌+◌, ◌≤◌, min, Bool, false, IsTrue, List, [], ◌++◌, Result, OnOk, OnErr, IsOk, IsErr}
use Rattle.dxc_causes.specs.Causes.{last}
use Rattle.dxc_disk.specs.declared.mem_disk.MemDisk.{MemDisk}
use Rattle.dxc_disk.specs.Listed.{is_listed}
use Rattle.dxc_disk.specs.MemView.{mem_state}
use Rattle.dxc_disk.specs.Replay.{Event, events}

-- the writes and syncs that it has made
abbrev pub events_of : MemDisk → List Event
events_of d = events d.calls.items d.log.items

-- whether its next call is one of those that fail
abbrev pub disk_fails : MemDisk → Bool
disk_fails d = is_listed d.made d.failing.items

-- a disk that was made of these bytes, to fail at the calls of these numbers, and wasn't called yet
pub record IsUncalled (d : MemDisk) (bytes numbers : List ℕ) : Type 0 where
  pub first : d.first.items ≡ bytes
  pub events : events_of d ≡ []
  pub failing : d.failing.items ≡ numbers
  pub made : d.made ≡ 0

-- One call, which adds these events and for which so much room is enough. It fails where the list says so, and beside that only for want of
-- room; it then does nothing.
pub record IsCall {T E : Type 0} (enough : ℕ) (added : List Event) (old new : MemDisk) (result : Result T E) : Type 0 where
  pub listed : IsTrue (disk_fails old) → IsErr result
  pub unlisted : disk_fails old ≡ false → enough ≤ (mem_state old).room → IsOk result
  pub ok : OnOk result (events_of new ≡ events_of old ++ added)
  pub err : OnErr result (events_of new ≡ events_of old)
  pub no_fault : OnOk result (new.faults ≡ old.faults)
  pub first : new.first ≡ old.first
  pub failing : new.failing ≡ old.failing
  pub made : new.made ≡ min (old.made + 1) last

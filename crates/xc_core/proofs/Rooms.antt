-- What a replay after a call on the journal takes of the disk's room, and counts of its faults.
use Rattle.std.proofs.Common.{◌≤◌, ◌+◌, ℕ, arith}
use Rattle.dxc_causes.specs.Causes.{HasCause, Rose}
use Rattle.dxc_disk.specs.Disks.{DiskState, IsSound, Spends}
use Rattle.dxc_disk.proofs.DiskSteps.{sound_on, spends_more, spends_on}
use Rattle.journal_core.specs.declared.book.Book.{Book}
use Rattle.journal_core.specs.Books.{IsWhole}
use Rattle.journal_core.proofs.AreaSteps.{most_most}

-- a journal counts few records
few_counted : (book : Book) → IsWhole book → book.count ≤ 65_536
few_counted book whole = omega (arith, whole.limit, most_most book.half book.head.version)

-- n for the call, and one for each record
pub replay_room : (n : ℕ) (a b c : DiskState) (book : Book) → IsWhole book → Spends n a b → Spends book.count b c → Spends (n + 65_536) a c
replay_room n a b c book whole called looked = spends_on n 65_536 a b c called (spends_more book.count 65_536 b c (few_counted book whole) looked)

-- what is sound for both is sound for the replay after the call
pub replay_sound : (n : ℕ) (a b : DiskState) (book : Book) → IsWhole book → a.faults ≤ b.faults → Spends n a b → IsSound (n + 65_536) a → IsSound book.count b
replay_sound n a b book whole later called sound =
    let few = few_counted book whole in
    sound_on n book.count a b later (record { margin = sound.margin; enough = omega (arith, sound.enough, few) }) called

later_rose : (a b c : ℕ) → a ≤ b → Rose b c → Rose a c
later_rose a b c called rose = omega (arith, called, rose)

-- a fault of the second of two calls
pub fault_on : (a b c : ℕ) (failed : Type 0) → a ≤ b → b ≤ c → (failed → Rose b c) → HasCause a c failed
fault_on a b c failed called looked rose = record { later = omega (arith, called, looked); cause = λ f. later_rose a b c called (rose f) }

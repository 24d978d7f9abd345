-- The opener over the operating system, for the contracts of its own calls.
use Rattle.std.specs.Prelude.{List, None, ℕ}
use Rattle.dxc_outside.specs.declared.opened.Opened.{Opened}
use Rattle.dxc_outside.specs.Openings.{IsAside, IsJournalOpening, IsShelfRead, OpenerState, read_into, store_of}
use Rattle.dxc_host.specs.declared.host_disk.HostDisk.{HostDisk}
use Rattle.dxc_host.specs.declared.host_opener.HostOpener.{HostOpener}

-- It tells nothing but its count of faults.
abbrev pub host_opener : {T : Type 0} → HostOpener T → OpenerState
host_opener o = record { shelf_at = λ _. None; faults = o.faults }

-- what the trait says of an opener that tells no content: of a shelf file that is read, by the room before and after it
abbrev pub Reads : {T : Type 0} → (old new : HostOpener T) → Opened (Unit {0}) → List ℕ → List ℕ × List ℕ → Type 0
Reads old new opened name into = IsShelfRead ⊥ (host_opener old) (host_opener new) opened (read_into name into.0 into.1)

-- of a journal that is opened
abbrev pub OpensJournal : {T : Type 0} → (old new : HostOpener T) → Opened HostDisk → List ℕ → Type 0
OpensJournal old new opened name = IsJournalOpening ⊥ (store_of (host_opener old) (λ _. None)) (store_of (host_opener new) (λ _. None)) opened name

-- and of a call on neither
abbrev pub StaysAside : {T : Type 0} → (old new : HostOpener T) → Type 0
StaysAside old new = IsAside {J = HostDisk} ⊥ (host_opener old) (host_opener new) (λ _. None) (λ _. None)

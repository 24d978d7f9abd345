-- How the program ends.
use Rattle.std.specs.Prelude.{ℕ}
use Rattle.dxc_outside.specs.declared.send.Sent.{Sent}
use Rattle.dxc_outside.specs.declared.send.Sent.TheVariants as sent
use Rattle.dxc_args.specs.declared.status.Status.{Status}
use Rattle.dxc_args.specs.declared.status.Status.TheVariants.{Done, BadWords, BadShelf, BadJournal, Disk, CannotOpen, NoThread, NoMemory, Link, Stopped, Spent, BadMessage, NotEmpty}

-- the number that the process ends with
abbrev pub number_of : Status → ℕ
number_of Done = 0
number_of BadWords = 2
number_of (BadShelf f) = 3
number_of (BadJournal f) = 4
number_of Disk = 5
number_of CannotOpen = 6
number_of NoThread = 7
number_of NoMemory = 8
number_of Link = 9
number_of Stopped = 10
number_of Spent = 11
number_of BadMessage = 12
number_of NotEmpty = 13

-- after lines were written to the terminal
abbrev pub status_of_sent : Sent → Status
status_of_sent sent.Whole = Done
status_of_sent sent.Cut = Link

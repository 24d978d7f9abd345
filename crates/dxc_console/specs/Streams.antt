-- Handles in the place of standard streams that were closed.
use Rattle.std.specs.Prelude.{◌≡◌, ◌<◌, ℤ, pos, int_lt, true, List, length, Option, Some, None}
use Rattle.std.specs.Fd.{file_raw_fd}
use Rattle.std.specs.declared.fs.File.{File}

-- the number of a handle, where there is one
abbrev pub number_of : Option File → ℤ
number_of None = pos 0
number_of (Some file) = file_raw_fd file

-- Each of the three was closed and has one; or the next file to be opened got none of their numbers.
abbrev pub HoldsAll : List File → Option File → Type 0
HoldsAll streams beyond = length streams < 3 → int_lt (pos 2) (number_of beyond) ≡ true

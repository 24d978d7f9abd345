-- What openings take of a disk's room.
use Rattle.std.specs.Prelude.{ℕ}

-- the most that an opening takes of it, of the table's disk and of the users'
abbrev pub opening_room : ℕ
opening_room = 131_081

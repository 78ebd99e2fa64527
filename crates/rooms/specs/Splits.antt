-- What is answered where a board is taken with its rooms.
use Rattle.std.specs.Prelude.{◌≡◌, Ok, Err, Result}
use Rattle.board.specs.Grid.{Grid}
use Rattle.board.specs.declared.refusal.Refusal.{Refusal}
use Rattle.rooms.specs.Held.{Parts}
use Rattle.rooms.specs.Values.{SmallRooms, Found}

-- the board with all its rooms; or the refusal of the first that is too large
abbrev pub SplitOf : Grid → Result Parts Refusal → Type 0
SplitOf b (Ok x) = (x.board ≡ b) × SmallRooms b x.rooms
SplitOf b (Err e) = Found b (Err e)

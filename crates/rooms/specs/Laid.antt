-- The rooms of a board after a plank.
use Rattle.std.specs.Prelude.{ℕ, ◌≤◌, List, length}
use Rattle.std.specs.List.{ContainsAt as Has}
use Rattle.board.specs.Grid.{Grid, Side}
use Rattle.board.specs.Moves.{laid}
use Rattle.rooms.specs.Rooms.{Rooms}

-- each room of the board after a plank lies in a room of the board, and has no more squares: so no plank makes a room too large
unfoldable pub LaidRooms : Type 0
LaidRooms =
    (b : Grid) (s : Side) (p : ℕ) (rs ts : List (List ℕ)) → Rooms b rs → Rooms (laid b s p) ts →
    (t : List ℕ) → Has ts t → (r : List ℕ) × Has rs r × ((q : ℕ) → Has t q → Has r q) × (length t ≤ length r)

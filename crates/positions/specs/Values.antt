-- What the program's room with its moves stands for.
use Rattle.std.specs.Prelude.{ℕ, ◌-◌, ◌^◌, List, length}
use Rattle.games.specs.Game.{Game}
use Rattle.board.specs.Grid.{Side}
use Rattle.board.specs.Values.{grid_of}
use Rattle.rooms.specs.Values.{squares_of}
use Rattle.positions.specs.Sets.{Ground}
use Rattle.positions.specs.Reach.{Moves, set_at, Can, game_at}
use Rattle.positions.specs.declared.room.RoomMoves.{RoomMoves}

-- the squares of the room
abbrev pub room_squares : RoomMoves → List ℕ
room_squares r = squares_of r.room

-- the sets of its moves
abbrev pub moves_of : RoomMoves → Moves
moves_of r = record { upright = r.upright; flat = r.flat }

-- it is a room of its board, with all its moves
abbrev pub GroundOf : RoomMoves → Type 0
GroundOf r = Ground (grid_of r.board) (room_squares r) r.upright r.flat

-- the set of a side's move at square number i
abbrev pub move_set : RoomMoves → Side → ℕ → ℕ
move_set r s i = set_at (moves_of r) s i

-- there is such a move, and all that it covers is in the set
abbrev pub CanOf : RoomMoves → ℕ → Side → ℕ → Type 0
CanOf r set s i = Can (length (room_squares r)) (moves_of r) set s i

-- the set of all squares of the room
abbrev pub full_of : RoomMoves → ℕ
full_of r = 2 ^ length (room_squares r) - 1

-- the game of the position at a set
abbrev pub game_of_set : RoomMoves → ℕ → Game
game_of_set r set = game_at (grid_of r.board) (room_squares r) set

-- Boards that are past the judge's limits.
use Rattle.std.specs.Prelude.{◌≡◌, ℕ, ◌<◌, true, ◌⊎◌, List}
use Rattle.games.specs.Game.{Game}
use Rattle.games.specs.Count.{Member, Count, Wide}
use Rattle.board.specs.Grid.{Grid, Side}
use Rattle.board.specs.Moves.{may, laid}
use Rattle.rooms.specs.Games.{games_of}
use Rattle.rooms.specs.Rooms.{Rooms}

-- the count of the board's rooms is above the number of forms, or one of the forms has more than 16 options for a player
unfoldable pub Over : ℕ → Grid → Type 0
Over forms b =
    (rs : List (List ℕ)) × Rooms b rs
    × (((n : ℕ) × Count (games_of b rs) n × (forms < n)) ⊎ ((f : Game) × Member (games_of b rs) f × Wide 16 f))

-- the board is, or a board that one lawful plank of either side makes of it
unfoldable pub IsTooMany : ℕ → Grid → Type 0
IsTooMany forms b = Over forms b ⊎ ((s : Side) × (p : ℕ) × (may b s p ≡ true) × Over forms (laid b s p))

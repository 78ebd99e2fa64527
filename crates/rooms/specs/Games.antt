-- The board as its rooms beside each other.
use Rattle.std.specs.Prelude.{ℕ, suc, ◌<◌, Bool, false, ◌&&◌, ◌||◌, ◌↔◌, List, [], ◌∷◌, ◌==◌}
use Rattle.games.specs.Game.{Game}
use Rattle.games.specs.Play.{First}
use Rattle.board.specs.Grid.{Grid, Side, free_count}
use Rattle.board.specs.Rules.{Wins}
use Rattle.board.specs.Tree.{tree}
use Rattle.rooms.specs.Rooms.{Rooms}

-- is q one of these squares
abbrev pub among : List ℕ → ℕ → Bool
among [] q = false
among (p ∷ ps) q = p == q || among ps q

-- squares from k on: only those of the list stay free
unfoldable pub seen_from : ℕ → List ℕ → List Bool → List Bool
seen_from k qs [] = []
seen_from k qs (c ∷ cs) = (c && among qs k) ∷ seen_from (suc k) qs cs

-- the board seen through some squares: no other is free
abbrev pub through : Grid → List ℕ → Grid
through b qs = record { width = b.width; cells = seen_from 0 qs b.cells }

-- the games of rooms: each is the board seen through it
unfoldable pub games_of : Grid → List (List ℕ) → List Game
games_of b [] = []
games_of b (r ∷ rs) = tree (free_count b.cells) (through b r) ∷ games_of b rs

-- a board and its rooms beside each other are won by the same side
unfoldable pub RoomsLaw : Type 0
RoomsLaw = (s : Side) (b : Grid) (rs : List (List ℕ)) → 0 < b.width → Rooms b rs → Wins s b ↔ First s (games_of b rs)

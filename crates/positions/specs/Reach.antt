-- What planks make of a room: its positions, and their games.
use Rattle.std.specs.Prelude.{◌≡◌, ℕ, ◌-◌, ◌<◌, true, List, Option, unwrap_or, bit_and}
use Rattle.games.specs.Game.{Game}
use Rattle.board.specs.Grid.{Grid, Side, free_count}
use Rattle.board.specs.Moves.{may, laid}
use Rattle.board.specs.Tree.{tree}
use Rattle.positions.specs.Sets.{position, row_for, set_in}

-- planks of either player, in whatever order, lead from one board to another
pub data Comes : Grid → Grid → Type 0 where
  already : {b : Grid} → Comes b b
  after : {b c : Grid} (s : Side) (p : ℕ) → may b s p ≡ true → Comes (laid b s p) c → Comes b c

-- the game of a position of a room
unfoldable pub game_at : Grid → List ℕ → ℕ → Game
game_at b qs set = tree (free_count b.cells) (position b qs set)

-- the sets of the moves of each side, square by square, and None where there is no such move
pub record Moves : Type 0 where
  pub upright : List (Option ℕ)
  pub flat : List (Option ℕ)

-- the set of a side's move at square number i, or the empty set
abbrev pub set_at : Moves → Side → ℕ → ℕ
set_at ms s i = unwrap_or (set_in (row_for s ms.upright ms.flat) i) 0

-- there is such a move, and all that it covers is in the set
pub record Can (n : ℕ) (ms : Moves) (set : ℕ) (s : Side) (i : ℕ) : Type 0 where
  pub low : i < n
  pub some : set_at ms s i ≡ 0 → ⊥
  pub part : bit_and set (set_at ms s i) ≡ set_at ms s i

-- moves lead from one set of squares to another
pub data Leads (n : ℕ) (ms : Moves) : ℕ → ℕ → Type 0 where
  stay : {set : ℕ} → Leads n ms set set
  move : {set end : ℕ} (s : Side) (i : ℕ) → Can n ms set s i → Leads n ms (set - set_at ms s i) end → Leads n ms set end

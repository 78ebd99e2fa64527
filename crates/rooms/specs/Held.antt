-- What a board with its rooms is in contracts.
use Rattle.std.specs.Prelude.{ℕ, List}
use Rattle.board.specs.Grid.{Grid}

-- a board, and its rooms by their squares
pub record Parts : Type 0 where
  pub board : Grid
  pub rooms : List (List ℕ)

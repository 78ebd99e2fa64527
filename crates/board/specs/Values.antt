-- What the program's values stand for in the rules.
use Rattle.std.specs.Prelude.{◌≡◌, ℕ, ◌*◌, true, false, List, length, take, Some, None, Option}
use Rattle.board.specs.Grid.{Grid, Side}
use Rattle.board.specs.Moves.{covers, fits, may, laid}
use Rattle.board.specs.declared.side.Side.{Side as Player}
use Rattle.board.specs.declared.side.Side.TheVariants.{Upright, Flat}
use Rattle.board.specs.declared.board.Board.{Board}

abbrev pub side_of : Player → Side
side_of Upright = true
side_of Flat = false

-- the letters u and f
abbrev pub letter_of : Player → ℕ
letter_of Upright = 117
letter_of Flat = 102

-- the board that a Board stands for: its first width times height squares
unfoldable pub grid_of : Board → Grid
grid_of b = record { width = b.width; cells = take (b.width * b.height) b.free }

-- the squares that a move covers, or none where it does not fit
abbrev pub Covered : Grid → Side → ℕ → Option (List ℕ) → Type 0
Covered b s p None = fits b.width (length b.cells) s p ≡ false
Covered b s p (Some qs) = (fits b.width (length b.cells) s p ≡ true) × (qs ≡ covers b.width (length b.cells) s p)

-- the board after a move, or none where the side may not move so
abbrev pub LaidAt : Grid → Side → ℕ → Option Board → Type 0
LaidAt b s p None = may b s p ≡ false
LaidAt b s p (Some next) = (may b s p ≡ true) × (grid_of next ≡ laid b s p)

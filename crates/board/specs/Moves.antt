-- A move is a set of squares: what it covers, when it may be made, and the board after it.
use Rattle.std.specs.Prelude.{ℕ, ◌+◌, ◌%◌, Bool, true, false, ◌&&◌, List, [], ◌∷◌, length, nat_lt, slice_set}
use Rattle.board.specs.Grid.{Grid, Side, free}

-- the squares that a side's move at p covers, on a board of width w with n squares: upright, p and the one below it; flat, p and the one to its right
abbrev pub covers : ℕ → ℕ → Side → ℕ → List ℕ
covers w n true p = p ∷ (p + w) ∷ []
covers w n false p = p ∷ (p + 1) ∷ []

-- the move stays on the board, and a flat plank stays in its row
abbrev pub fits : ℕ → ℕ → Side → ℕ → Bool
fits w n true p = nat_lt (p + w) n
fits w n false p = nat_lt (p % w + 1) w && nat_lt (p + 1) n

abbrev pub each_free : Grid → List ℕ → Bool
each_free b [] = true
each_free b (q ∷ qs) = free b q && each_free b qs

abbrev pub taken : List Bool → List ℕ → List Bool
taken cells [] = cells
taken cells (q ∷ qs) = taken (slice_set cells q false) qs

-- a side may move at p if the move fits and all squares that it covers are free
unfoldable pub may : Grid → Side → ℕ → Bool
may b s p = fits b.width (length b.cells) s p && each_free b (covers b.width (length b.cells) s p)

-- the board with some squares taken
abbrev pub without : Grid → List ℕ → Grid
without b qs = record { width = b.width; cells = taken b.cells qs }

-- the board after the move: all squares that it covers are taken
unfoldable pub laid : Grid → Side → ℕ → Grid
laid b s p = without b (covers b.width (length b.cells) s p)

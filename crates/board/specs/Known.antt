-- Seven small boards with their verdicts for either side to move: theorems about the rules.
use Rattle.std.specs.Prelude.{ℕ, true, false, List, [], ◌∷◌, map, codes}
use Rattle.board.specs.Grid.{Grid}
use Rattle.board.specs.Reading.{is_free}
use Rattle.board.specs.Rules.{Answer, lay, lost, Says}

-- a board as it is written, row after row, and what is said of it with upright to move, and with flat to move
pub record Entry : Type 0 where
  pub width : ℕ
  pub squares : List ℕ
  pub upright : Answer
  pub flat : Answer

abbrev pub entry : ℕ → List ℕ → Answer → Answer → Entry
entry w cs u f = record { width = w; squares = cs; upright = u; flat = f }

abbrev pub written : Entry → Grid
written e = record { width = e.width; cells = map is_free e.squares }

abbrev pub table : List Entry
table =
    entry 1 (codes ".") lost lost ∷
    entry 1 (codes "..") (lay 0) lost ∷
    entry 2 (codes "..") lost (lay 0) ∷
    entry 2 (codes "....") (lay 0) (lay 0) ∷
    entry 2 (codes "...#") (lay 0) (lay 0) ∷
    entry 3 (codes "...###..#") lost (lay 0) ∷
    entry 5 (codes "..#....#..") lost lost ∷
    []

abbrev pub Right : Entry → Type 0
Right e = Says true (written e) e.upright × Says false (written e) e.flat

abbrev pub AllRight : List Entry → Type 0
AllRight [] = Unit {0}
AllRight (e ∷ es) = Right e × AllRight es

-- every entry of the table is what the rules say
unfoldable pub KnownBoards : Type 0
KnownBoards = AllRight table

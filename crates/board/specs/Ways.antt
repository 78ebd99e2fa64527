-- The four ways from a square to its neighbours.
use Rattle.std.specs.Prelude.{◌≡◌, ℕ, ◌+◌, ◌%◌, ◌<◌, true, ◌↔◌, Some, None, Option, ◌≢◌}
use Rattle.board.specs.Grid.{Grid, free, Next}
use Rattle.board.specs.declared.ways.Way.{Way}
use Rattle.board.specs.declared.ways.Way.TheVariants.{Up, Left, Right, Down}

-- q lies this way from p: in the next row or the one before, or beside it in its row
unfoldable pub Toward : Grid → Way → ℕ → ℕ → Type 0
Toward b Up p q = p ≡ q + b.width
Toward b Left p q = (p ≡ q + 1) × (q % b.width + 1 < b.width)
Toward b Right p q = (q ≡ p + 1) × (p % b.width + 1 < b.width)
Toward b Down p q = q ≡ p + b.width

-- the square that lies this way from p, or that none does
unfoldable pub Lies : Grid → ℕ → Way → Option ℕ → Type 0
Lies b p w None = (q : ℕ) → Toward b w p q → free b q ≢ true
Lies b p w (Some q) = Toward b w p q

-- the free square that lies this way from p, or that none does
unfoldable pub Neighbour : Grid → ℕ → Way → Option ℕ → Type 0
Neighbour b p w None = (q : ℕ) → Toward b w p q → free b q ≢ true
Neighbour b p w (Some q) = Toward b w p q × (free b q ≡ true)

-- the neighbours of a square are those that lie one of the four ways from it
unfoldable pub WaysLaw : Type 0
WaysLaw = (b : Grid) (p q : ℕ) → 0 < b.width → Next b p q ↔ ((w : Way) × Toward b w p q)

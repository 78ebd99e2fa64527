-- The board of the rules: how wide it is, and which of its squares are free. No limits here.
use Rattle.std.specs.Prelude.{◌≡◌, ℕ, ◌+◌, ◌%◌, ◌<◌, Bool, true, false, ◌⊎◌, List, [], ◌∷◌, ◌≢◌, slice_index_or}
pub use Rattle.games.specs.Game.{Side, other}

-- squares in reading order; true is a free square
pub record Grid : Type 0 where
  pub width : ℕ
  pub cells : List Bool

-- the first where the test holds, else the second
abbrev pub pick : {A : Type 0} → Bool → A → A → A
pick true a b = a
pick false a b = b

-- is square q on the board and free
abbrev pub free : Grid → ℕ → Bool
free b q = slice_index_or b.cells q false

-- how many squares are free
unfoldable pub free_count : List Bool → ℕ
free_count [] = 0
free_count (c ∷ cs) = pick c 1 0 + free_count cs

-- q is below p, or to its right in the same row
unfoldable pub Edge : Grid → ℕ → ℕ → Type 0
Edge b p q = ((q ≡ p + b.width) ⊎ ((q ≡ p + 1) × (p % b.width + 1 < b.width))) × (p ≢ q)

-- p and q are neighbours: they share an edge
abbrev pub Next : Grid → ℕ → ℕ → Type 0
Next b p q = Edge b p q ⊎ Edge b q p

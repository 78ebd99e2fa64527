-- The game that a board is: all that either player may make of it, to the end.
use Rattle.std.specs.Prelude.{◌≡◌, ℕ, zero, suc, ◌≤◌, Bool, true, false, ◌↔◌, [], ◌∷◌, length}
use Rattle.games.specs.Game.{Game, game, Games, none, more, empty}
use Rattle.games.specs.Play.{First}
use Rattle.games.specs.Order.{NotLe, Equal}
use Rattle.board.specs.Grid.{Grid, Side, pick, free_count}
use Rattle.board.specs.Moves.{may, laid}
use Rattle.board.specs.Rules.{Wins}

-- a game for each place below k that passes the test, the last first
unfoldable pub listed : (ℕ → Bool) → (ℕ → Game) → ℕ → Games
listed f g zero = none
listed f g (suc k) = pick (f k) (more (g k) (listed f g k)) (listed f g k)

-- the game of a board, to at most n moves: each player's options are the boards after its moves
unfoldable pub tree : ℕ → Grid → Game
tree zero b = empty
tree (suc n) b =
    game (listed (may b true) (λ p. tree n (laid b true p)) (length b.cells))
    (listed (may b false) (λ p. tree n (laid b false p)) (length b.cells))

-- the board is won by whoever wins its game; as many moves as there are free squares are enough
unfoldable pub TreeLaw : Type 0
TreeLaw = (s : Side) (b : Grid) (n : ℕ) → free_count b.cells ≤ n → Wins s b ↔ First s (tree n b ∷ [])

-- more moves than enough change nothing
unfoldable pub TreeFuel : Type 0
TreeFuel = (b : Grid) (n m : ℕ) → free_count b.cells ≤ n → free_count b.cells ≤ m → tree n b ≡ tree m b

-- the free boards of two by two and of three by three squares
abbrev pub two_by_two : Grid
two_by_two = record { width = 2; cells = true ∷ true ∷ true ∷ true ∷ [] }

abbrev pub three_by_three : Grid
three_by_three = record { width = 3; cells = true ∷ true ∷ true ∷ true ∷ true ∷ true ∷ true ∷ true ∷ true ∷ [] }

-- who is to move on the board of two by two wins, so that it does not compare with the empty game; and three by three is as good as two by two
pub record BoardGames : Type 0 where
  pub apart : NotLe (tree 4 two_by_two) empty × NotLe empty (tree 4 two_by_two)
  pub three_as_two : Equal (tree 9 three_by_three) (tree 4 two_by_two)

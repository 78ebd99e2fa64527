-- Games beside each other as one game. Assumes nothing: these are definitions.
use Rattle.std.specs.Prelude.{List, ◌∷◌, ◌↔◌}
use Rattle.games.specs.Game.{Side, Game, Games, options, In, empty, neg}
use Rattle.games.specs.Play.{First}
use Rattle.games.specs.Order.{Equal}

-- k is g beside h: its options are the moves in the one or in the other
mutual
  pub data Sum : Game → Game → Game → Type 0 where
    sum : {g h k : Game} →
        ((s : Side) (x : Game) → In x (options s k) → Made s g h x) →
        ((s : Side) (y : Game) → In y (options s g) → Found y h (options s k)) →
        ((s : Side) (y : Game) → In y (options s h) → Found g y (options s k)) → Sum g h k

  -- x comes of a move of s in one of the two
  pub data Made : Side → Game → Game → Game → Type 0 where
    in_one : {s : Side} {g h x : Game} (y : Game) → In y (options s g) → Sum y h x → Made s g h x
    in_two : {s : Side} {g h x : Game} (y : Game) → In y (options s h) → Sum g y x → Made s g h x

  -- g beside h is among some games
  pub data Found : Game → Game → Games → Type 0 where
    found : {g h : Game} {xs : Games} (x : Game) → In x xs → Sum g h x → Found g h xs

-- a game equal to the sum of two stands for the two
unfoldable pub SumStands : Type 0
SumStands = (g h k m : Game) → Sum g h k → Equal k m → (s : Side) (gs : List Game) → First s (g ∷ h ∷ gs) ↔ First s (m ∷ gs)

-- every two games have a sum
unfoldable pub SumExists : Type 0
SumExists = (g h : Game) → (k : Game) × Sum g h k

-- sums of equal games are equal
unfoldable pub SumEqual : Type 0
SumEqual = (g h k g' h' k' : Game) → Equal g g' → Equal h h' → Sum g h k → Sum g' h' k' → Equal k k'

-- the order of the two does not matter
unfoldable pub SumTurns : Type 0
SumTurns = (g h k : Game) → Sum g h k → Sum h g k

-- nor does it matter which two of three are joined first
unfoldable pub SumGroups : Type 0
SumGroups = (g h i gh hi k k' : Game) → Sum g h gh → Sum gh i k → Sum h i hi → Sum g hi k' → Equal k k'

-- beside the empty game a game is itself
unfoldable pub SumEmpty : Type 0
SumEmpty = (g : Game) → Sum g empty g × ((k : Game) → Sum g empty k → Equal k g)

-- a game beside itself with the players exchanged is equal to the empty game
unfoldable pub SumNeg : Type 0
SumNeg = (g k : Game) → Sum g (neg g) k → Equal k empty

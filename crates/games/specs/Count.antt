-- The canonical forms of a row of games, how many there are, and what their sum tells. Assumes nothing: these are definitions.
use Rattle.std.specs.Prelude.{◌≡◌, List, [], ◌∷◌, ◌++◌, ◌⊎◌, ◌↔◌, ℕ, ◌≤◌, ◌<◌}
use Rattle.games.specs.Game.{Side, Game, options, In, empty, Reached}
use Rattle.games.specs.Play.{First}
use Rattle.games.specs.Order.{Equal, NotWorse}
use Rattle.games.specs.Sum.{Sum}
use Rattle.games.specs.Canonical.{Canonical}

-- f is met on the way along a row of games, where t is the sum so far: as the empty game; as x beside y, for x reached from the
-- sum so far and y reached from the next game; or further on, where the sum so far is the canonical form of t beside that game
pub data Met : Game → List Game → Game → Type 0 where
  at_start : {t f : Game} {gs : List Game} → Equal empty f → Met t gs f
  at_game : {t g f : Game} {gs : List Game} (x y k : Game) → Reached t x → Reached g y → Sum x y k → Equal k f → Met t (g ∷ gs) f
  further : {t g f : Game} {gs : List Game} (k u : Game) → Sum t g k → Canonical u → Equal k u → Met u gs f → Met t (g ∷ gs) f

-- f is one of the canonical forms of a row of games
unfoldable pub Member : List Game → Game → Type 0
Member gs f = Canonical f × Met empty gs f

-- there are n of them: the rows below n are forms of the row of games, no two are equal, and each form is equal to one
pub record Count (gs : List Game) (n : ℕ) : Type 0 where
  pub row : ℕ → Game
  pub within : (i : ℕ) → i < n → Member gs (row i)
  pub apart : (i j : ℕ) → i < n → j < n → Equal (row i) (row j) → i ≡ j
  pub whole : (f : Game) → Member gs f → (i : ℕ) × (i < n) × Equal f (row i)

-- one number is the count
unfoldable pub OneCount : Type 0
OneCount = (gs : List Game) → (n : ℕ) × Count gs n × ((m : ℕ) → Count gs m → n ≡ m)

-- a table of members, no two equal, is no longer than the count
unfoldable pub CountLeast : Type 0
CountLeast =
    (gs : List Game) (n m : ℕ) (row : ℕ → Game) → Count gs n → ((i : ℕ) → i < m → Member gs (row i)) →
    ((i j : ℕ) → i < m → j < m → Equal (row i) (row j) → i ≡ j) → m ≤ n

-- one in which each member is found is no shorter
unfoldable pub CountMost : Type 0
CountMost = (gs : List Game) (n m : ℕ) (row : ℕ → Game) → Count gs n → ((f : Game) → Member gs f → (i : ℕ) × (i < m) × Equal f (row i)) → n ≤ m

-- u is the canonical sum when the games of a row have come to t
pub data Summed : Game → List Game → Game → Type 0 where
  nothing : {t : Game} → Summed t [] t
  plus : {t g u : Game} {gs : List Game} (k w : Game) → Sum t g k → Canonical w → Equal k w → Summed w gs u → Summed t (g ∷ gs) u

-- a row has a canonical sum, and up to equality one only
unfoldable pub OneSum : Type 0
OneSum = (gs : List Game) → (u : Game) × Canonical u × Summed empty gs u × ((v : Game) → Summed empty gs v → Equal u v)

-- x beside y for x reached from u and y reached from g
abbrev pub Between : Game → Game → Game → Type 0
Between u g f = (x : Game) × (y : Game) × (k : Game) × Reached u x × Reached g y × Sum x y k × Equal k f

-- what one more game brings: the forms so far, and those between the sum so far and it
unfoldable pub OneMore : Type 0
OneMore = (gs : List Game) (g u f : Game) → Summed empty gs u → Met empty (gs ++ g ∷ []) f ↔ (Met empty gs f ⊎ Between u g f)

-- what lies between the sum so far and the form of a position of a game, lies between the sum so far and the game
unfoldable pub BetweenForms : Type 0
BetweenForms = (u g y h f : Game) → Reached g y → Canonical h → Equal y h → Between u h f → Between u g f

-- s, to move in the one game t, makes the last move
abbrev pub Ahead : Side → Game → Type 0
Ahead s t = NotWorse s t empty

-- the sum stands for the games, and comparing it with the empty game tells who wins
unfoldable pub SumTells : Type 0
SumTells = (gs : List Game) (t : Game) → Summed empty gs t → (s : Side) → First s gs ↔ Ahead s t

-- a form with more than n options for a player, no two equal
unfoldable pub Wide : ℕ → Game → Type 0
Wide n f =
    (s : Side) × (option : ℕ → Game) × ((i : ℕ) → i ≤ n → In (option i) (options s f))
    × ((i j : ℕ) → i ≤ n → j ≤ n → Equal (option i) (option j) → i ≡ j)

-- if a form has at most n options for each player, no canonical form equal to it has more
unfoldable pub NotWide : Type 0
NotWide =
    (n : ℕ) (f h : Game) → Canonical f → Canonical h → Equal f h →
    ((s : Side) → (m : ℕ) × (option : ℕ → Game) × (m ≤ n) × ((x : Game) → In x (options s h) → (i : ℕ) × (i < m) × (x ≡ option i))) →
    Wide n f → ⊥

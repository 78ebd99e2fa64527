-- The order of games, and a test that computes it. Assumes nothing: these are definitions.
use Rattle.std.specs.Prelude.{◌≡◌, Bool, true, false, not, ◌&&◌, ◌⊎◌, ◌↔◌, ℕ, zero, suc, ◌+◌}
use Rattle.games.specs.Game.{Side, Game, game, Games, none, more, options, In}
use Rattle.games.specs.Play.{Same}

-- g is at most h: no option of the upright player in g is as good as h, and none of the flat player in h as good as g
mutual
  pub data Le : Game → Game → Type 0 where
    le : {g h : Game} → ((x : Game) → In x (options true g) → NotLe h x) → ((y : Game) → In y (options false h) → NotLe y g) → Le g h

  -- g is not at most h: one of those options is
  pub data NotLe : Game → Game → Type 0 where
    up : {g h : Game} (x : Game) → In x (options true g) → Le h x → NotLe g h
    down : {g h : Game} (y : Game) → In y (options false h) → Le y g → NotLe g h

-- each is at most the other
abbrev pub Equal : Game → Game → Type 0
Equal g h = Le g h × Le h g

-- for side s, g is no better than h
abbrev pub Worse : Side → Game → Game → Type 0
Worse true g h = Le g h
Worse false g h = Le h g

-- the denial of that
abbrev pub NotWorse : Side → Game → Game → Type 0
NotWorse true g h = NotLe g h
NotWorse false g h = NotLe h g

-- every game is at most itself, and what is at most another is at most whatever that one is at most
unfoldable pub Order : Type 0
Order = ((g : Game) → Le g g) × ((g h k : Game) → Le g h → Le h k → Le g k)

-- of two games the one is at most the other or is not, never both
unfoldable pub Decided : Type 0
Decided = (g h : Game) → (Le g h ⊎ NotLe g h) × (Le g h → NotLe g h → ⊥)

-- games are equal exactly if they stand for each other in play
unfoldable pub TestRight : Type 0
TestRight = (g h : Game) → Equal g h ↔ Same g h

-- how many games a game holds, itself among them
abbrev mutual
  pub size : Game → ℕ
  size (game l r) = suc (sizes l + sizes r)

  pub sizes : Games → ℕ
  sizes none = 0
  sizes (more g gs) = size g + sizes gs

-- a test fails at every game of a list
abbrev pub no_one : (Game → Bool) → Games → Bool
no_one p none = true
no_one p (more g gs) = not (p g) && no_one p gs

-- whether g is at most h, looking at most n moves ahead
abbrev pub at_most_by : ℕ → Game → Game → Bool
at_most_by zero g h = true
at_most_by (suc n) g h = no_one (λ x. at_most_by n h x) (options true g) && no_one (λ y. at_most_by n y g) (options false h)

-- whether g is at most h
abbrev pub at_most : Game → Game → Bool
at_most g h = at_most_by (size g + size h) g h

-- the test is true exactly if g is at most h, and false exactly if it is not
unfoldable pub Computed : Type 0
Computed = (g h : Game) → (at_most g h ≡ true ↔ Le g h) × (at_most g h ≡ false ↔ NotLe g h)

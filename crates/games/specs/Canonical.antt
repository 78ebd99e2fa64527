-- Options that do not matter, and games without them. Assumes nothing: these are definitions.
use Rattle.std.specs.Prelude.{◌≡◌, true, false}
use Rattle.games.specs.Game.{Side, other, Game, game, Games, more, options, In, both, Reached}
use Rattle.games.specs.Order.{Le, Equal, Worse, NotWorse}

-- a dominated option, one that another serves as well, may be struck
unfoldable pub Strike : Type 0
Strike =
    (x y : Game) (ls rs : Games) →
    (In y ls → Le x y → Equal (game (more x ls) rs) (game ls rs))
    × (In y rs → Le y x → Equal (game ls (more x rs)) (game ls rs))

-- a reversible option, one that the other side can answer by something no better than the whole, may be replaced by what follows that answer
unfoldable pub Bypass : Type 0
Bypass =
    (x y : Game) (ls rs : Games) →
    (In y (options false x) → Le y (game (more x ls) rs) → Equal (game (more x ls) rs) (game (both (options true y) ls) rs))
    × (In y (options true x) → Le (game ls (more x rs)) y → Equal (game ls (more x rs)) (game ls (both (options false y) rs)))

-- no option is dominated by another game and none is reversible, here or further on; the same option may stand twice
pub data Canonical : Game → Type 0 where
  canonical : {g : Game} →
      ((s : Side) (x : Game) → In x (options s g) → Canonical x) →
      ((s : Side) (x y : Game) → In x (options s g) → In y (options s g) → Worse s x y → x ≡ y) →
      ((s : Side) (x y : Game) → In x (options s g) → In y (options (other s) x) → NotWorse s y g) → Canonical g

-- the same options but for their order and repetition, all the way down
mutual
  pub data Identical : Game → Game → Type 0 where
    identical : {g h : Game} →
        ((s : Side) (x : Game) → In x (options s g) → Among x (options s h)) →
        ((s : Side) (y : Game) → In y (options s h) → Among y (options s g)) → Identical g h

  -- a game identical to x is among some games
  pub data Among : Game → Games → Type 0 where
    among : {x : Game} {ys : Games} (y : Game) → In y ys → Identical x y → Among x ys

-- canonical games that are equal are identical
unfoldable pub OneForm : Type 0
OneForm = (g h : Game) → Canonical g → Canonical h → Equal g h → Identical g h

-- and identical games, canonical or not, are equal
unfoldable pub IdenticalEqual : Type 0
IdenticalEqual = (g h : Game) → Identical g h → Equal g h

-- every game is equal to a canonical one
unfoldable pub HasForm : Type 0
HasForm = (g : Game) → (f : Game) × Canonical f × Equal g f

-- what is reached from the canonical form of a game is equal to something reached from the game
unfoldable pub FormReached : Type 0
FormReached = (g f : Game) → Canonical f → Equal g f → (x : Game) → Reached f x → (y : Game) × Reached g y × Equal x y

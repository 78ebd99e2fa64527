-- Games as trees of options. Assumes nothing: these are definitions.
use Rattle.std.specs.Prelude.{Bool, true, false, not}

-- true is the player of upright planks, false the player of flat ones
abbrev pub Side : Type 0
Side = Bool

-- the opponent
abbrev pub other : Side → Side
other s = not s

-- a game is what the upright player may make of it, and what the flat player may
mutual
  pub data Game : Type 0 where
    game : Games → Games → Game

  -- a list of games
  pub data Games : Type 0 where
    none : Games
    more : Game → Games → Games

-- what side s may make of a game
abbrev pub options : Side → Game → Games
options true (game l r) = l
options false (game l r) = r

-- a game is one of a list of games
pub data In : Game → Games → Type 0 where
  here : {g : Game} {gs : Games} → In g (more g gs)
  there : {g h : Game} {gs : Games} → In g gs → In g (more h gs)

-- one list of games after another
abbrev pub both : Games → Games → Games
both none hs = hs
both (more g gs) hs = more g (both gs hs)

-- the game in which nobody can move
abbrev pub empty : Game
empty = game none none

-- the game with the players exchanged
abbrev mutual
  pub neg : Game → Game
  neg (game l r) = game (negs r) (negs l)

  pub negs : Games → Games
  negs none = none
  negs (more g gs) = more (neg g) (negs gs)

-- x is g, or reached from it over options of either player
pub data Reached : Game → Game → Type 0 where
  itself : {g : Game} → Reached g g
  onward : {g h x : Game} (s : Side) → In h (options s g) → Reached h x → Reached g x

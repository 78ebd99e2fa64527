-- A few small games, compared. Assumes nothing: these are definitions.
use Rattle.games.specs.Game.{Game, game, none, more, empty, neg}
use Rattle.games.specs.Order.{Le, NotLe, Equal}
use Rattle.games.specs.Sum.{Sum}

-- one move for whoever is first
abbrev pub star : Game
star = game (more empty none) (more empty none)

-- one spare move for the upright player
abbrev pub one : Game
one = game (more empty none) none

-- one spare move for whoever moves first
abbrev pub switch : Game
switch = game (more one none) (more (neg one) none)

-- half a spare move for the upright player
abbrev pub half : Game
half = game (more empty none) (more one none)

pub record Examples : Type 0 where
  -- who moves first in star or in the switch wins, so that neither compares with the empty game
  pub star_apart : NotLe star empty × NotLe empty star
  pub switch_apart : NotLe switch empty × NotLe empty switch
  -- a spare move of each side come to nothing
  pub one_each : (k : Game) × Sum one (neg one) k × Equal k empty
  -- half a move is less than one
  pub half_less : Le half one × NotLe one half

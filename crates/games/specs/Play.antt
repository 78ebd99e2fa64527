-- Several games played beside each other: who is to move and cannot has lost. Assumes nothing: these are definitions.
use Rattle.std.specs.Prelude.{List, ◌∷◌, ◌⊎◌, ◌↔◌}
use Rattle.games.specs.Game.{Side, other, Game, options, In}

-- side s moves in one game of a row
pub data Moved (s : Side) : List Game → List Game → Type 0 where
  this : {g h : Game} {gs : List Game} → In h (options s g) → Moved s (g ∷ gs) (h ∷ gs)
  that : {g : Game} {gs hs : List Game} → Moved s gs hs → Moved s (g ∷ gs) (g ∷ hs)

-- side s, to move in one of the games, makes the last move; or does not
mutual
  pub data First : Side → List Game → Type 0 where
    with : {s : Side} {gs : List Game} (hs : List Game) → Moved s gs hs → Second (other s) hs → First s gs

  pub data Second : Side → List Game → Type 0 where
    any : {s : Side} {gs : List Game} → ((hs : List Game) → Moved s gs hs → First (other s) hs) → Second s gs

-- the side to move makes the last move or does not, never both
unfoldable pub Outcome : Type 0
Outcome = (s : Side) (gs : List Game) → (First s gs ⊎ Second s gs) × (First s gs → Second s gs → ⊥)

-- beside whatever games, the one game may stand for the other
unfoldable pub Same : Game → Game → Type 0
Same g h = (s : Side) (gs : List Game) → First s (g ∷ gs) ↔ First s (h ∷ gs)

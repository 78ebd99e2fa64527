-- The games that forms stand for.
use Rattle.std.specs.Prelude.{ℕ, zero, suc, true, false, List, [], ◌∷◌}
use Rattle.games.specs.Game.{Game, game, Games, none, more, empty}
use Rattle.forms.specs.declared.rows.Form.{Form}
use Rattle.forms.specs.Rows.{row_of}

-- the games that f gives for the numbers of a row
abbrev pub listed : (ℕ → Game) → List ℕ → Games
listed f [] = none
listed f (x ∷ xs) = more (f x) (listed f xs)

-- the game of form k, looking n rows deep
abbrev pub meant : ℕ → List Form → List ℕ → ℕ → Game
meant zero fs os k = empty
meant (suc n) fs os k = game (listed (meant n fs os) (row_of fs os true k)) (listed (meant n fs os) (row_of fs os false k))

-- the game of form k: options are below their owner, so k rows deep is deep enough
unfoldable pub meaning : List Form → List ℕ → ℕ → Game
meaning fs os k = meant (suc k) fs os k

-- the game that is given by two rows of forms
unfoldable pub given : List Form → List ℕ → List ℕ → List ℕ → Game
given fs os us ls = game (listed (meaning fs os) us) (listed (meaning fs os) ls)

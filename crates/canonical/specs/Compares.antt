-- Forms compared as one side sees them.
use Rattle.std.specs.Prelude.{ℕ, ◌<◌, Bool, List, Some, None, MatchBool, Option}
use Rattle.std.specs.List.{ContainsAt as Has}
use Rattle.games.specs.Game.{Side, other, Game, options, In}
use Rattle.games.specs.Order.{Worse, NotWorse}
use Rattle.forms.specs.declared.rows.Form.{Form}
use Rattle.forms.specs.Rows.{row_for}
use Rattle.forms.specs.Meaning.{meaning, given}
use Rattle.forms.specs.Soundness.{Known}
use Rattle.canonical.specs.Held.{Two}

-- a test tells whether g is no better than h for side s
abbrev pub Tells : Bool → Side → Game → Game → Type 0
Tells r s g h = MatchBool r (Worse s g h) (NotWorse s g h)

-- two rows of forms of a table
abbrev pub BothKnown : List Form → List ℕ → List ℕ → Type 0
BothKnown fs us ls = (s : Side) → Known fs (row_for s us ls)

-- all forms of the two rows are known
abbrev pub AllKnown : Two → Type 0
AllKnown g = BothKnown g.forms.forms g.rows.upright.now g.rows.flat.now

-- the game that the two rows give
abbrev pub game_given : Two → Game
game_given g = given g.forms.forms g.forms.options g.rows.upright.now g.rows.flat.now

-- a reply to form x that makes it reversible in g: one no better than g; or that there is none
abbrev pub Reply : List Form → List ℕ → Side → ℕ → Game → Option ℕ → Type 0
Reply fs os s x g (Some y) = (y < x) × In (meaning fs os y) (options (other s) (meaning fs os x)) × Worse s (meaning fs os y) g
Reply fs os s x g None = (y : Game) → In y (options (other s) (meaning fs os x)) → NotWorse s y g

-- a test tells whether x is no better than some form of a row
abbrev pub Dominated : List Form → List ℕ → Side → ℕ → List ℕ → Bool → Type 0
Dominated fs os s x row r =
    MatchBool r ((y : ℕ) × Has row y × Worse s (meaning fs os x) (meaning fs os y)) ((y : ℕ) → Has row y → NotWorse s (meaning fs os x) (meaning fs os y))

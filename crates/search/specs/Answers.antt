-- What an answer of the search says: a place to lay at, or that the side to move has lost.
use Rattle.std.specs.Prelude.{ℕ, Some, None, Option}
use Rattle.board.specs.Rules.{Answer, lay, lost}

abbrev pub answer_of : Option ℕ → Answer
answer_of (Some p) = lay p
answer_of None = lost

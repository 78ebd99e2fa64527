-- How the standing of a game is told.
use Rattle.std.specs.Prelude.{ℕ, List, [], ◌∷◌, ◌++◌, codes}
use Rattle.board.specs.Values.{letter_of}
use Rattle.verdict.specs.Lines.{verdict_text}
use Rattle.referee.specs.declared.outcome.Outcome.{Outcome}
use Rattle.referee.specs.declared.outcome.Outcome.TheVariants.{LastMove, Open}

-- "f made the last move", or the verdict's line
abbrev pub outcome_text : Outcome → List ℕ
outcome_text (LastMove s) = (letter_of s ∷ []) ++ codes " made the last move"
outcome_text (Open x) = verdict_text x.side x.verdict

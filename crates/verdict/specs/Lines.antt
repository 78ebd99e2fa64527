-- How a judgement is told.
use Rattle.std.specs.Prelude.{ℕ, List, [], ◌∷◌, ◌++◌, codes, decimal}
use Rattle.board.specs.Values.{letter_of}
use Rattle.board.specs.declared.side.Side.{Side as Player}
use Rattle.verdict.specs.declared.verdict.Verdict.{Verdict}
use Rattle.verdict.specs.declared.verdict.Verdict.TheVariants.{WinsAt, Lost}

-- "u wins at 0", "f lost"
abbrev pub verdict_text : Player → Verdict → List ℕ
verdict_text s (WinsAt p) = (letter_of s ∷ []) ++ (codes " wins at " ++ decimal p)
verdict_text s Lost = (letter_of s ∷ []) ++ codes " lost"

-- "rooms 2", "room 1 at 3"
abbrev pub rooms_text : ℕ → List ℕ
rooms_text n = codes "rooms " ++ decimal n

abbrev pub room_text : ℕ → ℕ → List ℕ
room_text i p = codes "room " ++ (decimal i ++ (codes " at " ++ decimal p))

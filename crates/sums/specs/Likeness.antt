-- Rooms that can stand for each other.
use Rattle.std.specs.Prelude.{◌≡◌, ℕ, ◌<◌, ◌⊎◌, List, [], ◌∷◌, length, Some, None, Option, ◌≢◌, slice_index, slice_index_or}
use Rattle.games.specs.Game.{Side, Game}
use Rattle.games.specs.Play.{First, Second, Same}
use Rattle.board.specs.Grid.{Grid}
use Rattle.forms.specs.declared.rows.Form.{Form}
use Rattle.forms.specs.Links.{Table}
use Rattle.sums.specs.Rows.{room_game}
use Rattle.sums.specs.Counting.{Owns}

-- the first place before i that has the same number as place i; or that none has it
abbrev pub FirstSame : List ℕ → ℕ → Option ℕ → Type 0
FirstSame owns i (Some j) = (j < i) × (i < length owns) × (slice_index owns j ≡ slice_index owns i) × ((k : ℕ) → k < j → slice_index owns k ≢ slice_index owns i)
FirstSame owns i None = i < length owns → (k : ℕ) → k < i → slice_index owns k ≢ slice_index owns i

-- some games beside the two tell them apart: some side, to move, makes the last move with the one and not with the other
abbrev pub ToldApart : Game → Game → Type 0
ToldApart g h = (s : Side) × (gs : List Game) × ((First s (g ∷ gs) × Second s (h ∷ gs)) ⊎ (Second s (g ∷ gs) × First s (h ∷ gs)))

-- the first room before room i that may stand for it beside whatever games, the rooms before that one being told apart from it; or that all before it are
abbrev pub Alike : Grid → List (List ℕ) → ℕ → Option ℕ → Type 0
Alike b rs i (Some j) = (j < i) × Same (room_game b (slice_index_or rs j [])) (room_game b (slice_index_or rs i [])) × ((k : ℕ) → k < j → ToldApart (room_game b (slice_index_or rs k [])) (room_game b (slice_index_or rs i [])))
Alike b rs i None = (k : ℕ) → k < i → ToldApart (room_game b (slice_index_or rs k [])) (room_game b (slice_index_or rs i []))

-- an answer about the own forms of rooms, in the words of play: whatever the board, if these are the own forms of its rooms
unfoldable pub AlikeInPlay : List ℕ → ℕ → Option ℕ → Type 0
AlikeInPlay owns i r =
    (b : Grid) (rs : List (List ℕ)) (fs : List Form) (os : List ℕ) (n : ℕ) → Table fs os n → Owns b rs fs os n owns → i < length rs → Alike b rs i r

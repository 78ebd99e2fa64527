-- The planks that a side may lay on a board, tried one after the other.
use Rattle.std.specs.Prelude.{◌≡◌, ℕ, ◌<◌, true, List, length, Some, None, Ok, Err, Option, Result}
use Rattle.board.specs.Grid.{Grid, Side, other}
use Rattle.board.specs.Moves.{may, laid}
use Rattle.board.specs.Rules.{Wins, lay, Says}
use Rattle.rooms.specs.Rooms.{Larger}
use Rattle.rooms.specs.Values.{SmallRooms}
use Rattle.forms.specs.declared.rows.Form.{Form}
use Rattle.sums.specs.declared.row.RowForms.{RowForms}
use Rattle.sums.specs.Held.{Adding}
use Rattle.verdict.specs.Limits.{Over}
use Rattle.verdict.specs.Worths.{WorthAnswer}
use Rattle.verdict.specs.declared.worth.Failure.{Failure}
use Rattle.verdict.specs.declared.worth.Failure.TheVariants.{Count, NoMemory}

-- no room has more than 16 squares
unfoldable pub NotLarge : Grid → Type 0
NotLarge b = (p : ℕ) → Larger 16 b p → ⊥

-- the board has rooms, and none of more than 16 squares
abbrev pub HasSmallRooms : Grid → Type 0
HasSmallRooms b = (rs : List (List ℕ)) × SmallRooms b rs

-- the worth of a board with its rooms
abbrev pub FoundWorth : Grid → Adding → Adding → Result RowForms Failure → Type 0
FoundWorth b s t r = (rs : List (List ℕ)) × WorthAnswer b rs s t r

-- the first place below k after which the other side has lost; or after each the other side wins
unfoldable pub FirstGood : Side → Grid → ℕ → Option ℕ → Type 0
FirstGood s b k (Some p) = Says s b (lay p)
FirstGood s b k None = (p : ℕ) → p < k → may b s p ≡ true → Wins (other s) (laid b s p)

-- the places below k were tried, in a table of as many places as before: no board after a plank there is past the limits
pub record Tried (s : Side) (b : Grid) (k : ℕ) (fs gs : List Form) (found : Option ℕ) : Type 0 where
  pub long : length gs ≡ length fs
  pub within : (p : ℕ) → p < k → may b s p ≡ true → Over (length fs) (laid b s p) → ⊥
  pub first : FirstGood s b k found

-- all places were tried; or the board after one of the planks is past the limits; or memory is wanting
abbrev pub TriedAnswer : Side → Grid → Adding → Adding → Result (Option ℕ) Failure → Type 0
TriedAnswer s b m k (Ok x) = Tried s b (length b.cells) m.table.forms.now k.table.forms.now x
TriedAnswer s b m k (Err Count) = (p : ℕ) × (may b s p ≡ true) × Over (length m.table.forms.now) (laid b s p)
TriedAnswer s b m k (Err NoMemory) = Unit {0}

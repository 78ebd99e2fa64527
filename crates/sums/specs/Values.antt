-- What is asked and answered of the program's table with what it remembers of pairs, and of all lent memory.
use Rattle.std.specs.Prelude.{◌≡◌, ℕ, List, length, Result, Vec}
use Rattle.std.specs.declared.alloc.Global.{Global}
use Rattle.games.specs.Game.{Side, Game}
use Rattle.board.specs.Grid.{Grid}
use Rattle.forms.specs.Values.{SameRows, game_in}
use Rattle.canonical.specs.declared.canonical.Refusal.{Refusal}
use Rattle.sums.specs.Held.{Adding}
use Rattle.sums.specs.declared.memory.Memory.{Memory}
use Rattle.sums.specs.declared.join.RoomJoined.{RoomJoined}
use Rattle.sums.specs.declared.row.RowForms.{RowForms}
use Rattle.sums.specs.Sums.{SummedUp}
use Rattle.sums.specs.Steps.{StepAnswer, RowAnswer}
use Rattle.sums.specs.Pairing.{SumsAnswer}
use Rattle.sums.specs.Rows.{JoinAnswer}
use Rattle.sums.specs.Counting.{RoomsAnswer}

-- they still stand in the rows that were lent, which are as long as they were
pub record SameSums (s t : Adding) : Type 0 where
  pub table : SameRows s.table t.table
  pub pairs : t.pairs.ghost_name ≡ s.pairs.ghost_name
  pub slots : length t.pairs.now ≡ length s.pairs.now

-- so do all rows of the memory
pub record SameMemory (m k : Memory) : Type 0 where
  pub sums : SameSums m.sums k.sums
  pub positions : k.positions.ghost_name ≡ m.positions.ghost_name
  pub sets : length k.positions.now ≡ length m.positions.now

-- the form of the sum of forms x and y
abbrev pub SumOf : Adding → ℕ → ℕ → Adding → Result ℕ Refusal → Type 0
SumOf s x y t r = SummedUp s.table.forms.now s.table.options.now s.table.used x y t.table.forms.now t.table.options.now t.table.used t.pairs.now r

-- the forms of what a side's moves in x make of the sum of forms x and y join a row
abbrev pub StepOf : Side → ℕ → ℕ → Adding → List ℕ → Adding → List ℕ → Result (Unit {0}) Refusal → Type 0
StepOf side x y s row t new r =
    StepAnswer side (game_in s.table x) (game_in s.table y) s.table.forms.now s.table.options.now s.table.used row t.table.forms.now t.table.options.now t.table.used t.pairs.now new r

-- the row of what a side's moves in either make of the sum of forms x and y
abbrev pub RowFor : Side → ℕ → ℕ → Adding → Adding → Result (Vec ℕ Global) Refusal → Type 0
RowFor side x y s t r =
    RowAnswer side (game_in s.table x) (game_in s.table y) s.table.forms.now s.table.options.now s.table.used t.table.forms.now t.table.options.now t.table.used t.pairs.now r

-- the sums of all wanted pairs
abbrev pub SumsOf : (Game → Game → Type 0) → Adding → Adding → Result (Unit {0}) Refusal → Type 0
SumsOf W s t r = SumsAnswer W s.table.forms.now s.table.options.now s.table.used t.table.forms.now t.table.options.now t.table.used t.pairs.now r

-- a room joined to a row whose sum is form k
abbrev pub JoinOf : ℕ → Grid → List ℕ → Adding → Adding → Result RoomJoined Refusal → Type 0
JoinOf k b room s t r = JoinAnswer (game_in s.table k) b room s.table.forms.now s.table.options.now s.table.used t.table.forms.now t.table.options.now t.table.used t.pairs.now r

-- the row of a board's rooms
abbrev pub RoomsOf : Grid → List (List ℕ) → Adding → Adding → Result RowForms Refusal → Type 0
RoomsOf b rooms s t r = RoomsAnswer b rooms s.table.forms.now s.table.options.now s.table.used t.table.forms.now t.table.options.now t.table.used t.pairs.now r

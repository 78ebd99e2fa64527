-- What finding the form of a position answers, and what lent memory holds after.
use Rattle.std.specs.Prelude.{◌≡◌, ℕ, suc, List, length, Ok, Err, vec_items, Result, Vec, slice_index}
use Rattle.std.specs.declared.alloc.Global.{Global}
use Rattle.games.specs.Game.{Game}
use Rattle.board.specs.Grid.{Side}
use Rattle.forms.specs.declared.rows.Form.{Form}
use Rattle.forms.specs.Held.{Lent}
use Rattle.canonical.specs.declared.canonical.Refusal.{Refusal}
use Rattle.canonical.specs.declared.canonical.Refusal.TheVariants.{Full, Wide, NoMemory}
use Rattle.positions.specs.Growing.{Grows, Overfull, IsTooWide}
use Rattle.positions.specs.Memory.{OfSet, Noted, Remembers, Row}
use Rattle.positions.specs.Reach.{Leads}
use Rattle.positions.specs.Values.{room_squares, moves_of, full_of, game_of_set}
use Rattle.positions.specs.declared.room.RoomMoves.{RoomMoves}

-- moves lead to this set from that of all squares of the room
abbrev pub LeadsTo : RoomMoves → ℕ → Type 0
LeadsTo r set = Leads (length (room_squares r)) (moves_of r) (full_of r) set

-- a game is equal to that of a position that moves lead to
abbrev pub KindOf : RoomMoves → Game → Type 0
KindOf r f = OfSet (length (room_squares r)) (moves_of r) (game_of_set r) (full_of r) f

-- what is remembered of the room's positions is right
abbrev pub MemoryOf : RoomMoves → List Form → List ℕ → ℕ → List ℕ → Type 0
MemoryOf r fs os u ps = Remembers (length (room_squares r)) (moves_of r) (game_of_set r) (full_of r) fs os u ps

-- the forms of what a side's moves at the first k squares make of a set
abbrev pub RowOf : RoomMoves → ℕ → Side → ℕ → List Form → List ℕ → ℕ → List ℕ → List ℕ → Type 0
RowOf r set s k fs os u ps row = Row (length (room_squares r)) (moves_of r) (game_of_set r) set s k fs os u ps row

-- the table grew by forms of the room's positions only, what is remembered is right, and nothing was forgotten
pub record Went (r : RoomMoves) (fs : List Form) (os : List ℕ) (n : ℕ) (ps : List ℕ) (gs : List Form) (qs : List ℕ) (u : ℕ) (rs : List ℕ) : Type 0 where
  pub grows : Grows (KindOf r) fs os n gs qs u
  pub memory : MemoryOf r gs qs u rs
  pub stays : (a : ℕ) → Noted ps a → Noted rs a

-- why there is no answer: the table grew by such forms until it was full, and one more is wanted; or one is too wide; or memory is wanting
abbrev pub Failed : RoomMoves → List Form → List ℕ → ℕ → List Form → List ℕ → Refusal → Type 0
Failed r fs os n gs qs Full = Overfull (KindOf r) fs os n gs qs
Failed r fs os n gs qs Wide = IsTooWide (KindOf r)
Failed r fs os n gs qs NoMemory = Unit {0}

-- what is remembered of the room's positions is right for a table
abbrev pub Remembered : RoomMoves → Lent → List ℕ → Type 0
Remembered r t ps = MemoryOf r t.forms.now t.options.now t.used ps

-- the form of a set is found and noted
abbrev pub Formed : RoomMoves → ℕ → Lent → List ℕ → Lent → List ℕ → Result ℕ Refusal → Type 0
Formed r set t ps u rs (Ok k) = Went r t.forms.now t.options.now t.used ps u.forms.now u.options.now u.used rs × (slice_index rs set ≡ suc k)
Formed r set t ps u rs (Err e) = Failed r t.forms.now t.options.now t.used u.forms.now u.options.now e

-- the row of a side's options at a set is found
abbrev pub RowFormed : RoomMoves → ℕ → Side → Lent → List ℕ → Lent → List ℕ → Result (Vec ℕ Global) Refusal → Type 0
RowFormed r set s t ps u rs (Ok row) =
    Went r t.forms.now t.options.now t.used ps u.forms.now u.options.now u.used rs × RowOf r set s (length (room_squares r)) u.forms.now u.options.now u.used rs (vec_items row)
RowFormed r set s t ps u rs (Err e) = Failed r t.forms.now t.options.now t.used u.forms.now u.options.now e

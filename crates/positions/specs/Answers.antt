-- The forms of a room, in the words of the rules: what the boards that planks make of it are worth.
use Rattle.std.specs.Prelude.{◌≡◌, ℕ, suc, ◌<◌, ◌≤◌, List, take, Ok, Err, vec_items, Result, slice_index}
use Rattle.std.specs.List.{ContainsAt as Has}
use Rattle.games.specs.Game.{Game, Reached}
use Rattle.games.specs.Order.{Equal}
use Rattle.board.specs.Grid.{Grid, free_count}
use Rattle.board.specs.Tree.{tree}
use Rattle.rooms.specs.Games.{through}
use Rattle.forms.specs.declared.rows.Form.{Form}
use Rattle.forms.specs.Held.{Lent}
use Rattle.forms.specs.Meaning.{meaning}
use Rattle.forms.specs.Rows.{Rising}
use Rattle.canonical.specs.declared.canonical.Refusal.{Refusal}
use Rattle.canonical.specs.declared.canonical.Refusal.TheVariants.{Full, Wide, NoMemory}
use Rattle.positions.specs.Growing.{Grows, Overfull, IsTooWide}
use Rattle.positions.specs.Reach.{Comes}
use Rattle.positions.specs.declared.all_forms.RoomForms.{RoomForms}

-- the forms that are noted of the first k sets, rising
pub record Listed (ps : List ℕ) (k : ℕ) (row : List ℕ) : Type 0 where
  pub rising : Rising row
  pub from : (w : ℕ) → Has row w → (set : ℕ) × (slice_index ps set ≡ suc w)
  pub all : (set w : ℕ) → set < k → slice_index ps set ≡ suc w → Has row w

-- a game is equal to that of a board which planks of either player, in whatever order, make of the room
abbrev pub PositionOf : Grid → List ℕ → Game → Type 0
PositionOf b qs f = (c : Grid) × Comes (through b qs) c × Equal f (tree (free_count b.cells) c)

-- the form of the room, and the rising list of the forms of all its positions
pub record FormedRoom (b : Grid) (qs : List ℕ) (fs : List Form) (os : List ℕ) (n : ℕ) (gs : List Form) (ps : List ℕ) (own : ℕ) (all : List ℕ) (u : ℕ) : Type 0 where
  pub grows : Grows (PositionOf b qs) fs os n gs ps u
  pub known : own < u
  pub worth : Equal (meaning (take u gs) ps own) (tree (free_count b.cells) (through b qs))
  pub rising : Rising all
  pub right : (w : ℕ) → Has all w → (w < u) × PositionOf b qs (meaning (take u gs) ps w)
  pub whole : (c : Grid) → Comes (through b qs) c → (w : ℕ) × Has all w × Equal (meaning (take u gs) ps w) (tree (free_count b.cells) c)

-- the forms of a room; or the table grew by such forms until it was full, and one more is wanted; or one is too wide; or memory is wanting
abbrev pub RoomAnswer : Grid → List ℕ → Lent → Lent → Result RoomForms Refusal → Type 0
RoomAnswer b qs t u (Ok x) = FormedRoom b qs t.forms.now t.options.now t.used u.forms.now u.options.now x.own (vec_items x.all) u.used
RoomAnswer b qs t u (Err Full) = Overfull (PositionOf b qs) t.forms.now t.options.now t.used u.forms.now u.options.now
RoomAnswer b qs t u (Err Wide) = IsTooWide (PositionOf b qs)
RoomAnswer b qs t u (Err NoMemory) = Unit {0}

-- what the game of a board reaches over options are the games of the boards that planks make of it
unfoldable pub PositionsLaw : Type 0
PositionsLaw =
    (b : Grid) (n : ℕ) → free_count b.cells ≤ n →
    ((c : Grid) → Comes b c → Reached (tree n b) (tree n c)) × ((x : Game) → Reached (tree n b) x → (c : Grid) × Comes b c × (x ≡ tree n c))

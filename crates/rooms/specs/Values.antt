-- What the program's values stand for, and what is answered of a board's rooms.
use Rattle.std.specs.Prelude.{◌≡◌, ℕ, ◌<◌, ◌≤◌, Bool, ◌⊎◌, ◌↔◌, List, [], map, length, Some, None, Ok, Err, Option, Result, slice_index_or}
use Rattle.std.specs.List.{AllByRecursion as Every}
use Rattle.games.specs.Play.{First}
use Rattle.board.specs.Grid.{Grid, Side}
use Rattle.board.specs.Rules.{Wins}
use Rattle.board.specs.declared.refusal.Refusal.{Refusal}
use Rattle.board.specs.declared.refusal.Refusal.TheVariants as refusal
use Rattle.rooms.specs.Few.{items_of}
use Rattle.rooms.specs.Walks.{first}
use Rattle.rooms.specs.Rooms.{Rooms, Many, Larger}
use Rattle.rooms.specs.Games.{games_of}
use Rattle.rooms.specs.Growth.{Ended}
use Rattle.rooms.specs.declared.room.Room.{Room as OneRoom}
use Rattle.rooms.specs.declared.list.Rooms.{Rooms as AllRooms}

-- the squares of a room
unfoldable pub squares_of : OneRoom → List ℕ
squares_of r = items_of r.squares

-- the rooms, each by its squares
unfoldable pub rooms_of : AllRooms → List (List ℕ)
rooms_of x = map squares_of (items_of x.rooms)

-- all that is reached from p, found by a walk; or it is more than 16 squares
unfoldable pub Walked : Grid → ℕ → List Bool → List Bool → Option OneRoom → Type 0
Walked b p old seen None = Many 16 b p
Walked b p old seen (Some r) = Ended b p old seen (squares_of r)

-- the rooms of a board, none of more than 16 squares; and the board and those rooms beside each other are won by the same side
pub record SmallRooms (b : Grid) (rs : List (List ℕ)) : Type 0 where
  pub rooms : Rooms b rs
  pub small : Every (λ r. length r ≤ 16) rs
  pub law : (s : Side) → Wins s b ↔ First s (games_of b rs)

-- a room of more than 16 squares begins at p, and none before
pub record FirstLarger (b : Grid) (p : ℕ) : Type 0 where
  pub large : Larger 16 b p
  pub none_before : (q : ℕ) → q < p → Larger 16 b q → ⊥

-- all rooms, or the refusal of the first that is too large
unfoldable pub Found : Grid → Result AllRooms Refusal → Type 0
Found b (Ok x) = SmallRooms b (rooms_of x)
Found b (Err e) = (p : ℕ) × (e ≡ refusal.Room p) × FirstLarger b p

-- at most 32 rooms; or the refusal of the first that is too large; or, where none is, the refusal of the 33rd
unfoldable pub Judged : Grid → Result AllRooms Refusal → Type 0
Judged b (Ok x) = SmallRooms b (rooms_of x) × (length (rooms_of x) ≤ 32)
Judged b (Err e) =
    ((p : ℕ) × (e ≡ refusal.Room p) × FirstLarger b p)
    ⊎ ((rs : List (List ℕ)) × SmallRooms b rs × (32 < length rs) × (e ≡ refusal.Rooms (first (slice_index_or rs 32 []))))

-- an answer, with its rooms as lists of squares
abbrev pub told : Result AllRooms Refusal → Result (List (List ℕ)) Refusal
told (Ok x) = Ok (rooms_of x)
told (Err e) = Err e

-- one answer fits a board
unfoldable pub OneFound : Type 0
OneFound = (b : Grid) (x y : Result AllRooms Refusal) → Found b x → Found b y → told x ≡ told y

unfoldable pub OneJudged : Type 0
OneJudged = (b : Grid) (x y : Result AllRooms Refusal) → Judged b x → Judged b y → told x ≡ told y

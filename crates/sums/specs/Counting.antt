-- The row of a board's rooms: its sum, the rooms' own forms, and the count.
use Rattle.std.specs.Prelude.{◌≡◌, ℕ, ◌<◌, ◌≤◌, ◌↔◌, List, [], length, take, Ok, Err, vec_items, Result, slice_index, slice_index_or}
use Rattle.games.specs.Game.{Side, Game, empty}
use Rattle.games.specs.Order.{Equal}
use Rattle.games.specs.Count.{Met, Member, Count, Summed, Ahead, Wide}
use Rattle.board.specs.Grid.{Grid}
use Rattle.board.specs.Rules.{Wins}
use Rattle.rooms.specs.Games.{games_of}
use Rattle.forms.specs.declared.rows.Form.{Form}
use Rattle.forms.specs.Meaning.{meaning}
use Rattle.canonical.specs.declared.canonical.Refusal.{Refusal}
use Rattle.canonical.specs.declared.canonical.Refusal.TheVariants.{Full, Wide as TooWide, NoMemory}
use Rattle.positions.specs.Growing.{Grows, Overfull}
use Rattle.sums.specs.Sums.{HoldsRight}
use Rattle.sums.specs.Rows.{room_game}
use Rattle.sums.specs.declared.row.RowForms.{RowForms}

-- for each room its own form
pub record Owns (b : Grid) (rs : List (List ℕ)) (gs : List Form) (ps : List ℕ) (u : ℕ) (owns : List ℕ) : Type 0 where
  pub long : length owns ≡ length rs
  pub known : (i : ℕ) → i < length rs → slice_index owns i < u
  pub worth : (i : ℕ) → i < length rs → Equal (meaning (take u gs) ps (slice_index owns i)) (room_game b (slice_index_or rs i []))

-- the rooms stand in a row: form `sum` is their canonical sum; what is met along the row is in the table, which grew by nothing else
pub record InRow (b : Grid) (rs : List (List ℕ)) (fs : List Form) (os : List ℕ) (n : ℕ) (gs : List Form) (ps : List ℕ) (sum : ℕ) (owns : List ℕ) (u : ℕ) : Type 0 where
  pub grows : Grows (Met empty (games_of b rs)) fs os n gs ps u
  pub known : sum < u
  pub summed : Summed empty (games_of b rs) (meaning (take u gs) ps sum)
  pub whole : (f : Game) → Met empty (games_of b rs) f → (k : ℕ) × (k < u) × Equal f (meaning (take u gs) ps k)
  pub own : Owns b rs gs ps u owns

-- so that sum tells who wins on the board, no form of it is too wide, and its count is at most the number of forms; from a new table it is that number
pub record RowIsFormed (b : Grid) (rs : List (List ℕ)) (fs : List Form) (os : List ℕ) (n : ℕ) (gs : List Form) (ps : List ℕ) (sum : ℕ) (owns : List ℕ) (u : ℕ) : Type 0 where
  pub row : InRow b rs fs os n gs ps sum owns u
  pub tells : (s : Side) → Wins s b ↔ Ahead s (meaning (take u gs) ps sum)
  pub narrow : (f : Game) → Member (games_of b rs) f → Wide 16 f → ⊥
  pub most : (m : ℕ) → Count (games_of b rs) m → m ≤ u
  pub counted : n ≡ 1 → Count (games_of b rs) u

-- the table grew by what is met along the row until it was full, and one more is wanted: from a new table the count is above the number of its places
pub record RowFull (b : Grid) (rs : List (List ℕ)) (fs : List Form) (os : List ℕ) (n : ℕ) (gs : List Form) (ps : List ℕ) : Type 0 where
  pub full : Overfull (Met empty (games_of b rs)) fs os n gs ps
  pub above : n ≡ 1 → (m : ℕ) → Count (games_of b rs) m → length fs < m

-- what the row of rooms answers
abbrev pub RoomsAnswer : Grid → List (List ℕ) → List Form → List ℕ → ℕ → List Form → List ℕ → ℕ → List ℕ → Result RowForms Refusal → Type 0
RoomsAnswer b rs fs os n gs ps u qs (Ok x) = RowIsFormed b rs fs os n gs ps x.sum (vec_items x.owns) u × HoldsRight gs ps u qs
RoomsAnswer b rs fs os n gs ps u qs (Err Full) = RowFull b rs fs os n gs ps
RoomsAnswer b rs fs os n gs ps u qs (Err TooWide) = (f : Game) × Member (games_of b rs) f × Wide 16 f
RoomsAnswer b rs fs os n gs ps u qs (Err NoMemory) = Unit {0}

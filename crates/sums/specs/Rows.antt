-- The rooms of a board beside each other: one room more, and the whole row.
use Rattle.std.specs.Prelude.{ℕ, ◌<◌, List, take, Ok, Err, Result}
use Rattle.games.specs.Game.{Game}
use Rattle.games.specs.Order.{Equal}
use Rattle.games.specs.Count.{Between}
use Rattle.board.specs.Grid.{Grid, free_count}
use Rattle.board.specs.Tree.{tree}
use Rattle.rooms.specs.Games.{through}
use Rattle.forms.specs.declared.rows.Form.{Form}
use Rattle.forms.specs.Meaning.{meaning}
use Rattle.canonical.specs.declared.canonical.Refusal.{Refusal}
use Rattle.positions.specs.Growing.{Grows}
use Rattle.sums.specs.Sums.{Adds, HoldsRight, Stopped}
use Rattle.sums.specs.declared.join.RoomJoined.{RoomJoined}

-- the game of a room
abbrev pub room_game : Grid → List ℕ → Game
room_game b r = tree (free_count b.cells) (through b r)

-- room r is joined to a row whose sum is t: its own form, and the next sum; and all that lies between t and the room is in the table, which grew by nothing else
pub record Joined (t : Game) (b : Grid) (r : List ℕ) (fs : List Form) (os : List ℕ) (n : ℕ) (gs : List Form) (ps : List ℕ) (own sum u : ℕ) : Type 0 where
  pub grows : Grows (Between t (room_game b r)) fs os n gs ps u
  pub known : own < u
  pub worth : Equal (meaning (take u gs) ps own) (room_game b r)
  pub low : sum < u
  pub adds : Adds t (room_game b r) (meaning (take u gs) ps sum)
  pub whole : (f : Game) → Between t (room_game b r) f → (k : ℕ) × (k < u) × Equal f (meaning (take u gs) ps k)

-- the room joined, or why it is not
abbrev pub JoinAnswer : Game → Grid → List ℕ → List Form → List ℕ → ℕ → List Form → List ℕ → ℕ → List ℕ → Result RoomJoined Refusal → Type 0
JoinAnswer t b r fs os n gs ps u rs (Ok x) = Joined t b r fs os n gs ps x.own x.sum u × HoldsRight gs ps u rs
JoinAnswer t b r fs os n gs ps u rs (Err e) = Stopped (Between t (room_game b r)) fs os n gs ps e

-- The rooms of a board, in the words of the rules, and rooms that are too large.
use Rattle.std.specs.Prelude.{◌≡◌, ℕ, ◌<◌, ◌≤◌, true, ◌↔◌, List, length}
use Rattle.std.specs.List.{ContainsAt as Has, AllByRecursion as Every}
use Rattle.board.specs.Grid.{Grid, free, Next}
use Rattle.rooms.specs.Walks.{Walk, Rise, Apart, first}

-- at least two free squares, in rising order, each reached from the others, with no free neighbour outside
pub record Room (b : Grid) (qs : List ℕ) : Type 0 where
  pub rising : Rise (λ q. q) qs
  pub two : 2 ≤ length qs
  pub inside : (p : ℕ) → Has qs p → free b p ≡ true
  pub linked : (p q : ℕ) → Has qs p → Has qs q → Walk b p q
  pub closed : (p q : ℕ) → Has qs p → Next b p q → free b q ≡ true → Has qs q

-- the rooms in the order of their first squares, and all of them: a free square with a free neighbour lies in one
pub record Rooms (b : Grid) (rs : List (List ℕ)) : Type 0 where
  pub each : Every (Room b) rs
  pub whole : (p q : ℕ) → free b p ≡ true → free b q ≡ true → Next b p q → (r : List ℕ) × Has rs r × Has r p
  pub rising : Rise first rs

-- no other list fits
unfoldable pub OneList : Type 0
OneList = (b : Grid) (rs qs : List (List ℕ)) → Rooms b rs → Rooms b qs → rs ≡ qs

-- more than n squares are reached from p
pub record Many (n : ℕ) (b : Grid) (p : ℕ) : Type 0 where
  pub squares : List ℕ
  pub more : n < length squares
  pub apart : Apart squares
  pub reached : Every (Walk b p) squares

-- p is the first of the squares that are reached from it, and those are more than n
pub record Larger (n : ℕ) (b : Grid) (p : ℕ) : Type 0 where
  pub start : free b p ≡ true
  pub least : (q : ℕ) → Walk b p q → p ≤ q
  pub many : Many n b p

-- in the list of rooms that is a room of more than n squares whose first square is p, and each such room is one
unfoldable pub LargerLaw : Type 0
LargerLaw =
    (n : ℕ) (b : Grid) (rs : List (List ℕ)) → 1 ≤ n → Rooms b rs → (p : ℕ) →
    Larger n b p ↔ ((r : List ℕ) × Has rs r × (n < length r) × (first r ≡ p))

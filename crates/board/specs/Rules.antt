-- Who makes the last move, and the verdict that the rules give.
use Rattle.std.specs.Prelude.{◌≡◌, ℕ, ◌<◌, true, ◌⊎◌, ◌≢◌}
use Rattle.board.specs.Grid.{Grid, Side, other}
use Rattle.board.specs.Moves.{may, laid}

-- the players move in turn, and who is to move and may not has lost
mutual
  -- s, to move on b, makes the last move: some move leaves the other side lost
  pub data Wins : Side → Grid → Type 0 where
    by : {s : Side} {b : Grid} (p : ℕ) → may b s p ≡ true → Loses (other s) (laid b s p) → Wins s b

  -- s, to move on b, does not: whatever it lays, the other side wins
  pub data Loses : Side → Grid → Type 0 where
    whatever : {s : Side} {b : Grid} → ((p : ℕ) → may b s p ≡ true → Wins (other s) (laid b s p)) → Loses s b

-- what a judge answers: a place to lay at, or that the side to move has lost
pub data Answer : Type 0 where
  lay : ℕ → Answer
  lost : Answer

-- laying at p leaves the other side, to move, lost
abbrev pub Good : Side → Grid → ℕ → Type 0
Good s b p = (may b s p ≡ true) × Loses (other s) (laid b s p)

-- the whole verdict for side s to move on board b: the first place in reading order after which the other side has lost, or lost where there is none
unfoldable pub Says : Side → Grid → Answer → Type 0
Says s b (lay p) = Good s b p × ((q : ℕ) → q < p → Good s b q → ⊥)
Says s b lost = Loses s b

-- one answer fits, and there always is one
unfoldable pub OneAnswer : Type 0
OneAnswer = (s : Side) (b : Grid) → (x : Answer) × Says s b x × ((y : Answer) → Says s b y → x ≡ y)

-- the side to move wins or has lost, and never both
unfoldable pub OneOutcome : Type 0
OneOutcome = (s : Side) (b : Grid) → (Wins s b ⊎ Loses s b) × (Wins s b → Loses s b → ⊥)

-- s may lay nowhere
abbrev pub Stuck : Side → Grid → Type 0
Stuck s b = (p : ℕ) → may b s p ≢ true

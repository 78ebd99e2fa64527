-- What the referee answers: the planks of a record laid in turn, and how the game stands after them.
use Rattle.std.specs.Prelude.{◌≡◌, ℕ, ◌+◌, List, [], ◌∷◌, Ok, Err, Result}
use Rattle.board.specs.Grid.{Grid, Side, other, pick}
use Rattle.board.specs.Moves.{may, laid}
use Rattle.board.specs.Reading.{Read, refused, holds, record_read, places_in}
use Rattle.board.specs.Rules.{Stuck}
use Rattle.board.specs.Values.{side_of, grid_of}
use Rattle.board.specs.declared.read.Setup.{Setup}
use Rattle.board.specs.declared.refusal.Refusal.{Refusal}
use Rattle.board.specs.declared.refusal.Refusal.TheVariants.{Plank}
use Rattle.rooms.specs.declared.list.Rooms.{Rooms}
use Rattle.verdict.specs.Judging.{Judged}
use Rattle.referee.specs.declared.outcome.Outcome.{Outcome}
use Rattle.referee.specs.declared.outcome.Outcome.TheVariants.{LastMove, Open}

-- where a row of planks leads: to a board with a side to move; or to a refusal, at the first plank that may not be laid
pub data Played : Type 0 where
  stopped : Refusal → Played
  ends : Side → Grid → Played

-- the planks are laid in turn, and i have been laid so far
abbrev pub played : ℕ → Side → Grid → List ℕ → Played
played i s b [] = ends s b
played i s b (p ∷ ps) = pick (may b s p) (played (i + 1) (other s) (laid b s p) ps) (stopped (Plank i))

-- what the program's answer says
abbrev pub played_by : Result Setup Refusal → Played
played_by (Ok x) = ends (side_of x.side) (grid_of x.board)
played_by (Err e) = stopped e

-- how the game stands with s to move on b: the other side made the last move exactly if s may lay nowhere; else it is judged
abbrev pub Ended : Side → Grid → Result Outcome Refusal → Type 0
Ended s b (Ok (LastMove t)) = Stuck s b × (side_of t ≡ other s)
Ended s b (Ok (Open x)) = (Stuck s b → ⊥) × ((rs : Rooms) × Judged s b (Ok (record { rooms = rs; said = x })))
Ended s b (Err e) = (Stuck s b → ⊥) × Judged s b (Err e)

abbrev pub AfterPlay : Played → Result Outcome Refusal → Type 0
AfterPlay (stopped e) r = r ≡ Err e
AfterPlay (ends s b) r = Ended s b r

abbrev pub AfterRead : Read → List ℕ → Result Outcome Refusal → Type 0
AfterRead (refused e) ps r = r ≡ Err e
AfterRead (holds s b) ps r = AfterPlay (played 0 s b ps) r

-- the whole answer for a record: the checks of the file, then the planks, then how the game stands
unfoldable pub Followed : List ℕ → Result Outcome Refusal → Type 0
Followed bs r = AfterRead (record_read bs) (places_in bs) r

unfoldable pub OneFollowing : Type 0
OneFollowing = (bs : List ℕ) (x y : Result Outcome Refusal) → Followed bs x → Followed bs y → x ≡ y

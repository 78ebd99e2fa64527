-- What the judge answers, and when it refuses.
use Rattle.std.specs.Prelude.{◌≡◌, ℕ, ◌<◌, ◌≤◌, ◌⊎◌, List, Ok, Err, Result}
use Rattle.board.specs.Grid.{Grid, Side, free_count}
use Rattle.board.specs.Reading.{Read, refused, holds, board_read}
use Rattle.board.specs.Values.{side_of}
use Rattle.board.specs.Rules.{Answer, lay, lost, Says}
use Rattle.board.specs.declared.refusal.Refusal.{Refusal}
use Rattle.board.specs.declared.refusal.Refusal.TheVariants.{Count}
use Rattle.rooms.specs.Values.{rooms_of, Judged as RoomsJudged}
use Rattle.rooms.specs.declared.list.Rooms.{Rooms}
use Rattle.verdict.specs.declared.judge.Judgement.{Judgement}
use Rattle.verdict.specs.declared.verdict.Said.{Said}
use Rattle.verdict.specs.declared.verdict.Verdict.{Verdict}
use Rattle.verdict.specs.declared.verdict.Verdict.TheVariants.{WinsAt, Lost}

-- a verdict as an answer of the rules
abbrev pub answer_of : Verdict → Answer
answer_of (WinsAt p) = lay p
answer_of Lost = lost

-- what is said of board b with side s to move is the answer that the rules give
pub record Right (s : Side) (b : Grid) (x : Said) : Type 0 where
  pub few : free_count b.cells ≤ 20
  pub side : side_of x.side ≡ s
  pub says : Says s b (answer_of x.verdict)

-- the board's rooms and the verdict; or the refusal of its rooms; or, where they are fine, that of the count, exactly if there are more than 20 free squares
unfoldable pub Judged : Side → Grid → Result Judgement Refusal → Type 0
Judged s b (Ok x) = RoomsJudged b (Ok x.rooms) × Right s b x.said
Judged s b (Err e) = RoomsJudged b (Err e) ⊎ ((rs : Rooms) × RoomsJudged b (Ok rs) × (20 < free_count b.cells) × (e ≡ Count))

-- what an answer tells: the rooms by their squares, and what is said; or the refusal
pub data Heard : Type 0 where
  judged : List (List ℕ) → Said → Heard
  turned_away : Refusal → Heard

abbrev pub heard : Result Judgement Refusal → Heard
heard (Ok x) = judged (rooms_of x.rooms) x.said
heard (Err e) = turned_away e

unfoldable pub OneJudgement : Type 0
OneJudgement = (s : Side) (b : Grid) (x y : Result Judgement Refusal) → Judged s b x → Judged s b y → heard x ≡ heard y

abbrev pub AfterRead : Read → Result Judgement Refusal → Type 0
AfterRead (refused e) r = r ≡ Err e
AfterRead (holds s b) r = Judged s b r

-- the whole answer for a board file: the checks of the file, then the judgement of what it holds
unfoldable pub JudgedFile : List ℕ → Result Judgement Refusal → Type 0
JudgedFile bs r = AfterRead (board_read bs) r

unfoldable pub OneFileJudgement : Type 0
OneFileJudgement = (bs : List ℕ) (x y : Result Judgement Refusal) → JudgedFile bs x → JudgedFile bs y → heard x ≡ heard y

-- What a board is worth: the form that tells who wins on it.
use Rattle.std.specs.Prelude.{◌≡◌, ℕ, ◌<◌, Bool, ◌↔◌, List, length, take, Ok, Err, vec_items, MatchBool, Result}
use Rattle.games.specs.Game.{Game}
use Rattle.games.specs.Count.{Ahead}
use Rattle.board.specs.Grid.{Grid, Side}
use Rattle.board.specs.Rules.{Wins, Loses}
use Rattle.forms.specs.declared.rows.Form.{Form}
use Rattle.forms.specs.Meaning.{meaning}
use Rattle.forms.specs.Links.{Table}
use Rattle.canonical.specs.declared.canonical.Refusal.{Refusal}
use Rattle.canonical.specs.declared.canonical.Refusal.TheVariants.{Full, Wide, NoMemory as Short}
use Rattle.sums.specs.Counting.{Owns}
use Rattle.sums.specs.Sums.{HoldsRight}
use Rattle.sums.specs.declared.row.RowForms.{RowForms}
use Rattle.sums.specs.Held.{Adding}
use Rattle.verdict.specs.Limits.{Over}
use Rattle.verdict.specs.declared.worth.Failure.{Failure}
use Rattle.verdict.specs.declared.worth.Failure.TheVariants.{Count, NoMemory}

-- comparing game t with the empty game tells who wins on the board, whoever is to move
abbrev pub Tells : Grid → Game → Type 0
Tells b t = (s : Side) → Wins s b ↔ Ahead s t

-- form `sum` of a table of u forms tells of board b, `owns` are the forms of its rooms, what is remembered of pairs is right, and b is within the limits
pub record Worth (b : Grid) (rs : List (List ℕ)) (fs gs : List Form) (ps qs : List ℕ) (sum : ℕ) (owns : List ℕ) (u : ℕ) : Type 0 where
  pub table : Table gs ps u
  pub long : length gs ≡ length fs
  pub pairs : HoldsRight gs ps u qs
  pub known : sum < u
  pub tells : Tells b (meaning (take u gs) ps sum)
  pub own : Owns b rs gs ps u owns
  pub within : Over (length fs) b → ⊥

-- what the worth of a board is answered to be; or that the board is past the limits; or that memory is wanting
abbrev pub WorthAnswer : Grid → List (List ℕ) → Adding → Adding → Result RowForms Failure → Type 0
WorthAnswer b rs s t (Ok x) = Worth b rs s.table.forms.now t.table.forms.now t.table.options.now t.pairs.now x.sum (vec_items x.owns) t.table.used
WorthAnswer b rs s t (Err Count) = Over (length s.table.forms.now) b
WorthAnswer b rs s t (Err NoMemory) = Unit {0}

-- what a refusal from a table of one form says of the board
abbrev pub failure_of : Refusal → Failure
failure_of Full = Count
failure_of Wide = Count
failure_of Short = NoMemory

-- on every board that game t tells of, the side to move has lost, or else wins
abbrev pub LostAnswer : Side → Game → Bool → Type 0
LostAnswer s t r = (b : Grid) → Tells b t → MatchBool r (Loses s b) (Wins s b)

-- Where the rows of forms lie in the lent memory, and rows that rise.
use Rattle.std.specs.Prelude.{ℕ, ◌+◌, ◌*◌, ◌<◌, true, false, List, [], ◌∷◌, None, take, drop, slice_index_or}
use Rattle.std.specs.List.{AllByRecursion as Every}
use Rattle.games.specs.Game.{Side}
use Rattle.forms.specs.declared.rows.Form.{Form}

-- what stands at a number past the end
abbrev pub blank : Form
blank = record { upright = 0; flat = 0; head = None; next = None }

-- how many options a form has for a side
abbrev pub many : Side → Form → ℕ
many true f = f.upright
many false f = f.flat

-- where the options of form k for a side begin
abbrev pub place : Side → ℕ → ℕ
place true k = 32 * k
place false k = 32 * k + 16

-- the options of form k for a side
unfoldable pub row_of : List Form → List ℕ → Side → ℕ → List ℕ
row_of fs os s k = take (many s (slice_index_or fs k blank)) (drop (place s k) os)

-- each number is below all that follow it
abbrev pub Rising : List ℕ → Type 0
Rising [] = Unit {0}
Rising (x ∷ xs) = Every (λ y. x < y) xs × Rising xs

-- of two rows that of a side
abbrev pub row_for : Side → List ℕ → List ℕ → List ℕ
row_for true us ls = us
row_for false us ls = ls

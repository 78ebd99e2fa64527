-- What a look-up answers, and what a table is after it has grown. All speak of the rows in use.
use Rattle.std.specs.Prelude.{◌≡◌, ℕ, ◌*◌, ◌<◌, ◌≤◌, ◌⊎◌, List, length, Some, None, Option}
use Rattle.games.specs.Game.{Side}
use Rattle.games.specs.Canonical.{Canonical}
use Rattle.forms.specs.declared.rows.Form.{Form}
use Rattle.forms.specs.Rows.{row_of, row_for, Rising}
use Rattle.forms.specs.Meaning.{meaning, given}
use Rattle.forms.specs.Soundness.{Known}
use Rattle.forms.specs.Links.{Table}

-- form k has these two rows
abbrev pub IsRow : List Form → List ℕ → List ℕ → List ℕ → ℕ → Type 0
IsRow fs os us ls k = (s : Side) → row_of fs os s k ≡ row_for s us ls

-- no form has them
abbrev pub Absent : List Form → List ℕ → List ℕ → List ℕ → Type 0
Absent fs os us ls = (k : ℕ) → k < length fs → IsRow fs os us ls k → ⊥

-- what a look-up answers: the form that has these rows, or that none has them
abbrev pub Found : List Form → List ℕ → List ℕ → List ℕ → Option ℕ → Type 0
Found fs os us ls (Some k) = (k < length fs) × IsRow fs os us ls k
Found fs os us ls None = Absent fs os us ls

-- two rows that may be added
pub record Fresh (fs : List Form) (os us ls : List ℕ) : Type 0 where
  pub few : (s : Side) → length (row_for s us ls) ≤ 16
  pub known : (s : Side) → Known fs (row_for s us ls)
  pub rising : (s : Side) → Rising (row_for s us ls)
  pub canonical : Canonical (given fs os us ls)
  pub absent : Absent fs os us ls

-- the forms of a table are in another, with the same rows and the same games
pub record Kept (fs : List Form) (os : List ℕ) (gs : List Form) (ps : List ℕ) : Type 0 where
  pub longer : length fs ≤ length gs
  pub rows : (s : Side) (k : ℕ) → k < length fs → row_of gs ps s k ≡ row_of fs os s k
  pub games : (k : ℕ) → k < length fs → meaning gs ps k ≡ meaning fs os k

-- no table can be begun: there is no form, there are too many, or too few options for them
abbrev pub NoTable : List Form → List ℕ → Type 0
NoTable fs os = (length fs ≡ 0) ⊎ ((16384 < length fs) ⊎ (length os < 32 * length fs))

-- what beginning a table answers: a table of one form; or none exactly if none can be begun, and nothing is changed
abbrev pub Started : List Form → List ℕ → List Form → Option ℕ → Type 0
Started fs os gs (Some n) = (n ≡ 1) × Table gs os 1
Started fs os gs None = (gs ≡ fs) × NoTable fs os

-- a table of one form is begun, whatever row has room for the options of all forms
abbrev pub Begun : List Form → ℕ → Type 0
Begun gs n = (n ≡ 1) × ((os : List ℕ) → 32 * length gs ≤ length os → Table gs os 1)

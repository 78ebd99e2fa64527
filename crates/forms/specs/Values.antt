-- What is said of forms that are read, of two rows of forms, and of a table.
use Rattle.std.specs.Prelude.{◌≡◌, ℕ, List, Option, None, Some, length, take}
use Rattle.std.specs.Borrow.{MutBor}
use Rattle.games.specs.Game.{Game}
use Rattle.forms.specs.declared.rows.Form.{Form}
use Rattle.forms.specs.declared.rows.Rows.{Rows}
use Rattle.forms.specs.Held.{Read, Lent}
use Rattle.forms.specs.Meaning.{meaning, given}
use Rattle.forms.specs.Soundness.{Sound}
use Rattle.forms.specs.Links.{Table}
use Rattle.forms.specs.Growth.{Kept, NoTable}

-- forms that are read are sound
abbrev pub IsSound : Read → Type 0
IsSound f = Sound f.forms f.options

-- the game of form k of them
abbrev pub game_of : Read → ℕ → Game
game_of f k = meaning f.forms f.options k

-- the game that two rows of them give
abbrev pub game_by : Read → Rows → Game
game_by f r = given f.forms f.options r.upright.now r.flat.now

-- the forms in use of a table
abbrev pub in_use : Lent → List Form
in_use t = take t.used t.forms.now

-- the game of form k in use
abbrev pub game_in : Lent → ℕ → Game
game_in t k = meaning (in_use t) t.options.now k

-- the game that two rows of forms in use give
abbrev pub game_from : Lent → Rows → Game
game_from t r = given (in_use t) t.options.now r.upright.now r.flat.now

-- lent rows hold a table
abbrev pub IsTable : Lent → Type 0
IsTable t = Table t.forms.now t.options.now t.used

-- a table still stands in the rows that were lent, which are as long as they were
pub record SameRows (t u : Lent) : Type 0 where
  pub forms : u.forms.ghost_name ≡ t.forms.ghost_name
  pub options : u.options.ghost_name ≡ t.options.ghost_name
  pub places : length u.forms.now ≡ length t.forms.now
  pub space : length u.options.now ≡ length t.options.now

-- so it does, it was and is a table, and what was in use is as it was
pub record Stays (t u : Lent) : Type 0 where
  pub before : IsTable t
  pub after : IsTable u
  pub rows : SameRows t u
  pub kept : Kept (in_use t) t.options.now (in_use u) u.options.now

-- a new table of one form stands in these rows; or none exactly if none can be begun in them
abbrev pub BegunIn : MutBor (List Form) → MutBor (List ℕ) → Option Lent → Type 0
BegunIn f o (Some t) =
    (t.used ≡ 1)
    × (t.forms.ghost_name ≡ f.ghost_name)
    × (t.options.ghost_name ≡ o.ghost_name)
    × (length t.forms.now ≡ length f.now)
    × (length t.options.now ≡ length o.now)
BegunIn f o None = NoTable f.now o.now

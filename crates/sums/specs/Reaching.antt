-- The forms that are reached from a form.
use Rattle.std.specs.Prelude.{◌≡◌, ℕ, ◌<◌, Bool, true, false, ◌⊎◌, ◌↔◌, List, length, slice_index_or}
use Rattle.std.specs.List.{ContainsAt as Has}
use Rattle.games.specs.Game.{Game, Reached}
use Rattle.forms.specs.declared.rows.Form.{Form}
use Rattle.forms.specs.Meaning.{meaning}
use Rattle.forms.specs.Rows.{Rising}

-- number w is marked
abbrev pub Marked : List Bool → ℕ → Type 0
Marked marks w = slice_index_or marks w false ≡ true

-- the numbers of a row were marked besides those that were
pub record MarksRow (old : List Bool) (row : List ℕ) (new : List Bool) : Type 0 where
  pub long : length new ≡ length old
  pub stays : (w : ℕ) → Marked old w → Marked new w
  pub has : (w : ℕ) → Has row w → Marked new w
  pub only : (w : ℕ) → Marked new w → Marked old w ⊎ Has row w

-- the marked numbers, rising
pub record ListsMarked (marks : List Bool) (row : List ℕ) : Type 0 where
  pub rising : Rising row
  pub whole : (w : ℕ) → Has row w ↔ Marked marks w

-- the rising list of all forms that are reached from form t over options of either player, t itself among them
pub record Reaches (fs : List Form) (os : List ℕ) (t : ℕ) (row : List ℕ) : Type 0 where
  pub rising : Rising row
  pub right : (w : ℕ) → Has row w → (w < length fs) × Reached (meaning fs os t) (meaning fs os w)
  pub whole : (g : Game) → Reached (meaning fs os t) g → (w : ℕ) × Has row w × (meaning fs os w ≡ g)

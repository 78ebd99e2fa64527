-- When rows of forms are sound.
use Rattle.std.specs.Prelude.{◌≡◌, ℕ, ◌*◌, ◌<◌, ◌≤◌, List, length, slice_index_or}
use Rattle.std.specs.List.{AllByRecursion as Every}
use Rattle.games.specs.Game.{Side}
use Rattle.games.specs.Canonical.{Canonical}
use Rattle.forms.specs.declared.rows.Form.{Form}
use Rattle.forms.specs.Rows.{blank, many, row_of, Rising}
use Rattle.forms.specs.Meaning.{meaning}

-- every form has its 32 places, at most 16 options for each player, rising and below itself; it is canonical, and no two have the same rows
pub record Sound (fs : List Form) (os : List ℕ) : Type 0 where
  pub room : 32 * length fs ≤ length os
  pub few : (s : Side) (k : ℕ) → k < length fs → many s (slice_index_or fs k blank) ≤ 16
  pub below : (s : Side) (k : ℕ) → k < length fs → Every (λ x. x < k) (row_of fs os s k)
  pub rising : (s : Side) (k : ℕ) → k < length fs → Rising (row_of fs os s k)
  pub canonical : (k : ℕ) → k < length fs → Canonical (meaning fs os k)
  pub apart : (j k : ℕ) → j < length fs → k < length fs → ((s : Side) → row_of fs os s j ≡ row_of fs os s k) → j ≡ k

-- a row of forms of a table
abbrev pub Known : List Form → List ℕ → Type 0
Known fs xs = Every (λ x. x < length fs) xs

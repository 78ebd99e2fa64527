-- Laws of sound rows.
use Rattle.std.specs.Prelude.{◌≡◌, ℕ, ◌<◌, ◌↔◌, List, length}
use Rattle.games.specs.Game.{empty}
use Rattle.games.specs.Order.{Equal}
use Rattle.forms.specs.declared.rows.Form.{Form}
use Rattle.forms.specs.Meaning.{meaning}
use Rattle.forms.specs.Soundness.{Sound}

-- two forms are equal exactly if they are the same number
unfoldable pub OneNumber : Type 0
OneNumber =
    (fs : List Form) (os : List ℕ) → Sound fs os → (j k : ℕ) → j < length fs → k < length fs → Equal (meaning fs os j) (meaning fs os k) ↔ (j ≡ k)

-- form 0 is the empty game
unfoldable pub FirstEmpty : Type 0
FirstEmpty = (fs : List Form) (os : List ℕ) → Sound fs os → 0 < length fs → meaning fs os 0 ≡ empty

-- Rows of forms that serve for the options of a game.
use Rattle.std.specs.Prelude.{◌≡◌, ℕ, ◌<◌, ◌⊎◌, List, length}
use Rattle.std.specs.List.{ContainsAt as Has}
use Rattle.games.specs.Game.{Side, other, Game, options, In}
use Rattle.games.specs.Order.{Worse, NotWorse}
use Rattle.games.specs.Canonical.{Canonical}
use Rattle.forms.specs.declared.rows.Form.{Form}
use Rattle.forms.specs.Rows.{Rising, row_for}
use Rattle.forms.specs.Meaning.{meaning, given}
use Rattle.forms.specs.Soundness.{Known}

-- a row after a number was put in
pub record Inserted (row : List ℕ) (x : ℕ) (new : List ℕ) : Type 0 where
  pub rising : Rising new
  pub stays : (w : ℕ) → Has row w → Has new w
  pub has : Has new x
  pub only : (w : ℕ) → Has new w → Has row w ⊎ (w ≡ x)

-- a row of forms fit to be options of side s in a game equal to g: none is as good as g, and none reversible
pub record Fit (fs : List Form) (os : List ℕ) (s : Side) (g : Game) (row : List ℕ) : Type 0 where
  pub rising : Rising row
  pub known : (w : ℕ) → Has row w → w < length fs
  pub allowed : (w : ℕ) → Has row w → NotWorse s g (meaning fs os w)
  pub firm : (w : ℕ) → Has row w → (y : Game) → In y (options (other s) (meaning fs os w)) → NotWorse s y g

-- a row serves for x: whatever game has it, or better, and nothing for the other side that is as good as g, is as good as with x
abbrev pub Serves : List Form → List ℕ → Side → Game → List ℕ → Game → Type 0
Serves fs os s g row x =
    (k : Game) → ((r : Game) → In r (options (other s) k) → NotWorse s r g) → ((w : ℕ) → Has row w → NotWorse s k (meaning fs os w)) → NotWorse s k x

-- a row after a form was kept in it, or what serves for it
pub record Passed (fs : List Form) (os : List ℕ) (s : Side) (g : Game) (row : List ℕ) (x : ℕ) (new : List ℕ) : Type 0 where
  pub fit : Fit fs os s g new
  pub stays : (w : ℕ) → Has row w → Has new w
  pub serves : Serves fs os s g new (meaning fs os x)

-- a row that serves for all options of side s in g
pub record Bypassed (fs : List Form) (os : List ℕ) (s : Side) (g : Game) (row : List ℕ) : Type 0 where
  pub fit : Fit fs os s g row
  pub serves : (x : Game) → In x (options s g) → Serves fs os s g row x

-- a row without its dominated forms
pub record Thinned (fs : List Form) (os : List ℕ) (s : Side) (row thin : List ℕ) : Type 0 where
  pub rising : Rising thin
  pub from : (w : ℕ) → Has thin w → Has row w
  pub cover : (w : ℕ) → Has row w → (v : ℕ) × Has thin v × Worse s (meaning fs os w) (meaning fs os v)
  pub apart : (x y : ℕ) → Has thin x → Has thin y → Worse s (meaning fs os x) (meaning fs os y) → x ≡ y

-- the options of side s in the canonical form of g
pub record Reduced (fs : List Form) (os : List ℕ) (s : Side) (g : Game) (row : List ℕ) : Type 0 where
  pub fit : Fit fs os s g row
  pub serves : (x : Game) → In x (options s g) → Serves fs os s g row x
  pub apart : (x y : ℕ) → Has row x → Has row y → Worse s (meaning fs os x) (meaning fs os y) → x ≡ y

-- two rows that are those of a canonical game
pub record Reduction (fs : List Form) (os us ls : List ℕ) : Type 0 where
  pub known : (s : Side) → Known fs (row_for s us ls)
  pub rising : (s : Side) → Rising (row_for s us ls)
  pub canonical : Canonical (given fs os us ls)

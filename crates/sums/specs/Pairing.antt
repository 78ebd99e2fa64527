-- The sums of pairs of forms, all in one table.
use Rattle.std.specs.Prelude.{◌≡◌, ℕ, ◌<◌, List, take, Ok, Err, Result}
use Rattle.std.specs.List.{ContainsAt as Has}
use Rattle.games.specs.Game.{Game}
use Rattle.games.specs.Count.{Between}
use Rattle.forms.specs.declared.rows.Form.{Form}
use Rattle.forms.specs.Meaning.{meaning}
use Rattle.canonical.specs.declared.canonical.Refusal.{Refusal}
use Rattle.positions.specs.Growing.{Grows}
use Rattle.sums.specs.Sums.{Adds, HoldsRight, Stopped}

-- a game lies between the two of a wanted pair
abbrev pub OfPairs : (Game → Game → Type 0) → Game → Type 0
OfPairs W f = (x : Game) × (y : Game) × W x y × Between x y f

-- form x and one of a row
abbrev pub BesideRow : List Form → List ℕ → ℕ → ℕ → List ℕ → Game → Game → Type 0
BesideRow fs os n x ys g h = (y : ℕ) × Has ys y × (g ≡ meaning (take n fs) os x) × (h ≡ meaning (take n fs) os y)

-- one of a row and one of another
abbrev pub BesideRows : List Form → List ℕ → ℕ → List ℕ → List ℕ → Game → Game → Type 0
BesideRows fs os n xs ys g h = (x : ℕ) × Has xs x × BesideRow fs os n x ys g h

-- the sum of each wanted pair is in the table, which grew only by what lies between the two of such a pair
pub record SumsAll (W : Game → Game → Type 0) (fs : List Form) (os : List ℕ) (n : ℕ) (gs : List Form) (qs : List ℕ) (u : ℕ) : Type 0 where
  pub grows : Grows (OfPairs W) fs os n gs qs u
  pub whole : (x y : Game) → W x y → (k : ℕ) × (k < u) × Adds x y (meaning (take u gs) qs k)

-- all those sums are found, and what is remembered is right; or why they are not
abbrev pub SumsAnswer : (Game → Game → Type 0) → List Form → List ℕ → ℕ → List Form → List ℕ → ℕ → List ℕ → Result (Unit {0}) Refusal → Type 0
SumsAnswer W fs os n gs qs u rs (Ok _) = SumsAll W fs os n gs qs u × HoldsRight gs qs u rs
SumsAnswer W fs os n gs qs u rs (Err e) = Stopped (OfPairs W) fs os n gs qs e

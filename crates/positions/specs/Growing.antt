-- A table that grows by forms of some kind only; and how that can fail.
use Rattle.std.specs.Prelude.{◌≡◌, ℕ, ◌<◌, ◌≤◌, List, length, take}
use Rattle.games.specs.Game.{Game}
use Rattle.games.specs.Order.{Equal}
use Rattle.games.specs.Canonical.{Canonical}
use Rattle.games.specs.Count.{Wide}
use Rattle.forms.specs.declared.rows.Form.{Form}
use Rattle.forms.specs.Meaning.{meaning}
use Rattle.forms.specs.Links.{Table}
use Rattle.forms.specs.Growth.{Kept}

-- a table grew from n forms to u: the old ones are as they were, and each new one is of the kind B
pub record Grows (B : Game → Type 0) (fs : List Form) (os : List ℕ) (n : ℕ) (gs : List Form) (ps : List ℕ) (u : ℕ) : Type 0 where
  pub table : Table gs ps u
  pub long : length gs ≡ length fs
  pub kept : Kept (take n fs) os (take u gs) ps
  pub new : (k : ℕ) → n ≤ k → k < u → B (meaning (take u gs) ps k)

-- it grew until it was full, and some game of the kind is equal to none of its forms
pub record Overfull (B : Game → Type 0) (fs : List Form) (os : List ℕ) (n : ℕ) (gs : List Form) (ps : List ℕ) : Type 0 where
  pub grows : Grows B fs os n gs ps (length fs)
  pub game : Game
  pub kind : B game
  pub apart : (k : ℕ) → k < length fs → Equal game (meaning (take (length fs) gs) ps k) → ⊥

-- some canonical game of the kind has more than 16 options for a player
pub record IsTooWide (B : Game → Type 0) : Type 0 where
  pub form : Game
  pub canonical : Canonical form
  pub kind : B form
  pub wide : Wide 16 form

-- The rows from which the form of a sum is made.
use Rattle.std.specs.Prelude.{ℕ, ◌<◌, ◌⊎◌, List, take, Ok, Err, vec_items, Result, Vec}
use Rattle.std.specs.declared.alloc.Global.{Global}
use Rattle.std.specs.List.{ContainsAt as Has}
use Rattle.games.specs.Game.{Side, Game, options, In}
use Rattle.games.specs.Count.{Between}
use Rattle.forms.specs.declared.rows.Form.{Form}
use Rattle.forms.specs.Rows.{Rising}
use Rattle.forms.specs.Meaning.{meaning}
use Rattle.canonical.specs.declared.canonical.Refusal.{Refusal}
use Rattle.positions.specs.Growing.{Grows}
use Rattle.sums.specs.Sums.{Adds, HoldsRight, Stopped}

-- a rising row of forms in use
pub record RowKnown (n : ℕ) (row : List ℕ) : Type 0 where
  pub rising : Rising row
  pub known : (w : ℕ) → Has row w → w < n

-- the table grew by forms of the kind B only, and what is remembered of pairs is right
pub record Grew (B : Game → Type 0) (fs : List Form) (os : List ℕ) (n : ℕ) (gs : List Form) (qs : List ℕ) (u : ℕ) (rs : List ℕ) : Type 0 where
  pub grows : Grows B fs os n gs qs u
  pub holds : HoldsRight gs qs u rs

-- f is equal to the sum of what a move of s makes of g, and h
abbrev pub Moved : Side → Game → Game → Game → Type 0
Moved s g h f = (y : Game) × In y (options s g) × Adds y h f

-- a row after the forms of what the moves of s in g make of the sum of g and h were put in
pub record MovesIn (s : Side) (g h : Game) (fs : List Form) (os : List ℕ) (n : ℕ) (row new : List ℕ) : Type 0 where
  pub sound : RowKnown n new
  pub stays : (w : ℕ) → Has row w → Has new w
  pub right : (w : ℕ) → Has new w → Has row w ⊎ Moved s g h (meaning (take n fs) os w)
  pub all : (y : Game) → In y (options s g) → (w : ℕ) × Has new w × Adds y h (meaning (take n fs) os w)

-- the forms of what the moves of s make of the sum of g and h
pub record SumRow (s : Side) (g h : Game) (fs : List Form) (os : List ℕ) (n : ℕ) (row : List ℕ) : Type 0 where
  pub sound : RowKnown n row
  pub right : (w : ℕ) → Has row w → Moved s g h (meaning (take n fs) os w) ⊎ Moved s h g (meaning (take n fs) os w)
  pub one : (y : Game) → In y (options s g) → (w : ℕ) × Has row w × Adds y h (meaning (take n fs) os w)
  pub two : (y : Game) → In y (options s h) → (w : ℕ) × Has row w × Adds y g (meaning (take n fs) os w)

-- the forms that the moves in g make are put into a row
abbrev pub StepAnswer : Side → Game → Game → List Form → List ℕ → ℕ → List ℕ → List Form → List ℕ → ℕ → List ℕ → List ℕ → Result (Unit {0}) Refusal → Type 0
StepAnswer s g h fs os n row gs qs u rs new (Ok _) = Grew (Between g h) fs os n gs qs u rs × MovesIn s g h gs qs u row new
StepAnswer s g h fs os n row gs qs u rs new (Err e) = Stopped (Between g h) fs os n gs qs e

-- the row of the forms that the moves in either make
abbrev pub RowAnswer : Side → Game → Game → List Form → List ℕ → ℕ → List Form → List ℕ → ℕ → List ℕ → Result (Vec ℕ Global) Refusal → Type 0
RowAnswer s g h fs os n gs qs u rs (Ok row) = Grew (Between g h) fs os n gs qs u rs × SumRow s g h gs qs u (vec_items row)
RowAnswer s g h fs os n gs qs u rs (Err e) = Stopped (Between g h) fs os n gs qs e

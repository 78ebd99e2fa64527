-- What the sum of two forms is, and what is answered for it.
use Rattle.std.specs.Prelude.{ℕ, ◌<◌, List, take, Ok, Err, Result}
use Rattle.games.specs.Game.{Game}
use Rattle.games.specs.Order.{Equal}
use Rattle.games.specs.Sum.{Sum}
use Rattle.games.specs.Count.{Between}
use Rattle.forms.specs.declared.rows.Form.{Form}
use Rattle.forms.specs.Meaning.{meaning}
use Rattle.canonical.specs.declared.canonical.Refusal.{Refusal}
use Rattle.canonical.specs.declared.canonical.Refusal.TheVariants.{Full, Wide, NoMemory}
use Rattle.positions.specs.Growing.{Grows, Overfull, IsTooWide}
use Rattle.sums.specs.Pairs.{Holds}

-- f is equal to the sum of g and h
abbrev pub Adds : Game → Game → Game → Type 0
Adds g h f = (k : Game) × Sum g h k × Equal k f

-- whatever is remembered of a pair of forms is the form of their sum
pub record HoldsRight (fs : List Form) (os : List ℕ) (n : ℕ) (ps : List ℕ) : Type 0 where
  pub right : (x y k : ℕ) → Holds ps x y k →
      (x < n) × (y < n) × (k < n) × Adds (meaning (take n fs) os x) (meaning (take n fs) os y) (meaning (take n fs) os k)

-- why there is no answer: the table grew by forms of the kind B until it was full, and one more is wanted; or one is too wide; or memory is wanting
abbrev pub Stopped : (Game → Type 0) → List Form → List ℕ → ℕ → List Form → List ℕ → Refusal → Type 0
Stopped B fs os n gs qs Full = Overfull B fs os n gs qs
Stopped B fs os n gs qs Wide = IsTooWide B
Stopped B fs os n gs qs NoMemory = Unit {0}

-- the form of the sum of g and h; the table grew by forms of such sums only, and what is remembered is right
abbrev pub SumAnswer : Game → Game → List Form → List ℕ → ℕ → List Form → List ℕ → ℕ → List ℕ → Result ℕ Refusal → Type 0
SumAnswer g h fs os n gs qs u rs (Ok k) =
    Grows (Between g h) fs os n gs qs u
    × (k < u)
    × Adds g h (meaning (take u gs) qs k)
    × HoldsRight gs qs u rs
SumAnswer g h fs os n gs qs u rs (Err e) = Stopped (Between g h) fs os n gs qs e

-- the same of the games of two forms
abbrev pub SummedUp : List Form → List ℕ → ℕ → ℕ → ℕ → List Form → List ℕ → ℕ → List ℕ → Result ℕ Refusal → Type 0
SummedUp fs os n x y gs qs u rs r = SumAnswer (meaning (take n fs) os x) (meaning (take n fs) os y) fs os n gs qs u rs r

-- What is answered for a game that is given by two rows of forms.
use Rattle.std.specs.Prelude.{◌≡◌, ℕ, ◌+◌, ◌<◌, ◌⊎◌, List, length, take, Ok, Err, Result}
use Rattle.games.specs.Game.{Game}
use Rattle.games.specs.Order.{Equal}
use Rattle.games.specs.Canonical.{Canonical}
use Rattle.games.specs.Count.{Wide}
use Rattle.forms.specs.declared.rows.Form.{Form}
use Rattle.forms.specs.Held.{Lent}
use Rattle.forms.specs.Meaning.{meaning}
use Rattle.forms.specs.Links.{Table}
use Rattle.forms.specs.Growth.{Kept}
use Rattle.canonical.specs.declared.canonical.Refusal.{Refusal}
use Rattle.canonical.specs.declared.canonical.Refusal.TheVariants.{Full, Wide as TooWide, NoMemory}

-- the canonical form of g has more than 16 options for a player
abbrev pub IsTooWide : Game → Type 0
IsTooWide g = (f : Game) × Canonical f × Equal g f × Wide 16 f

-- form k of a table with u forms in use is that of g; of the n forms before it nothing has changed, and only k may be new
pub record Answered (fs : List Form) (os : List ℕ) (n : ℕ) (gs : List Form) (ps : List ℕ) (g : Game) (k u : ℕ) : Type 0 where
  pub table : Table gs ps u
  pub known : k < u
  pub equal : Equal (meaning (take u gs) ps k) g
  pub kept : Kept (take n fs) os (take u gs) ps
  pub new : ((u ≡ n) × (gs ≡ fs) × (ps ≡ os)) ⊎ ((u ≡ n + 1) × (k ≡ n))
  pub narrow : IsTooWide g → ⊥

-- why there is no answer: the form is none of the table, which has no room; it is too wide; or memory is wanting
abbrev pub Refused : List Form → List ℕ → ℕ → Game → Refusal → Type 0
Refused fs os n g Full = (n ≡ length fs) × ((k : ℕ) → k < n → Equal (meaning (take n fs) os k) g → ⊥) × (IsTooWide g → ⊥)
Refused fs os n g TooWide = IsTooWide g
Refused fs os n g NoMemory = Unit {0}

-- an answer, or a refusal that leaves all as it was
abbrev pub Outcome : Lent → Lent → Game → Result ℕ Refusal → Type 0
Outcome t u g (Ok k) = Answered t.forms.now t.options.now t.used u.forms.now u.options.now g k u.used
Outcome t u g (Err e) = (u.forms.now ≡ t.forms.now) × (u.options.now ≡ t.options.now) × (u.used ≡ t.used) × Refused t.forms.now t.options.now t.used g e

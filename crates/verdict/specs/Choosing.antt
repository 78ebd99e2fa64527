-- The place to lay at, found by forms.
use Rattle.std.specs.Prelude.{ℕ, Ok, Err, Option, Result}
use Rattle.board.specs.Grid.{Grid, Side}
use Rattle.board.specs.Rules.{Says}
use Rattle.search.specs.Answers.{answer_of}
use Rattle.verdict.specs.Limits.{IsTooMany}
use Rattle.verdict.specs.declared.worth.Failure.{Failure}
use Rattle.verdict.specs.declared.worth.Failure.TheVariants.{Count, NoMemory}

-- with so many forms: the answer that the rules give, and that neither the board nor one after a plank is past the limits; or that one is
abbrev pub Chosen : Side → Grid → ℕ → Result (Option ℕ) Failure → Type 0
Chosen s b forms (Ok x) = Says s b (answer_of x) × (IsTooMany forms b → ⊥)
Chosen s b forms (Err Count) = IsTooMany forms b
Chosen s b forms (Err NoMemory) = Unit {0}

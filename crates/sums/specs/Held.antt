-- What a table with what is known of pairs of its forms is in contracts.
use Rattle.std.specs.Prelude.{ℕ, List}
use Rattle.std.specs.Borrow.{MutBor}
use Rattle.forms.specs.Held.{Lent}

-- a table, and a lent row for what is known of the sums of pairs of its forms
pub record Adding : Type 0 where
  pub table : Lent
  pub pairs : MutBor (List ℕ)

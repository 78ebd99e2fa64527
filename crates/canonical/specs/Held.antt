-- What forms with two rows of them are in contracts.
use Rattle.forms.specs.Held.{Read}
use Rattle.forms.specs.declared.rows.Rows.{Rows}

-- forms, and two rows of them
pub record Two : Type 0 where
  pub forms : Read
  pub rows : Rows

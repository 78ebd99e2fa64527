-- What forms that are read, and a table, are in contracts.
use Rattle.std.specs.Prelude.{ℕ, List}
use Rattle.std.specs.Borrow.{MutBor}
use Rattle.forms.specs.declared.rows.Form.{Form}

-- forms, and the row in which their options stand
pub record Read : Type 0 where
  pub forms : List Form
  pub options : List ℕ

-- two lent rows, one for forms and one for their options, and how many forms are in use
pub record Lent : Type 0 where
  pub forms : MutBor (List Form)
  pub options : MutBor (List ℕ)
  pub used : ℕ

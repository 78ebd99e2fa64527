use Rattle.std.proofs.Common.{◌+◌, ◌*◌, vec_items}
use lib.Count.{ones}
use Rattle.board.specs.Values.{side_of}
use Rattle.forms.specs.Values.{Stays}
use Rattle.positions.proofs.Turns.{RowSoFar}
use Rattle.positions.proofs.form.+form_option_row.Given as goal

abbrev pub decreases-form : goal.decreases-form
decreases-form l = 2 * ones l.set + 1

abbrev pub decreases-option_row : goal.decreases-option_row
decreases-option_row l = 2 * ones l.set

abbrev pub invariant-option_row-loop-i : goal.invariant-option_row-loop-i
invariant-option_row-loop-i l =
    RowSoFar l.room l.set (side_of l.side) l.i l.initial.table l.initial.positions l.table l.positions (vec_items l.row)
    × Stays l.initial.table l.table

use Rattle.std.proofs.Common.{vec_items}
use Rattle.board.specs.Values.{side_of}
use Rattle.canonical.proofs.Thinning.{Thinning}
use Rattle.canonical.proofs.thin.thin.Given as goal

abbrev pub invariant-loop-i : goal.invariant-loop-i
invariant-loop-i l = Thinning l.forms.forms l.forms.options (side_of l.side) l.row (vec_items l.best) l.i

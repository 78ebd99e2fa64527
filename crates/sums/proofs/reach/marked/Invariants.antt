use Rattle.std.proofs.Common.{vec_items}
use Rattle.sums.proofs.Marking.{Listing}
use Rattle.sums.proofs.reach.marked.Given as goal

abbrev pub invariant-loop-i : goal.invariant-loop-i
invariant-loop-i l = Listing l.marks l.i (vec_items l.row)

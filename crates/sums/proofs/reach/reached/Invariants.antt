use Rattle.sums.proofs.Marking.{Marking}
use Rattle.sums.proofs.reach.reached.Given as goal

abbrev pub invariant-loop-k : goal.invariant-loop-k
invariant-loop-k l = Marking l.forms.forms l.forms.options l.t l.k l.marks

abbrev pub decreases-loop-k : goal.decreases-loop-k
decreases-loop-k l = l.k

use Rattle.std.proofs.Common.{take}
use Rattle.sums.specs.Reaching.{MarksRow}
use Rattle.sums.proofs.reach.mark.Given as goal

abbrev pub invariant-loop-x : goal.invariant-loop-x
invariant-loop-x l = MarksRow l.initial.marks (take l.x-index l.row) l.marks

use Rattle.std.proofs.Common.{◌+◌, ◌*◌, vec_items}
use Rattle.board.specs.Values.{side_of}
use Rattle.sums.specs.Values.{SameSums}
use Rattle.sums.proofs.Gathering.{Stepping}
use Rattle.sums.proofs.sum.Sums.+moves_step_sum.Given as goal

abbrev pub decreases-sum : goal.decreases-sum
decreases-sum l = 3 * (l.x + l.y) + 2

abbrev pub decreases-moves : goal.decreases-moves
decreases-moves l = 3 * (l.x + l.y) + 1

abbrev pub decreases-step : goal.decreases-step
decreases-step l = 3 * (l.x + l.y)

abbrev pub invariant-step-loop-i : goal.invariant-step-loop-i
invariant-step-loop-i l = Stepping (side_of l.side) l.x l.y l.initial.self (vec_items l.initial.row) l.i l.self (vec_items l.row) × SameSums l.initial.self l.self

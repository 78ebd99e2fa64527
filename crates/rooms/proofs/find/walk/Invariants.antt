use Rattle.std.proofs.Common.{◌-◌}
use Rattle.board.specs.Values.{grid_of}
use Rattle.rooms.specs.Few.{items_of}
use Rattle.rooms.proofs.Walking.{Walking}
use Rattle.rooms.proofs.find.walk.Given as goal

abbrev pub invariant-loop-q : goal.invariant-loop-q
invariant-loop-q l = Walking (grid_of l.board) l.first l.initial.seen l.seen (items_of l.squares) l.at

abbrev pub decreases-loop-q : goal.decreases-loop-q
decreases-loop-q l = 16 - l.at

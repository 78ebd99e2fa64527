use Rattle.board.specs.Values.{side_of, grid_of}
use Rattle.sums.specs.Values.{SameMemory}
use Rattle.verdict.specs.Trying.{Tried}
use Rattle.verdict.proofs.tries.try_places.Given as goal

abbrev pub invariant-loop-place : goal.invariant-loop-place
invariant-loop-place l =
    Tried (side_of l.side) (grid_of l.board) l.place l.initial.memory.sums.table.forms.now l.memory.sums.table.forms.now l.first
    × SameMemory l.initial.memory l.memory

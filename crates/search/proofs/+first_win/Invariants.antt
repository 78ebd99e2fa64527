use Rattle.board.specs.Grid.{free_count}
use Rattle.board.specs.Values.{side_of, grid_of}
use Rattle.search.proofs.Turns.{NoneGood}
use Rattle.search.proofs.+first_win.Given as goal

abbrev pub decreases-first_win : goal.decreases-first_win
decreases-first_win l = free_count (grid_of l.board.now).cells

abbrev pub invariant-loop-place : goal.invariant-loop-place
invariant-loop-place l = NoneGood (side_of l.side) (grid_of l.board) l.place

use Rattle.std.proofs.Common.{◌≡◌, drop}
use Rattle.board.specs.Values.{side_of, grid_of}
use Rattle.referee.specs.Following.{played}
use Rattle.referee.proofs.follow.play.Given as goal

abbrev pub invariant-loop-i : goal.invariant-loop-i
invariant-loop-i l =
    played l.i (side_of l.side) (grid_of l.board) (drop l.i l.places) ≡ played 0 (side_of l.initial.side) (grid_of l.initial.board) l.places

use Rattle.std.proofs.Common.{rules}
use Rattle.board.specs.Values.{grid_of}
use Rattle.board.proofs.board.Board.covers.Goals as goal

pub returns-then-not-in_row : goal.returns-then-not-in_row
unfolding grid_of
returns-then-not-in_row c = search rules

pub returns : goal.returns
unfolding grid_of
returns c = search rules

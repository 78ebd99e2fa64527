use Rattle.std.proofs.Common.{rules}
use Rattle.board.specs.Values.{grid_of}
use Rattle.board.proofs.board.Board.size.Goals as goal

pub returns : goal.returns
unfolding grid_of
returns c = record { value = search rules; bound = search rules }

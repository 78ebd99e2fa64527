use Rattle.board.proofs.Table.{known_boards}
use Rattle.board.proofs.rules.known_boards_stand.Goals as goal

pub returns : goal.returns
returns c = known_boards

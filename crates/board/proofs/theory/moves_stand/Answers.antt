use Rattle.board.proofs.Covering.{moves_law}
use Rattle.board.proofs.theory.moves_stand.Goals as goal

pub returns : goal.returns
returns c = moves_law

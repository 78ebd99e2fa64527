use Rattle.board.proofs.Edges.{ways_law}
use Rattle.board.proofs.theory.ways_stand.Goals as goal

pub returns : goal.returns
returns c = ways_law

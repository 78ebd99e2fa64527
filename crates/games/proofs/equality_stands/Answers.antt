use Rattle.games.proofs.Stand.{test_right}
use Rattle.games.proofs.equality_stands.Goals as goal

pub returns : goal.returns
returns c = test_right

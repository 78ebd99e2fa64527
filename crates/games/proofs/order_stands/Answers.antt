use Rattle.games.proofs.Compare.{order, decided}
use Rattle.games.proofs.order_stands.Goals as goal

pub returns : goal.returns
returns c = record { order = order; decided = decided }

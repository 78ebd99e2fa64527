use Rattle.games.proofs.Test.{examples}
use Rattle.games.proofs.examples.Goals as goal

pub returns : goal.returns
returns c = examples

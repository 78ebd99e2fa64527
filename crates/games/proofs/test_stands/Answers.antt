use Rattle.games.proofs.Test.{computed}
use Rattle.games.proofs.test_stands.Goals as goal

pub returns : goal.returns
returns c = computed

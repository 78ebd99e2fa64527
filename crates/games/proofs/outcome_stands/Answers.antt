use Rattle.games.proofs.Rows.{outcome}
use Rattle.games.proofs.outcome_stands.Goals as goal

pub returns : goal.returns
returns c = outcome

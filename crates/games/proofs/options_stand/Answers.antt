use Rattle.games.proofs.Options.{strike, bypass}
use Rattle.games.proofs.options_stand.Goals as goal

pub returns : goal.returns
returns c = record { strike = strike; bypass = bypass }

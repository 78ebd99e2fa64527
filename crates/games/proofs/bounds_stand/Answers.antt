use Rattle.games.proofs.Numbers.{numbers_rise}
use Rattle.games.proofs.Bounds.{bounds_decide, bounds_hot, bounds_cold}
use Rattle.games.proofs.bounds_stand.Goals as goal

pub returns : goal.returns
returns c = record { rise = numbers_rise; decide = bounds_decide; hot = bounds_hot; cold = bounds_cold }

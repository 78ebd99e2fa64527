use Rattle.games.proofs.Sums.{sum_exists, sum_turns}
use Rattle.games.proofs.Beside.{sums_stand, sum_equal, sum_groups, sum_empty}
use Rattle.games.proofs.Tells.{sum_neg}
use Rattle.games.proofs.sum_stands.Goals as goal

pub returns : goal.returns
returns c =
    record { stands = sums_stand; exists = sum_exists; equal = sum_equal; turns = sum_turns; groups = sum_groups; zero = sum_empty; negative = sum_neg }

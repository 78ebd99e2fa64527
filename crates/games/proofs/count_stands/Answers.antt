use Rattle.games.proofs.Counting.{one_count, count_least, count_most, not_wide}
use Rattle.games.proofs.count_stands.Goals as goal

pub returns : goal.returns
returns c = record { one = one_count; least = count_least; most = count_most; narrow = not_wide }

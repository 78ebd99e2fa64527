use Rattle.games.proofs.Along.{one_sum, one_more, between_forms}
use Rattle.games.proofs.Tells.{sum_tells}
use Rattle.games.proofs.row_stands.Goals as goal

pub returns : goal.returns
returns c = record { one = one_sum; tells = sum_tells; more = one_more; forms = between_forms }

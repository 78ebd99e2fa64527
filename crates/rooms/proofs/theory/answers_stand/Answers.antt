use Rattle.rooms.proofs.Answering.{one_found, one_judged}
use Rattle.rooms.proofs.theory.answers_stand.Goals as goal

pub returns : goal.returns
returns c = record { found = one_found; judged = one_judged }

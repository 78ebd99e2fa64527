use Rattle.board.proofs.Outcomes.{one_outcome, one_answer}
use Rattle.board.proofs.rules.rules_stand.Goals as goal

pub returns : goal.returns
returns c = record { outcome = one_outcome; answer = one_answer }

use Rattle.verdict.proofs.Answers.{one_judgement, one_file_judgement}
use Rattle.verdict.proofs.judge.judgement_stands.Goals as goal

pub returns : goal.returns
returns c = record { board = one_judgement; file = one_file_judgement }

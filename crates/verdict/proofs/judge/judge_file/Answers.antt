use Rattle.verdict.proofs.Answers.{not_read, is_read}
use Rattle.verdict.proofs.judge.judge_file.Goals as goal

pub returns-in_err-setup : goal.returns-in_err-setup
returns-in_err-setup c = not_read c.args.bytes.now _ _ c.in_err-setup.ensures c.from_residual.ensures.1

pub returns : goal.returns
returns c = is_read c.args.bytes.now _ _ _ c.in_ok-setup.ensures c.judge.ensures

use Rattle.std.proofs.Common.{◌-◌, nat_le, length, ap, ◌∙◌}
use Rattle.board.specs.Reading.{file_read}
use Rattle.board.proofs.Checks.{head_refused}
use Rattle.board.proofs.Squares.{asked_is}
use Rattle.board.proofs.read.read_record.Goals as goal

pub returns-in_err-head : goal.returns-in_err-head
returns-in_err-head c = head_refused _ c.args.bytes.now _ _ c.in_err-head.ensures c.from_residual.ensures.1

pub returns : goal.returns
returns c =
    let head = c.in_ok-head.ensures in
    c.read_rest.ensures ∙ ap (λ n. file_read (nat_le n (length c.args.bytes.now - 3)) c.args.bytes.now) (c.size.ensures ∙ asked_is c.args.bytes.now _ _ head.width head.height)

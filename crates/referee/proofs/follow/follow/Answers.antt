use Rattle.std.proofs.Common.{ap, ◌∙◌, Err}
use Rattle.std.proofs.lemmas.Result.{err_from_is_err_and}
use Rattle.referee.proofs.Standing.{not_read, is_read}
use Rattle.referee.proofs.follow.follow.Goals as goal

pub returns-in_err-start : goal.returns-in_err-start
returns-in_err-start c = not_read c.args.bytes.now _ _ c.in_err-start.ensures c.from_residual.ensures.1

pub returns-in_err-end : goal.returns-in_err-end
returns-in_err-end c =
    let f = err_from_is_err_and c.from_residual-in_err-end.result c.from_residual-in_err-end.ensures.1 in
    is_read c.args.bytes.now _ _ _ _ _ c.in_ok-start.ensures c.places.ensures c.in_err-end.ensures (f.1 ∙ ap Err f.2)

pub returns : goal.returns
returns c = is_read c.args.bytes.now _ _ _ _ c.standing.result c.in_ok-start.ensures c.places.ensures c.in_ok-end.ensures c.standing.ensures

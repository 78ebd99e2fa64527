use Rattle.board.specs.Values.{side_of, grid_of}
use Rattle.referee.proofs.Standing.{not_judged}
use Rattle.referee.proofs.follow.standing.Goals as goal

pub returns-in_err-judgement : goal.returns-in_err-judgement
returns-in_err-judgement c =
    not_judged (side_of c.args.side) (grid_of c.args.board.now) _ _ c.if-not-can_lay.ensures c.in_err-judgement.ensures c.from_residual.ensures.1

pub returns : goal.returns
returns c = (c.if-not-can_lay.ensures, (c.in_ok-judgement.judgement.rooms, c.in_ok-judgement.ensures))

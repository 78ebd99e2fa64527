use Rattle.board.specs.Values.{side_of, grid_of}
use Rattle.positions.proofs.Making.{move_unfit, move_fit}
use Rattle.positions.proofs.moves.move_at.Goals as goal

pub returns-in_err-covers-clause-set : goal.returns-in_err-covers-clause-set
returns-in_err-covers-clause-set c = move_unfit (grid_of c.args.board.now) c.args.squares.now (side_of c.args.side) c.args.square _ c.from_residual.ensures c.in_err-covers.ensures

pub returns-clause-set : goal.returns-clause-set
returns-clause-set c = move_fit (grid_of c.args.board.now) c.args.squares.now (side_of c.args.side) c.args.square _ _ c.in_ok-covers.ensures c.set_of.ensures.set

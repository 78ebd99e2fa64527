use Rattle.board.proofs.Checks.{length_refused, squares_told}
use Rattle.board.proofs.read.read_rest.Goals as goal

pub returns-then-not-long : goal.returns-then-not-long
returns-then-not-long c = length_refused _ c.args.bytes.now c.requires.headed.passed c.if-not-long.true

pub returns : goal.returns
returns c = squares_told _ c.args.bytes.now c.requires.headed.passed c.if-not-long.false c.read_squares.result c.read_squares.ensures

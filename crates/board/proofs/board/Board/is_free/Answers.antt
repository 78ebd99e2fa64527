use Rattle.board.proofs.Cells.{within, past}
use Rattle.board.proofs.board.Board.is_free.Goals as goal

pub returns-then-square-size : goal.returns-then-square-size
returns-then-square-size c = within c.args.self.now _ _ c.size.ensures.value c.if-square-size.true

pub returns-else-square-size : goal.returns-else-square-size
returns-else-square-size c = past c.args.self.now _ _ c.size.ensures.value c.if-square-size.false

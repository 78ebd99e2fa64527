use Rattle.std.proofs.Common.{◌∙◌, arith}
use Rattle.std.proofs.lemmas.List.{length-set}
use Rattle.board.proofs.Squares.{cells_more, cells_all}
use Rattle.board.proofs.read.cells.Goals as goal

pub loop-i-preserved : goal.loop-i-preserved
loop-i-preserved c = (length-set c.loop-i.free _ _ ∙ c.loop-i.invariant.0, cells_more c.args.squares.now _ c.loop-i.free c.loop-i-test.true (omega arith) c.loop-i.invariant.1)

pub returns : goal.returns
returns c = cells_all c.args.squares.now _ c.loop-i.free (omega arith) c.loop-i.invariant.1

use Rattle.std.proofs.Common.{arith}
use Rattle.std.proofs.lemmas.List.{length-take}
use Rattle.board.specs.Values.{grid_of}
use Rattle.board.proofs.Squares.{few, all_squares, grid_read}
use Rattle.board.proofs.read.read_squares.Goals as goal

pub cells-requires : goal.cells-requires
cells-requires c =
    let small = few c.args.head.width c.args.head.height c.requires.headed.wide.1 c.requires.headed.high.1 in
    simp length-take (omega arith)

pub invariant_of-board : goal.invariant_of-board
invariant_of-board c = record { wide = c.requires.headed.wide; high = c.requires.headed.high; few = few c.args.head.width c.args.head.height c.requires.headed.wide.1 c.requires.headed.high.1 }

pub returns : goal.returns
unfolding grid_of
returns c =
    let pre = c.requires.headed in
    record {
      passed = all_squares c.args.bytes.now _ _ pre.width pre.height _ c.size.ensures c.in_default.ensures;
      side = pre.side;
      board = grid_read c.args.bytes.now _ _ pre.width pre.height _ c.size.ensures c.cells.result c.requires.bytes_in_bounds c.cells.ensures;
    }

use Rattle.std.proofs.Common.{rules, ◌≡◌, Some, arith}
use Rattle.board.specs.Values.{side_of, grid_of}
use Rattle.positions.specs.Sets.{row_for, set_in}
use Rattle.positions.specs.Values.{room_squares, moves_of}
use Rattle.positions.proofs.Played.{left_of}
use Rattle.positions.proofs.room.RoomMoves.after.Goals as goal

pub returns : goal.returns
returns c =
    let at : set_in (row_for (side_of c.args.side) c.args.self.now.upright c.args.self.now.flat) c.args.i ≡ Some c.in_ok-covered.covered = search rules in
    left_of (grid_of c.args.self.now.board) (room_squares c.args.self.now) (moves_of c.args.self.now) c.args.self.now.ground c.args.set (side_of c.args.side) c.args.i c.in_ok-covered.covered _ at (let low = c.if-i-len.false in let long = c.len.ensures.value in omega arith) c.then.ensures.variant (search rules)

use Rattle.std.proofs.Common.{length, ap, arith}
use Rattle.rooms.proofs.Finding.{squares_few}
use Rattle.positions.proofs.room.RoomMoves.len.Goals as goal

pub returns : goal.returns
returns c =
    let long = ap length c.squares.ensures in
    let few = squares_few c.args.self.now.room in
    record { value = long; bound = omega arith }

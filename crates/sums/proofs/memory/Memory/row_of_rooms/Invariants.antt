use Rattle.std.proofs.Common.{take, vec_items}
use Rattle.sums.specs.Values.{SameMemory}
use Rattle.sums.proofs.Rounds.{RowSoFar}
use Rattle.sums.proofs.memory.Memory.row_of_rooms.Given as goal

abbrev pub invariant-loop-room : goal.invariant-loop-room
invariant-loop-room l =
    RowSoFar l.split.board (take l.room-index l.split.rooms) l.initial.self.sums l.self.sums l.sum (vec_items l.owns) × SameMemory l.initial.self l.self

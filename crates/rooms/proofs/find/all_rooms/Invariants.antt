use Rattle.std.proofs.Common.{◌≡◌, map, length}
use Rattle.board.specs.Values.{grid_of}
use Rattle.rooms.specs.Few.{items_of}
use Rattle.rooms.specs.Values.{squares_of}
use Rattle.rooms.proofs.Finding.{Sofar}
use Rattle.rooms.proofs.find.all_rooms.Given as goal

abbrev pub invariant-loop-p : goal.invariant-loop-p
invariant-loop-p l = (length l.seen ≡ 256) × Sofar (grid_of l.board) l.p l.seen (map squares_of (items_of l.rooms))

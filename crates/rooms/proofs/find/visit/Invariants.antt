use Rattle.std.proofs.Common.{◌≡◌, length, take}
use Rattle.board.specs.Values.{grid_of}
use Rattle.rooms.specs.Few.{items_of}
use Rattle.rooms.specs.Growth.{Visited, all_ways}
use Rattle.rooms.proofs.find.visit.Given as goal

abbrev pub invariant-loop-way : goal.invariant-loop-way
invariant-loop-way l =
    (length l.seen ≡ 256) × Visited (grid_of l.board) l.from (take l.way-index all_ways) l.initial.seen l.seen (items_of l.initial.squares) (items_of l.squares)

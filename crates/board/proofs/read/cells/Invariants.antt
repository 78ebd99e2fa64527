use Rattle.std.proofs.Common.{◌≡◌, map, length, take}
use Rattle.board.specs.Reading.{is_free}
use Rattle.board.proofs.read.cells.Given as goal

abbrev pub invariant-loop-i : goal.invariant-loop-i
invariant-loop-i l = (length l.free ≡ 256) × (take l.i l.free ≡ map is_free (take l.i l.squares))

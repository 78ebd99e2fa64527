use Rattle.std.proofs.Common.{◌≡◌, ◌*◌, length, take, drop}
use Rattle.board.specs.Moves.{taken}
use Rattle.board.specs.Values.{grid_of}
use Rattle.board.proofs.board.Board.without.Given as goal

abbrev pub invariant-loop-q : goal.invariant-loop-q
invariant-loop-q l =
    (length l.free ≡ 256)
    × (taken (take (l.self.width * l.self.height) l.free) (drop l.q-index l.squares) ≡ taken (grid_of l.self).cells l.squares)

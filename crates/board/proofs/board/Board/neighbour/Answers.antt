use Rattle.std.proofs.Common.{rules, tests}
use Rattle.board.specs.Values.{grid_of}
use Rattle.board.proofs.Edges.{neighbour_if_free}
use Rattle.board.proofs.board.Board.neighbour.Goals as goal

pub returns : goal.returns
returns c =
    neighbour_if_free (grid_of c.args.self.now) c.args.square c.args.way c.beside.result _ _ c.beside.ensures c.filter.ensures (λ q t k. search (rules, tests))

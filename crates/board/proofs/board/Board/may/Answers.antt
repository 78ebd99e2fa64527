use Rattle.std.proofs.Common.{rules, tests}
use Rattle.board.specs.Values.{grid_of, side_of}
use Rattle.board.proofs.Laying.{may_if_free}
use Rattle.board.proofs.board.Board.may.Goals as goal

pub returns : goal.returns
returns c =
    may_if_free (grid_of c.args.self.now) (side_of c.args.side) c.args.place c.covers.result _ _ c.covers.ensures c.map_or.ensures (λ qs k. search (rules, tests))

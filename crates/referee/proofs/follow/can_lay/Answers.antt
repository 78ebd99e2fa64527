use Rattle.std.proofs.Common.{rules, tests, arith}
use Rattle.std.proofs.lemmas.Iterator.{YieldsList-from_range}
use Rattle.std.proofs.lemmas.Iterator.Search.{any_from_yields_List}
use Rattle.board.specs.Moves.{may}
use Rattle.board.specs.Values.{side_of, grid_of}
use Rattle.referee.proofs.Planks.{laid_somewhere}
use Rattle.referee.proofs.follow.can_lay.Goals as goal

pub returns : goal.returns
returns c =
    let b = grid_of c.args.board.now in
    let s = side_of c.args.side in
    laid_somewhere s b c.size.result _ c.size.ensures.value
    (any_from_yields_List (may b s) _ _ c.any.result c.any.ensures.ran (YieldsList-from_range 0 c.size.result c.size.result (cc) (omega arith)) (λ x t q k. search (rules, tests)))

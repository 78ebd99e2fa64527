use Rattle.std.proofs.Common.{◌∙◌, rules, tests, arith}
use Rattle.std.proofs.lemmas.Iterator.{YieldsList-from_range}
use Rattle.std.proofs.lemmas.Iterator.Consumers.{count_from_yields_List, YieldsList-from_filter}
use Rattle.std.proofs.lemmas.List.Sums.{length-filter}
use Rattle.board.specs.Grid.{free}
use Rattle.board.specs.Values.{grid_of}
use Rattle.board.proofs.Cells.{counted}
use Rattle.board.proofs.board.Board.count_free.Goals as goal

pub returns : goal.returns
returns c =
    let b = grid_of c.args.self.now in
    let chain = count_from_yields_List _ _ c.count.ensures.ran (YieldsList-from_filter _ (free b) (YieldsList-from_range 0 c.size.result c.size.result (cc) (omega arith)) c.filter.ensures.closure (λ x r q k. search (rules, tests))) in
    chain ∙ length-filter (free b) _ ∙ counted b.cells c.size.result c.size.ensures.value

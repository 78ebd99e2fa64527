use Rattle.std.proofs.Common.{Some, None, rules, tests, sym, subst, ◌∙◌}
use Rattle.board.specs.Values.{grid_of, side_of, LaidAt}
use Rattle.board.proofs.Laying.{covered_if_free, laid_without}
use Rattle.board.proofs.board.Board.lay.Goals as goal

pub returns-in_err-squares : goal.returns-in_err-squares
returns-in_err-squares c =
    let b = grid_of c.args.self.now in
    let s = side_of c.args.side in
    subst (LaidAt b s c.args.place) (sym c.from_residual.ensures)
    (covered_if_free b s c.args.place c.covers.result None _ c.covers.ensures c.in_err-squares.ensures (λ qs t k. search (rules, tests)))

pub returns : goal.returns
returns c =
    let b = grid_of c.args.self.now in
    let s = side_of c.args.side in
    let qs = c.in_ok-squares.squares in
    let free = covered_if_free b s c.args.place c.covers.result (Some qs) _ c.covers.ensures c.in_ok-squares.ensures (λ qs t k. search (rules, tests)) in
    (free.0, c.without.ensures ∙ laid_without b s c.args.place qs free.1)

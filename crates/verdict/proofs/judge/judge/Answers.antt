use Rattle.std.proofs.Common.{refl, sym, subst, arith}
use Rattle.board.specs.Rules.{Says}
use Rattle.board.specs.Values.{side_of, grid_of}
use Rattle.verdict.proofs.Answers.{is_judged, rooms_refused, count_refused}
use Rattle.verdict.proofs.judge.judge.Goals as goal

pub returns-in_err-rooms : goal.returns-in_err-rooms
returns-in_err-rooms c = rooms_refused (side_of c.args.side) (grid_of c.args.board.now) _ _ c.in_err-rooms.ensures c.from_residual.ensures.1

pub returns-then-count_free-gt-MOST_FREE : goal.returns-then-count_free-gt-MOST_FREE
returns-then-count_free-gt-MOST_FREE c =
    count_refused (side_of c.args.side) (grid_of c.args.board.now) _ c.in_ok-rooms.ensures (let n = c.count_free.ensures in omega arith)

pub returns : goal.returns
returns c =
    let b = grid_of c.args.board.now in
    let s = side_of c.args.side in
    is_judged s b _ c.in_ok-rooms.ensures
    (record { few = let n = c.count_free.ensures in omega arith; side = refl; says = subst (Says s b) (sym c.from-verdict.ensures) c.first_win.ensures })

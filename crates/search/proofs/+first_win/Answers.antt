use Rattle.std.proofs.Common.{ap, arith}
use Rattle.board.specs.Grid.{Grid, free_count}
use Rattle.board.specs.Values.{side_of, grid_of}
use Rattle.board.proofs.Outcomes.{laid_fewer}
use Rattle.search.proofs.Turns.{reply, answered, found, none_found}
use Rattle.search.proofs.+first_win.Goals as goal

pub first_win-requires : goal.first_win-requires
first_win-requires t c =
    let laid = c.in-Some.ensures in
    let less = laid_fewer (grid_of c.args.board.now) (side_of c.args.side) c.loop-place.place laid.0 in
    let same = ap (λ (g : Grid). free_count g.cells) laid.1 in
    (omega (arith, c.decreases), tt)

pub returns-then-is_none : goal.returns-then-is_none
returns-then-is_none t c =
    let b = grid_of c.args.board.now in
    let s = side_of c.args.side in
    let laid = c.in-Some.ensures in
    let said = reply s b c.loop-place.place _ _ c.first_win.result c.other.ensures laid.1 c.first_win.ensures in
    found s b c.loop-place.place c.loop-place.invariant laid.0 (said.0 c.if-is_none.ensures)

pub loop-place-preserved : goal.loop-place-preserved
loop-place-preserved t c =
    let b = grid_of c.args.board.now in
    let s = side_of c.args.side in
    let laid = c.in-Some.ensures in
    let said = reply s b c.loop-place.place _ _ c.first_win.result c.other.ensures laid.1 c.first_win.ensures in
    answered s b c.loop-place.place c.loop-place.invariant (said.1 c.if-is_none.ensures)

pub returns : goal.returns
returns t c = none_found (side_of c.args.side) (grid_of c.args.board.now) _ c.loop-place.invariant (omega arith)

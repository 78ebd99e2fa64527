use Rattle.std.proofs.Common.{get_or, Some, sym, ◌∙◌, arith}
use Rattle.std.proofs.lemmas.Result.{IfOk-at_ok}
use Rattle.board.specs.Values.{side_of, grid_of, LaidAt}
use Rattle.board.specs.declared.refusal.Refusal.TheVariants.{Plank}
use Rattle.referee.proofs.Planks.{laid_ok, play_goes, play_ends}
use Rattle.referee.proofs.follow.play.Goals as goal

pub loop-i-preserved : goal.loop-i-preserved
loop-i-preserved c =
    let s = side_of c.loop-i.side in
    let b = grid_of c.loop-i.board in
    let p = get_or c.args.places.now c.loop-i.i 0 in
    let laid =
    IfOk-at_ok (λ next. LaidAt b s p (Some next)) (sym c.ok_or.ensures.value ∙ c.in_ok-board.was) (laid_ok b s p c.lay-next.result (Plank c.loop-i.i) c.lay-next.ensures) in
    play_goes c.args.places.now _ s b _ c.loop-i.invariant c.loop-i-test.true _ _ laid.0 c.other-side.ensures laid.1

pub returns : goal.returns
returns c = play_ends c.args.places.now _ (side_of c.loop-i.side) (grid_of c.loop-i.board) _ c.loop-i.invariant (omega arith)

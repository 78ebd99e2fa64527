use Rattle.std.proofs.Common.{length, Err, sym, subst}
use Rattle.std.proofs.lemmas.Result.{err_from_is_err_and}
use Rattle.board.specs.Values.{side_of, grid_of}
use Rattle.verdict.specs.Limits.{Over}
use Rattle.verdict.specs.Choosing.{Chosen}
use Rattle.verdict.proofs.Whole.{whole_refused, plank_refused, last_chosen}
use Rattle.verdict.proofs.choose.choose.Goals as goal

pub returns-in_err-board_worth-clause-answer : goal.returns-in_err-board_worth-clause-answer
returns-in_err-board_worth-clause-answer c =
    let p = err_from_is_err_and c.from_residual.result c.from_residual.ensures.1 in
    rw (p.1, p.2) (whole_refused (side_of c.args.side) c.args.split.now.board c.args.split.now.rooms c.args.memory.now.sums c.board_worth.new.memory.sums _ c.in_err-board_worth.ensures.answer)

pub returns-in_err-try_places-clause-answer : goal.returns-in_err-try_places-clause-answer
returns-in_err-try_places-clause-answer c =
    let p = err_from_is_err_and c.from_residual-in_err-try_places.result c.from_residual-in_err-try_places.ensures.1 in
    let most = length c.args.memory.now.sums.table.forms.now in
    rw (p.1, p.2)
    (subst (λ v. Chosen (side_of c.args.side) v.board most (Err c.in_err-try_places.field-0.0)) c.split.view_is
    (plank_refused (side_of c.args.side) (grid_of c.split.inside.board.now) (side_of c.other.result) most c.board_worth.new.memory.sums c.try_places.new.memory.sums
    c.in_ok-board_worth.ensures.answer.long _ c.in_err-try_places.ensures.answer))

pub returns-clause-answer : goal.returns-clause-answer
returns-clause-answer c =
    let worth = c.in_ok-board_worth.ensures.answer in
    let theirs = c.in_ok-try_places.ensures.answer in
    let most = length c.args.memory.now.sums.table.forms.now in
    subst (λ v. Chosen (side_of c.args.side) v.board most c.try_places-2.result) c.split.view_is
    (last_chosen (side_of c.args.side) (grid_of c.split.inside.board.now) most (subst (λ v. Over most v.board → ⊥) (sym c.split.view_is) worth.within) (side_of c.other.result) c.other.ensures
    c.board_worth.new.memory.sums c.try_places.new.memory.sums c.in_ok-try_places.field-0 worth.long theirs c.try_places-2.new.memory.sums c.try_places-2.result c.try_places-2.ensures.answer)

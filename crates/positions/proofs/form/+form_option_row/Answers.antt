use Rattle.std.proofs.Common.{ℕ, true, false, length, vec_items, sym, ap, subst, arith}
use lib.Count.{ones}
use Rattle.std.proofs.lemmas.Result.{err_from_is_err_and}
use Rattle.board.specs.Values.{side_of, grid_of}
use Rattle.forms.specs.Values.{IsTable}
use Rattle.forms.proofs.Growing.{stays_on}
use Rattle.positions.specs.Values.{room_squares, moves_of}
use Rattle.positions.specs.Forming.{LeadsTo}
use Rattle.positions.proofs.Forming.{leads_one, leads_le}
use Rattle.positions.proofs.Played.{fewer_ones}
use Rattle.positions.proofs.Turns.{RowIn, went_on, failed_on, row_on, row_one_more, noted_fits, rows_known, placed, unplaced}
use Rattle.positions.proofs.form.+form_option_row.Goals as goal
use Rattle.positions.proofs.form.+form_option_row.Goals.{form-After-as_slice-2}

pub form-recall-requires : goal.form-recall-requires
form-recall-requires t c = let table = subst IsTable c.table.view_is c.table.invariant in record {
  long = let f = leads_le (length (room_squares c.args.room.now)) (moves_of c.args.room.now) c.requires.reached in let l = c.requires.long in omega arith;
  fits = noted_fits c.args.room.now _ _ _ c.args.positions.now c.requires.memory table.within table.size c.args.set;
}

pub form-returns-in_err-flat-clause-answer : goal.form-returns-in_err-flat-clause-answer
form-returns-in_err-flat-clause-answer t c =
    let p = err_from_is_err_and c.from_residual-in_err-flat.result c.from_residual-in_err-flat.ensures.1 in
    rw (p.1, p.2) (failed_on c.args.room.now _ _ _ _ _ _ _ _ _ _ c.in_ok-upright.ensures.answer.0 _ c.in_err-flat.ensures.answer)

-- where the two rows stand
upright_row : (t : ℕ) (c : form-After-as_slice-2 t) → RowIn c.args.room.now c.args.set true c.option_row-2.new.table c.option_row-2.new.positions c.as_slice.result.now
upright_row t c =
    subst (RowIn c.args.room.now c.args.set true c.option_row-2.new.table c.option_row-2.new.positions) (sym c.as_slice.ensures.value)
    (row_on c.args.room.now c.args.set true _ _ _ _ _ _ _ _ _ _ c.in_ok-upright.ensures.answer.0.grows.table c.in_ok-flat.ensures.answer.0 c.in_ok-upright.ensures.answer.1)

flat_row : (t : ℕ) (c : form-After-as_slice-2 t) → RowIn c.args.room.now c.args.set false c.option_row-2.new.table c.option_row-2.new.positions c.as_slice-2.result.now
flat_row t c =
    subst (RowIn c.args.room.now c.args.set false c.option_row-2.new.table c.option_row-2.new.positions) (sym c.as_slice-2.ensures.value) c.in_ok-flat.ensures.answer.1

pub form-canonical-requires : goal.form-canonical-requires
form-canonical-requires t c =
    let went = c.in_ok-flat.ensures.answer.0 in
    let rows = (goal.at.form-canonical-requires t c).After-as_slice-2 in
    rows_known c.args.room.now c.args.set _ _ _ _ c.as_slice.result.now c.as_slice-2.result.now went.grows.table went.memory (upright_row t rows) (flat_row t rows)

pub form-returns-in_err-found-clause-answer : goal.form-returns-in_err-found-clause-answer
form-returns-in_err-found-clause-answer t c =
    let first = c.in_ok-upright.ensures.answer.0 in
    let second = c.in_ok-flat.ensures.answer.0 in
    let rows = (goal.at.form-returns-in_err-found-clause-answer t c).After-as_slice-2 in
    let end = c.in_err-found.ensures.answer in
    let p = err_from_is_err_and c.from_residual-in_err-found.result c.from_residual-in_err-found.ensures.1 in
    rw (p.1, p.2)
    (failed_on c.args.room.now _ _ _ _ _ _ _ _ _ _ (went_on c.args.room.now _ _ _ _ _ _ _ _ _ _ _ _ first second) _
    (unplaced c.args.room.now c.args.set _ _ _ _ c.as_slice.result.now c.as_slice-2.result.now second.grows.table second.memory (upright_row t rows) (flat_row t rows) c.args.room.now.ground c.requires.reached
    c.canonical.new.table.forms.now c.canonical.new.table.options.now _ end.0 end.1 end.3))

pub form-returns-clause-answer : goal.form-returns-clause-answer
form-returns-clause-answer t c =
    let first = c.in_ok-upright.ensures.answer.0 in
    let second = c.in_ok-flat.ensures.answer.0 in
    let rows = (goal.at.form-returns-clause-answer t c).After-as_slice-2 in
    let end =
    placed c.args.room.now c.args.set _ _ _ _ c.as_slice.result.now c.as_slice-2.result.now second.grows.table second.memory (upright_row t rows) (flat_row t rows) c.args.room.now.ground c.requires.reached
    c.canonical.new.table.forms.now c.canonical.new.table.options.now c.in_ok-found.found c.canonical.new.table.used c.canonical.ensures.stays.rows.places
    (let a = c.option_row.auto.positions in let b = c.option_row-2.auto.positions in let l = c.requires.long in let f = leads_le (length (room_squares c.args.room.now)) (moves_of c.args.room.now) c.requires.reached in omega arith)
    c.in_ok-found.ensures.answer in
    (went_on c.args.room.now _ _ _ _ _ _ _ _ _ _ _ _ (went_on c.args.room.now _ _ _ _ _ _ _ _ _ _ _ _ first second) end.0, end.1)

pub option_row-form-requires : goal.option_row-form-requires
option_row-form-requires t c =
    let at = c.in-Some.ensures in
    let went = c.loop-i.invariant.0.0 in
    let less = fewer_ones (grid_of c.args.room.now.board) (room_squares c.args.room.now) (moves_of c.args.room.now) c.args.room.now.ground c.args.set c.ranges.set.fits (side_of c.args.side) c.loop-i.i at.0 in (
      let same = ap ones at.1 in omega (arith, c.decreases),
      (
        omega arith,
        (
          went.memory,
          subst (LeadsTo c.args.room.now) (sym at.1) (leads_one (length (room_squares c.args.room.now)) (moves_of c.args.room.now) (side_of c.args.side) c.loop-i.i c.requires.reached at.0),
        ),
      ),
    )

pub option_row-returns-in_err-found-clause-answer : goal.option_row-returns-in_err-found-clause-answer
option_row-returns-in_err-found-clause-answer t c =
    let p = err_from_is_err_and c.from_residual.result c.from_residual.ensures.1 in
    rw (p.1, p.2) (failed_on c.args.room.now _ _ _ _ _ _ _ _ _ _ c.loop-i.invariant.0.0 _ c.in_err-found.ensures.answer)

pub option_row-loop-i-preserved : goal.option_row-loop-i-preserved
option_row-loop-i-preserved t c =
    let at = c.in-Some.ensures in (
      row_one_more c.args.room.now c.args.set (side_of c.args.side) c.loop-i.i _ _ _ _ _ _ _ _ _ _ _ _ (vec_items c.loop-i.row) _ _ _
          c.loop-i.invariant.0 at.0 at.1 c.in_ok-found.ensures.answer c.in_ok-insert.ensures,
      stays_on c.loop-i.invariant.1 c.in_ok-found.ensures.stays,
    )

pub form-bounds-positions-set : goal.form-bounds-positions-set
form-bounds-positions-set t c =
    let a = c.option_row.auto.positions in
    let b = c.option_row-2.auto.positions in
    let f = leads_le (length (room_squares c.args.room.now)) (moves_of c.args.room.now) c.requires.reached in
    let l = c.requires.long in
    omega arith

use Rattle.std.proofs.Common.{ltb, length, Err, subst, sym, ap, ◌∙◌, inl, inr, arith}
use Rattle.std.proofs.lemmas.Bool.{ltb-false}
use Rattle.std.proofs.lemmas.Result.{err_from_is_err_and}
use Rattle.board.specs.Values.{grid_of}
use Rattle.board.specs.declared.refusal.Refusal.TheVariants as refusal
use Rattle.rooms.specs.Walks.{first}
use Rattle.rooms.specs.Values.{rooms_of, Found, Judged}
use Rattle.rooms.proofs.Finding.{slice_long, slice_at}
use Rattle.rooms.proofs.find.judged_rooms.Goals as goal

pub returns-in_err-rooms : goal.returns-in_err-rooms
unfolding Found Judged
returns-in_err-rooms c =
    let e = err_from_is_err_and c.from_residual.result c.from_residual.ensures.1 in
    subst (Judged (grid_of c.args.board.now)) (sym (e.1 ∙ ap Err e.2)) (inl c.in_err-rooms.ensures)

pub returns-in-Some : goal.returns-in-Some
unfolding Found Judged
returns-in-Some c =
    let found = c.in-Some.ensures.lookup in
    let long = slice_long c.as_slice.result.now (rooms_of c.in_ok-rooms.rooms) c.as_slice.ensures in
    let value = slice_at c.as_slice.result.now (rooms_of c.in_ok-rooms.rooms) 32 c.in-Some.room.now c.as_slice.ensures found.3.0 found.1 in
    inr (rooms_of c.in_ok-rooms.rooms, c.in_ok-rooms.ensures, omega (arith, found.3.0), ap refusal.Rooms (c.first.ensures ∙ ap first value))

pub returns : goal.returns
unfolding Found Judged
returns c =
    let long = slice_long c.as_slice.result.now (rooms_of c.in_ok-rooms.rooms) c.as_slice.ensures in
    let short = ltb-false 32 (length c.as_slice.result.now) (sym {b = ltb 32 (length c.as_slice.result.now)} c.in_default.ensures.lookup.0) in
    (c.in_ok-rooms.ensures, omega arith)

use Rattle.std.proofs.Common.{length, vec_items, refl, ◌∙◌}
use Rattle.std.proofs.lemmas.Result.{err_from_is_err_and}
use Rattle.verdict.proofs.Worthy.{worth_formed, worth_wide, worth_refused}
use Rattle.verdict.proofs.worth.board_worth.Goals as goal

pub returns-in-Ok-clause-answer : goal.returns-in-Ok-clause-answer
returns-in-Ok-clause-answer c =
    let s = c.args.memory.now.sums.table in
    let t = c.row_of_rooms.new.self.sums in
    worth_formed c.args.split.now.board c.args.split.now.rooms c.row_of_rooms.ensures.rooms.rooms s.forms.now s.options.now s.used t.table.forms.now t.table.options.now
    s.forms.now refl t.pairs.now c.in-Ok.row.sum (vec_items c.in-Ok.row.owns) t.table.used c.in-Ok.ensures.answer

pub returns-in-Err-Wide-clause-answer : goal.returns-in-Err-Wide-clause-answer
returns-in-Err-Wide-clause-answer c =
    let s = c.args.memory.now.sums.table in
    worth_wide c.args.split.now.board c.args.split.now.rooms c.row_of_rooms.ensures.rooms.rooms s.forms.now s.options.now s.used _ _ (length s.forms.now) c.row_of_rooms.new.self.sums.table.used c.row_of_rooms.new.self.sums.pairs.now _ c.in-Err-Wide.field-0-is c.in-Err-Wide.ensures.answer

pub returns-in_err-row_of_rooms-clause-answer : goal.returns-in_err-row_of_rooms-clause-answer
returns-in_err-row_of_rooms-clause-answer c =
    let t = c.clear.new.self.table in
    let u = c.row_of_rooms-2.new.self.sums in
    let p = err_from_is_err_and c.from_residual.result c.from_residual.ensures.1 in
    rw (p.1, p.2)
    (worth_refused c.args.split.now.board c.args.split.now.rooms c.row_of_rooms.ensures.rooms.rooms t.forms.now t.options.now t.used u.table.forms.now u.table.options.now
    c.args.memory.now.sums u (c.clear.ensures.same.table.places ∙ c.row_of_rooms.ensures.same.sums.table.places) c.clear.ensures.used u.table.used u.pairs.now _ c.in_err-row_of_rooms.ensures.answer)

pub returns-clause-answer : goal.returns-clause-answer
returns-clause-answer c =
    let t = c.clear.new.self.table in
    let u = c.row_of_rooms-2.new.self.sums in
    worth_formed c.args.split.now.board c.args.split.now.rooms c.row_of_rooms.ensures.rooms.rooms t.forms.now t.options.now t.used u.table.forms.now u.table.options.now
    c.args.memory.now.sums.table.forms.now (c.clear.ensures.same.table.places ∙ c.row_of_rooms.ensures.same.sums.table.places) u.pairs.now
    c.in_ok-row_of_rooms.field-0.sum (vec_items c.in_ok-row_of_rooms.field-0.owns) u.table.used c.in_ok-row_of_rooms.ensures.answer

use Rattle.std.proofs.Common.{rules, length, get_or, vec_items, sym, ap, ◌∙◌, subst, arith}
use Rattle.std.proofs.lemmas.Result.{err_from_is_err_and}
use Rattle.positions.specs.Forming.{LeadsTo}
use Rattle.positions.specs.Reach.{stay}
use Rattle.positions.proofs.Law.{zeros, forgets, formed_room, not_formed, sets_long}
use Rattle.positions.proofs.Turns.{noted_fits}
use Rattle.positions.proofs.all_forms.room_forms.Goals as goal

pub form-requires : goal.form-requires
form-requires c =
    let cleared = c.fill.ensures.after (search rules) in
    record {
      long = sets_long c.args.positions.now c.fill.new.self c.full-full.result _ c.fill.ensures.len c.full-full.ensures c.requires;
      memory = forgets c.args.room.now _ _ _ c.fill.new.self (zeros _ _ cleared);
      reached = subst (LeadsTo c.args.room.now) (sym c.full-full.ensures) stay;
    }

pub returns-in_err-own-clause-answer : goal.returns-in_err-own-clause-answer
returns-in_err-own-clause-answer c =
    let p = err_from_is_err_and c.from_residual.result c.from_residual.ensures.1 in
    rw (p.1, p.2) (not_formed c.args.room.now c.args.room.now.ground c.args.table.now c.form.new.table _ c.in_err-own.ensures.answer)

pub returns-clause-answer : goal.returns-clause-answer
returns-clause-answer c =
    let found = c.in_ok-own.ensures.answer in
    formed_room c.args.room.now c.args.room.now.ground _ _ _ _ _ c.fill.new.self c.form.new.positions _ _ (length c.form.new.positions) (vec_items c.in_ok-all.all)
    (found.0, ap (λ x. get_or c.form.new.positions x 0) (sym c.full-full.ensures) ∙ found.1) (omega arith) c.in_ok-all.ensures

pub noted_forms-requires : goal.noted_forms-requires
noted_forms-requires c k =
    let went = c.in_ok-own.ensures.answer.0 in
    noted_fits c.args.room.now _ _ _ c.form.new.positions went.memory went.grows.table.within went.grows.table.size k

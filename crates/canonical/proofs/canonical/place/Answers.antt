use Rattle.std.proofs.Common.{◌≡◌, length, refl, subst, inl, inr, arith}
use Rattle.canonical.proofs.Placing.{few_both, placed_wide, placed_found, placed_full, fresh, placed_new}
use Rattle.canonical.proofs.canonical.place.Goals as goal
use Rattle.canonical.proofs.canonical.place.Goals.{then-rows-gt16-via-then-rows-gt16, then-rows-gt16-via-else-rows-gt16+then-rows-gt16-2}

pub returns-then-rows-gt16-clause-answer : goal.returns-then-rows-gt16-clause-answer
returns-then-rows-gt16-clause-answer c =
    let t = c.args.table.now in (
      refl,
      refl,
      refl,
      placed_wide t.forms.now t.options.now t.used c.requires.table c.args.rows.upright.now c.args.rows.flat.now c.requires.reduced
          (elim c.then-rows-gt16.branch [
            | then-rows-gt16-via-then-rows-gt16 w ↦ inl w.if-rows-gt16.true
            | then-rows-gt16-via-else-rows-gt16+then-rows-gt16-2 w ↦ inr (omega (arith, w.if-rows-gt16.false), w.if-rows-gt16-2.true)
          ]),
    )

pub returns-in-Some-clause-answer : goal.returns-in-Some-clause-answer
returns-in-Some-clause-answer c =
    let t = c.args.table.now in
    placed_found t.forms.now t.options.now t.used c.requires.table c.args.rows.upright.now c.args.rows.flat.now c.requires.reduced
    (few_both c.args.rows.upright.now c.args.rows.flat.now c.if-rows-gt16.false c.if-rows-gt16-2.false) c.in-Some.form c.in-Some.ensures

pub returns-then-table-clause-answer : goal.returns-then-table-clause-answer
returns-then-table-clause-answer c =
    let t = c.args.table.now in (
      refl,
      refl,
      refl,
      placed_full t.forms.now t.options.now t.used c.requires.table c.args.rows.upright.now c.args.rows.flat.now c.requires.reduced
          (few_both c.args.rows.upright.now c.args.rows.flat.now c.if-rows-gt16.false c.if-rows-gt16-2.false) c.in_default.ensures (subst (λ v. v.used ≡ length v.forms.now) c.table.view_is c.if-table.true),
    )

pub add-requires : goal.add-requires
add-requires c =
    let t = c.args.table.now in
    record {
      room = (let ne : t.used ≡ length t.forms.now → ⊥ = subst (λ v. v.used ≡ length v.forms.now → ⊥) c.table.view_is c.if-table.false in omega (arith, c.requires.table.within));
      fresh =
          fresh t.forms.now t.options.now t.used c.requires.table c.args.rows.upright.now c.args.rows.flat.now c.requires.reduced
          (few_both c.args.rows.upright.now c.args.rows.flat.now c.if-rows-gt16.false c.if-rows-gt16-2.false) c.in_default.ensures;
    }

pub returns-clause-answer : goal.returns-clause-answer
returns-clause-answer c =
    let t = c.args.table.now in
    placed_new t.forms.now t.options.now t.used c.requires.table c.args.rows.upright.now c.args.rows.flat.now c.requires.reduced
    (few_both c.args.rows.upright.now c.args.rows.flat.now c.if-rows-gt16.false c.if-rows-gt16-2.false)
    c.add.new.self c.add.result c.add.ensures.number c.add.ensures.used c.add.ensures.stays.after c.add.ensures.stays.kept c.add.ensures.row

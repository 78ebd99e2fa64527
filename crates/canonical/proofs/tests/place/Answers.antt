use Rattle.std.proofs.Common.{◌<◌, true, false, sym, refl, subst}
use Rattle.std.specs.List.{AllByRecursion as Every}
use Rattle.forms.specs.Rows.{row_for}
use Rattle.forms.proofs.Chains.{use_length}
use Rattle.canonical.proofs.tests.place.Goals as goal

pub canonical-requires : goal.canonical-requires
canonical-requires c s =
    let t = c.table.inside in
    let us = c.args.rows.upright.now in
    let ls = c.args.rows.flat.now in
    rw (← c.table.view_is)
    (subst (λ m. Every (λ x. x < m) (row_for s us ls)) (sym (use_length t.forms.now t.options.now t.used c.table.invariant))
    (elim s as (λ t'. Every (λ x. x < t.used) (row_for t' us ls)) [ true ↦ c.if-not-are_below.ensures refl | false ↦ c.if-not-are_below-2.ensures refl ]))

use Rattle.std.proofs.Common.{◌<◌, subst, arith}
use Rattle.std.proofs.ByRecursion.{All-get_or}
use Rattle.std.proofs.lemmas.List.{take_all}
use Rattle.std.proofs.lemmas.Result.{err_from_is_err_and}
use Rattle.forms.proofs.Risings.{has_none}
use Rattle.positions.proofs.Growth.{grows_far}
use Rattle.sums.specs.Pairing.{BesideRow, SumsAll}
use Rattle.sums.proofs.Gathering.{right_of, sums_same, sums_same_on}
use Rattle.sums.proofs.Adding.{sums_none, row_more, row_fail}
use Rattle.sums.proofs.sum.Sums.sums_with.Goals as goal

pub loop-y-init : goal.loop-y-init
loop-y-init c =
    let right = right_of c.self-inside.invariant (λ i. (c.self-inside.view_is i).table) c.self.invariant c.self.view_is in
    let s = c.args.self.now.table in
    ((sums_none _ (λ g h p. has_none p.1) s.forms.now s.options.now s.used right.table, right.pairs), sums_same c.args.self.now)

pub sum-requires : goal.sum-requires
sum-requires c =
    let right = right_of c.self-inside.invariant (λ i. (c.self-inside.view_is i).table) c.self.invariant c.self.view_is in
    let s = c.args.self.now.table in
    let t = c.loop-y.self.table in
    let before = c.loop-y.invariant.0.0 in
    let far = grows_far _ s.forms.now s.options.now s.used t.forms.now t.options.now t.used right.table before.grows in
    let low = All-get_or (λ y. y < s.used) c.args.row.now c.loop-y.y-index 0 c.loop-y-test.true c.requires.second in
    record { first = omega (arith, c.requires.first); second = omega arith }

pub returns-in_err-sum-clause-answer : goal.returns-in_err-sum-clause-answer
returns-in_err-sum-clause-answer c =
    let right = right_of c.self-inside.invariant (λ i. (c.self-inside.view_is i).table) c.self.invariant c.self.view_is in
    let s = c.args.self.now.table in
    let t = c.loop-y.self.table in
    let p = err_from_is_err_and c.from_residual.result c.from_residual.ensures.1 in
    rw (p.1, p.2)
    (row_fail s.forms.now s.options.now s.used right.table t.forms.now t.options.now t.used c.loop-y.y-index c.args.x c.requires.first c.args.row.now c.requires.second c.loop-y-test.true c.loop-y.invariant.0.0
    _ _ _ c.in_err-sum.ensures.answer)

pub loop-y-preserved : goal.loop-y-preserved
loop-y-preserved c =
    let right = right_of c.self-inside.invariant (λ i. (c.self-inside.view_is i).table) c.self.invariant c.self.view_is in
    let s = c.args.self.now.table in
    let t = c.loop-y.self.table in (
      row_more s.forms.now s.options.now s.used right.table t.forms.now t.options.now t.used c.loop-y.y-index c.args.x c.requires.first c.args.row.now c.requires.second c.loop-y-test.true c.loop-y.invariant.0.0
          _ _ _ _ _ c.in_ok-sum.ensures.answer,
      sums_same_on c.loop-y.invariant.1 c.in_ok-sum.ensures.same,
    )

pub returns-clause-answer : goal.returns-clause-answer
returns-clause-answer c =
    let s = c.args.self.now.table in
    let t = c.loop-y.self.table in (
      subst (λ row. SumsAll (BesideRow s.forms.now s.options.now s.used c.args.x row) s.forms.now s.options.now s.used t.forms.now t.options.now t.used)
          (take_all c.loop-y.y-index c.args.row.now (omega arith)) c.loop-y.invariant.0.0,
      c.loop-y.invariant.0.1,
    )

use Rattle.std.proofs.Common.{◌<◌, subst, arith}
use Rattle.std.proofs.ByRecursion.{All-get_or, All-weaker}
use Rattle.std.proofs.lemmas.List.{take_all}
use Rattle.std.proofs.lemmas.Result.{err_from_is_err_and}
use Rattle.forms.proofs.Risings.{has_none}
use Rattle.positions.proofs.Growth.{grows_far}
use Rattle.sums.specs.Pairing.{BesideRows, SumsAll}
use Rattle.sums.proofs.Gathering.{right_of, sums_same, sums_same_on}
use Rattle.sums.proofs.Adding.{sums_none, rows_more, rows_fail}
use Rattle.sums.proofs.sum.Sums.all_sums.Goals as goal

pub loop-x-init : goal.loop-x-init
loop-x-init c =
    let right = right_of c.self-inside.invariant (λ i. (c.self-inside.view_is i).table) c.self.invariant c.self.view_is in
    let s = c.args.self.now.table in
    ((sums_none _ (λ g h p. has_none p.1) s.forms.now s.options.now s.used right.table, right.pairs), sums_same c.args.self.now)

pub sums_with-requires : goal.sums_with-requires
sums_with-requires c =
    let right = right_of c.self-inside.invariant (λ i. (c.self-inside.view_is i).table) c.self.invariant c.self.view_is in
    let s = c.args.self.now.table in
    let t = c.loop-x.self.table in
    let before = c.loop-x.invariant.0.0 in
    let far = grows_far _ s.forms.now s.options.now s.used t.forms.now t.options.now t.used right.table before.grows in
    let low = All-get_or (λ y. y < s.used) c.args.left.now c.loop-x.x-index 0 c.loop-x-test.true c.requires.first in
    record {
      first = omega arith;
      second = All-weaker (λ y. y < s.used) (λ y. y < t.used) (λ y h. omega arith) c.args.right.now c.requires.second;
    }

pub returns-in_err-sums_with-clause-answer : goal.returns-in_err-sums_with-clause-answer
returns-in_err-sums_with-clause-answer c =
    let right = right_of c.self-inside.invariant (λ i. (c.self-inside.view_is i).table) c.self.invariant c.self.view_is in
    let s = c.args.self.now.table in
    let t = c.loop-x.self.table in
    let p = err_from_is_err_and c.from_residual.result c.from_residual.ensures.1 in
    rw (p.1, p.2)
    (rows_fail s.forms.now s.options.now s.used right.table t.forms.now t.options.now t.used c.loop-x.x-index c.args.left.now c.args.right.now c.requires.first c.requires.second c.loop-x-test.true c.loop-x.invariant.0.0
    _ _ _ c.in_err-sums_with.ensures.answer)

pub loop-x-preserved : goal.loop-x-preserved
loop-x-preserved c =
    let right = right_of c.self-inside.invariant (λ i. (c.self-inside.view_is i).table) c.self.invariant c.self.view_is in
    let s = c.args.self.now.table in
    let t = c.loop-x.self.table in (
      rows_more s.forms.now s.options.now s.used right.table t.forms.now t.options.now t.used c.loop-x.x-index c.args.left.now c.args.right.now c.requires.first c.requires.second c.loop-x-test.true c.loop-x.invariant.0.0
          _ _ _ _ c.in_ok-sums_with.ensures.answer,
      sums_same_on c.loop-x.invariant.1 c.in_ok-sums_with.ensures.same,
    )

pub returns-clause-answer : goal.returns-clause-answer
returns-clause-answer c =
    let right = right_of c.self-inside.invariant (λ i. (c.self-inside.view_is i).table) c.self.invariant c.self.view_is in
    let s = c.args.self.now.table in
    let t = c.loop-x.self.table in (
      subst (λ row. SumsAll (BesideRows s.forms.now s.options.now s.used row c.args.right.now) s.forms.now s.options.now s.used t.forms.now t.options.now t.used)
          (take_all c.loop-x.x-index c.args.left.now (omega arith)) c.loop-x.invariant.0.0,
      c.loop-x.invariant.0.1,
    )

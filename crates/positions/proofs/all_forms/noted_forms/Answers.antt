use Rattle.std.proofs.Common.{◌≡◌, length, vec_items, sym, subst, arith}
use Rattle.positions.specs.Answers.{Listed}
use Rattle.positions.proofs.Law.{listed_none, listed_skip, listed_more}
use Rattle.positions.proofs.all_forms.noted_forms.Goals as goal

pub loop-noted-init : goal.loop-noted-init
loop-noted-init c = subst (Listed c.args.sets.now 0) (sym c.new-all.ensures.items) (listed_none c.args.sets.now)

pub loop-noted-preserved-then-noted-eq0 : goal.loop-noted-preserved-then-noted-eq0
loop-noted-preserved-then-noted-eq0 c = listed_skip c.args.sets.now _ _ c.if-noted-eq0.true c.loop-noted.invariant

pub loop-noted-preserved : goal.loop-noted-preserved
loop-noted-preserved c = listed_more c.args.sets.now _ _ _ _ (let ne = c.if-noted-eq0.false in omega arith) c.loop-noted.invariant c.in_ok-insert.ensures

pub overflow_cast-noted : goal.overflow_cast-noted
overflow_cast-noted c = let f = c.requires c.loop-noted.noted-index in omega arith

pub returns : goal.returns
returns c =
    let same : c.loop-noted.noted-index ≡ length c.args.sets.now = omega arith in
    subst (λ k. Listed c.args.sets.now k (vec_items c.loop-noted.all)) same c.loop-noted.invariant

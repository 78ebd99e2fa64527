use Rattle.positions.proofs.Making.{none_yet, outside, one_more}
use Rattle.positions.proofs.moves.set_of.Goals as goal

pub loop-q-init : goal.loop-q-init
loop-q-init c = none_yet c.args.squares.now c.args.covered.now

pub loop-q-preserved : goal.loop-q-preserved
loop-q-preserved c = one_more c.args.squares.now c.args.covered.now _ _ c.loop-q.invariant c.requires.rising c.loop-q-test.true c.in_ok-number_of.field-0 _ c.in_ok-number_of.ensures c.single.ensures

pub returns-in_err-number_of-clause-set : goal.returns-in_err-number_of-clause-set
returns-in_err-number_of-clause-set c = outside c.args.squares.now c.args.covered.now _ _ c.loop-q.invariant _ c.from_residual.ensures c.loop-q-test.true c.in_err-number_of.ensures

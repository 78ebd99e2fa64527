use Rattle.sums.proofs.Holding.{written}
use Rattle.sums.proofs.pairs.keep.Goals as goal

pub returns : goal.returns
returns c = written c.args.pairs.now c.args.x c.args.y c.args.form c.in-Some.i c.key-key.result c.in-Some.ensures c.requires.first c.requires.second c.key-key.ensures

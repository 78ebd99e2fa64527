use Rattle.std.proofs.Common.{arith}
use Rattle.forms.proofs.table.start.Goals as goal

pub returns : goal.returns
returns c = (c.begin.ensures.0, c.begin.ensures.1 c.args.options.now (let long = c.begin.auto.forms in omega (arith, c.if-options-forms.false)))

use Rattle.std.proofs.Common.{true, false, arith}
use Rattle.forms.proofs.Places.{part_is, part_within}
use Rattle.forms.proofs.rows.row.Goals as goal

pub slice_bounds-result-end : goal.slice_bounds-result-end
slice_bounds-result-end c = omega (arith, part_within c.args.forms.now c.args.options.now true c.args.k c.requires.sound c.requires.known)

pub slice_bounds-result-end-in-Flat : goal.slice_bounds-result-end-in-Flat
slice_bounds-result-end-in-Flat c = omega (arith, part_within c.args.forms.now c.args.options.now false c.args.k c.requires.sound c.requires.known)

pub returns-in-Upright : goal.returns-in-Upright
returns-in-Upright c = rw (c.in-Upright.is) (part_is c.args.forms.now c.args.options.now true c.args.k)

pub returns-in-Flat : goal.returns-in-Flat
returns-in-Flat c = rw (c.in-Flat.is) (part_is c.args.forms.now c.args.options.now false c.args.k)

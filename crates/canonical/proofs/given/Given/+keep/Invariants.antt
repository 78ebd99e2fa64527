use Rattle.std.proofs.Common.{take, vec_items}
use Rattle.board.specs.Values.{side_of}
use Rattle.forms.specs.Meaning.{given}
use Rattle.canonical.proofs.Passing.{Passing}
use Rattle.canonical.proofs.given.Given.+keep.Given as given'

abbrev pub decreases-keep : given'.decreases-keep
decreases-keep l = l.x

abbrev pub invariant-loop-z : given'.invariant-loop-z
invariant-loop-z l = Passing l.self.forms.forms l.self.forms.options (side_of l.side) (given l.self.forms.forms l.self.forms.options l.self.rows.upright.now l.self.rows.flat.now) (vec_items l.initial.chosen) (vec_items l.chosen) (take l.z-index l.after)

use Rattle.std.proofs.Common.{[], take, vec_items}
use Rattle.board.specs.Values.{side_of}
use Rattle.forms.specs.Meaning.{given}
use Rattle.canonical.proofs.Passing.{Passing}
use Rattle.canonical.proofs.given.Given.bypass.Given as given'

abbrev pub invariant-loop-x : given'.invariant-loop-x
invariant-loop-x l = Passing l.self.forms.forms l.self.forms.options (side_of l.side) (given l.self.forms.forms l.self.forms.options l.self.rows.upright.now l.self.rows.flat.now) [] (vec_items l.chosen) (take l.x-index l.own)

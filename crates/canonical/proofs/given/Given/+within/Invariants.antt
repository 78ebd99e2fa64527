use Rattle.std.proofs.Common.{take}
use Rattle.std.specs.List.{AllByRecursion as Every}
use Rattle.board.specs.Values.{side_of}
use Rattle.games.specs.Order.{NotWorse}
use Rattle.forms.specs.Meaning.{meaning, given}
use Rattle.canonical.proofs.given.Given.+within.Given as given'

abbrev pub decreases-within : given'.decreases-within
decreases-within l = l.k

abbrev pub invariant-loop-x : given'.invariant-loop-x
invariant-loop-x l = Every (λ x. NotWorse (side_of l.side) (given l.self.forms.forms l.self.forms.options l.self.rows.upright.now l.self.rows.flat.now) (meaning l.self.forms.forms l.self.forms.options x)) (take l.x-index l.own)

abbrev pub invariant-loop-y : given'.invariant-loop-y
invariant-loop-y l = Every (λ y. NotWorse (side_of l.side) (meaning l.self.forms.forms l.self.forms.options y) (meaning l.self.forms.forms l.self.forms.options l.k)) (take l.y-index l.replies)

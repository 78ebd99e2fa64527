use Rattle.std.proofs.Common.{◌+◌, take}
use Rattle.std.specs.List.{AllByRecursion as Every}
use Rattle.games.specs.Order.{NotLe}
use Rattle.forms.specs.Meaning.{meaning}
use Rattle.forms.proofs.rows.Forms.+at_most_not_at_most.Given as goal

abbrev pub decreases-at_most : goal.decreases-at_most
decreases-at_most l = l.g + l.h

abbrev pub decreases-not_at_most : goal.decreases-not_at_most
decreases-not_at_most l = l.g + l.h

abbrev pub invariant-at_most-loop-x : goal.invariant-at_most-loop-x
invariant-at_most-loop-x l = Every (λ x. NotLe (meaning l.self.forms l.self.options l.h) (meaning l.self.forms l.self.options x)) (take l.x-index l.uprights)

abbrev pub invariant-at_most-loop-y : goal.invariant-at_most-loop-y
invariant-at_most-loop-y l = Every (λ y. NotLe (meaning l.self.forms l.self.options y) (meaning l.self.forms l.self.options l.g)) (take l.y-index l.flats)

abbrev pub invariant-not_at_most-loop-x : goal.invariant-not_at_most-loop-x
invariant-not_at_most-loop-x l = Every (λ x. NotLe (meaning l.self.forms l.self.options l.h) (meaning l.self.forms l.self.options x)) (take l.x-index l.own)

abbrev pub invariant-not_at_most-loop-y : goal.invariant-not_at_most-loop-y
invariant-not_at_most-loop-y l = Every (λ y. NotLe (meaning l.self.forms l.self.options y) (meaning l.self.forms l.self.options l.g)) (take l.y-index l.replies)

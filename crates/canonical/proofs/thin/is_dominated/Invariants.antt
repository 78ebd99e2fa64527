use Rattle.std.proofs.Common.{take}
use Rattle.std.specs.List.{AllByRecursion as Every}
use Rattle.board.specs.Values.{side_of}
use Rattle.games.specs.Order.{NotWorse}
use Rattle.forms.specs.Meaning.{meaning}
use Rattle.canonical.proofs.thin.is_dominated.Given as goal

abbrev pub invariant-loop-y : goal.invariant-loop-y
invariant-loop-y l = Every (λ y. NotWorse (side_of l.side) (meaning l.forms.forms l.forms.options l.x) (meaning l.forms.forms l.forms.options y)) (take l.y-index l.row)

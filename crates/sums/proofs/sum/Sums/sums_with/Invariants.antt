use Rattle.std.proofs.Common.{take}
use Rattle.sums.specs.Sums.{HoldsRight}
use Rattle.sums.specs.Values.{SameSums}
use Rattle.sums.specs.Pairing.{BesideRow, SumsAll}
use Rattle.sums.proofs.sum.Sums.sums_with.Given as goal

abbrev pub invariant-loop-y : goal.invariant-loop-y
invariant-loop-y l =
    (SumsAll (BesideRow l.initial.self.table.forms.now l.initial.self.table.options.now l.initial.self.table.used l.x (take l.y-index l.row)) l.initial.self.table.forms.now l.initial.self.table.options.now l.initial.self.table.used l.self.table.forms.now l.self.table.options.now l.self.table.used
    × HoldsRight l.self.table.forms.now l.self.table.options.now l.self.table.used l.self.pairs.now)
    × SameSums l.initial.self l.self

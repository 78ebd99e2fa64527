use Rattle.std.proofs.Common.{take}
use Rattle.sums.specs.Sums.{HoldsRight}
use Rattle.sums.specs.Values.{SameSums}
use Rattle.sums.specs.Pairing.{BesideRows, SumsAll}
use Rattle.sums.proofs.sum.Sums.all_sums.Given as goal

abbrev pub invariant-loop-x : goal.invariant-loop-x
invariant-loop-x l =
    (SumsAll (BesideRows l.initial.self.table.forms.now l.initial.self.table.options.now l.initial.self.table.used (take l.x-index l.left) l.right) l.initial.self.table.forms.now l.initial.self.table.options.now l.initial.self.table.used l.self.table.forms.now l.self.table.options.now l.self.table.used
    × HoldsRight l.self.table.forms.now l.self.table.options.now l.self.table.used l.self.pairs.now)
    × SameSums l.initial.self l.self

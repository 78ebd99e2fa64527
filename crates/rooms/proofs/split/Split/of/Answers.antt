use Rattle.std.proofs.Common.{refl}
use Rattle.rooms.specs.Values.{Found}
use Rattle.rooms.proofs.split.Split.of.Goals as goal

pub invariant_of-result : goal.invariant_of-result
unfolding Found
invariant_of-result c = c.in_ok-rooms.ensures

pub returns : goal.returns
unfolding Found
returns c = (refl, c.in_ok-rooms.ensures)

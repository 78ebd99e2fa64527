use Rattle.std.proofs.Common.{refl}
use Rattle.rooms.specs.Few.{items_of}
use Rattle.rooms.proofs.few.Few.as_slice.Goals as goal

pub returns : goal.returns
unfolding items_of
returns g c = refl

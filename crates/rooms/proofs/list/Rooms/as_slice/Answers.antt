use Rattle.std.proofs.Common.{rules}
use Rattle.rooms.specs.Few.{items_of}
use Rattle.rooms.specs.Values.{rooms_of}
use Rattle.rooms.proofs.list.Rooms.as_slice.Goals as goal

pub returns : goal.returns
unfolding rooms_of items_of
returns c = search rules

use Rattle.std.proofs.Common.{rules}
use Rattle.rooms.specs.Few.{items_of}
use Rattle.rooms.specs.Values.{squares_of}
use Rattle.rooms.proofs.room.Room.squares.Goals as goal

pub returns : goal.returns
unfolding squares_of items_of
returns c = search rules

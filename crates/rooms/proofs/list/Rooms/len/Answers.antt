use Rattle.rooms.specs.Values.{rooms_of}
use Rattle.rooms.proofs.Finding.{slice_long}
use Rattle.rooms.proofs.list.Rooms.len.Goals as goal

pub returns : goal.returns
returns c = slice_long c.as_slice.result.now (rooms_of c.args.self.now) c.as_slice.ensures

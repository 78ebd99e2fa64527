use Rattle.std.proofs.Common.{[], sym, subst, arith}
use Rattle.std.proofs.ByRecursion.{All-get_or}
use Rattle.board.specs.Values.{grid_of}
use Rattle.rooms.specs.Rooms.{Room}
use Rattle.rooms.specs.Values.{Found}
use Rattle.rooms.proofs.Finding.{slice_long, slice_at}
use Rattle.cases.proofs.forms_of.tell_rooms.Goals as goal

pub new-moves-requires : goal.new-moves-requires
unfolding Found
new-moves-requires c =
    let rooms = c.in-Ok-all_rooms.ensures.rooms.each in
    let slice = c.as_slice-room-items.result.now in
    let listed = c.as_slice-room-items.ensures in
    let long = slice_long slice _ listed in
    record {
      room = subst (Room (grid_of c.in-Ok.setup.board)) (sym (slice_at slice _ c.loop-room.room-index c.room-item.result listed c.loop-room-test.true c.room-item.is))
          (All-get_or (Room (grid_of c.in-Ok.setup.board)) _ c.loop-room.room-index [] (omega arith) rooms);
    }
